-- A run that ends before its first line.
use Rattle.std.proofs.Common.{◌≡◌, ℕ, ◌<◌, ◌≤◌, Bool, true, false, List, [], length, Option, Some, None, nat_lt, cond, inl, inr, refl, sym, arith}
use Rattle.std.proofs.lemmas.Bool.{cond-true, cond-false}
use Rattle.std.proofs.lemmas.Bool.Decides.{nat_tests}
use Rattle.pebble_cli.specs.Lines.{fault_line}
use Rattle.pebble_cli.specs.Runs.{Task, usage, too_long, task_of_script, task_of_source, max_script, Ends, Prints, text_of}
use Rattle.pb_reply.specs.declared.status.Status.TheVariants.{Memory, Read}
use Rattle.pebble_cli.proofs.Progress.{no_part}

-- a task that a source asks for
pub task_short : (bytes : List ℕ) → length bytes ≤ max_script → task_of_script bytes (fault_line bytes) ≡ task_of_source bytes
task_short bytes short = sym (cond-false (nat_lt max_script (length bytes)) too_long (task_of_script bytes (fault_line bytes)) (grind (arith, nat_tests, short)))

pub task_long : (bytes : List ℕ) → max_script < length bytes → too_long ≡ task_of_source bytes
task_long bytes long = sym (cond-true (nat_lt max_script (length bytes)) too_long (task_of_script bytes (fault_line bytes)) (grind (arith, nat_tests, long)))

pub memory_of_script : (bytes : List ℕ) (fault : Option ℕ) → Ends (task_of_script bytes fault) Memory []
memory_of_script bytes None = record { due = inr (inl tt); each_mark = λ maps. tt; named = tt; every_line = λ whole. absurd whole }
memory_of_script bytes (Some number) = record { due = inr (inr refl); each_mark = λ maps. tt; named = tt; every_line = λ whole. absurd whole }

pub memory_of_source : (bytes : List ℕ) (long : Bool) → Ends (cond long too_long (task_of_script bytes (fault_line bytes))) Memory []
memory_of_source bytes true = record { due = inr (inr refl); each_mark = λ maps. tt; named = tt; every_line = λ whole. absurd whole }
memory_of_source bytes false = memory_of_script bytes (fault_line bytes)

pub memory_of_words : (bytes : List ℕ) (asks : Bool) → Ends (cond asks (task_of_source bytes) usage) Memory []
memory_of_words bytes true = memory_of_source bytes (nat_lt max_script (length bytes))
memory_of_words bytes false = record { due = inr refl; each_mark = λ maps. tt; named = tt; every_line = λ whole. absurd whole }

read_of_script : (bytes : List ℕ) (fault : Option ℕ) → Ends (task_of_script bytes fault) Read []
read_of_script bytes None = record { due = inr (inr refl); each_mark = λ maps. tt; named = tt; every_line = λ whole. absurd whole }
read_of_script bytes (Some number) = record { due = inr (inl refl); each_mark = λ maps. tt; named = tt; every_line = λ whole. absurd whole }

pub read_of_source : (bytes : List ℕ) (long : Bool) → Ends (cond long too_long (task_of_script bytes (fault_line bytes))) Read []
read_of_source bytes true = record { due = inr (inl refl); each_mark = λ maps. tt; named = tt; every_line = λ whole. absurd whole }
read_of_source bytes false = read_of_script bytes (fault_line bytes)

pub memory_prints : (task : Task) (before : List ℕ) (faults : ℕ) → Prints task Memory [] before before faults faults
memory_prints task before faults = record {
  whole = λ whole. absurd whole;
  part = λ _. no_part before (text_of task []) before refl;
  stops = λ is. cc;
  text = λ text. absurd text;
  none = λ is. cc;
}

pub read_prints : (task : Task) (before : List ℕ) (faults : ℕ) → Prints task Read [] before before faults faults
read_prints task before faults = record {
  whole = λ whole. absurd whole;
  part = λ cut. absurd cut;
  stops = λ is. cc;
  text = λ text. absurd text;
  none = λ _. refl;
}
