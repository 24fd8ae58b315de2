-- What the payloads of a log that are left say, behind the entries that were read.
use Rattle.std.proofs.Common.{ℕ, List, [], ◌∷◌, ◌++◌, map, sym, ◌∙◌, subst, append_assoc}
use Rattle.std.proofs.lemmas.List.Elements.{All-cons, All-head, All-tail}
use Rattle.pb_keys.proofs.Lists.{head_of, tail_of}
use Rattle.pb_payloads.specs.Log.{LogEntry, IsEntry, entry_spelling, SaysLog}
use Rattle.pb_payloads.proofs.LoggedLaws.{one_entry}
use Rattle.pb_folder_reader.specs.Left.{IsNext}

says_behind : (last : ℕ) (payload : List ℕ) (rest : List (List ℕ)) (entry : LogEntry) (later : List LogEntry) → IsNext last payload entry
    → SaysLog entry.count rest later → SaysLog last (payload ∷ rest) (entry ∷ later)
says_behind last payload rest entry later next says = record {
  spelled = λ i. next.spelled i ∷ says.spelled i;
  in_form = All-cons IsEntry entry later next.in_form says.in_form;
  rise = (next.rise, says.rise);
}

-- the first of the payloads is an entry, and the others say what comes behind its count
pub record NextEntry (last : ℕ) (payload : List ℕ) (rest : List (List ℕ)) : Type 0 where
  pub entry : LogEntry
  pub next : IsNext last payload entry
  pub later : List LogEntry
  pub says : SaysLog entry.count rest later

pub next_among : (last : ℕ) (payload : List ℕ) (rest : List (List ℕ)) (log : List LogEntry) → SaysLog last (payload ∷ rest) log → NextEntry last payload rest
next_among last payload rest [] says = let spelled = says.spelled in cc
next_among last payload rest (entry ∷ later) says = record {
  entry = entry;
  next = record {
    in_form = All-head IsEntry entry later says.in_form;
    spelled = head_of payload (entry_spelling entry) rest (map entry_spelling later) says.spelled;
    rise = says.rise.0;
  };
  later = later;
  says = record {
    spelled = tail_of payload (entry_spelling entry) rest (map entry_spelling later) says.spelled;
    in_form = All-tail IsEntry entry later says.in_form;
    rise = says.rise.1;
  };
}

-- ---- all of them, and those that are left

-- behind the entries so far, the payloads that are left say the rest of what all say
pub record IsReadUpTo (flushed last : ℕ) (payloads left : List (List ℕ)) (so_far : List LogEntry) : Type 0 where
  pub all : (rest : List LogEntry) → SaysLog last left rest → SaysLog flushed payloads (so_far ++ rest)
  pub back : (log : List LogEntry) → SaysLog flushed payloads log → (rest : List LogEntry) × SaysLog last left rest

pub read_more : (flushed last : ℕ) (payloads : List (List ℕ)) (payload : List ℕ) (rest : List (List ℕ)) (so_far : List LogEntry) (entry : LogEntry)
    → IsReadUpTo flushed last payloads (payload ∷ rest) so_far → IsNext last payload entry → IsReadUpTo flushed entry.count payloads rest (so_far ++ entry ∷ [])
read_more flushed last payloads payload rest so_far entry read is = record {
  all = λ later says.
      subst (SaysLog flushed payloads) (sym (append_assoc so_far (entry ∷ []) later))
      (read.all (entry ∷ later) (says_behind last payload rest entry later is says));
  back = λ log says.
      let left = read.back log says in
      let found = next_among last payload rest left.0 left.1 in
      let same = one_entry found.entry entry found.next.in_form is.in_form (sym found.next.spelled ∙ is.spelled) in
      (found.later, subst (λ (e : LogEntry). SaysLog e.count rest found.later) same found.says);
}
