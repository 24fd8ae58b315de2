-- Facts about the value of an answer.
use Rattle.std.proofs.Common.{ℕ, List, Option, Some, None, IfSome}
use Rattle.pb_folder_reader.specs.Faults.{IfDamaged}
use Rattle.pb_folder_reader.specs.declared.fault.Fault.{Fault}
use Rattle.pb_folder_reader.specs.declared.fault.Fault.TheVariants.{Damaged, NoMemory}

pub if_damaged : (fault : Fault) (P Q : List ℕ → Type 0) → ((file : List ℕ) → P file → Q file) → IfDamaged fault P → IfDamaged fault Q
if_damaged (Damaged file) P Q f h = f file h
if_damaged NoMemory P Q f h = h

pub if_some : {T : Type 0} (o : Option T) (P Q : T → Type 0) → ((x : T) → P x → Q x) → IfSome o P → IfSome o Q
if_some None P Q f h = h
if_some (Some x) P Q f h = f x h
