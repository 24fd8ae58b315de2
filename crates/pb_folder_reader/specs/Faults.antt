-- What a refusal says of the file that it tells.
use Rattle.std.specs.Prelude.{ℕ, List}
use Rattle.pb_folder_reader.specs.declared.fault.Fault.{Fault}
use Rattle.pb_folder_reader.specs.declared.fault.Fault.TheVariants.{Damaged, NoMemory}

-- the file is such, where one is told; nothing, where memory ran out
abbrev pub IfDamaged : Fault → (List ℕ → Type 0) → Type 0
IfDamaged (Damaged file) IsSuch = IsSuch file
IfDamaged NoMemory IsSuch = Unit {0}
