-- Old or new: what a call may have left that a power cut, or a failure, has met.
use Rattle.std.specs.Prelude.{◌⊎◌}

-- a fact holds as it was before, or as it is after
abbrev pub IsBeforeOrAfter : {A : Type 0} → (A → Type 0) → A → A → Type 0
IsBeforeOrAfter Is before after = Is before ⊎ Is after
