-- A name as a script gives it to tables, handles, pins and external objects.
use Rattle.std.specs.Prelude.{◌≡◌, ℕ, ◌≤◌, List, length, All, ◌⊎◌}

-- `a` to `z`, `0` to `9`, `_` and `-`
abbrev pub IsNameByte : ℕ → Type 0
IsNameByte byte = ((97 ≤ byte) × (byte ≤ 122)) ⊎ ((48 ≤ byte) × (byte ≤ 57)) ⊎ (byte ≡ 95) ⊎ (byte ≡ 45)

-- 1 to 48 of these bytes
pub record IsName (name : List ℕ) : Type 0 where
  pub not_empty : 1 ≤ length name
  pub short : length name ≤ 48
  pub bytes : All IsNameByte name
