-- What tells shared objects apart.
use Rattle.std.specs.Prelude.{ℕ, ◌≤◌, ◌<◌, ◌^◌}

-- the store that created the object, and the number that this store drew for it
pub record Identity : Type 0 where
  pub creator : ℕ
  pub number : ℕ

-- a store of the family, A to H
abbrev pub IsStore : ℕ → Type 0
IsStore store = (1 ≤ store) × (store ≤ 8)

-- an object that a store of the family can have made
pub record IsObject (object : Identity) : Type 0 where
  pub creator : IsStore object.creator
  pub number : object.number < 2 ^ 62

-- a number that a store has for an object, as a marker's name tells it
abbrev pub IsMarkerNumber : ℕ → Type 0
IsMarkerNumber number = number < 2 ^ 62
