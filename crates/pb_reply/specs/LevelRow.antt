-- A table as `levels` lists it.
use Rattle.std.specs.Prelude.{ℕ, Bool, List}

pub record LevelRow : Type 0 where
  pub level : ℕ
  pub number : ℕ
  pub lo : List ℕ
  pub hi : List ℕ
  pub is_virtual : Bool
  pub backing : ℕ
