-- A key with its value.
use Rattle.std.specs.Prelude.{ℕ, List}

pub record Pair : Type 0 where
  pub key : List ℕ
  pub value : List ℕ
