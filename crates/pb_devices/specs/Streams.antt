-- What a stream of bytes gives.
use Rattle.std.specs.Prelude.{◌≡◌, ℕ, ◌<◌, ◌≤◌, ◌++◌, List, [], length, take, drop}

-- the next n bytes of what was left are the first of the piece now, and there are none only at the end
pub record Gives (left rest old new : List ℕ) (n : ℕ) : Type 0 where
  pub enough : n ≤ length left
  pub filled : new ≡ take n left ++ drop n old
  pub behind : rest ≡ drop n left
  pub ended : 0 < length old → n ≡ 0 → left ≡ []
