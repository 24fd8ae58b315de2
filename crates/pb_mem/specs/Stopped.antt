-- A disk that is stopped after so many calls.
use Rattle.std.specs.Prelude.{ℕ, ◌+◌, ◌-◌, ◌^◌, min}

pub record StoppedView (D : Type 0) : Type 0 where
  -- the disk that calls are passed on to
  pub inner : D
  -- how many calls are still passed on
  pub left : ℕ
  -- how many calls were refused since
  pub refused : ℕ

-- the count of a device's faults and of those that stand beside it
abbrev pub faults_and : ℕ → ℕ → ℕ
faults_and faults refused = min (faults + refused) (2 ^ 64 - 1)
