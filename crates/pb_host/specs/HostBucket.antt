-- What a bucket that tells nothing of its objects counts.
use Rattle.std.specs.Prelude.{ℕ}

pub record BucketCounts : Type 0 where
  -- the calls that were made
  pub calls : ℕ
  -- those that failed
  pub faults : ℕ
