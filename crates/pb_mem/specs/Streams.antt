-- What a source and a sink in memory hold.
use Rattle.std.specs.Prelude.{ℕ, List}
use Rattle.pb_mem.specs.Calls.{CallCounts}

-- the bytes that are still to be read
pub record Unread : Type 0 where
  pub left : List ℕ
  pub calls : CallCounts

-- the bytes that were taken, in order
pub record Taken : Type 0 where
  pub bytes : List ℕ
  pub calls : CallCounts
