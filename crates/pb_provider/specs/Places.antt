-- What a read of a number's bytes finds and leaves.
use Rattle.std.specs.Prelude.{◌≡◌, ℕ, ◌-◌, min, List, length, Option, Some, None, IsSome}
use Rattle.std.specs.FinMap.{get}
use Rattle.pb_devices.specs.Objects.{Objects}
use Rattle.pb_devices.specs.Reads.{read_into}

-- so many of the bytes at a place stand in the piece now, and behind them what stood there
pub record Reads (bytes : List ℕ) (at : ℕ) (old new : List ℕ) (n : ℕ) : Type 0 where
  pub count : n ≡ min (length old) (length bytes - at)
  pub filled : new ≡ read_into (Some bytes) at old

-- where the entries give an object, it is there
abbrev pub IsThere : Option (List ℕ) → Objects → Type 0
IsThere None objects = Unit {0}
IsThere (Some name) objects = IsSome (get objects name)
