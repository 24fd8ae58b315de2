-- The trace of a run.
use Rattle.std.specs.Prelude.{ℕ, List}
use Rattle.pb_devices.specs.declared.trace.Mark.{Mark}

-- the marks of the lines that ran, in order, and the room for more
pub record Marks : Type 0 where
  pub marks : List Mark
  pub spare : ℕ
