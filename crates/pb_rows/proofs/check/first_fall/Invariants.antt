use Rattle.std.proofs.Common.{ℕ, ◌<◌, get_or}
use Rattle.pb_keys.specs.Key.{IsKey}
use Rattle.pb_rows.specs.Layer.{KeyRow, RiseUpTo}
use Rattle.pb_rows.proofs.check.first_fall.Given as goal

abbrev pub invariant-loop-at : goal.invariant-loop-at
invariant-loop-at l = record { rise : RiseUpTo l.rows l.at; keys : (k : ℕ) (d : KeyRow) → k < l.at → IsKey (get_or l.rows k d).key }
