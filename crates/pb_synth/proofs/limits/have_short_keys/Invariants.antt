use Rattle.std.proofs.Common.{ℕ, ◌<◌, ◌≤◌, get_or, length}
use Rattle.pb_rows.specs.Layer.{KeyRow}
use Rattle.pb_rows.specs.Viewed.{mapped_key}
use Rattle.pb_synth.proofs.limits.have_short_keys.Given as goal

abbrev pub invariant-loop-row : goal.invariant-loop-row
invariant-loop-row l = (k : ℕ) (d : KeyRow) → k < l.row-index → length (mapped_key l.view (get_or l.rows k d).key) ≤ 1024
