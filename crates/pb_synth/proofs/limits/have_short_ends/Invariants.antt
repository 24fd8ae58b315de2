use Rattle.std.proofs.Common.{ℕ, ◌<◌, get_or}
use Rattle.pb_keys.specs.Span.{KeySpan}
use Rattle.pb_rows.specs.Viewed.{mapped_span}
use Rattle.pb_synth.specs.Limits.{HasShortEnds}
use Rattle.pb_synth.proofs.limits.have_short_ends.Given as goal

abbrev pub invariant-loop-span : goal.invariant-loop-span
invariant-loop-span l = (k : ℕ) (d : KeySpan) → k < l.span-index → HasShortEnds (mapped_span l.view (get_or l.dels k d))
