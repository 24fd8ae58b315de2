use Rattle.std.proofs.Common.{ℕ, ◌<◌, get_or}
use Rattle.pb_keys.specs.Span.{KeySpan, IsSpan}
use Rattle.pb_rows.specs.Layer.{AreApartUpTo}
use Rattle.pb_rows.proofs.check.are_apart.Given as goal

abbrev pub invariant-loop-at : goal.invariant-loop-at
invariant-loop-at l = record { apart : AreApartUpTo l.dels l.at; spans : (k : ℕ) (d : KeySpan) → k < l.at → IsSpan (get_or l.dels k d) }
