-- Whether a layer says something within a span.
use Rattle.std.specs.Prelude.{Bool, ◌||◌}
use Rattle.std.specs.List.{list_any}
use Rattle.pb_keys.specs.Span.{KeySpan, holds_key, overlap}
use Rattle.pb_rows.specs.Layer.{KeyLayer}

-- a row's key lies in the span, or a deletion overlaps it
abbrev pub touches : KeyLayer → KeySpan → Bool
touches layer span = list_any (λ row. holds_key span row.key) layer.rows || list_any (λ del. overlap span del) layer.dels
