-- The part within a view's bounds of a span that it maps.
use Rattle.pb_keys.specs.Order.{lesser, greater}
use Rattle.pb_keys.specs.Span.{KeySpan, span_of}
use Rattle.pb_keys.specs.View.{KeyView}
use Rattle.pb_rows.specs.Viewed.{mapped_span}

-- from the greater start to the lesser end
abbrev pub shown_part : KeyView → KeySpan → KeySpan
shown_part view span = span_of (greater view.bounds.lo (mapped_span view span).lo) (lesser view.bounds.hi (mapped_span view span).hi)
