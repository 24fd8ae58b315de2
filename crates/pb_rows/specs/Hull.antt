-- The hull of a layer: from its least prefix or deletion's start to its greatest deletion's end or least end above a prefix.
use Rattle.std.specs.Prelude.{◌≡◌, ◌↔◌, false, Contains, List, [], ◌∷◌, ◌++◌, map, Option, Some, None}
use Rattle.pb_keys.specs.Order.{end_above}
use Rattle.pb_keys.specs.Key.{prefix_of}
use Rattle.pb_keys.specs.Span.{KeySpan, span_of, joined, overlap}
use Rattle.pb_rows.specs.Layer.{KeyRow, KeyLayer}

-- the least span that holds the row's key
abbrev pub span_at : KeyRow → KeySpan
span_at row = span_of (prefix_of row.key) (end_above (prefix_of row.key))

-- from the least start to the greatest end of both
abbrev pub either_hull : Option KeySpan → Option KeySpan → Option KeySpan
either_hull None b = b
either_hull (Some s) None = Some s
either_hull (Some s) (Some t) = Some (joined s t)

abbrev pub hull_of_spans : List KeySpan → Option KeySpan
hull_of_spans [] = None
hull_of_spans (s ∷ ss) = either_hull (Some s) (hull_of_spans ss)

unfoldable pub hull_of : KeyLayer → Option KeySpan
hull_of layer = hull_of_spans (layer.dels ++ map span_at layer.rows)

-- their hulls, where both have one, don't overlap
abbrev pub HullsApart : KeyLayer → KeyLayer → Type 0
HullsApart a b = (g h : KeySpan) → hull_of a ≡ Some g → hull_of b ≡ Some h → overlap g h ≡ false

-- each layer of one list is in the other
abbrev pub HaveSameLayers : List KeyLayer → List KeyLayer → Type 0
HaveSameLayers xs ys = (layer : KeyLayer) → Contains xs layer ↔ Contains ys layer
