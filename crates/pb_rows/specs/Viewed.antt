-- A layer seen through a view.
use Rattle.std.specs.Prelude.{◌≡◌, ℕ, List, [], ◌∷◌, ◌++◌, map, filter, All, if◌then◌else◌}
use Rattle.std.specs.List.{AllPairs, flat_map}
use Rattle.pb_keys.specs.Order.{lesser, greater}
use Rattle.pb_keys.specs.Key.{IsKey, prefix_of}
use Rattle.pb_keys.specs.Span.{KeySpan, IsSpan, span_of, holds_key, overlap}
use Rattle.pb_keys.specs.View.{KeyView}
use Rattle.pb_rows.specs.Layer.{KeyRow, KeyLayer, layer_of}

-- the key's own suffix, or the one in its place
abbrev pub with_suffix : List ℕ → List ℕ → List ℕ
with_suffix [] key = key
with_suffix (b ∷ bs) key = prefix_of key ++ (b ∷ bs)

-- the view's prefix before the key, and its suffix, where it has one, in the place of the key's own
abbrev pub mapped_key : KeyView → List ℕ → List ℕ
mapped_key view key = view.prefix ++ with_suffix view.suffix key

abbrev pub mapped_row : KeyView → KeyRow → KeyRow
mapped_row view row = record { key = mapped_key view row.key; value = row.value }

-- the view's prefix before both ends
abbrev pub mapped_span : KeyView → KeySpan → KeySpan
mapped_span view span = span_of (view.prefix ++ span.lo) (view.prefix ++ span.hi)

-- the part of a span within bounds, if there is one
abbrev pub part_within : KeySpan → KeySpan → List KeySpan
part_within bounds span = if overlap bounds span then span_of (greater bounds.lo span.lo) (lesser bounds.hi span.hi) ∷ [] else []

-- the parts of the spans within bounds
abbrev pub cut_to : KeySpan → List KeySpan → List KeySpan
cut_to bounds spans = flat_map (part_within bounds) spans

-- bounds alone
abbrev pub plain_view : KeySpan → KeyView
plain_view bounds = record { bounds = bounds; prefix = []; suffix = [] }

-- the same view through other bounds
abbrev pub with_bounds : KeySpan → KeyView → KeyView
with_bounds bounds view = record view { bounds = bounds }

-- each deletion and each row with the view's prefix and suffix, and nothing cut
abbrev pub mapped : KeyView → KeyLayer → KeyLayer
mapped view layer = layer_of (map (mapped_span view) layer.dels) (map (mapped_row view) layer.rows)

-- the parts of the deletions within the bounds, and the rows whose keys the bounds hold
abbrev pub bounded : KeySpan → KeyLayer → KeyLayer
bounded bounds layer = layer_of (cut_to bounds layer.dels) (filter (λ row. holds_key bounds row.key) layer.rows)

-- what the view shows of the layer
unfoldable pub viewed : KeyView → KeyLayer → KeyLayer
viewed view layer = bounded view.bounds (mapped view layer)

-- each key and each end stays within its limit, and no two keys become one
pub record MapsWithin (view : KeyView) (layer : KeyLayer) : Type 0 where
  pub keys : All (λ row. IsKey (mapped_key view row.key)) layer.rows
  pub ends : All (λ span. IsSpan (mapped_span view span)) layer.dels
  pub apart : AllPairs (λ r s. ¬ (mapped_key view r.key ≡ mapped_key view s.key)) layer.rows
