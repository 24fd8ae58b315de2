-- What a view makes of keys and of ends, against their limits.
use Rattle.std.specs.Prelude.{◌≢◌, List, length, All}
use Rattle.std.specs.List.{AllPairs}
use Rattle.pb_keys.specs.Key.{IsKeyLength}
use Rattle.pb_keys.specs.Span.{KeySpan, IsEndLength}
use Rattle.pb_keys.specs.View.{KeyView}
use Rattle.pb_rows.specs.Layer.{KeyRow, KeyLayer}
use Rattle.pb_rows.specs.Viewed.{mapped_key, mapped_span}

-- both ends have at most 1,025 bytes
pub record HasShortEnds (span : KeySpan) : Type 0 where
  pub lo : IsEndLength (length span.lo)
  pub hi : IsEndLength (length span.hi)

-- each mapped key has at most 1,024 bytes, and each mapped end at most 1,025
pub record KeepsLimits (view : KeyView) (layer : KeyLayer) : Type 0 where
  pub keys : All (λ row. IsKeyLength (length (mapped_key view row.key))) layer.rows
  pub ends : All (λ span. HasShortEnds (mapped_span view span)) layer.dels

-- no two keys become one through the view
abbrev pub StayApart : KeyView → List KeyRow → Type 0
StayApart view rows = AllPairs (λ r s. mapped_key view r.key ≢ mapped_key view s.key) rows
