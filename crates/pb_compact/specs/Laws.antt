-- What the laws of outputs say of layers.
use Rattle.std.specs.Prelude.{◌≡◌, ℕ, ◌<◌, ◌≤◌, List, [], ◌∷◌, filter, Some, None, true}
use Rattle.pb_keys.specs.Key.{prefix_of}
use Rattle.pb_keys.specs.Order.{is_upto}
use Rattle.pb_keys.specs.Span.{KeySpan}
use Rattle.pb_rows.specs.Hull.{hull_of}
use Rattle.pb_rows.specs.Layer.{KeyLayer, KeyRow}
use Rattle.pb_rows.specs.Verdict.{Verdict}
use Rattle.pb_compact.specs.Cutting.{is_row_below}
use Rattle.pb_compact.specs.Outputs.{full_output, sizes_of}

-- the first one's hull, where both have one, ends where the second one's begins, or before
abbrev pub HullsRise : KeyLayer → KeyLayer → Type 0
HullsRise a b = (g h : KeySpan) → hull_of a ≡ Some g → hull_of b ≡ Some h → is_upto g.hi h.lo ≡ true

-- the layer's hull, if it has one, lies within the span
pub record HasHullWithin (span : KeySpan) (layer : KeyLayer) : Type 0 where
  pub lo : (hull : KeySpan) → hull_of layer ≡ Some hull → is_upto span.lo hull.lo ≡ true
  pub hi : (hull : KeySpan) → hull_of layer ≡ Some hull → is_upto hull.hi span.hi ≡ true

-- a verdict that is a value, and no other
abbrev pub value_alone : Verdict → Verdict
value_alone None = None
value_alone (Some None) = None
value_alone (Some (Some value)) = Some (Some value)

-- the prefix of the last row, or this one where there is none
abbrev pub last_prefix : List ℕ → List KeyRow → List ℕ
last_prefix prefix [] = prefix
last_prefix prefix (row ∷ rows) = last_prefix (prefix_of row.key) rows

-- the rows of an output that isn't the last: they fill it, and without those of the last prefix they don't
pub record AreFull (rows : List KeyRow) : Type 0 where
  pub full : full_output ≤ sizes_of rows
  pub least : sizes_of (filter (is_row_below (last_prefix [] rows)) rows) < full_output
