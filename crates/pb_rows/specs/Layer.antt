-- Layers: deletions of spans, and rows.
use Rattle.std.specs.Prelude.{◌≡◌, ℕ, ◌+◌, ◌-◌, ◌<◌, ◌≤◌, List, length, Option, All, IfSome, slice_index_or, true}
use Rattle.std.specs.List.{AllAdjacentBelow}
use Rattle.std.specs.declared.cmp.Ordering.TheVariants.{Less}
use Rattle.pb_keys.specs.Order.{is_below}
use Rattle.pb_keys.specs.Key.{IsKey, key_cmp}
use Rattle.pb_keys.specs.Span.{KeySpan, IsSpan}
use Rattle.pb_keys.specs.Value.{IsValue}

-- a key with its value, or with None where it is deleted
pub record KeyRow : Type 0 where
  pub key : List ℕ
  pub value : Option (List ℕ)

pub record KeyLayer : Type 0 where
  pub dels : List KeySpan
  pub rows : List KeyRow

abbrev pub layer_of : List KeySpan → List KeyRow → KeyLayer
layer_of dels rows = record { dels = dels; rows = rows }

-- the first span ends below where the second begins
abbrev pub EndsBelow : KeySpan → KeySpan → Type 0
EndsBelow s t = is_below s.hi t.lo ≡ true

-- each of the first n spans begins above the end of the one before
abbrev pub AreApartUpTo : List KeySpan → ℕ → Type 0
AreApartUpTo spans n = AllAdjacentBelow EndsBelow spans n

-- ascending, neither overlapping nor touching
abbrev pub AreApart : List KeySpan → Type 0
AreApart spans = AreApartUpTo spans (length spans)

abbrev pub IsBelow : KeyRow → KeyRow → Type 0
IsBelow r s = key_cmp r.key s.key ≡ Less

-- each of the first n rows is above the one before
abbrev pub RiseUpTo : List KeyRow → ℕ → Type 0
RiseUpTo rows n = AllAdjacentBelow IsBelow rows n

abbrev pub Rise : List KeyRow → Type 0
Rise rows = RiseUpTo rows (length rows)

-- the row at this place is the first that isn't above the one before
pub record IsFirstFall (rows : List KeyRow) (at : ℕ) : Type 0 where
  pub behind : 1 ≤ at
  pub within : at < length rows
  pub before : RiseUpTo rows at
  pub falls : (d : KeyRow) → ¬ (IsBelow (slice_index_or rows (at - 1) d) (slice_index_or rows at d))

-- its value, if it has one, is not too long
abbrev pub IsShortRow : KeyRow → Type 0
IsShortRow row = IfSome row.value IsValue

pub record IsLayer (layer : KeyLayer) : Type 0 where
  pub spans : All IsSpan layer.dels
  pub apart : AreApart layer.dels
  pub keys : All (λ row. IsKey row.key) layer.rows
  pub rise : Rise layer.rows
  pub short : All IsShortRow layer.rows

-- it deletes a span, or it has a row
abbrev pub IsFilled : KeyLayer → Type 0
IsFilled layer = 1 ≤ length layer.dels + length layer.rows
