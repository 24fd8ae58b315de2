-- What a layer says of a key: nothing, that it is deleted, or its value.
use Rattle.std.specs.Prelude.{ℕ, List, [], ◌∷◌, Bool, if◌then◌else◌, Option, Some, None}
use Rattle.std.specs.List.{list_any}
use Rattle.std.specs.Option.{option_or}
use Rattle.std.specs.Ordering.{eq_by_cmp}
use Rattle.pb_keys.specs.Key.{key_cmp, prefix_of}
use Rattle.pb_keys.specs.Order.{bytes_cmp}
use Rattle.pb_keys.specs.Span.{KeySpan, holds_key}
use Rattle.pb_rows.specs.Layer.{KeyRow, KeyLayer}

-- Some of what is found: None for a deleted key
abbrev pub Verdict : Type 0
Verdict = Option (Option (List ℕ))

-- what the rows say of the key
abbrev pub row_verdict : List KeyRow → List ℕ → Verdict
row_verdict [] key = None
row_verdict (row ∷ rows) key = if eq_by_cmp key_cmp key row.key then Some row.value else row_verdict rows key

-- what the first row whose key has this prefix says
abbrev pub prefix_verdict : List KeyRow → List ℕ → Verdict
prefix_verdict [] prefix = None
prefix_verdict (row ∷ rows) prefix = if eq_by_cmp bytes_cmp prefix (prefix_of row.key) then Some row.value else prefix_verdict rows prefix

-- whether one of the spans holds the key
abbrev pub is_covered : List KeySpan → List ℕ → Bool
is_covered spans key = list_any (λ span. holds_key span key) spans

-- a row comes first: a layer's deletions don't hide its own rows
unfoldable pub verdict : KeyLayer → List ℕ → Verdict
verdict layer key = option_or (row_verdict layer.rows key) (if is_covered layer.dels key then Some None else None)

-- what layers say of the key, the newest first: the first that says something decides
abbrev pub verdicts : List KeyLayer → List ℕ → Verdict
verdicts [] key = None
verdicts (layer ∷ older) key = option_or (verdict layer key) (verdicts older key)
