-- Maps from keys to values, in the keys' order.
use Rattle.std.specs.Prelude.{ℕ, List, not}
use Rattle.std.specs.FinMap.{FinMap, retain_keys}
use Rattle.pb_keys.specs.Key.{key_cmp}
use Rattle.pb_keys.specs.Span.{KeySpan, holds_key}

abbrev pub Map : Type 0
Map = FinMap key_cmp (List ℕ)

-- the pairs whose keys the span holds
abbrev pub cut : Map → KeySpan → Map
cut m span = retain_keys m (holds_key span)

-- the other pairs
abbrev pub without : Map → KeySpan → Map
without m span = retain_keys m (λ key. not (holds_key span key))
