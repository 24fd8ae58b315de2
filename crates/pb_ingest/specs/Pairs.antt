-- The first two of some spans that overlap.
use Rattle.std.specs.Prelude.{◌≡◌, ℕ, suc, ◌<◌, List, [], ◌∷◌, length, get_or, true, Option, Some, None, option_map}
use Rattle.std.specs.List.{position}
use Rattle.pb_keys.specs.Span.{KeySpan, span_of, overlap}

-- at one place the pair, or what there is a place further on
abbrev pub pair_or : Option ℕ → Option (ℕ × ℕ) → Option (ℕ × ℕ)
pair_or (Some behind) later = Some (0, suc behind)
pair_or None later = option_map (λ pair. (suc pair.0, suc pair.1)) later

-- the least place whose span overlaps one behind it, and the least place of such a one
abbrev pub first_pair : List KeySpan → Option (ℕ × ℕ)
first_pair [] = None
first_pair (s ∷ spans) = pair_or (position (overlap s) spans) (first_pair spans)

-- the spans at these two places, the second behind the first, overlap
pub record OverlapAt (spans : List KeySpan) (i j : ℕ) : Type 0 where
  pub behind : i < j
  pub within : j < length spans
  pub overlap : overlap (get_or spans i (span_of [] [])) (get_or spans j (span_of [] [])) ≡ true
