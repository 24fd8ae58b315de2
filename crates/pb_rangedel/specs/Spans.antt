-- Lists of spans: where they begin and end.
use Rattle.std.specs.Prelude.{◌≡◌, ℕ, ◌<◌, List, All, slice_index_or, true, false}
use Rattle.pb_keys.specs.Order.{is_below, is_upto}
use Rattle.pb_keys.specs.Span.{KeySpan}

-- each span begins at these bytes or below
abbrev pub BeginUpto : List ℕ → List KeySpan → Type 0
BeginUpto bytes spans = All (λ span. is_below bytes span.lo ≡ false) spans

-- each of the first n spans ends at these bytes or below
abbrev pub EndUpto : List ℕ → List KeySpan → ℕ → Type 0
EndUpto bytes spans n = (k : ℕ) (d : KeySpan) → k < n → is_upto (slice_index_or spans k d).hi bytes ≡ true
