-- Spans within others, and what these don't overlap.
use Rattle.std.proofs.Common.{◌≡◌, true, false, refl, sym, ◌∙◌}
use Rattle.std.proofs.lemmas.Bool.{and_parts, not-true}
use Rattle.std.specs.Prelude.{◌&&◌}
use Rattle.pb_keys.specs.Order.{is_below, is_upto}
use Rattle.pb_keys.specs.Span.{KeySpan, overlap}
use Rattle.pb_keys.proofs.OrderFacts.{upto_below, below_upto}
use Rattle.pb_keys.proofs.SpanFacts.{overlap-ends}
use Rattle.pb_rows.proofs.HullHolds.{LiesWithin}
use Rattle.pb_version.specs.Above.{lies_within}

pub within_says : (inner outer : KeySpan) → lies_within inner outer ≡ true → LiesWithin outer inner
within_says inner outer e =
    let both = and_parts (is_upto outer.lo inner.lo) (is_upto inner.hi outer.hi) e in
    record { lo = not-true (is_below inner.lo outer.lo) both.0; hi = not-true (is_below outer.hi inner.hi) both.1 }

-- spans that overlap
pub record Meet (a b : KeySpan) : Type 0 where
  pub first : is_below a.lo b.hi ≡ true
  pub second : is_below b.lo a.hi ≡ true

pub meet : (a b : KeySpan) → overlap a b ≡ true → Meet a b
meet a b e =
    let both = and_parts (is_below a.lo b.hi) (is_below b.lo a.hi) (sym (overlap-ends a b) ∙ e) in
    record { first = both.0; second = both.1 }

pub do_meet : (a b : KeySpan) → Meet a b → overlap a b ≡ true
do_meet a b are = overlap-ends a b ∙ (λ i. are.first i && are.second i)

pub not_met : (a b : KeySpan) → (Meet a b → ⊥) → overlap a b ≡ false
not_met a b never =
    elim (overlap a b) as (λ t. overlap a b ≡ t → t ≡ false) [
      | true ↦ λ e. absurd (never (meet a b e))
      | false ↦ λ _. refl
    ] refl

pub never_met : (a b : KeySpan) → overlap a b ≡ false → Meet a b → ⊥
never_met a b e are = let bad : true ≡ false = sym (do_meet a b are) ∙ e in cc

-- what doesn't overlap a span doesn't overlap one within it
pub inner_clear : (inner outer other : KeySpan) → LiesWithin outer inner → overlap outer other ≡ false → overlap inner other ≡ false
inner_clear inner outer other within clear = not_met inner other (λ are. never_met outer other clear (record {
  first = upto_below outer.lo inner.lo other.hi within.lo are.first;
  second = below_upto other.lo inner.hi outer.hi are.second within.hi;
}))

pub clear_of_inner : (other inner outer : KeySpan) → LiesWithin outer inner → overlap other outer ≡ false → overlap other inner ≡ false
clear_of_inner other inner outer within clear = not_met other inner (λ are. never_met other outer clear (record {
  first = below_upto other.lo inner.hi outer.hi are.first within.hi;
  second = upto_below outer.lo inner.lo other.hi within.lo are.second;
}))
