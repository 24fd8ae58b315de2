-- A layer seen through bounds alone.
use Rattle.std.proofs.Common.{◌≡◌, ℕ, List, [], ◌∷◌, ◌++◌, Bool, true, false, cond, refl, sym, ap, ◌∙◌}
use Rattle.std.specs.Prelude.{Some, None, map, not, ◌&&◌, ◌||◌}
use Rattle.std.specs.List.{flat_map}
use Rattle.std.specs.Option.{option_or}
use Rattle.pb_keys.specs.Order.{is_below, lesser, greater}
use Rattle.pb_keys.specs.Key.{prefix_of}
use Rattle.pb_keys.specs.Span.{KeySpan, holds_key, overlap, span_of}
use Rattle.pb_keys.proofs.OrderFacts.{upto_below}
use Rattle.pb_keys.proofs.SpanFacts.{holds_key-ends, overlap-ends}
use Rattle.pb_rows.specs.Layer.{KeyRow, KeyLayer, layer_of}
use Rattle.pb_rows.specs.Verdict.{Verdict, row_verdict, is_covered, verdict}
use Rattle.pb_rows.specs.Viewed.{viewed, plain_view, mapped, bounded, mapped_row, mapped_span, part_within}
use Rattle.pb_rows.proofs.RowLaws.{row_verdict-filter}
use Rattle.pb_keys.proofs.EndFacts.{below-lesser, below-greater}
use Rattle.pb_keys.proofs.Tests.{or_false}

within_both : (a b c d : Bool) → (not (a || b) && (c && d)) ≡ ((not a && c) && (not b && d))
within_both true b c d = refl
within_both false true true d = refl
within_both false true false d = refl
within_both false false c d = refl

-- the part of a span within bounds holds what both hold
pub holds-part : (bounds span : KeySpan) (key : List ℕ) → holds_key (span_of (greater bounds.lo span.lo) (lesser bounds.hi span.hi)) key ≡ (holds_key bounds key && holds_key span key)
unfolding holds_key
holds-part bounds span key =
    let p = prefix_of key in
    (λ i. not (below-greater p bounds.lo span.lo i) && below-lesser p bounds.hi span.hi i)
    ∙ within_both (is_below p bounds.lo) (is_below p span.lo) (is_below p bounds.hi) (is_below p span.hi)

clash : (e f : Bool) → e ≡ true → f ≡ true → (e && f) ≡ false → ⊥
clash true true p q n = cc
clash true false p q n = cc
clash false f p q n = cc

-- a below bit for each end of two spans, and whether each begins before the other ends
none_in_both : (a b c d e f : Bool) → (a ≡ false → d ≡ true → e ≡ true) → (b ≡ false → c ≡ true → f ≡ true) → (e && f) ≡ false → ((not a && c) && (not b && d)) ≡ false
none_in_both true b c d e f h k n = refl
none_in_both false true true d e f h k n = refl
none_in_both false b false d e f h k n = refl
none_in_both false false true false e f h k n = refl
none_in_both false false true true e f h k n = let one = h refl refl in let two = k refl refl in absurd (clash e f one two n)

pub holds-apart : (bounds span : KeySpan) (key : List ℕ) → overlap bounds span ≡ false → (holds_key bounds key && holds_key span key) ≡ false
holds-apart bounds span key h =
    let p = prefix_of key in
    (λ i. holds_key-ends bounds key i && holds_key-ends span key i)
    ∙ none_in_both (is_below p bounds.lo) (is_below p span.lo) (is_below p bounds.hi) (is_below p span.hi) (is_below bounds.lo span.hi) (is_below span.lo bounds.hi)
    (λ a d. upto_below bounds.lo p span.hi a d) (λ b c. upto_below span.lo p bounds.hi b c) (sym (overlap-ends bounds span) ∙ h)

both_of_each : (h s c : Bool) → ((h && s) || (h && c)) ≡ (h && (s || c))
both_of_each true s c = refl
both_of_each false s c = refl

is_covered-append : (ss ts : List KeySpan) (key : List ℕ) → is_covered (ss ++ ts) key ≡ (is_covered ss key || is_covered ts key)
is_covered-append [] ts key = refl
is_covered-append (s ∷ ss) ts key = elim (holds_key s key) as (λ b. (b || is_covered (ss ++ ts) key) ≡ ((b || is_covered ss key) || is_covered ts key)) [ true ↦ refl | false ↦ is_covered-append ss ts key ]

is_covered-part_within : (bounds span : KeySpan) (key : List ℕ) → is_covered (part_within bounds span) key ≡ (holds_key bounds key && holds_key span key)
is_covered-part_within bounds span key =
    elim (overlap bounds span) as (λ b. overlap bounds span ≡ b → is_covered (cond b (span_of (greater bounds.lo span.lo) (lesser bounds.hi span.hi) ∷ []) []) key ≡ (holds_key bounds key && holds_key span key)) [
      | true ↦ λ e. or_false (holds_key (span_of (greater bounds.lo span.lo) (lesser bounds.hi span.hi)) key) ∙ holds-part bounds span key
      | false ↦ λ e. sym (holds-apart bounds span key e)
    ] refl

-- spans cut to bounds
pub is_covered-cut : (bounds : KeySpan) (spans : List KeySpan) (key : List ℕ) → is_covered (flat_map (part_within bounds) spans) key ≡ (holds_key bounds key && is_covered spans key)
is_covered-cut bounds [] key = elim (holds_key bounds key) as (λ b. false ≡ (b && false)) [ true ↦ refl | false ↦ refl ]
is_covered-cut bounds (s ∷ ss) key =
    is_covered-append (part_within bounds s) (flat_map (part_within bounds) ss) key
    ∙ (λ i. is_covered-part_within bounds s key i || is_covered-cut bounds ss key i)
    ∙ both_of_each (holds_key bounds key) (holds_key s key) (is_covered ss key)

same_rows : (bounds : KeySpan) (rows : List KeyRow) → map (mapped_row (plain_view bounds)) rows ≡ rows
same_rows bounds [] = refl
same_rows bounds (row ∷ rows) = ap (λ r. row ∷ r) (same_rows bounds rows)

same_spans : (bounds : KeySpan) (spans : List KeySpan) → map (mapped_span (plain_view bounds)) spans ≡ spans
same_spans bounds [] = refl
same_spans bounds (span ∷ spans) = ap (λ ss. span ∷ ss) (same_spans bounds spans)

-- a view of bounds alone maps a layer to itself
pub mapped-plain_view : (bounds : KeySpan) (layer : KeyLayer) → mapped (plain_view bounds) layer ≡ layer
mapped-plain_view bounds layer = λ i. layer_of (same_spans bounds layer.dels i) (same_rows bounds layer.rows i)

within : (h c : Bool) (found : Verdict) → option_or (cond h found None) (cond (h && c) (Some None) None) ≡ cond h (option_or found (cond c (Some None) None)) None
within true c found = refl
within false c found = refl

-- within bounds a layer says what it says of the keys there, and nothing of the others
pub verdict-bounded : (bounds : KeySpan) (layer : KeyLayer) (key : List ℕ) → verdict (bounded bounds layer) key ≡ cond (holds_key bounds key) (verdict layer key) None
unfolding verdict
verdict-bounded bounds layer key =
    (λ i. option_or
    (row_verdict-filter (holds_key bounds) layer.rows key i)
    (cond (is_covered-cut bounds layer.dels key i) (Some None) None))
    ∙ within (holds_key bounds key) (is_covered layer.dels key) (row_verdict layer.rows key)

-- through bounds alone it says the same
pub verdict-plain_view : (bounds : KeySpan) (layer : KeyLayer) (key : List ℕ) → verdict (viewed (plain_view bounds) layer) key ≡ cond (holds_key bounds key) (verdict layer key) None
unfolding viewed
verdict-plain_view bounds layer key =
    ap (λ l. verdict (bounded bounds l) key) (mapped-plain_view bounds layer) ∙ verdict-bounded bounds layer key
