-- The part of a span within bounds, by where it lies, and the parts of a list.
use Rattle.std.proofs.Common.{◌≡◌, ℕ, ◌<◌, List, [], ◌∷◌, ◌++◌, length, true, false, cond, refl, sym, ap, ◌∙◌, arith}
use Rattle.std.specs.Prelude.{All, ◌&&◌}
use Rattle.std.proofs.lemmas.List.Elements.{All-cons, All-head, All-tail, All-nil, All-weaker, All-append}
use Rattle.pb_keys.specs.Order.{is_below, lesser, greater}
use Rattle.pb_keys.specs.Span.{KeySpan, IsSpan, span_of, overlap}
use Rattle.pb_keys.proofs.OrderFacts.{below_itself, below_one_way, below_chain, below_upto, upto_below}
use Rattle.pb_keys.proofs.SpanFacts.{overlap-ends}
use Rattle.pb_rows.specs.Layer.{AreApart}
use Rattle.pb_rows.specs.Viewed.{part_within, cut_to}
use Rattle.pb_rows.proofs.Tests.{Both, both_true}
use Rattle.pb_rows.proofs.NormalSpans.{Above, Normal, normal_from_apart, apart_from_normal}
use Rattle.pb_keys.proofs.EndFacts.{below-lesser, below-greater, greater_first, greater_second, lesser_first, lesser_second, lesser_is_end, greater_is_end}
use Rattle.std.proofs.lemmas.Bool.{and_right, or_right}

one_part : (bounds span : KeySpan) (lo hi : List ℕ) → is_below bounds.lo span.hi ≡ true → is_below span.lo bounds.hi ≡ true → greater bounds.lo span.lo ≡ lo → lesser bounds.hi span.hi ≡ hi → part_within bounds span ≡ span_of lo hi ∷ []
one_part bounds span lo hi first second lo_is hi_is =
    ap (λ b. cond b (span_of (greater bounds.lo span.lo) (lesser bounds.hi span.hi) ∷ []) []) (overlap-ends bounds span ∙ (λ i. first i && second i))
    ∙ (λ i. span_of (lo_is i) (hi_is i) ∷ [])

-- the span lies before the bounds, or behind them
pub no_part_before : (bounds span : KeySpan) → is_below bounds.lo span.hi ≡ false → part_within bounds span ≡ []
no_part_before bounds span h =
    ap (λ b. cond b (span_of (greater bounds.lo span.lo) (lesser bounds.hi span.hi) ∷ []) []) (overlap-ends bounds span ∙ ap (λ b. b && is_below span.lo bounds.hi) h)

pub no_part_behind : (bounds span : KeySpan) → is_below span.lo bounds.hi ≡ false → part_within bounds span ≡ []
no_part_behind bounds span h =
    ap (λ b. cond b (span_of (greater bounds.lo span.lo) (lesser bounds.hi span.hi) ∷ []) []) (overlap-ends bounds span ∙ ap (λ b. is_below bounds.lo span.hi && b) h ∙ and_right (is_below bounds.lo span.hi) false refl)

-- the span lies within the bounds
pub whole_part : (bounds span : KeySpan) → IsSpan span → is_below span.lo bounds.lo ≡ false → is_below bounds.hi span.hi ≡ false → part_within bounds span ≡ span ∷ []
whole_part bounds span is lo hi =
    one_part bounds span span.lo span.hi (upto_below bounds.lo span.lo span.hi lo is.rises) (below_upto span.lo span.hi bounds.hi is.rises hi) (greater_second bounds.lo span.lo lo) (lesser_second bounds.hi span.hi hi)

-- the bounds lie within the span
pub bounds_part : (bounds span : KeySpan) → IsSpan bounds → is_below bounds.lo span.lo ≡ false → is_below span.hi bounds.hi ≡ false → part_within bounds span ≡ bounds ∷ []
bounds_part bounds span is lo hi =
    one_part bounds span bounds.lo bounds.hi (below_upto bounds.lo bounds.hi span.hi is.rises hi) (upto_below span.lo bounds.lo bounds.hi lo is.rises) (greater_first bounds.lo span.lo lo) (lesser_first bounds.hi span.hi hi)

pub front_part : (bounds span : KeySpan) → IsSpan span → is_below span.lo bounds.lo ≡ true → is_below bounds.lo span.hi ≡ true → is_below span.hi bounds.hi ≡ true → part_within bounds span ≡ span_of bounds.lo span.hi ∷ []
front_part bounds span is lo mid hi =
    one_part bounds span bounds.lo span.hi mid (below_chain span.lo span.hi bounds.hi is.rises hi) (greater_first bounds.lo span.lo (below_one_way span.lo bounds.lo lo)) (lesser_second bounds.hi span.hi (below_one_way span.hi bounds.hi hi))

pub back_part : (bounds span : KeySpan) → IsSpan span → is_below bounds.lo span.lo ≡ true → is_below span.lo bounds.hi ≡ true → is_below bounds.hi span.hi ≡ true → part_within bounds span ≡ span_of span.lo bounds.hi ∷ []
back_part bounds span is lo mid hi =
    one_part bounds span span.lo bounds.hi (below_chain bounds.lo span.lo span.hi lo is.rises) mid (greater_second bounds.lo span.lo (below_one_way bounds.lo span.lo lo)) (lesser_first bounds.hi span.hi (below_one_way bounds.hi span.hi hi))

-- ---- the parts of a list in form are in form

above_part : (bytes : List ℕ) (bounds span : KeySpan) → is_below bytes span.lo ≡ true → Above bytes (part_within bounds span)
above_part bytes bounds span h =
    let P = λ (s : KeySpan). is_below bytes s.lo ≡ true in
    elim (overlap bounds span) as (λ b. Above bytes (cond b (span_of (greater bounds.lo span.lo) (lesser bounds.hi span.hi) ∷ []) [])) [
      | true ↦ All-cons P (span_of (greater bounds.lo span.lo) (lesser bounds.hi span.hi)) [] (below-greater bytes bounds.lo span.lo ∙ or_right (is_below bytes bounds.lo) (is_below bytes span.lo) h) (All-nil P)
      | false ↦ All-nil P
    ]

above_parts : (bytes : List ℕ) (bounds : KeySpan) (spans : List KeySpan) → Above bytes spans → Above bytes (cut_to bounds spans)
above_parts bytes bounds [] above = All-nil (λ s. is_below bytes s.lo ≡ true)
above_parts bytes bounds (s ∷ ss) above =
    let P = λ (span : KeySpan). is_below bytes span.lo ≡ true in
    All-append P (part_within bounds s) (cut_to bounds ss) (above_part bytes bounds s (All-head P s ss above)) (above_parts bytes bounds ss (All-tail P s ss above))

-- the greater of two starts is below the lesser of two ends
rises_within : (bounds span : KeySpan) → IsSpan bounds → IsSpan span → Both (is_below bounds.lo span.hi) (is_below span.lo bounds.hi) → is_below (greater bounds.lo span.lo) (lesser bounds.hi span.hi) ≡ true
rises_within bounds span bounds_is span_is both =
    below-lesser (greater bounds.lo span.lo) bounds.hi span.hi
    ∙ elim (is_below bounds.lo span.lo) as (λ b. (is_below (cond b span.lo bounds.lo) bounds.hi && is_below (cond b span.lo bounds.lo) span.hi) ≡ true) [
      | true ↦ (λ i. both.second i && span_is.rises i)
      | false ↦ (λ i. bounds_is.rises i && both.first i)
    ]

part_in_form : (bounds span : KeySpan) → IsSpan bounds → IsSpan span → overlap bounds span ≡ true → IsSpan (span_of (greater bounds.lo span.lo) (lesser bounds.hi span.hi))
part_in_form bounds span bounds_is span_is e =
    record {
      lo = greater_is_end bounds.lo span.lo bounds_is.lo span_is.lo;
      hi = lesser_is_end bounds.hi span.hi bounds_is.hi span_is.hi;
      rises = rises_within bounds span bounds_is span_is (both_true (is_below bounds.lo span.hi) (is_below span.lo bounds.hi) (sym (overlap-ends bounds span) ∙ e));
    }

pub parts_in_form : (bounds : KeySpan) (spans : List KeySpan) → (0 < length spans → IsSpan bounds) → All IsSpan spans → All IsSpan (cut_to bounds spans)
parts_in_form bounds [] is are = All-nil IsSpan
parts_in_form bounds (s ∷ ss) is are =
    let part = span_of (greater bounds.lo s.lo) (lesser bounds.hi s.hi) in
    let rest = parts_in_form bounds ss (λ h. is (omega arith)) (All-tail IsSpan s ss are) in
    elim (overlap bounds s) as (λ b. overlap bounds s ≡ b → All IsSpan (cond b (part ∷ []) [] ++ cut_to bounds ss)) [
      | true ↦ λ e. All-cons IsSpan part (cut_to bounds ss) (part_in_form bounds s (is (omega arith)) (All-head IsSpan s ss are) e) rest
      | false ↦ λ e. rest
    ] refl

normal_part : (bounds span : KeySpan) (rest : List KeySpan) → IsSpan bounds → IsSpan span → Above span.hi rest → Normal rest → Normal (part_within bounds span ++ rest)
normal_part bounds span rest bounds_is span_is above normal =
    let part = span_of (greater bounds.lo span.lo) (lesser bounds.hi span.hi) in
    elim (overlap bounds span) as (λ b. overlap bounds span ≡ b → Normal (cond b (part ∷ []) [] ++ rest)) [
      | true ↦ λ e. (
        part_in_form bounds span bounds_is span_is e,
        All-weaker (λ s. is_below span.hi s.lo ≡ true) (λ s. is_below part.hi s.lo ≡ true) (λ s h. upto_below part.hi span.hi s.lo (ends_within bounds.hi span.hi) h) rest above,
        normal,
      )
      | false ↦ λ e. normal
    ] refl
  where
    ends_within : (a b : List ℕ) → is_below b (lesser a b) ≡ false
    ends_within a b =
        elim (is_below b a) as (λ t. is_below b a ≡ t → is_below b (cond t b a) ≡ false) [
          | true ↦ λ e. below_itself b
          | false ↦ λ e. e
        ] refl

pub normal_parts_within : (bounds : KeySpan) (spans : List KeySpan) → IsSpan bounds → Normal spans → Normal (cut_to bounds spans)
normal_parts_within bounds [] is normal = tt
normal_parts_within bounds (s ∷ ss) is normal =
    normal_part bounds s (cut_to bounds ss) is normal.0 (above_parts s.hi bounds ss normal.1) (normal_parts_within bounds ss is normal.2)

pub apart_within : (bounds : KeySpan) (spans : List KeySpan) → (0 < length spans → IsSpan bounds) → All IsSpan spans → AreApart spans → AreApart (cut_to bounds spans)
apart_within bounds [] is are apart = λ k d h. absurd (omega arith)
apart_within bounds (s ∷ ss) is are apart = apart_from_normal (cut_to bounds (s ∷ ss)) (normal_parts_within bounds (s ∷ ss) (is (omega arith)) (normal_from_apart (s ∷ ss) are apart))
