-- Spans in form in front of an end, and from it on.
use Rattle.std.proofs.Common.{◌≡◌, List, ℕ, ◌<◌, [], ◌∷◌, ◌++◌, length, Bool, true, false, cond, refl, sym, ap, ◌∙◌, subst, append_assoc, arith}
use Rattle.std.specs.Prelude.{All, filter, ◌&&◌}
use Rattle.std.specs.List.{flat_map}
use Rattle.std.proofs.lemmas.Grind.{flat_map-append}
use Rattle.std.proofs.lemmas.List.Elements.{All-cons, All-head, All-tail, All-nil, All-weaker, All-append}
use Rattle.pb_keys.specs.Order.{is_below, lesser, greater}
use Rattle.pb_keys.specs.Span.{KeySpan, IsEnd, IsSpan, span_of}
use Rattle.pb_keys.proofs.EndFacts.{below-lesser, greater_first, greater_second, lesser_first, lesser_second, lesser_is_end, greater_is_end}
use Rattle.pb_keys.proofs.OrderFacts.{below_itself, below_one_way, below_chain, below_upto, upto_below}
use Rattle.pb_keys.proofs.SpanFacts.{overlap-ends, upto_greater}
use Rattle.pb_rows.proofs.NormalSpans.{Above, Normal}
use Rattle.pb_rows.specs.Viewed.{part_within, cut_to}
use Rattle.pb_compact.specs.Cutting.{part_below, part_from, begins_below}

-- ---- one span

pub below_whole : (end : List ℕ) (s : KeySpan) → is_below s.lo end ≡ true → is_below end s.hi ≡ false → part_below end s ≡ s ∷ []
below_whole end s begins whole =
    ap (λ b. cond b (span_of s.lo (lesser end s.hi) ∷ []) []) begins ∙ ap (λ hi. span_of s.lo hi ∷ []) (lesser_second end s.hi whole)

pub below_split : (end : List ℕ) (s : KeySpan) → is_below s.lo end ≡ true → is_below end s.hi ≡ true
    → part_below end s ≡ span_of s.lo end ∷ []
below_split end s begins split =
    ap (λ b. cond b (span_of s.lo (lesser end s.hi) ∷ []) []) begins
    ∙ ap (λ hi. span_of s.lo hi ∷ []) (lesser_first end s.hi (below_one_way end s.hi split))

below_none : (end : List ℕ) (s : KeySpan) → is_below s.lo end ≡ false → part_below end s ≡ []
below_none end s from = ap (λ b. cond b (span_of s.lo (lesser end s.hi) ∷ []) []) from

pub from_none : (end : List ℕ) (s : KeySpan) → is_below end s.hi ≡ false → part_from end s ≡ []
from_none end s whole = ap (λ b. cond b (span_of (greater end s.lo) s.hi ∷ []) []) whole

pub from_split : (end : List ℕ) (s : KeySpan) → is_below s.lo end ≡ true → is_below end s.hi ≡ true
    → part_from end s ≡ span_of end s.hi ∷ []
from_split end s begins split =
    ap (λ b. cond b (span_of (greater end s.lo) s.hi ∷ []) []) split
    ∙ ap (λ lo. span_of lo s.hi ∷ []) (greater_first end s.lo (below_one_way s.lo end begins))

-- a span that begins at an end or behind it stays whole
from_whole : (end : List ℕ) (s : KeySpan) → IsSpan s → is_below s.lo end ≡ false → part_from end s ≡ s ∷ []
from_whole end s is from =
    ap (λ b. cond b (span_of (greater end s.lo) s.hi ∷ []) []) (upto_below end s.lo s.hi from is.rises)
    ∙ ap (λ lo. span_of lo s.hi ∷ []) (greater_second end s.lo from)

-- ---- the spans that are left when the first doesn't begin in front of the end

abbrev FromOn : List ℕ → List KeySpan → Type 0
FromOn end spans = All (λ s. is_below s.lo end ≡ false) spans

from_on : (end : List ℕ) (spans : List KeySpan) → Normal spans → begins_below end spans ≡ false → FromOn end spans
from_on end [] normal first = All-nil (λ s. is_below s.lo end ≡ false)
from_on end (s ∷ ss) normal first =
    All-cons (λ t. is_below t.lo end ≡ false) s ss first
    (All-weaker (λ t. is_below s.hi t.lo ≡ true) (λ t. is_below t.lo end ≡ false) (λ t above. later t above) ss normal.1)
  where
    later : (t : KeySpan) → is_below s.hi t.lo ≡ true → is_below t.lo end ≡ false
    later t above = below_one_way end t.lo (below_chain end s.hi t.lo (upto_below end s.lo s.hi first normal.0.rises) above)

none_below : (end : List ℕ) (spans : List KeySpan) → FromOn end spans → flat_map (part_below end) spans ≡ []
none_below end [] from = refl
none_below end (s ∷ ss) from =
    let P = λ (t : KeySpan). is_below t.lo end ≡ false in
    λ i. below_none end s (All-head P s ss from) i ++ none_below end ss (All-tail P s ss from) i

all_from : (end : List ℕ) (spans : List KeySpan) → Normal spans → FromOn end spans → flat_map (part_from end) spans ≡ spans
all_from end [] normal from = refl
all_from end (s ∷ ss) normal from =
    let P = λ (t : KeySpan). is_below t.lo end ≡ false in
    λ i. from_whole end s normal.0 (All-head P s ss from) i ++ all_from end ss normal.2 (All-tail P s ss from) i

pub taken_whole : (end : List ℕ) (spans : List KeySpan) → Normal spans → begins_below end spans ≡ false
    → flat_map (part_below end) spans ≡ []
taken_whole end spans normal first = none_below end spans (from_on end spans normal first)

pub left_whole : (end : List ℕ) (spans : List KeySpan) → Normal spans → begins_below end spans ≡ false
    → flat_map (part_from end) spans ≡ spans
left_whole end spans normal first = all_from end spans normal (from_on end spans normal first)

-- spans that begin at a start or behind it are whole from there on
pub from_start : (lo : List ℕ) (spans : List KeySpan) → Normal spans → All (λ s. is_below s.lo lo ≡ false) spans
    → flat_map (part_from lo) spans ≡ spans
from_start lo spans normal from = all_from lo spans normal from

-- ---- the first span taken out

-- nothing of what is left of it lies in front of the end, and it is left once more
none_of_left : (end : List ℕ) (s : KeySpan) → flat_map (part_below end) (part_from end s) ≡ []
none_of_left end s =
    elim (is_below end s.hi) as (λ b. flat_map (part_below end) (cond b (span_of (greater end s.lo) s.hi ∷ []) []) ≡ []) [
      | true ↦ λ i. below_none end (span_of (greater end s.lo) s.hi) (upto_greater end s.lo) i ++ []
      | false ↦ refl
    ]

left_again : (end : List ℕ) (s : KeySpan) → flat_map (part_from end) (part_from end s) ≡ part_from end s
left_again end s =
    let part = span_of (greater end s.lo) s.hi in
    elim (is_below end s.hi) as (λ b. is_below end s.hi ≡ b → flat_map (part_from end) (cond b (part ∷ []) []) ≡ cond b (part ∷ []) []) [
      | true ↦ λ e. λ i. (ap (λ b. cond b (span_of (greater end part.lo) s.hi ∷ []) []) e
          ∙ ap (λ lo. span_of lo s.hi ∷ []) (greater_second end part.lo (upto_greater end s.lo))) i ++ []
      | false ↦ λ e. refl
    ] refl

pub first_taken : (end : List ℕ) (s : KeySpan) (ss out moved left : List KeySpan) → moved ≡ out ++ part_below end s
    → left ≡ part_from end s ++ ss
    → moved ++ flat_map (part_below end) left ≡ out ++ flat_map (part_below end) (s ∷ ss)
first_taken end s ss out moved left m l =
    (λ i. m i ++ flat_map (part_below end) (l i))
    ∙ ap (λ xs. (out ++ part_below end s) ++ xs) (flat_map-append (part_below end) (part_from end s) ss
    ∙ ap (λ xs. xs ++ flat_map (part_below end) ss) (none_of_left end s))
    ∙ append_assoc out (part_below end s) (flat_map (part_below end) ss)

pub first_left : (end : List ℕ) (s : KeySpan) (ss left : List KeySpan) → left ≡ part_from end s ++ ss
    → flat_map (part_from end) left ≡ flat_map (part_from end) (s ∷ ss)
first_left end s ss left l =
    ap (flat_map (part_from end)) l ∙ flat_map-append (part_from end) (part_from end s) ss
    ∙ ap (λ xs. xs ++ flat_map (part_from end) ss) (left_again end s)

-- ---- in form

above_from : (bytes end : List ℕ) (s : KeySpan) → is_below bytes s.lo ≡ true → Above bytes (part_from end s)
above_from bytes end s above =
    let P = λ (t : KeySpan). is_below bytes t.lo ≡ true in
    elim (is_below end s.hi) as (λ b. Above bytes (cond b (span_of (greater end s.lo) s.hi ∷ []) [])) [
      | true ↦ All-cons P (span_of (greater end s.lo) s.hi) [] (below_upto bytes s.lo (greater end s.lo) above (second_upto end s.lo))
          (All-nil P)
      | false ↦ All-nil P
    ]
  where
    second_upto : (a b : List ℕ) → is_below (greater a b) b ≡ false
    second_upto a b =
        elim (is_below a b) as (λ t. is_below a b ≡ t → is_below (cond t b a) b ≡ false) [
          | true ↦ λ e. below_itself b
          | false ↦ λ e. e
        ] refl

above_all_from : (bytes end : List ℕ) (spans : List KeySpan) → Above bytes spans → Above bytes (flat_map (part_from end) spans)
above_all_from bytes end [] above = All-nil (λ s. is_below bytes s.lo ≡ true)
above_all_from bytes end (s ∷ ss) above =
    let P = λ (t : KeySpan). is_below bytes t.lo ≡ true in
    All-append P (part_from end s) (flat_map (part_from end) ss) (above_from bytes end s (All-head P s ss above))
    (above_all_from bytes end ss (All-tail P s ss above))

from_is_span : (end : List ℕ) (s : KeySpan) → IsEnd end → IsSpan s → is_below end s.hi ≡ true → IsSpan (span_of (greater end s.lo) s.hi)
from_is_span end s of is reaches = record {
  lo = greater_is_end end s.lo of is.lo;
  hi = is.hi;
  rises = elim (is_below end s.lo) as (λ b. is_below (cond b s.lo end) s.hi ≡ true) [
    | true ↦ is.rises
    | false ↦ reaches
  ];
}

-- the part of the first behind the end, before spans that follow it
pub normal_with_left : (end : List ℕ) (s : KeySpan) (ss : List KeySpan) → IsEnd end → IsSpan s → Above s.hi ss → Normal ss
    → Normal (part_from end s ++ ss)
normal_with_left end s ss of is above normal =
    elim (is_below end s.hi) as (λ b. is_below end s.hi ≡ b → Normal (cond b (span_of (greater end s.lo) s.hi ∷ []) [] ++ ss)) [
      | true ↦ λ e. (from_is_span end s of is e, above, normal)
      | false ↦ λ e. normal
    ] refl

pub normal_from : (end : List ℕ) (spans : List KeySpan) → IsEnd end → Normal spans → Normal (flat_map (part_from end) spans)
normal_from end [] of normal = tt
normal_from end (s ∷ ss) of normal =
    normal_with_left end s (flat_map (part_from end) ss) of normal.0 (above_all_from s.hi end ss normal.1) (normal_from end ss of normal.2)

above_below : (bytes end : List ℕ) (spans : List KeySpan) → Above bytes spans → Above bytes (flat_map (part_below end) spans)
above_below bytes end [] above = All-nil (λ s. is_below bytes s.lo ≡ true)
above_below bytes end (s ∷ ss) above =
    let P = λ (t : KeySpan). is_below bytes t.lo ≡ true in
    All-append P (part_below end s) (flat_map (part_below end) ss)
    (elim (is_below s.lo end) as (λ b. Above bytes (cond b (span_of s.lo (lesser end s.hi) ∷ []) [])) [
      | true ↦ All-cons P (span_of s.lo (lesser end s.hi)) [] (All-head P s ss above) (All-nil P)
      | false ↦ All-nil P
    ])
    (above_below bytes end ss (All-tail P s ss above))

below_is_span : (end : List ℕ) (s : KeySpan) → IsEnd end → IsSpan s → is_below s.lo end ≡ true → IsSpan (span_of s.lo (lesser end s.hi))
below_is_span end s of is begins = record {
  lo = is.lo;
  hi = lesser_is_end end s.hi of is.hi;
  rises = below-lesser s.lo end s.hi ∙ (λ i. begins i && is.rises i);
}

-- the lesser end is below what the span's own end is below
above_lesser : (end : List ℕ) (s : KeySpan) (spans : List KeySpan) → Above s.hi spans → Above (lesser end s.hi) spans
above_lesser end s spans above =
    elim (is_below s.hi end) as (λ b. is_below s.hi end ≡ b → Above (cond b s.hi end) spans) [
      | true ↦ λ e. above
      | false ↦ λ e. All-weaker (λ t. is_below s.hi t.lo ≡ true) (λ t. is_below end t.lo ≡ true) (λ t h. upto_below end s.hi t.lo e h)
          spans above
    ] refl

pub normal_below : (end : List ℕ) (spans : List KeySpan) → IsEnd end → Normal spans → Normal (flat_map (part_below end) spans)
normal_below end [] of normal = tt
normal_below end (s ∷ ss) of normal =
    let rest = flat_map (part_below end) ss in
    let later = normal_below end ss of normal.2 in
    elim (is_below s.lo end) as (λ b. is_below s.lo end ≡ b → Normal (cond b (span_of s.lo (lesser end s.hi) ∷ []) [] ++ rest)) [
      | true ↦ λ e. (below_is_span end s of normal.0 e, above_lesser end s rest (above_below s.hi end ss normal.1), later)
      | false ↦ λ e. later
    ] refl

-- ---- between a start and an end

-- the greater of two starts is below an end where both are
greater_below : (a b c : List ℕ) → is_below a c ≡ true → is_below (greater a b) c ≡ is_below b c
greater_below a b c h =
    elim (is_below a b) as (λ t. is_below a b ≡ t → is_below (cond t b a) c ≡ is_below b c) [
      | true ↦ λ e. refl
      | false ↦ λ e. h ∙ sym (upto_below b a c e h)
    ] refl

part_between : (lo hi : List ℕ) (s : KeySpan) → is_below lo hi ≡ true
    → flat_map (part_below hi) (part_from lo s) ≡ part_within (span_of lo hi) s
part_between lo hi s rises =
    let bounds = span_of lo hi in
    let cut = span_of (greater lo s.lo) (lesser hi s.hi) in
    elim (is_below lo s.hi) as (λ b. is_below lo s.hi ≡ b → flat_map (part_below hi) (cond b (span_of (greater lo s.lo) s.hi ∷ []) []) ≡
    part_within bounds s) [
      | true ↦ λ e.
          append_nothing (cond (is_below (greater lo s.lo) hi) (cut ∷ []) [])
          ∙ ap (λ b. cond b (cut ∷ []) [])
          (greater_below lo s.lo hi rises ∙ ap (λ b. b && is_below s.lo hi) (sym e) ∙ sym (overlap-ends bounds s))
      | false ↦ λ e. ap (λ b. cond b (cut ∷ []) []) (ap (λ b. b && is_below s.lo hi) (sym e) ∙ sym (overlap-ends bounds s))
    ] refl
  where
    append_nothing : (xs : List KeySpan) → xs ++ [] ≡ xs
    append_nothing [] = refl
    append_nothing (x ∷ xs) = ap (λ ys. x ∷ ys) (append_nothing xs)

pub spans_between : (lo hi : List ℕ) (spans : List KeySpan) → is_below lo hi ≡ true
    → flat_map (part_below hi) (flat_map (part_from lo) spans) ≡ cut_to (span_of lo hi) spans
spans_between lo hi [] rises = refl
spans_between lo hi (s ∷ ss) rises =
    flat_map-append (part_below hi) (part_from lo s) (flat_map (part_from lo) ss)
    ∙ (λ i. part_between lo hi s rises i ++ spans_between lo hi ss rises i)

-- from an end on, and then from a later one on
part_from_later : (lo hi : List ℕ) (s : KeySpan) → is_below lo hi ≡ true → flat_map (part_from hi) (part_from lo s) ≡ part_from hi s
part_from_later lo hi s rises =
    let part = span_of (greater lo s.lo) s.hi in
    elim (is_below lo s.hi) as (λ b. is_below lo s.hi ≡ b → flat_map (part_from hi) (cond b (part ∷ []) []) ≡ part_from hi s) [
      | true ↦ λ e. append_nothing (part_from hi part)
          ∙ ap (λ l. cond (is_below hi s.hi) (span_of l s.hi ∷ []) []) (same_greater lo hi s.lo rises)
      | false ↦ λ e. sym (from_none hi s (not_reached lo hi s.hi rises e))
    ] refl
  where
    append_nothing : (xs : List KeySpan) → xs ++ [] ≡ xs
    append_nothing [] = refl
    append_nothing (x ∷ xs) = ap (λ ys. x ∷ ys) (append_nothing xs)

    same_greater : (a b c : List ℕ) → is_below a b ≡ true → greater b (greater a c) ≡ greater b c
    same_greater a b c h =
        elim (is_below a c) as (λ t. is_below a c ≡ t → greater b (cond t c a) ≡ greater b c) [
          | true ↦ λ e. refl
          | false ↦ λ e. greater_first b a (below_one_way a b h) ∙ sym (greater_first b c (below_one_way c b (upto_below c a b e h)))
        ] refl

    not_reached : (a b c : List ℕ) → is_below a b ≡ true → is_below a c ≡ false → is_below b c ≡ false
    not_reached a b c h e =
        elim (is_below b c) as (λ t. is_below b c ≡ t → t ≡ false) [
          | true ↦ λ k. sym (below_chain a b c h k) ∙ e
          | false ↦ λ k. refl
        ] refl

pub spans_from_later : (lo hi : List ℕ) (spans : List KeySpan) → is_below lo hi ≡ true
    → flat_map (part_from hi) (flat_map (part_from lo) spans) ≡ flat_map (part_from hi) spans
spans_from_later lo hi [] rises = refl
spans_from_later lo hi (s ∷ ss) rises =
    flat_map-append (part_from hi) (part_from lo s) (flat_map (part_from lo) ss)
    ∙ (λ i. part_from_later lo hi s rises i ++ spans_from_later lo hi ss rises i)

-- ---- one step of a loop that takes spans out

abbrev pub begins_before : List ℕ → KeySpan → Bool
begins_before end s = is_below s.lo end

-- what a step takes out of the first of these spans and leaves of it
pub record IsStep (end : List ℕ) (spans out moved left : List KeySpan) : Type 0 where
  pub taken : (first : KeySpan) (rest : List KeySpan) → spans ≡ first ∷ rest → moved ≡ out ++ part_below end first
  pub kept : (first : KeySpan) (rest : List KeySpan) → spans ≡ first ∷ rest → left ≡ part_from end first ++ rest

pub step_taken : (end : List ℕ) (spans out moved left : List KeySpan) → begins_below end spans ≡ true → IsStep end spans out moved left
    → moved ++ flat_map (part_below end) left ≡ out ++ flat_map (part_below end) spans
step_taken end [] out moved left begins step = cc
step_taken end (s ∷ ss) out moved left begins step = first_taken end s ss out moved left (step.taken s ss refl) (step.kept s ss refl)

pub step_left : (end : List ℕ) (spans out moved left : List KeySpan) → begins_below end spans ≡ true → IsStep end spans out moved left
    → flat_map (part_from end) left ≡ flat_map (part_from end) spans
step_left end [] out moved left begins step = cc
step_left end (s ∷ ss) out moved left begins step = first_left end s ss left (step.kept s ss refl)

pub step_normal : (end : List ℕ) (spans out moved left : List KeySpan) → IsEnd end → Normal spans → begins_below end spans ≡ true
    → IsStep end spans out moved left → Normal left
step_normal end [] out moved left is normal begins step = cc
step_normal end (s ∷ ss) out moved left is normal begins step =
    subst Normal (sym (step.kept s ss refl)) (normal_with_left end s ss is normal.0 normal.1 normal.2)

-- what is left of the first doesn't begin before the end
none_begins : (end : List ℕ) (s : KeySpan) (ss : List KeySpan)
    → filter (begins_before end) (part_from end s ++ ss) ≡ filter (begins_before end) ss
none_begins end s ss =
    let part = span_of (greater end s.lo) s.hi in
    let rest = filter (begins_before end) ss in
    elim (is_below end s.hi) as (λ b. filter (begins_before end) (cond b (part ∷ []) [] ++ ss) ≡ rest) [
      | true ↦ ap (λ b. cond b (part ∷ rest) rest) (upto_greater end s.lo)
      | false ↦ refl
    ]

pub step_fewer : (end : List ℕ) (spans out moved left : List KeySpan) → begins_below end spans ≡ true → IsStep end spans out moved left
    → length (filter (begins_before end) left) < length (filter (begins_before end) spans)
step_fewer end [] out moved left begins step = cc
step_fewer end (s ∷ ss) out moved left begins step =
    let rest = filter (begins_before end) ss in
    let now : filter (begins_before end) left ≡ rest = ap (filter (begins_before end)) (step.kept s ss refl) ∙ none_begins end s ss in
    let before : filter (begins_before end) (s ∷ ss) ≡ s ∷ rest = ap (λ b. cond b (s ∷ rest) rest) begins in
    omega (arith, ap length now, ap length before)
