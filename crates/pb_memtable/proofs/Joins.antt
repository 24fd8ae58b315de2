-- A span put among deletions: those before it, those that it touches, and those behind.
use Rattle.std.proofs.Common.{◌≡◌, ℕ, ◌+◌, ◌-◌, ◌<◌, ◌≤◌, List, [], ◌∷◌, ◌++◌, length, get_or, take, drop, true, false, cond, refl, sym, ap, ◌∙◌, subst, arith, inl, inr}
use Rattle.std.specs.Prelude.{All, not}
use Rattle.std.specs.List.{between}
use Rattle.std.specs.List.Sorted.{IsPartitionedBy, IsPartitionPoint}
use Rattle.std.proofs.lemmas.Bool.{cases_lt, not-true, not-false}
use Rattle.std.proofs.lemmas.List.{get_or-drop, get_or-take, length-take-le, length-drop, get_or_default}
use Rattle.std.proofs.lemmas.List.Edits.{split_between, get_or-between, length-between}
use Rattle.std.proofs.lemmas.List.Elements.{All-head, All-tail}
use Rattle.pb_keys.specs.Order.{is_below, lesser, greater}
use Rattle.pb_keys.specs.Span.{KeySpan, IsSpan, joined}
use Rattle.pb_keys.proofs.OrderFacts.{below_one_way, below_chain, upto_chain}
use Rattle.pb_keys.proofs.SpanFacts.{lesser_upto, upto_greater}
use Rattle.pb_memtable.specs.Joining.{IsTouched, Touch}
use Rattle.pb_rows.specs.Layer.{AreApart}
use Rattle.pb_rows.specs.Over.{with_span}
use Rattle.pb_rows.proofs.LookLaws.{spans_follow, spans_apart}

-- the span, as one with each of these
abbrev pub joined_all : KeySpan → List KeySpan → KeySpan
joined_all s [] = s
joined_all s (t ∷ ts) = joined_all (joined s t) ts

-- what touches a span touches a longer one
touch_more : (s t u : KeySpan) → Touch s u → Touch (joined s t) u
touch_more s t u touch = record {
  front = upto_chain (lesser s.lo t.lo) s.lo u.hi (lesser_upto s.lo t.lo) touch.front;
  back = upto_chain u.lo s.hi (greater s.hi t.hi) touch.back (upto_greater s.hi t.hi);
}

touched_more : (s t : KeySpan) (us : List KeySpan) → All (Touch s) us → All (Touch (joined s t)) us
touched_more s t us all k d h = touch_more s t (get_or us k d) (all k d h)

touched_one : (s t : KeySpan) (ts back : List KeySpan) → Touch s t → with_span s (t ∷ (ts ++ back)) ≡ with_span (joined s t) (ts ++ back)
touched_one s t ts back touch =
    (λ i. cond (touch.back i) (s ∷ t ∷ (ts ++ back)) (cond (touch.front i) (t ∷ with_span s (ts ++ back)) (with_span (joined s t) (ts ++ back))))

pub joins : (s : KeySpan) (mid back : List KeySpan) → All (Touch s) mid → with_span s (mid ++ back) ≡ with_span (joined_all s mid) back
joins s [] back all = refl
joins s (t ∷ ts) back all = touched_one s t ts back (All-head (Touch s) t ts all) ∙ joins (joined s t) ts back (touched_more s t ts (All-tail (Touch s) t ts all))

-- alone among those that it touches
pub joins_all : (s : KeySpan) (mid : List KeySpan) → All (Touch s) mid → with_span s mid ≡ joined_all s mid ∷ []
joins_all s [] all = refl
joins_all s (t ∷ ts) all =
    (λ i. cond ((All-head (Touch s) t ts all).back i) (s ∷ t ∷ ts) (cond ((All-head (Touch s) t ts all).front i) (t ∷ with_span s ts) (with_span (joined s t) ts)))
    ∙ joins_all (joined s t) ts (touched_more s t ts (All-tail (Touch s) t ts all))

-- the spans before it stay
pub behind_front : (s : KeySpan) (front rest : List KeySpan) → IsSpan s → All IsSpan front → All (λ t. is_below t.hi s.lo ≡ true) front → with_span s (front ++ rest) ≡ front ++ with_span s rest
behind_front s [] rest is are below = refl
behind_front s (t ∷ front) rest is are below =
    let end : is_below t.hi s.lo ≡ true = All-head (λ (u : KeySpan). is_below u.hi s.lo ≡ true) t front below in
    let start : is_below s.hi t.lo ≡ false = below_one_way t.lo s.hi (below_chain t.lo t.hi s.hi (All-head IsSpan t front are).rises (below_chain t.hi s.lo s.hi end is.rises)) in
    (λ i. cond (start i) (s ∷ t ∷ (front ++ rest)) (cond (end i) (t ∷ with_span s (front ++ rest)) (with_span (joined s t) (front ++ rest))))
    ∙ ap (λ spans. t ∷ spans) (behind_front s front rest is (All-tail IsSpan t front are) (All-tail (λ (u : KeySpan). is_below u.hi s.lo ≡ true) t front below))

-- the spans behind it stay
before_back : (s : KeySpan) (back : List KeySpan) → All (λ t. is_below s.hi t.lo ≡ true) back → with_span s back ≡ s ∷ back
before_back s [] below = refl
before_back s (t ∷ back) below =
    (λ i. cond (All-head (λ (u : KeySpan). is_below s.hi u.lo ≡ true) t back below i) (s ∷ t ∷ back) (cond (is_below t.hi s.lo) (t ∷ with_span s back) (with_span (joined s t) back)))

greater_below : (a b c : List ℕ) → is_below a c ≡ true → is_below b c ≡ true → is_below (greater a b) c ≡ true
greater_below a b c h k = elim (is_below a b) as (λ t. is_below (cond t b a) c ≡ true) [ true ↦ k | false ↦ h ]

-- the end of the span and of all that it touches is below what both are below
ends_below : (s : KeySpan) (mid : List KeySpan) (bytes : List ℕ) → is_below s.hi bytes ≡ true → All (λ t. is_below t.hi bytes ≡ true) mid → is_below (joined_all s mid).hi bytes ≡ true
ends_below s [] bytes h all = h
ends_below s (t ∷ ts) bytes h all =
    let P = λ (u : KeySpan). is_below u.hi bytes ≡ true in
    ends_below (joined s t) ts bytes (greater_below s.hi t.hi bytes h (All-head P t ts all)) (All-tail P t ts all)

-- ---- by places

pub all_touched : (span : KeySpan) (dels : List KeySpan) (from to : ℕ) → IsTouched span dels from to → All (Touch span) (between from to dels)
all_touched span dels from to t k d h =
    let len : length (between from to dels) ≡ to - from = length-between dels from to t.within in
    let here : from + k < to = omega arith in
    subst (Touch span) (sym (get_or-between dels from to k d here)) (t.middle (from + k) d (omega arith) here)

ends_before : (dels : List KeySpan) → All IsSpan dels → AreApart dels → (i j : ℕ) (e d : KeySpan) → i < j → j < length dels → is_below (get_or dels i e).hi (get_or dels j d).lo ≡ true
ends_before dels are apart i j e d h k = subst (λ (u : KeySpan). is_below u.hi (get_or dels j d).lo ≡ true) (get_or_default dels i d e (omega arith)) (spans_apart dels are apart i j d h k)

pub put_among : (span one : KeySpan) (dels : List KeySpan) (from to : ℕ) → IsSpan span → All IsSpan dels → AreApart dels → IsTouched span dels from to → with_span span (between from to dels) ≡ one ∷ [] → take from dels ++ one ∷ drop to dels ≡ with_span span dels
put_among span one dels from to is are apart t is_one =
    let mid = between from to dels in
    let all = all_touched span dels from to t in
    let same : one ∷ [] ≡ joined_all span mid ∷ [] = sym is_one ∙ joins_all span mid all in
    let len_front : length (take from dels) ≡ from = length-take-le from dels (omega (arith, t.rises, t.within)) in
    let back : All (λ (u : KeySpan). is_below (joined_all span mid).hi u.lo ≡ true) (drop to dels) = λ k d h.
    let inside : to + k < length dels = omega (arith, length-drop to dels) in
    subst (λ (u : KeySpan). is_below (joined_all span mid).hi u.lo ≡ true) (sym (get_or-drop to dels k d))
    (ends_below span mid (get_or dels (to + k) d).lo (t.back (to + k) d (omega arith) inside)
    (λ j e g.
    let len : length (between from to dels) ≡ to - from = length-between dels from to t.within in
    let here : from + j < to = omega arith in
    subst (λ (u : KeySpan). is_below u.hi (get_or dels (to + k) d).lo ≡ true) (sym (get_or-between dels from to j e here))
    (ends_before dels are apart (from + j) (to + k) e d (omega arith) inside))) in
    sym (ap (with_span span) (split_between dels from to t.rises)
    ∙ behind_front span (take from dels) (mid ++ drop to dels) is (λ k d h. subst IsSpan (sym (get_or-take from dels k d (omega arith))) (are k d (omega (arith, t.rises, t.within))))
    (λ k d h. subst (λ (u : KeySpan). is_below u.hi span.lo ≡ true) (sym (get_or-take from dels k d (omega arith))) (t.front k d (omega arith)))
    ∙ ap (λ rest. take from dels ++ rest) (joins span mid (drop to dels) all ∙ before_back (joined_all span mid) (drop to dels) back ∙ ap (λ spans. spans ++ drop to dels) (sym same)))

-- ---- halving finds the places

pub ends_are_parted : (spans : List KeySpan) (bytes : List ℕ) → All IsSpan spans → AreApart spans → IsPartitionedBy (λ s. is_below s.hi bytes) spans
ends_are_parted spans bytes are apart i j d h k below =
    elim (cases_lt i j) [
      | inl before ↦
          let s = get_or spans i d in let t = get_or spans j d in
          let f = spans_follow spans are apart i j d before k in
          below_chain s.hi t.hi bytes (below_chain s.hi t.lo t.hi f.apart f.rises) below
      | inr past ↦ let same : j ≡ i = omega arith in subst (λ n. is_below (get_or spans n d).hi bytes ≡ true) same below
    ]

pub begins_are_parted : (spans : List KeySpan) (bytes : List ℕ) → All IsSpan spans → AreApart spans → IsPartitionedBy (λ s. not (is_below bytes s.lo)) spans
begins_are_parted spans bytes are apart i j d h k below =
    elim (cases_lt i j) [
      | inl before ↦
          let s = get_or spans i d in let t = get_or spans j d in
          let f = spans_follow spans are apart i j d before k in
          let less : is_below s.lo t.lo ≡ true = below_chain s.lo s.hi t.lo (are i d (omega arith)).rises f.apart in
          ap not (upto_chain s.lo t.lo bytes (below_one_way s.lo t.lo less) (not-true (is_below bytes t.lo) below))
      | inr past ↦ let same : j ≡ i = omega arith in subst (λ n. not (is_below bytes (get_or spans n d).lo) ≡ true) same below
    ]

pub touched_between : (span : KeySpan) (dels : List KeySpan) (from to : ℕ) → IsSpan span → All IsSpan dels → from ≤ length dels → to ≤ length dels → IsPartitionPoint (λ d. is_below d.hi span.lo ≡ true) (λ d. is_below d.hi span.lo ≡ false) dels from → IsPartitionPoint (λ d. not (is_below span.hi d.lo) ≡ true) (λ d. not (is_below span.hi d.lo) ≡ false) dels to → IsTouched span dels from to
touched_between span dels from to is are from_within to_within starts ends = record {
  rises = elim (cases_lt to from) [
    | inl below ↦
        let one = get_or dels to span in
        let low : is_below one.hi span.lo ≡ true = starts.0 to span (omega arith) below in
        let high : is_below span.hi one.lo ≡ true = not-false (is_below span.hi one.lo) (ends.1 to span (omega arith) (omega arith)) in
        let around : is_below one.hi one.lo ≡ true = below_chain one.hi span.lo one.lo low (below_chain span.lo span.hi one.lo is.rises high) in
        let other : is_below one.hi one.lo ≡ false = below_one_way one.lo one.hi (are to span (omega arith)).rises in
        absurd (cc)
    | inr upto ↦ upto
  ];
  within = to_within;
  front = λ k d h. starts.0 k d (omega arith) h;
  middle = λ k d h g. record { front = starts.1 k d h (omega arith); back = not-true (is_below span.hi (get_or dels k d).lo) (ends.0 k d (omega arith) g) };
  back = λ k d h within. not-false (is_below span.hi (get_or dels k d).lo) (ends.1 k d h within);
}

pub apart_between : (dels : List KeySpan) (from to : ℕ) → to ≤ length dels → AreApart dels → AreApart (between from to dels)
apart_between dels from to within apart k d h =
    let len : length (between from to dels) ≡ to - from = length-between dels from to within in
    let first : from + k < to = omega arith in
    let second : from + (k + 1) < to = omega arith in
    let next : from + k + 1 ≡ from + (k + 1) = omega arith in
    (λ i. is_below (get_or-between dels from to k d first i).hi (get_or-between dels from to (k + 1) d second i).lo)
    ∙ subst (λ n. is_below (get_or dels (from + k) d).hi (get_or dels n d).lo ≡ true) next (apart (from + k) d (omega arith))
