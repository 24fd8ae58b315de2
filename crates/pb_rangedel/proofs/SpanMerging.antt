-- A span added behind others, and the merge of two lists of spans.
use Rattle.std.proofs.Common.{◌≡◌, ℕ, ◌+◌, ◌<◌, ◌≤◌, List, [], ◌∷◌, ◌++◌, length, get_or, Bool, true, false, refl, sym, ap, ◌∙◌, subst, arith, take}
use Rattle.std.specs.Prelude.{All, Some, ◌||◌}
use Rattle.std.proofs.lemmas.List.{take_all, take_more, get_or_default}
use Rattle.std.proofs.lemmas.List.Elements.{All-cons, All-head, All-tail, All-nil, All-weaker, All-pop, All-push, All-more}
use Rattle.std.proofs.lemmas.List.Folds.{list_any-append}
use Rattle.pb_keys.specs.Order.{is_below}
use Rattle.pb_keys.specs.Span.{KeySpan, IsSpan, holds_key, joined}
use Rattle.pb_keys.proofs.OrderFacts.{below_itself, below_one_way, below_chain, upto_chain}
use Rattle.pb_rangedel.specs.Spans.{BeginUpto}
use Rattle.pb_rows.specs.Layer.{AreApart}
use Rattle.pb_rows.specs.Over.{union_of}
use Rattle.pb_rows.specs.Verdict.{is_covered}
use Rattle.pb_keys.proofs.SpanFacts.{joined_is_span}
use Rattle.pb_rows.proofs.SpanLaws.{holds-joined, is_covered-union_of}
use Rattle.pb_keys.proofs.EndFacts.{lesser_first}
use Rattle.pb_keys.proofs.Tests.{or_false, either_groups, either_turns}
use Rattle.pb_rows.proofs.NormalSpans.{Normal, normal_from_apart, apart_from_normal, normal-union_of, same_normal}

-- ---- one more span at the end

pub covered_push : (xs : List KeySpan) (s : KeySpan) (key : List ℕ) → is_covered (xs ++ s ∷ []) key ≡ (is_covered xs key || holds_key s key)
covered_push xs s key = list_any-append (λ span. holds_key span key) xs (s ∷ []) ∙ ap (λ b. is_covered xs key || b) (or_false (holds_key s key))

-- each span ends below these bytes
abbrev pub EndBelow : List ℕ → List KeySpan → Type 0
EndBelow bytes spans = All (λ span. is_below span.hi bytes ≡ true) spans

pub record NormalParts (xs : List KeySpan) (s : KeySpan) : Type 0 where
  pub front : Normal xs
  pub last : IsSpan s
  pub below : EndBelow s.lo xs

pub normal_parts : (xs : List KeySpan) (s : KeySpan) → Normal (xs ++ s ∷ []) → NormalParts xs s
normal_parts [] s normal = record { front = tt; last = normal.0; below = All-nil (λ span. is_below span.hi s.lo ≡ true) }
normal_parts (x ∷ xs) s normal =
    let P = λ (span : KeySpan). is_below x.hi span.lo ≡ true in
    let rest = normal_parts xs s normal.2 in
    let parts = All-pop P (xs ++ s ∷ []) xs (Some s) refl normal.1 in
    record {
      front = (normal.0, parts.0, rest.front);
      last = rest.last;
      below = All-cons (λ span. is_below span.hi s.lo ≡ true) x xs parts.1 rest.below;
    }

pub normal_push : (xs : List KeySpan) (s : KeySpan) → Normal xs → IsSpan s → EndBelow s.lo xs → Normal (xs ++ s ∷ [])
normal_push [] s normal is below = (is, All-nil (λ span. is_below s.hi span.lo ≡ true), tt)
normal_push (x ∷ xs) s normal is below =
    let P = λ (span : KeySpan). is_below span.hi s.lo ≡ true in (
      normal.0,
      All-push (λ span. is_below x.hi span.lo ≡ true) xs s normal.1 (All-head P x xs below),
      normal_push xs s normal.2 is (All-tail P x xs below),
    )

-- ---- what one added span makes of a list

pub added_first : (next : KeySpan) → IsSpan next → AreApart (next ∷ []) × BeginUpto next.lo (next ∷ [])
added_first next is = (λ k d h. absurd (omega arith), All-cons (λ span. is_below next.lo span.lo ≡ false) next [] (below_itself next.lo) (All-nil (λ span. is_below next.lo span.lo ≡ false)))

past_last : (last next : KeySpan) → IsSpan next → is_below next.lo last.lo ≡ false → (is_below last.hi next.lo || is_below next.hi last.lo) ≡ true → is_below last.hi next.lo ≡ true
past_last last next is from test =
    elim (is_below last.hi next.lo) as (λ b. (b || is_below next.hi last.lo) ≡ true → b ≡ true) [
      | true ↦ λ _. refl
      | false ↦ λ e. let back : is_below next.lo last.lo ≡ true = below_chain next.lo next.hi last.lo is.rises e in cc
    ] test

pub added_behind : (old init : List KeySpan) (last next : KeySpan) → old ≡ init ++ last ∷ [] → All IsSpan old → IsSpan next → (is_below last.hi next.lo || is_below next.hi last.lo) ≡ true → BeginUpto next.lo old → AreApart old → AreApart (old ++ next ∷ []) × BeginUpto next.lo (old ++ next ∷ [])
added_behind old init last next e are is test begin apart =
    let P = λ (span : KeySpan). is_below next.lo span.lo ≡ false in
    let whole = normal_from_apart old are apart in
    let parts = normal_parts init last (subst Normal e whole) in
    let from = (All-pop P old init (Some last) e begin).1 in
    let past = past_last last next is from test in
    let below : EndBelow next.lo (init ++ last ∷ []) = All-push (λ span. is_below span.hi next.lo ≡ true) init last
    (All-weaker (λ span. is_below span.hi last.lo ≡ true) (λ span. is_below span.hi next.lo ≡ true) (λ s h. below_chain s.hi last.lo next.lo h (below_chain last.lo last.hi next.lo parts.last.rises past)) init parts.below) past in (
      apart_from_normal (old ++ next ∷ []) (normal_push old next whole is (subst (EndBelow next.lo) (sym e) below)),
      All-push P old next begin (below_itself next.lo),
    )

pub added_joined : (old init : List KeySpan) (last next : KeySpan) → old ≡ init ++ last ∷ [] → All IsSpan old → IsSpan next → BeginUpto next.lo old → AreApart old → AreApart (init ++ joined last next ∷ []) × BeginUpto next.lo (init ++ joined last next ∷ [])
added_joined old init last next e are is begin apart =
    let P = λ (span : KeySpan). is_below next.lo span.lo ≡ false in
    let parts = normal_parts init last (subst Normal e (normal_from_apart old are apart)) in
    let begins = All-pop P old init (Some last) e begin in
    let from : (joined last next).lo ≡ last.lo = lesser_first last.lo next.lo begins.1 in (
      apart_from_normal (init ++ joined last next ∷ []) (normal_push init (joined last next) parts.front (joined_is_span last next parts.last is) (subst (λ lo. EndBelow lo init) (sym from) parts.below)),
      All-push P init (joined last next) begins.0 (subst (λ lo. is_below next.lo lo ≡ false) (sym from) begins.1),
    )

pub covered_joined : (old init : List KeySpan) (last next : KeySpan) → old ≡ init ++ last ∷ [] → (is_below last.hi next.lo || is_below next.hi last.lo) ≡ false → (key : List ℕ) → is_covered (init ++ joined last next ∷ []) key ≡ (is_covered old key || holds_key next key)
covered_joined old init last next e test key =
    covered_push init (joined last next) key
    ∙ ap (λ b. is_covered init key || b) (holds-joined last next key (neither_first (is_below last.hi next.lo) (is_below next.hi last.lo) test) (neither_second (is_below last.hi next.lo) (is_below next.hi last.lo) test))
    ∙ sym (either_groups (is_covered init key) (holds_key last key) (holds_key next key))
    ∙ ap (λ b. b || holds_key next key) (sym (covered_push init last key) ∙ ap (λ spans. is_covered spans key) (sym e))
  where
    neither_first : (a b : Bool) → (a || b) ≡ false → a ≡ false
    neither_first true b h = h
    neither_first false b h = refl

    neither_second : (a b : Bool) → (a || b) ≡ false → b ≡ false
    neither_second true b h = cc
    neither_second false b h = h

-- ---- two lists, up to a place in each

pub record IsMerged (a b out : List KeySpan) (left right : ℕ) : Type 0 where
  pub covered : (key : List ℕ) → is_covered out key ≡ (is_covered (take left a) key || is_covered (take right b) key)
  pub in_form : All IsSpan out
  pub left_within : left ≤ length a
  pub right_within : right ≤ length b
  pub left_in_form : All IsSpan (take left a)
  pub right_in_form : All IsSpan (take right b)
  pub apart : AreApart a → AreApart b → AreApart out
  pub next_left : AreApart a → AreApart b → left < length a → (d : KeySpan) → BeginUpto (get_or a left d).lo out
  pub next_right : AreApart a → AreApart b → right < length b → (d : KeySpan) → BeginUpto (get_or b right d).lo out

pub none_merged : (a b : List KeySpan) → IsMerged a b [] 0 0
none_merged a b = record {
  covered = λ key. refl;
  in_form = All-nil IsSpan;
  left_within = omega arith;
  right_within = omega arith;
  left_in_form = All-nil IsSpan;
  right_in_form = All-nil IsSpan;
  apart = λ _ _ k d h. absurd (omega arith);
  next_left = λ _ _ _ d. All-nil (λ span. is_below (get_or a 0 d).lo span.lo ≡ false);
  next_right = λ _ _ _ d. All-nil (λ span. is_below (get_or b 0 d).lo span.lo ≡ false);
}

pub turned_merge : (a b out : List KeySpan) (left right : ℕ) → IsMerged a b out left right → IsMerged b a out right left
turned_merge a b out left right m = record {
  covered = λ key. m.covered key ∙ either_turns (is_covered (take left a) key) (is_covered (take right b) key);
  in_form = m.in_form;
  left_within = m.right_within;
  right_within = m.left_within;
  left_in_form = m.right_in_form;
  right_in_form = m.left_in_form;
  apart = λ q p. m.apart p q;
  next_left = λ q p. m.next_right p q;
  next_right = λ q p. m.next_left p q;
}

last_turns : (x y h : Bool) → ((x || y) || h) ≡ ((x || h) || y)
last_turns true y h = refl
last_turns false true true = refl
last_turns false true false = refl
last_turns false false true = refl
last_turns false false false = refl

begin_more : (p q : List ℕ) (spans : List KeySpan) → is_below q p ≡ false → BeginUpto p spans → BeginUpto q spans
begin_more p q spans h begin = All-weaker (λ span. is_below p span.lo ≡ false) (λ span. is_below q span.lo ≡ false) (λ s k. upto_chain s.lo p q k h) spans begin

-- s is the span at the place in the first list
pub merged_left : (a b out new : List KeySpan) (left right : ℕ) (s : KeySpan) → IsMerged a b out left right → s ≡ get_or a left s → left < length a → IsSpan s → (right < length b → (d : KeySpan) → is_below (get_or b right d).lo (get_or a left d).lo ≡ false) → ((key : List ℕ) → is_covered new key ≡ (is_covered out key || holds_key s key)) → All IsSpan new → (BeginUpto s.lo out → AreApart out → AreApart new × BeginUpto s.lo new) → IsMerged a b new (left + 1) right
merged_left a b out new left right s m s_is within is before covered are added =
    let here : (d : KeySpan) → get_or a left d ≡ s = λ d. get_or_default a left d s within ∙ sym s_is in
    let more : take (left + 1) a ≡ take left a ++ s ∷ [] = take_more a left s within ∙ ap (λ x. take left a ++ x ∷ []) (here s) in
    let new_is = λ (p : AreApart a) (q : AreApart b). added (subst (λ x. BeginUpto x.lo out) (here s) (m.next_left p q within s)) (m.apart p q) in
    record {
      covered = λ key. covered key ∙ ap (λ t. t || holds_key s key) (m.covered key)
          ∙ last_turns (is_covered (take left a) key) (is_covered (take right b) key) (holds_key s key)
          ∙ ap (λ t. t || is_covered (take right b) key) (sym (covered_push (take left a) s key) ∙ ap (λ spans. is_covered spans key) (sym more));
      in_form = are;
      left_within = omega arith;
      right_within = m.right_within;
      left_in_form = All-more IsSpan a left s within m.left_in_form (subst IsSpan (sym (here s)) is);
      right_in_form = m.right_in_form;
      apart = λ p q. (new_is p q).0;
      next_left = λ p q later d.
          let follows : is_below s.hi (get_or a (left + 1) d).lo ≡ true = subst (λ x. is_below x.hi (get_or a (left + 1) d).lo ≡ true) (here d) (p left d later) in
          begin_more s.lo (get_or a (left + 1) d).lo new (below_one_way s.lo (get_or a (left + 1) d).lo (below_chain s.lo s.hi (get_or a (left + 1) d).lo is.rises follows)) (new_is p q).1;
      next_right = λ p q inside d. begin_more s.lo (get_or b right d).lo new (subst (λ x. is_below (get_or b right d).lo x.lo ≡ false) (here d) (before inside d)) (new_is p q).1;
    }

-- ---- at the end of both

pub record IsUnion (a b out : List KeySpan) : Type 0 where
  pub covered : (key : List ℕ) → is_covered out key ≡ (is_covered a key || is_covered b key)
  pub in_form : All IsSpan out
  pub apart : AreApart a → AreApart b → AreApart out
  pub exact : AreApart a → AreApart b → out ≡ union_of a b

pub all_merged : (a b out : List KeySpan) (left right : ℕ) → IsMerged a b out left right → length a ≤ left → length b ≤ right → IsUnion a b out
all_merged a b out left right m left_end right_end =
    let whole_a : take left a ≡ a = take_all left a left_end in
    let whole_b : take right b ≡ b = take_all right b right_end in
    let covered : (key : List ℕ) → is_covered out key ≡ (is_covered a key || is_covered b key) = λ key. m.covered key ∙ (λ i. is_covered (whole_a i) key || is_covered (whole_b i) key) in
    record {
      covered = covered;
      in_form = m.in_form;
      apart = m.apart;
      exact = λ p q. same_normal out (union_of a b) (normal_from_apart out m.in_form (m.apart p q))
          (normal-union_of a b (subst (All IsSpan) whole_a m.left_in_form) (normal_from_apart b (subst (All IsSpan) whole_b m.right_in_form) q))
          (λ key. covered key ∙ sym (is_covered-union_of a b key));
    }
