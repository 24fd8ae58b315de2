-- Lists of spans that ascend and neither overlap nor touch, by recursion, and that one alone holds the same keys.
use Rattle.std.proofs.Common.{◌≡◌, ℕ, zero, suc, ◌+◌, List, [], ◌∷◌, length, get_or, true, false, cond, refl, sym, ap, ◌∙◌, subst, arith}
use Rattle.std.specs.Prelude.{All, not, ◌&&◌, ◌||◌}
use Rattle.std.proofs.lemmas.List.Elements.{All-cons, All-head, All-tail, All-nil, All-weaker}
use Rattle.std.proofs.lemmas.List.{take_all}
use Rattle.pb_keys.specs.Order.{is_below, is_upto}
use Rattle.pb_keys.specs.Key.{prefix_of, suffix_start}
use Rattle.pb_keys.specs.Span.{KeySpan, IsSpan, IsEnd, span_of, holds_key, joined}
use Rattle.pb_keys.proofs.KeyFacts.{suffix_start_is}
use Rattle.pb_keys.proofs.OrderFacts.{below_itself, below_one_way, below_chain, below_upto, same_bytes}
use Rattle.pb_keys.proofs.SpanFacts.{holds_key-ends, joined_is_span}
use Rattle.pb_rows.specs.Layer.{AreApart, EndsBelow}
use Rattle.pb_rows.specs.Over.{with_span, union_of}
use Rattle.pb_rows.specs.Verdict.{is_covered}
use Rattle.pb_rows.proofs.LookLaws.{spans_apart}
use Rattle.pb_keys.proofs.EndFacts.{below-lesser}
use Rattle.pb_keys.proofs.SpanFacts.{held_from, held_to}
use Rattle.std.proofs.lemmas.Bool.{and_from, false_from_ne_true}

-- each span begins above these bytes
abbrev pub Above : List ℕ → List KeySpan → Type 0
Above bytes spans = All (λ span. is_below bytes span.lo ≡ true) spans

-- each is a span, and each later one begins above its end
abbrev pub Normal : List KeySpan → Type 0
Normal [] = Unit {0}
Normal (s ∷ ss) = IsSpan s × Above s.hi ss × Normal ss

pub normal_from_apart : (spans : List KeySpan) → All IsSpan spans → AreApart spans → Normal spans
normal_from_apart [] are apart = tt
normal_from_apart (s ∷ ss) are apart = (
  All-head IsSpan s ss are,
  λ k d h. spans_apart (s ∷ ss) are apart 0 (suc k) d (omega arith) (omega arith),
  normal_from_apart ss (All-tail IsSpan s ss are) (λ k d h.
      let next : suc k + 1 ≡ suc (k + 1) = omega arith in
      subst (λ n. EndsBelow (get_or ss k d) (get_or (s ∷ ss) n d)) next (apart (suc k) d (omega arith))),
)

pub spans_from_normal : (spans : List KeySpan) → Normal spans → All IsSpan spans
spans_from_normal [] normal = All-nil IsSpan
spans_from_normal (s ∷ ss) normal = All-cons IsSpan s ss normal.0 (spans_from_normal ss normal.2)

pub apart_from_normal : (spans : List KeySpan) → Normal spans → AreApart spans
apart_from_normal [] normal k d h = absurd (omega arith)
apart_from_normal (s ∷ ss) normal zero d h = normal.1 0 d (omega arith)
apart_from_normal (s ∷ ss) normal (suc k) d h =
    let next : suc (k + 1) ≡ suc k + 1 = omega arith in
    subst (λ n. EndsBelow (get_or ss k d) (get_or (s ∷ ss) n d)) next (apart_from_normal ss normal.2 k d (omega arith))

-- ---- with a span added

pub above_less : (a b : List ℕ) (spans : List KeySpan) → is_below a b ≡ true → Above b spans → Above a spans
above_less a b spans h above = All-weaker (λ span. is_below b span.lo ≡ true) (λ span. is_below a span.lo ≡ true) (λ s k. below_chain a b s.lo h k) spans above

above-with_span : (bytes : List ℕ) (s : KeySpan) (ts : List KeySpan) → is_below bytes s.lo ≡ true → Above bytes ts → Above bytes (with_span s ts)
above-with_span bytes s [] h above = All-cons (λ span. is_below bytes span.lo ≡ true) s [] h above
above-with_span bytes s (t ∷ ts) h above =
    let P = λ (span : KeySpan). is_below bytes span.lo ≡ true in
    let first = All-head P t ts above in
    let rest = All-tail P t ts above in
    elim (is_below s.hi t.lo) as (λ b. Above bytes (cond b (s ∷ t ∷ ts) (cond (is_below t.hi s.lo) (t ∷ with_span s ts) (with_span (joined s t) ts)))) [
      | true ↦ All-cons P s (t ∷ ts) h above
      | false ↦ elim (is_below t.hi s.lo) as (λ b. Above bytes (cond b (t ∷ with_span s ts) (with_span (joined s t) ts))) [
        | true ↦ All-cons P t (with_span s ts) first (above-with_span bytes s ts h rest)
        | false ↦ above-with_span bytes (joined s t) ts (below-lesser bytes s.lo t.lo ∙ and_from (is_below bytes s.lo) (is_below bytes t.lo) h first) rest
      ]
    ]

normal-with_span : (s : KeySpan) (ts : List KeySpan) → IsSpan s → Normal ts → Normal (with_span s ts)
normal-with_span s [] is normal = (is, All-nil (λ span. is_below s.hi span.lo ≡ true), tt)
normal-with_span s (t ∷ ts) is normal =
    elim (is_below s.hi t.lo) as (λ b. is_below s.hi t.lo ≡ b → Normal (cond b (s ∷ t ∷ ts) (cond (is_below t.hi s.lo) (t ∷ with_span s ts) (with_span (joined s t) ts)))) [
      | true ↦ λ e. (is, All-cons (λ span. is_below s.hi span.lo ≡ true) t ts e (above_less s.hi t.hi ts (below_chain s.hi t.lo t.hi e normal.0.rises) normal.1), normal)
      | false ↦ λ e. elim (is_below t.hi s.lo) as (λ b. is_below t.hi s.lo ≡ b → Normal (cond b (t ∷ with_span s ts) (with_span (joined s t) ts))) [
        | true ↦ λ f. (normal.0, above-with_span t.hi s ts f normal.1, normal-with_span s ts is normal.2)
        | false ↦ λ f. normal-with_span (joined s t) ts (joined_is_span s t is normal.0) normal.2
      ] refl
    ] refl

pub normal-union_of : (ss ts : List KeySpan) → All IsSpan ss → Normal ts → Normal (union_of ss ts)
normal-union_of [] ts are normal = normal
normal-union_of (s ∷ ss) ts are normal = normal-with_span s (union_of ss ts) (All-head IsSpan s ss are) (normal-union_of ss ts (All-tail IsSpan s ss are) normal)

-- ---- one list alone

-- the end of a span is a prefix
pub end_is_prefix : (bytes : List ℕ) → IsEnd bytes → prefix_of bytes ≡ bytes
end_is_prefix bytes is =
    let at : length bytes ≡ suffix_start bytes = suffix_start_is bytes (length bytes) (omega arith) (λ k h. is.plain k 0 h) (λ h. absurd (omega arith)) in
    take_all (suffix_start bytes) bytes (omega arith)

-- a span holds the end of another as a key, where it lies between its own ends
holds_end : (s : KeySpan) (bytes : List ℕ) → IsEnd bytes → is_below bytes s.lo ≡ false → is_below bytes s.hi ≡ true → holds_key s bytes ≡ true
holds_end s bytes is from to =
    holds_key-ends s bytes ∙ (λ i. is_upto s.lo (end_is_prefix bytes is i) && is_below (end_is_prefix bytes is i) s.hi) ∙ and_from (is_upto s.lo bytes) (is_below bytes s.hi) (ap not from) to

covered_above : (bytes : List ℕ) (spans : List KeySpan) (key : List ℕ) → Above bytes spans → is_covered spans key ≡ true → is_below bytes (prefix_of key) ≡ true
covered_above bytes [] key above h = cc
covered_above bytes (s ∷ ss) key above h =
    elim (holds_key s key) as (λ b. holds_key s key ≡ b → (b || is_covered ss key) ≡ true → is_below bytes (prefix_of key) ≡ true) [
      | true ↦ λ e _. below_upto bytes s.lo (prefix_of key) (All-head (λ span. is_below bytes span.lo ≡ true) s ss above) (held_from s key e)
      | false ↦ λ e k. covered_above bytes ss key (All-tail (λ span. is_below bytes span.lo ≡ true) s ss above) k
    ] refl h

covered_from : (s : KeySpan) (ss : List KeySpan) (key : List ℕ) → Normal (s ∷ ss) → is_covered (s ∷ ss) key ≡ true → is_below (prefix_of key) s.lo ≡ false
covered_from s ss key normal h =
    elim (holds_key s key) as (λ b. holds_key s key ≡ b → (b || is_covered ss key) ≡ true → is_below (prefix_of key) s.lo ≡ false) [
      | true ↦ λ e _. held_from s key e
      | false ↦ λ e k. below_one_way s.lo (prefix_of key) (below_chain s.lo s.hi (prefix_of key) normal.0.rises (covered_above s.hi ss key normal.1 k))
    ] refl h

-- behind a span the others hold none of its keys
others_hold_none : (s : KeySpan) (ss : List KeySpan) (key : List ℕ) → Above s.hi ss → is_below (prefix_of key) s.hi ≡ true → is_covered ss key ≡ false
others_hold_none s ss key above h =
    false_from_ne_true (is_covered ss key) (λ e.
    let past : is_below s.hi (prefix_of key) ≡ true = covered_above s.hi ss key above e in
    let back : is_below (prefix_of key) s.hi ≡ false = below_one_way s.hi (prefix_of key) past in
    cc)

-- the first span begins no later than that of a list that holds the same
begins_first : (s t : KeySpan) (ss ts : List KeySpan) → Normal (s ∷ ss) → Normal (t ∷ ts) → ((key : List ℕ) → is_covered (s ∷ ss) key ≡ is_covered (t ∷ ts) key) → is_below t.lo s.lo ≡ false
begins_first s t ss ts ns nt alike =
    let held : holds_key t t.lo ≡ true = holds_end t t.lo nt.0.lo (below_itself t.lo) nt.0.rises in
    let covered : is_covered (t ∷ ts) t.lo ≡ true = ap (λ b. b || is_covered ts t.lo) held in
    subst (λ p. is_below p s.lo ≡ false) (end_is_prefix t.lo nt.0.lo) (covered_from s ss t.lo ns (alike t.lo ∙ covered))

-- and it ends no earlier
ends_last : (s t : KeySpan) (ss ts : List KeySpan) → Normal (s ∷ ss) → Normal (t ∷ ts) → s.lo ≡ t.lo → ((key : List ℕ) → is_covered (s ∷ ss) key ≡ is_covered (t ∷ ts) key) → is_below s.hi t.hi ≡ false
ends_last s t ss ts ns nt same alike =
    false_from_ne_true (is_below s.hi t.hi) (λ e.
    let from : is_below s.hi t.lo ≡ false = subst (λ lo. is_below s.hi lo ≡ false) same (below_one_way s.lo s.hi ns.0.rises) in
    let held : holds_key t s.hi ≡ true = holds_end t s.hi ns.0.hi from e in
    let covered : is_covered (s ∷ ss) s.hi ≡ true = alike s.hi ∙ ap (λ b. b || is_covered ts s.hi) held in
    let own : holds_key s s.hi ≡ false = false_from_ne_true (holds_key s s.hi) (λ f.
    let low : is_below s.hi s.hi ≡ true = subst (λ p. is_below p s.hi ≡ true) (end_is_prefix s.hi ns.0.hi) (held_to s s.hi f) in
    let none : is_below s.hi s.hi ≡ false = below_itself s.hi in
    cc) in
    let later : is_covered ss s.hi ≡ true = ap (λ b. b || is_covered ss s.hi) (sym own) ∙ covered in
    let above : is_below s.hi s.hi ≡ true = subst (λ p. is_below s.hi p ≡ true) (end_is_prefix s.hi ns.0.hi) (covered_above s.hi ss s.hi ns.1 later) in
    let none : is_below s.hi s.hi ≡ false = below_itself s.hi in
    cc)

rest_alike : (s t : KeySpan) (ss ts : List KeySpan) → Normal (s ∷ ss) → Normal (t ∷ ts) → s ≡ t → ((key : List ℕ) → is_covered (s ∷ ss) key ≡ is_covered (t ∷ ts) key) → (key : List ℕ) → is_covered ss key ≡ is_covered ts key
rest_alike s t ss ts ns nt same alike key =
    elim (holds_key s key) as (λ b. holds_key s key ≡ b → is_covered ss key ≡ is_covered ts key) [
      | true ↦ λ e. others_hold_none s ss key ns.1 (held_to s key e) ∙ sym (others_hold_none t ts key nt.1 (held_to t key (ap (λ u. holds_key u key) (sym same) ∙ e)))
      | false ↦ λ e. ap (λ b. b || is_covered ss key) (sym e) ∙ alike key ∙ ap (λ b. b || is_covered ts key) (ap (λ u. holds_key u key) (sym same) ∙ e)
    ] refl

some_held : (s : KeySpan) (ss : List KeySpan) → Normal (s ∷ ss) → is_covered (s ∷ ss) s.lo ≡ true
some_held s ss normal = ap (λ b. b || is_covered ss s.lo) (holds_end s s.lo normal.0.lo (below_itself s.lo) normal.0.rises)

-- lists in this form that hold the same keys are equal
pub same_normal : (ss ts : List KeySpan) → Normal ss → Normal ts → ((key : List ℕ) → is_covered ss key ≡ is_covered ts key) → ss ≡ ts
same_normal [] [] ns nt alike = refl
same_normal [] (t ∷ ts) ns nt alike = let some : is_covered (t ∷ ts) t.lo ≡ true = some_held t ts nt in let none : false ≡ is_covered (t ∷ ts) t.lo = alike t.lo in cc
same_normal (s ∷ ss) [] ns nt alike = let some : is_covered (s ∷ ss) s.lo ≡ true = some_held s ss ns in let none : is_covered (s ∷ ss) s.lo ≡ false = alike s.lo in cc
same_normal (s ∷ ss) (t ∷ ts) ns nt alike =
    let lo : s.lo ≡ t.lo = same_bytes s.lo t.lo (begins_first t s ts ss nt ns (λ key. sym (alike key))) (begins_first s t ss ts ns nt alike) in
    let hi : s.hi ≡ t.hi = same_bytes s.hi t.hi (ends_last s t ss ts ns nt lo alike) (ends_last t s ts ss nt ns (sym lo) (λ key. sym (alike key))) in
    let same : s ≡ t = (λ i. span_of (lo i) (hi i)) in
    (λ i. same i ∷ same_normal ss ts ns.2 nt.2 (rest_alike s t ss ts ns nt same alike) i)
