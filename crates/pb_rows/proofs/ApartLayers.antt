-- Layers whose hulls don't overlap: at a key one of them speaks, so their order doesn't matter.
use Rattle.std.proofs.Common.{◌≡◌, ℕ, suc, ◌<◌, List, [], ◌∷◌, length, get_or, reverse, true, false, refl, sym, ap, ◌∙◌, subst, arith, inl, inr}
use Rattle.std.specs.Prelude.{Option, Some, None, unwrap_or, All, Contains, ◌&&◌}
use Rattle.std.specs.FinMap.{get}
use Rattle.std.specs.List.{AllPairs}
use Rattle.std.specs.Option.{option_or}
use Rattle.std.proofs.lemmas.Bool.{cases_lt}
use Rattle.std.proofs.lemmas.List.{get_or_default, reverse-reverse}
use Rattle.std.proofs.lemmas.List.Elements.{All-nil, All-cons, All-contains}
use Rattle.std.proofs.lemmas.Option.{same_Some}
use Rattle.pb_keys.specs.Map.{Map}
use Rattle.pb_keys.specs.Span.{KeySpan, holds_key}
use Rattle.pb_keys.proofs.Lists.{in_reverse}
use Rattle.pb_keys.proofs.MapFacts.{same_pairs}
use Rattle.pb_rows.specs.Applied.{applied_in_turn}
use Rattle.pb_rows.specs.Hull.{hull_of, HullsApart, HaveSameLayers}
use Rattle.pb_rows.specs.Layer.{KeyLayer}
use Rattle.pb_rows.specs.Verdict.{Verdict, verdict, verdicts}
use Rattle.pb_rows.proofs.ChangingLaws.{get-applied_in_turn}
use Rattle.pb_rows.proofs.HullHolds.{silent_outside}
use Rattle.pb_rows.proofs.HullLaws.{no_hull}
use Rattle.pb_rows.proofs.LayeringLaws.{nothing_said}
use Rattle.pb_rows.proofs.ViewLaws.{holds-apart}

-- ---- a layer that speaks of a key has a hull that holds it

record Speaks (layer : KeyLayer) (key : List ℕ) : Type 0 where
  hull : KeySpan
  is : hull_of layer ≡ Some hull
  holds : holds_key hull key ≡ true

none_and_some : {A : Type 0} (found : Option A) (x : A) → found ≡ None → found ≡ Some x → ⊥
none_and_some found x none some = cc

speaks : (layer : KeyLayer) (key : List ℕ) (said : Option (List ℕ)) → verdict layer key ≡ Some said → Speaks layer key
speaks layer key said some =
    elim (hull_of layer) as (λ found. hull_of layer ≡ found → Speaks layer key) [
      | None ↦ λ e. absurd (none_and_some (verdict layer key) said (ap (λ l. verdict l key) ((no_hull layer).0 e) ∙ nothing_said key) some)
      | Some hull ↦ λ e. elim (holds_key hull key) as (λ b. holds_key hull key ≡ b → Speaks layer key) [
        | true ↦ λ h. record { hull = hull; is = e; holds = h }
        | false ↦ λ h. absurd (none_and_some (verdict layer key) said (silent_outside layer hull key e h) some)
      ] refl
    ] refl

not_both : (a b : KeyLayer) (key : List ℕ) → HullsApart a b → Speaks a key → Speaks b key → ⊥
not_both a b key apart in_a in_b =
    let none : (holds_key in_a.hull key && holds_key in_b.hull key) ≡ false = holds-apart in_a.hull in_b.hull key (apart in_a.hull in_b.hull in_a.is in_b.is) in
    let first : holds_key in_a.hull key ≡ true = in_a.holds in
    let second : holds_key in_b.hull key ≡ true = in_b.holds in
    let both : true ≡ false = (λ i. sym first i && sym second i) ∙ none in
    cc

-- the layers at two places
two_speak : (xs : List KeyLayer) (key : List ℕ) (i j : ℕ) (d : KeyLayer) (v w : Option (List ℕ)) → AllPairs HullsApart xs → i < length xs → j < length xs → verdict (get_or xs i d) key ≡ Some v → verdict (get_or xs j d) key ≡ Some w → v ≡ w
two_speak xs key i j d v w apart in_i in_j says_v says_w =
    let at_i = speaks (get_or xs i d) key v says_v in
    let at_j = speaks (get_or xs j d) key w says_w in
    elim (cases_lt i j) [
      | inl before ↦ absurd (not_both (get_or xs i d) (get_or xs j d) key (apart i j d before in_j) at_i at_j)
      | inr past ↦ elim (cases_lt j i) [
        | inl after ↦ absurd (not_both (get_or xs j d) (get_or xs i d) key (apart j i d after in_i) at_j at_i)
        | inr same ↦
            let place : i ≡ j = omega arith in
            same_Some v w (sym says_v ∙ ap (λ n. verdict (get_or xs n d) key) place ∙ says_w)
      ]
    ]

one_speaks : (xs : List KeyLayer) (key : List ℕ) (a b : KeyLayer) (v w : Option (List ℕ)) → AllPairs HullsApart xs → Contains xs a → Contains xs b → verdict a key ≡ Some v → verdict b key ≡ Some w → v ≡ w
one_speaks xs key a b v w apart has_a has_b says_v says_w =
    let b_at : get_or xs has_b.0 a ≡ b = get_or_default xs has_b.0 a b has_b.1 ∙ has_b.2 in
    two_speak xs key has_a.0 has_b.0 a v w apart has_a.1 has_b.1
    (ap (λ l. verdict l key) has_a.2 ∙ says_v) (ap (λ l. verdict l key) b_at ∙ says_w)

-- ---- a list says what a member of it says

record Speaker (xs : List KeyLayer) (key : List ℕ) (said : Option (List ℕ)) : Type 0 where
  layer : KeyLayer
  member : Contains xs layer
  says : verdict layer key ≡ Some said

speaker : (xs : List KeyLayer) (key : List ℕ) (said : Option (List ℕ)) → verdicts xs key ≡ Some said → Speaker xs key said
speaker [] key said some = cc
speaker (x ∷ xs) key said some =
    elim (verdict x key) as (λ found. verdict x key ≡ found → option_or found (verdicts xs key) ≡ Some said → Speaker (x ∷ xs) key said) [
      | Some v ↦ λ e h. record { layer = x; member = (0, omega arith, refl); says = e ∙ h }
      | None ↦ λ e h.
          let later = speaker xs key said h in
          record { layer = later.layer; member = (suc later.member.0, (let within : later.member.0 < length xs = later.member.1 in omega arith), later.member.2); says = later.says }
    ] refl some

all_silent : (xs : List KeyLayer) (key : List ℕ) → verdicts xs key ≡ None → All (λ layer. verdict layer key ≡ None) xs
all_silent [] key none = All-nil (λ layer. verdict layer key ≡ None)
all_silent (x ∷ xs) key none =
    elim (verdict x key) as (λ found. verdict x key ≡ found → option_or found (verdicts xs key) ≡ None → All (λ layer. verdict layer key ≡ None) (x ∷ xs)) [
      | Some v ↦ λ e h. cc
      | None ↦ λ e h. All-cons (λ layer. verdict layer key ≡ None) x xs e (all_silent xs key h)
    ] refl none

-- what one list says, another of the same members says
says_too : (xs ys : List KeyLayer) (key : List ℕ) (v : Option (List ℕ)) (found : Verdict) → HaveSameLayers xs ys → AllPairs HullsApart xs → verdicts xs key ≡ Some v → verdicts ys key ≡ found → found ≡ Some v
says_too xs ys key v None same apart some none =
    let first = speaker xs key v some in
    let quiet : verdict first.layer key ≡ None = All-contains (λ layer. verdict layer key ≡ None) ys first.layer (all_silent ys key none) ((same first.layer).0 first.member) in
    absurd (none_and_some (verdict first.layer key) v quiet first.says)
says_too xs ys key v (Some w) same apart some other =
    let first = speaker xs key v some in
    let second = speaker ys key w other in
    ap Some (one_speaks xs key second.layer first.layer w v apart ((same second.layer).1 second.member) first.member second.says first.says)

nothing_too : (xs ys : List KeyLayer) (key : List ℕ) (found : Verdict) → HaveSameLayers xs ys → verdicts xs key ≡ None → verdicts ys key ≡ found → found ≡ None
nothing_too xs ys key None same none other = refl
nothing_too xs ys key (Some w) same none other =
    let second = speaker ys key w other in
    let quiet : verdict second.layer key ≡ None = All-contains (λ layer. verdict layer key ≡ None) xs second.layer (all_silent xs key none) ((same second.layer).1 second.member) in
    absurd (none_and_some (verdict second.layer key) w quiet second.says)

pub same_members_say : (xs ys : List KeyLayer) → HaveSameLayers xs ys → AllPairs HullsApart xs → (key : List ℕ) → verdicts xs key ≡ verdicts ys key
same_members_say xs ys same apart key =
    elim (verdicts xs key) as (λ found. verdicts xs key ≡ found → found ≡ verdicts ys key) [
      | Some v ↦ λ e. sym (says_too xs ys key v (verdicts ys key) same apart e refl)
      | None ↦ λ e. sym (nothing_too xs ys key (verdicts ys key) same e refl)
    ] refl

-- ---- and from the last to the first

from_reverse : (xs : List KeyLayer) (layer : KeyLayer) → Contains (reverse xs) layer → Contains xs layer
from_reverse xs layer has = subst (λ ys. Contains ys layer) (reverse-reverse xs) (in_reverse (reverse xs) layer has)

pub same_members_in_turn : (xs ys : List KeyLayer) → HaveSameLayers xs ys → AllPairs HullsApart xs → (m : Map) → applied_in_turn xs m ≡ applied_in_turn ys m
same_members_in_turn xs ys same apart m =
    let here : (key : List ℕ) → verdicts (reverse xs) key ≡ verdicts xs key = λ key. sym (same_members_say xs (reverse xs) (λ layer. (in_reverse xs layer, from_reverse xs layer)) apart key) in
    let there : (key : List ℕ) → verdicts xs key ≡ verdicts (reverse ys) key = same_members_say xs (reverse ys)
    (λ layer. (λ has. in_reverse ys layer ((same layer).0 has), λ has. (same layer).1 (from_reverse ys layer has))) apart in
    same_pairs (applied_in_turn xs m) (applied_in_turn ys m) (λ key.
    get-applied_in_turn xs m key ∙ ap (λ found. unwrap_or found (get m key)) (here key ∙ there key) ∙ sym (get-applied_in_turn ys m key))
