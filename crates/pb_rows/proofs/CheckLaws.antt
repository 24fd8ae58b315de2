-- What the checks of a new layer find.
use Rattle.std.proofs.Common.{◌≡◌, ℕ, ◌+◌, ◌-◌, ◌<◌, ◌≤◌, List, [], length, get_or, true, false, refl, sym, ap, ◌∙◌, subst, arith, inl, inr}
use Rattle.std.specs.Prelude.{None}
use Rattle.std.specs.declared.cmp.Ordering.{Ordering}
use Rattle.std.specs.declared.cmp.Ordering.TheVariants.{Less, Equal, Greater}
use Rattle.std.specs.Ordering.{is_le, ordering_reverse}
use Rattle.std.proofs.lemmas.Bool.{cases_lt}
use Rattle.std.proofs.lemmas.List.{get_or_default}
use Rattle.std.proofs.lemmas.List.Sorted.{all_adjacent_more}
use Rattle.pb_keys.specs.Key.{IsKey, key_cmp}
use Rattle.pb_keys.specs.KeyLaws.{key_cmp_total}
use Rattle.pb_rows.specs.Layer.{KeyRow, IsBelow, RiseUpTo, Rise, IsFirstFall}

turned_less : (o : Ordering) → is_le o ≡ false → ordering_reverse o ≡ Less
turned_less Less h = cc
turned_less Equal h = cc
turned_less Greater h = refl

below_if_not_upto : (a b : List ℕ) → is_le (key_cmp a b) ≡ false → key_cmp b a ≡ Less
below_if_not_upto a b h = key_cmp_total.antisymm b a ∙ turned_less (key_cmp a b) h

not_below_if_upto : (a b : List ℕ) → is_le (key_cmp a b) ≡ true → key_cmp b a ≡ Less → ⊥
not_below_if_upto a b h less =
    let turned : is_le (key_cmp a b) ≡ false = ap is_le (key_cmp_total.antisymm a b ∙ ap ordering_reverse less) in
    cc

-- r is the row at this place, and s the one before
pub fall_at : (rows : List KeyRow) (at : ℕ) (r s : KeyRow) → 1 ≤ at → at < length rows → RiseUpTo rows at → s ≡ get_or rows (at - 1) s → r ≡ get_or rows at r → is_le (key_cmp r.key s.key) ≡ true → IsFirstFall rows at
fall_at rows at r s behind within before s_is r_is upto = record {
  behind = behind;
  within = within;
  before = before;
  falls = λ d less.
      let r_here : get_or rows at d ≡ r = get_or_default rows at d r within ∙ sym r_is in
      let s_here : get_or rows (at - 1) d ≡ s = get_or_default rows (at - 1) d s (omega arith) ∙ sym s_is in
      not_below_if_upto r.key s.key upto ((λ i. key_cmp (sym s_here i).key (sym r_here i).key) ∙ less);
}

pub rise_more : (rows : List KeyRow) (at : ℕ) (r s : KeyRow) → 1 ≤ at → at < length rows → RiseUpTo rows at → s ≡ get_or rows (at - 1) s → r ≡ get_or rows at r → is_le (key_cmp r.key s.key) ≡ false → RiseUpTo rows (at + 1)
rise_more rows at r s behind within before s_is r_is above =
    all_adjacent_more rows IsBelow at behind before (λ d.
    let r_here : get_or rows at d ≡ r = get_or_default rows at d r within ∙ sym r_is in
    let s_here : get_or rows (at - 1) d ≡ s = get_or_default rows (at - 1) d s (omega arith) ∙ sym s_is in
    (λ i. key_cmp (s_here i).key (r_here i).key) ∙ below_if_not_upto r.key s.key above)

pub rise_at : (rows : List KeyRow) (n at : ℕ) (d : KeyRow) → RiseUpTo rows n → 1 ≤ at → at < n → IsBelow (get_or rows (at - 1) d) (get_or rows at d)
rise_at rows n at d rise behind within =
    let e : (at - 1) + 1 ≡ at = omega arith in
    subst (λ k. IsBelow (get_or rows (at - 1) d) (get_or rows k d)) e (rise (at - 1) d (omega arith))

no_row : KeyRow
no_row = record { key = []; value = None }

pub no_fall : (rows : List KeyRow) (at : ℕ) → Rise rows → IsFirstFall rows at → ⊥
no_fall rows at rise fall = fall.falls no_row (rise_at rows (length rows) at no_row rise fall.behind fall.within)

pub first_fall_is_one : (rows : List KeyRow) (a b : ℕ) → IsFirstFall rows a → IsFirstFall rows b → a ≡ b
first_fall_is_one rows a b fa fb =
    elim (cases_lt a b) [
      | inl before ↦ absurd (fa.falls no_row (rise_at rows b a no_row fb.before fa.behind before))
      | inr past ↦ elim (cases_lt b a) [
        | inl after ↦ absurd (fb.falls no_row (rise_at rows a b no_row fa.before fb.behind after))
        | inr same ↦ omega arith
      ]
    ]

pub keys_more : (rows : List KeyRow) (at : ℕ) (r : KeyRow) → at < length rows → ((k : ℕ) (d : KeyRow) → k < at → IsKey (get_or rows k d).key) → r ≡ get_or rows at r → IsKey r.key → (k : ℕ) (d : KeyRow) → k < at + 1 → IsKey (get_or rows k d).key
keys_more rows at r within before r_is key k d h =
    elim (cases_lt k at) [
      | inl earlier ↦ before k d earlier
      | inr past ↦
          let here : at ≡ k = omega arith in
          let value : r ≡ get_or rows k d = subst (λ n. r ≡ get_or rows n d) here (r_is ∙ get_or_default rows at r d within) in
          subst (λ s. IsKey s.key) value key
    ]
