-- What halving finds among rows that rise and spans that are apart.
use Rattle.std.proofs.Common.{◌≡◌, ◌≢◌, ℕ, zero, suc, ◌+◌, ◌<◌, ◌≤◌, List, [], ◌∷◌, length, get_or, Bool, true, false, cond, refl, sym, ap, ◌∙◌, subst, arith, inl, inr}
use Rattle.std.specs.Prelude.{Some, None, All, not, ◌&&◌}
use Rattle.std.specs.List.{AllAdjacentBelow}
use Rattle.std.specs.List.Sorted.{IsPartitionPoint, IsPartitionedBy}
use Rattle.std.specs.declared.cmp.Ordering.TheVariants.{Less}
use Rattle.std.specs.Ordering.{eq_by_cmp, is_eq, is_lt, ordering_reverse}
use Rattle.std.proofs.lemmas.Bool.{cases_lt, cases_eq, not-true, not-false}
use Rattle.std.proofs.lemmas.List.{get_or_default}
use Rattle.std.proofs.lemmas.List.Folds.{list_any_none, list_any_at}
use Rattle.pb_keys.specs.Order.{is_below, is_upto}
use Rattle.pb_keys.specs.Key.{key_cmp, prefix_of}
use Rattle.pb_keys.specs.KeyLaws.{key_cmp_total}
use Rattle.pb_keys.specs.Span.{KeySpan, IsSpan, holds_key}
use Rattle.pb_keys.proofs.OrderFacts.{below_chain, below_one_way, upto_chain, less}
use Rattle.pb_keys.proofs.SpanFacts.{holds_key-ends}
use Rattle.pb_rows.specs.Layer.{KeyRow, AreApart, EndsBelow, Rise, IsBelow}
use Rattle.pb_rows.specs.Verdict.{row_verdict, is_covered}
use Rattle.pb_rows.proofs.RowLaws.{same_key, ties_itself}
use Rattle.std.proofs.lemmas.Bool.{and_right}

module _ {X : Type 0} (R : X → X → Type 0) (chain : (x y z : X) → R x y → R y z → R x z) where
  -- what holds of neighbours and chains holds of each element and each later one
  pub far : (xs : List X) → AllAdjacentBelow R xs (length xs) → (i j : ℕ) (d : X) → i < j → j < length xs → R (get_or xs i d) (get_or xs j d)
  far xs next i zero d h k = absurd (omega arith)
  far xs next i (suc j) d h k =
      let e : j + 1 ≡ suc j = omega arith in
      let step : R (get_or xs j d) (get_or xs (suc j) d) = subst (λ n. R (get_or xs j d) (get_or xs n d)) e (next j d (omega arith)) in
      elim (cases_lt i j) [
        | inl before ↦ chain (get_or xs i d) (get_or xs j d) (get_or xs (suc j) d) (far xs next i j d before (omega arith)) step
        | inr past ↦ let same : j ≡ i = omega arith in subst (λ n. R (get_or xs n d) (get_or xs (suc j) d)) same step
      ]

-- each row is below each later one
pub rows_rise : (rows : List KeyRow) → Rise rows → (i j : ℕ) (d : KeyRow) → i < j → j < length rows → IsBelow (get_or rows i d) (get_or rows j d)
rows_rise rows rise i j d h k = far IsBelow (λ x y z p q. key_cmp_total.trans x.key y.key z.key p q) rows rise i j d h k

-- whether the row's key is below this one
abbrev pub is_row_below : List ℕ → KeyRow → Bool
is_row_below key row = is_lt (key_cmp row.key key)

pub rows_are_parted : (rows : List KeyRow) (key : List ℕ) → Rise rows → IsPartitionedBy (is_row_below key) rows
rows_are_parted rows key rise i j d h k below =
    elim (cases_lt i j) [
      | inl before ↦ ap is_lt (key_cmp_total.trans (get_or rows i d).key (get_or rows j d).key key (rows_rise rows rise i j d before k) (less (key_cmp (get_or rows j d).key key) below))
      | inr past ↦ let same : j ≡ i = omega arith in subst (λ n. is_row_below key (get_or rows n d) ≡ true) same below
    ]

-- a key that is below, and one that is not equal
other_if_less : (a b : List ℕ) → key_cmp a b ≡ Less → eq_by_cmp key_cmp b a ≡ false
other_if_less a b e = ap is_eq (key_cmp_total.antisymm b a ∙ ap ordering_reverse e)

other_if_not_same : (a b : List ℕ) → (a ≡ b → ⊥) → eq_by_cmp key_cmp b a ≡ false
other_if_not_same a b differ =
    elim (eq_by_cmp key_cmp b a) as (λ t. eq_by_cmp key_cmp b a ≡ t → t ≡ false) [
      | true ↦ λ e. absurd (differ (sym (same_key b a e)))
      | false ↦ λ e. refl
    ] refl

pub row_verdict_at : (rows : List KeyRow) (key : List ℕ) (at : ℕ) (d : KeyRow) → ((k : ℕ) → k < at → eq_by_cmp key_cmp key (get_or rows k d).key ≡ false) → at < length rows → (get_or rows at d).key ≡ key → row_verdict rows key ≡ Some (get_or rows at d).value
row_verdict_at [] key at d before within same = absurd (omega arith)
row_verdict_at (row ∷ rows) key zero d before within same = ap (λ b. cond b (Some row.value) (row_verdict rows key)) (ap (eq_by_cmp key_cmp key) same ∙ ties_itself key)
row_verdict_at (row ∷ rows) key (suc at) d before within same =
    ap (λ b. cond b (Some row.value) (row_verdict rows key)) (before 0 (omega arith))
    ∙ row_verdict_at rows key at d (λ k h. before (suc k) (omega arith)) (omega arith) same

pub row_verdict_none : (rows : List KeyRow) (key : List ℕ) (d : KeyRow) → ((k : ℕ) → k < length rows → eq_by_cmp key_cmp key (get_or rows k d).key ≡ false) → row_verdict rows key ≡ None
row_verdict_none [] key d other = refl
row_verdict_none (row ∷ rows) key d other =
    ap (λ b. cond b (Some row.value) (row_verdict rows key)) (other 0 (omega arith)) ∙ row_verdict_none rows key d (λ k h. other (suc k) (omega arith))

-- at the place that parts the rows at a key
pub row_found : (rows : List KeyRow) (key : List ℕ) (at : ℕ) (d : KeyRow) → IsPartitionPoint (λ r. is_row_below key r ≡ true) (λ r. is_row_below key r ≡ false) rows at → at < length rows → (get_or rows at d).key ≡ key → row_verdict rows key ≡ Some (get_or rows at d).value
row_found rows key at d parted within same =
    row_verdict_at rows key at d (λ k h. other_if_less (get_or rows k d).key key (less (key_cmp (get_or rows k d).key key) (parted.0 k d (omega arith) h))) within same

pub row_missing : (rows : List KeyRow) (key : List ℕ) (at : ℕ) (d : KeyRow) → Rise rows → IsPartitionPoint (λ r. is_row_below key r ≡ true) (λ r. is_row_below key r ≡ false) rows at → (at < length rows → (get_or rows at d).key ≡ key → ⊥) → row_verdict rows key ≡ None
row_missing rows key at d rise parted differ =
    row_verdict_none rows key d (λ k within.
    elim (cases_lt k at) [
      | inl before ↦ other_if_less (get_or rows k d).key key (less (key_cmp (get_or rows k d).key key) (parted.0 k d (omega arith) before))
      | inr past ↦ other_if_not_same (get_or rows k d).key key (λ same.
          elim (cases_lt at k) [
            | inl after ↦
                let less : key_cmp (get_or rows at d).key key ≡ Less = subst (λ q. key_cmp (get_or rows at d).key q ≡ Less) same (rows_rise rows rise at k d after within) in
                let not_less : is_lt (key_cmp (get_or rows at d).key key) ≡ false = parted.1 at d (omega arith) (omega arith) in
                let so : is_lt (key_cmp (get_or rows at d).key key) ≡ true = ap is_lt less in
                cc
            | inr here ↦ let place : k ≡ at = omega arith in differ (omega arith) (subst (λ n. (get_or rows n d).key ≡ key) place same)
          ])
    ])

-- ---- spans

-- whether the span ends at or below the prefix
abbrev pub is_span_below : List ℕ → KeySpan → Bool
is_span_below prefix span = is_upto span.hi prefix

pub record Follows (s t : KeySpan) : Type 0 where
  pub apart : is_below s.hi t.lo ≡ true
  pub rises : is_below t.lo t.hi ≡ true

pub spans_follow : (spans : List KeySpan) → All IsSpan spans → AreApart spans → (i j : ℕ) (d : KeySpan) → i < j → j < length spans → Follows (get_or spans i d) (get_or spans j d)
spans_follow spans are apart i j d h k =
    far Follows (λ x y z p q. record { apart = below_chain x.hi y.hi z.lo (below_chain x.hi y.lo y.hi p.apart p.rises) q.apart; rises = q.rises })
    spans (λ n e m. record { apart = apart n e m; rises = (are (n + 1) e m).rises }) i j d h k

-- each span ends below where each later one begins
pub spans_apart : (spans : List KeySpan) → All IsSpan spans → AreApart spans → (i j : ℕ) (d : KeySpan) → i < j → j < length spans → EndsBelow (get_or spans i d) (get_or spans j d)
spans_apart spans are apart i j d h k = (spans_follow spans are apart i j d h k).apart

pub spans_are_parted : (spans : List KeySpan) (prefix : List ℕ) → All IsSpan spans → AreApart spans → IsPartitionedBy (is_span_below prefix) spans
spans_are_parted spans prefix are apart i j d h k below =
    elim (cases_lt i j) [
      | inl before ↦
          let s = get_or spans i d in let t = get_or spans j d in
          let f = spans_follow spans are apart i j d before k in
          ap not (upto_chain s.hi t.hi prefix (below_one_way s.hi t.hi (below_chain s.hi t.lo t.hi f.apart f.rises)) (not-true (is_below prefix t.hi) below))
      | inr past ↦ let same : j ≡ i = omega arith in subst (λ n. is_span_below prefix (get_or spans n d) ≡ true) same below
    ]

pub ends_before : (span : KeySpan) (key : List ℕ) → is_span_below (prefix_of key) span ≡ true → holds_key span key ≡ false
ends_before span key h = holds_key-ends span key ∙ and_right (is_upto span.lo (prefix_of key)) (is_below (prefix_of key) span.hi) (not-true (is_below (prefix_of key) span.hi) h)

pub begins_behind : (span : KeySpan) (key : List ℕ) → is_below (prefix_of key) span.lo ≡ true → holds_key span key ≡ false
begins_behind span key h = holds_key-ends span key ∙ ap (λ b. not b && is_below (prefix_of key) span.hi) h

-- the spans but the one at the place that parts them hold no such key
pub others_hold_not : (spans : List KeySpan) (key : List ℕ) (at : ℕ) → All IsSpan spans → AreApart spans → IsPartitionPoint (λ s. is_span_below (prefix_of key) s ≡ true) (λ s. is_span_below (prefix_of key) s ≡ false) spans at → (k : ℕ) (d : KeySpan) → k < length spans → k ≢ at → holds_key (get_or spans k d) key ≡ false
others_hold_not spans key at are apart parted k d within other =
    elim (cases_lt k at) [
      | inl before ↦ ends_before (get_or spans k d) key (parted.0 k d (omega arith) before)
      | inr past ↦
          let after : at < k = omega arith in
          begins_behind (get_or spans k d) key
          (below_chain (prefix_of key) (get_or spans at d).hi (get_or spans k d).lo
          (not-false (is_below (prefix_of key) (get_or spans at d).hi) (parted.1 at d (omega arith) (omega arith))) (spans_apart spans are apart at k d after within))
    ]

pub covered_here : (spans : List KeySpan) (key : List ℕ) (at : ℕ) (d : KeySpan) → All IsSpan spans → AreApart spans → IsPartitionPoint (λ s. is_span_below (prefix_of key) s ≡ true) (λ s. is_span_below (prefix_of key) s ≡ false) spans at → at < length spans → holds_key (get_or spans at d) key ≡ is_covered spans key
covered_here spans key at d are apart parted within =
    elim (holds_key (get_or spans at d) key) as (λ b. holds_key (get_or spans at d) key ≡ b → b ≡ is_covered spans key) [
      | true ↦ λ e. sym (list_any_at (λ span. holds_key span key) spans at d within e)
      | false ↦ λ e. sym (list_any_none (λ span. holds_key span key) spans (λ k f h.
          elim (cases_eq k at) [
            | inl same ↦ subst (λ n. holds_key (get_or spans n f) key ≡ false) (sym same) (subst (λ s. holds_key s key ≡ false) (get_or_default spans at d f within) e)
            | inr other ↦ others_hold_not spans key at are apart parted k f h other
          ]))
    ] refl

pub covered_nowhere : (spans : List KeySpan) (key : List ℕ) (at : ℕ) → All IsSpan spans → AreApart spans → IsPartitionPoint (λ s. is_span_below (prefix_of key) s ≡ true) (λ s. is_span_below (prefix_of key) s ≡ false) spans at → length spans ≤ at → is_covered spans key ≡ false
covered_nowhere spans key at are apart parted past =
    list_any_none (λ span. holds_key span key) spans (λ k f h. others_hold_not spans key at are apart parted k f h (omega arith))
