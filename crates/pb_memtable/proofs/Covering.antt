-- Whether a span holds the key of a row, or overlaps a deletion.
use Rattle.std.proofs.Common.{◌≡◌, ℕ, ◌<◌, ◌≤◌, List, length, get_or, Bool, true, false, refl, sym, ap, ◌∙◌, subst, arith, inl, inr}
use Rattle.std.specs.Prelude.{All, not, ◌&&◌}
use Rattle.std.specs.List.{list_any}
use Rattle.std.specs.List.Sorted.{IsPartitionPoint}
use Rattle.std.specs.declared.cmp.Ordering.TheVariants.{Less}
use Rattle.std.proofs.lemmas.Bool.{and_right, cases_lt, not-true, not-false}
use Rattle.std.proofs.lemmas.List.{get_or_default}
use Rattle.std.proofs.lemmas.List.Folds.{list_any_none, list_any_at}
use Rattle.pb_keys.specs.Key.{prefix_of, key_cmp}
use Rattle.pb_keys.specs.Order.{is_below}
use Rattle.pb_keys.specs.Span.{KeySpan, IsSpan, holds_key, overlap}
use Rattle.pb_keys.proofs.KeyFacts.{prefixes_ascend}
use Rattle.pb_keys.proofs.OrderFacts.{below_chain, upto_chain, below_one_way}
use Rattle.pb_keys.proofs.SpanFacts.{holds_key-ends, overlap-ends}
use Rattle.pb_keys.proofs.Tests.{second_is_false}
use Rattle.pb_memtable.specs.Search.{IsPlaceOf}
use Rattle.pb_memtable.proofs.Placing.{prefix_below, prefix_not_below}
use Rattle.pb_rows.specs.Layer.{KeyRow, AreApart, Rise}
use Rattle.pb_rows.proofs.LookLaws.{rows_rise, is_span_below, spans_apart, begins_behind}

out_of_first : (a b : Bool) → a ≡ true → (not a && b) ≡ false
out_of_first true b h = refl
out_of_first false b h = cc

second_fails : (a b : Bool) → (not a && b) ≡ false → a ≡ false → b ≡ false
second_fails true b h k = cc
second_fails false b h k = h

pub held_behind : (span : KeySpan) (key : List ℕ) → is_below (prefix_of key) span.hi ≡ false → holds_key span key ≡ false
held_behind span key h = holds_key-ends span key ∙ and_right (not (is_below (prefix_of key) span.lo)) (is_below (prefix_of key) span.hi) h

pub row_within_here : (rows : List KeyRow) (span : KeySpan) (at : ℕ) (r : KeyRow) → Rise rows → IsSpan span → IsPlaceOf span.lo rows at → at < length rows → r ≡ get_or rows at r → holds_key span r.key ≡ list_any (λ row. holds_key span row.key) rows
row_within_here rows span at r rise is place within r_is =
    let p = λ (row : KeyRow). holds_key span row.key in
    elim (holds_key span r.key) as (λ b. holds_key span r.key ≡ b → b ≡ list_any p rows) [
      | true ↦ λ e. sym (list_any_at p rows at r within (subst (λ row. p row ≡ true) r_is e))
      | false ↦ λ e. sym (list_any_none p rows (λ k d h.
          let here : (f : KeyRow) → get_or rows at f ≡ r = λ f. get_or_default rows at f r within ∙ sym r_is in
          elim (cases_lt k at) [
            | inl before ↦ begins_behind span (get_or rows k d).key (prefix_below rows span.lo at is.lo place k d before)
            | inr upto ↦ elim (cases_lt at k) [
              | inl after ↦
                  let from : is_below (prefix_of r.key) span.lo ≡ false = subst (λ row. is_below (prefix_of row.key) span.lo ≡ false) (here d) (prefix_not_below rows span.lo at is.lo place at d (omega arith) within) in
                  let past : is_below (prefix_of r.key) span.hi ≡ false = second_fails (is_below (prefix_of r.key) span.lo) (is_below (prefix_of r.key) span.hi) (sym (holds_key-ends span r.key) ∙ e) from in
                  let up : is_below (prefix_of (get_or rows k d).key) (prefix_of r.key) ≡ false = prefixes_ascend r.key (get_or rows k d).key (subst (λ (row : KeyRow). key_cmp row.key (get_or rows k d).key ≡ Less) (here d) (rows_rise rows rise at k d after h)) in
                  held_behind span (get_or rows k d).key (upto_chain span.hi (prefix_of r.key) (prefix_of (get_or rows k d).key) past up)
              | inr same ↦
                  let place_is : at ≡ k = omega arith in
                  subst (λ n. p (get_or rows n d) ≡ false) place_is (ap p (here d) ∙ e)
            ]
          ]))
    ] refl

pub row_within_nowhere : (rows : List KeyRow) (span : KeySpan) (at : ℕ) → IsSpan span → IsPlaceOf span.lo rows at → length rows ≤ at → list_any (λ row. holds_key span row.key) rows ≡ false
row_within_nowhere rows span at is place past =
    list_any_none (λ row. holds_key span row.key) rows (λ k d h. begins_behind span (get_or rows k d).key (prefix_below rows span.lo at is.lo place k d (omega arith)))

-- ---- deletions

pub apart_before : (span del : KeySpan) → is_span_below span.lo del ≡ true → overlap span del ≡ false
apart_before span del h = overlap-ends span del ∙ ap (λ b. b && is_below del.lo span.hi) (not-true (is_below span.lo del.hi) h)

pub apart_behind : (span del : KeySpan) → is_below del.lo span.hi ≡ false → overlap span del ≡ false
apart_behind span del h = overlap-ends span del ∙ and_right (is_below span.lo del.hi) (is_below del.lo span.hi) h

pub overlap_here : (dels : List KeySpan) (span : KeySpan) (at : ℕ) (s : KeySpan) → All IsSpan dels → AreApart dels → IsPartitionPoint (λ d. is_span_below span.lo d ≡ true) (λ d. is_span_below span.lo d ≡ false) dels at → at < length dels → s ≡ get_or dels at s → overlap span s ≡ list_any (λ del. overlap span del) dels
overlap_here dels span at s are apart parted within s_is =
    let p = λ (del : KeySpan). overlap span del in
    elim (overlap span s) as (λ b. overlap span s ≡ b → b ≡ list_any p dels) [
      | true ↦ λ e. sym (list_any_at p dels at s within (subst (λ del. p del ≡ true) s_is e))
      | false ↦ λ e. sym (list_any_none p dels (λ k d h.
          let here : (f : KeySpan) → get_or dels at f ≡ s = λ f. get_or_default dels at f s within ∙ sym s_is in
          elim (cases_lt k at) [
            | inl before ↦ apart_before span (get_or dels k d) (parted.0 k d (omega arith) before)
            | inr upto ↦ elim (cases_lt at k) [
              | inl after ↦
                  let ends : is_below span.lo s.hi ≡ true = not-false (is_below span.lo s.hi) (subst (λ del. is_span_below span.lo del ≡ false) (here d) (parted.1 at d (omega arith) within)) in
                  let begins : is_below s.lo span.hi ≡ false = second_is_false (is_below span.lo s.hi) (is_below s.lo span.hi) (sym (overlap-ends span s) ∙ e) ends in
                  let rises : is_below s.lo s.hi ≡ true = (subst IsSpan (here d) (are at d within)).rises in
                  let past : is_below s.hi (get_or dels k d).lo ≡ true = subst (λ del. is_below del.hi (get_or dels k d).lo ≡ true) (here d) (spans_apart dels are apart at k d after h) in
                  apart_behind span (get_or dels k d) (upto_chain span.hi s.lo (get_or dels k d).lo begins (below_one_way s.lo (get_or dels k d).lo (below_chain s.lo s.hi (get_or dels k d).lo rises past)))
              | inr same ↦
                  let place_is : at ≡ k = omega arith in
                  subst (λ n. p (get_or dels n d) ≡ false) place_is (ap p (here d) ∙ e)
            ]
          ]))
    ] refl

pub overlap_nowhere : (dels : List KeySpan) (span : KeySpan) (at : ℕ) → IsPartitionPoint (λ d. is_span_below span.lo d ≡ true) (λ d. is_span_below span.lo d ≡ false) dels at → length dels ≤ at → list_any (λ del. overlap span del) dels ≡ false
overlap_nowhere dels span at parted past =
    list_any_none (λ del. overlap span del) dels (λ k d h. apart_before span (get_or dels k d) (parted.0 k d (omega arith) (omega arith)))
