-- V8 and V9: only the count of accepted commands changes; and how many tables an excise leaves.
use Rattle.std.proofs.Common.{◌≡◌, ◌≢◌, ℕ, ◌+◌, ◌*◌, ◌≤◌, List, [], ◌∷◌, ◌++◌, Bool, true, false, cond, length, refl, ap, ◌∙◌, drop, length-append, arith}
use Rattle.std.proofs.lemmas.Bool.Decides.{nat_tests}
use Rattle.std.proofs.lemmas.List.{drop_all}
use Rattle.std.specs.Prelude.{not, ◌&&◌, ◌||◌, ◌==◌, nat_lt, nat_le}
use Rattle.pb_keys.specs.Span.{KeySpan, overlap}
use Rattle.pb_span_cases.specs.Remainder.{remains}
use Rattle.pb_span_cases.proofs.RemainLaws.{remains_at_most_two}
use Rattle.pb_version.specs.Version.{TableView, VersionView, all_tables, flattened}
use Rattle.pb_version.specs.Rules.{keeps_v8}
use Rattle.pb_version.specs.State.{IsVersion}
use Rattle.pb_version.proofs.Levels.{flattened_cons}
use Rattle.pb_excise.specs.Excised.{parts_of, numbered_parts, left_of, parts_count, left_count, excised_tables, excised_levels, excised}
use Rattle.pb_excise.specs.Allowed.{MayExcise}
use Rattle.pb_excise.proofs.NewTables.{edit}

-- ---- V8

begun_fits : (format : ℕ) (fits : Bool) → format ≢ 0 → (format == 0 || fits) ≡ true → fits ≡ true
begun_fits format true begun e = refl
begun_fits format false begun e = grind (arith, nat_tests)

other_count : (a n f g l count : ℕ) → (nat_le f a && nat_lt l n && g == 1) ≡ true → a ≤ count →
    ((nat_le a count && nat_le n n && nat_le f f && nat_le g g) && (nat_le f count && nat_lt l n && g == 1)
    && (not (g == 0) || false)) ≡ true
other_count a n f g l count e h = grind (arith, nat_tests)

pub all_v8 : (v : VersionView) (is : IsVersion v) (cut : KeySpan) (first accepted : ℕ) → MayExcise v cut first accepted →
    keeps_v8 v (edit v is cut first accepted) ≡ true
all_v8 v is cut first accepted may = other_count v.five.accepted v.five.next v.five.flushed v.five.format v.five.log accepted
    (begun_fits v.five.format (nat_le v.five.flushed v.five.accepted && nat_lt v.five.log v.five.next && v.five.format == 1)
    may.begun is.fits)
    may.rises

-- ---- how many tables are left

few_tables : (n : ℕ) → nat_le n 4096 ≡ true → n ≤ 4096
few_tables n e = grind (arith, nat_tests)

module _ (cut : KeySpan) where
  length_numbered : (t : TableView) (n : ℕ) (bs : List KeySpan) → length (numbered_parts t n bs) ≡ length bs
  length_numbered t n [] = refl
  length_numbered t n (b ∷ bs) = omega (arith, length_numbered t (n + 1) bs)

  length_left : (t : TableView) (n : ℕ) → length (left_of cut n t) ≡ cond (overlap t.view.bounds cut) (length (remains t.view.bounds cut)) 1
  length_left t n =
      elim (overlap t.view.bounds cut) as (λ b.
      length (cond b (numbered_parts t n (remains t.view.bounds cut)) (t ∷ [])) ≡ cond b (length (remains t.view.bounds cut)) 1) [
        | true ↦ length_numbered t n (remains t.view.bounds cut)
        | false ↦ refl
      ]

  length_tables : (n : ℕ) (ts : List TableView) → length (excised_tables cut n ts) ≡ left_count cut ts
  length_tables n [] = refl
  length_tables n (t ∷ ts) =
      let next = n + length (parts_of cut t) in
      omega (
        arith,
        length-append (left_of cut n t) (excised_tables cut next ts),
        length_left t n,
        length_tables next ts,
      )

  left_count-append : (ts us : List TableView) → left_count cut (ts ++ us) ≡ left_count cut ts + left_count cut us
  left_count-append [] us = omega arith
  left_count-append (t ∷ ts) us = omega (arith, left_count-append ts us)

  length_levels : (n : ℕ) (ls : List (List TableView)) → length (flattened (excised_levels cut n ls)) ≡ left_count cut (flattened ls)
  length_levels n [] = refl
  length_levels n (ts ∷ ls) =
      let next = n + parts_count cut ts in
      let deeper = excised_levels cut next ls in
      omega (
        arith,
        ap length (flattened_cons (excised_tables cut n ts) deeper),
        length-append (excised_tables cut n ts) (flattened deeper),
        length_tables n ts,
        length_levels next ls,
        ap (left_count cut) (flattened_cons ts ls),
        left_count-append ts (flattened ls),
      )

  pub length_excised : (v : VersionView) (first : ℕ) → length (all_tables (excised v cut first)) ≡ left_count cut (all_tables v)
  unfolding excised
  length_excised v first = length_levels first v.levels

  one_or_two : (b : Bool) (n : ℕ) → n ≤ 2 → cond b n 1 ≤ 2
  one_or_two true n h = h
  one_or_two false n h = omega arith

  pub left_few : (ts : List TableView) → left_count cut ts ≤ 2 * length ts
  left_few [] = omega arith
  left_few (t ∷ ts) = omega (
    arith,
    one_or_two (overlap t.view.bounds cut) (length (remains t.view.bounds cut)) (remains_at_most_two t.view.bounds cut),
    left_few ts,
  )

  pub left_of_version : (v : VersionView) → IsVersion v → left_count cut (all_tables v) ≤ 8192
  left_of_version v is = omega (arith, left_few (all_tables v), few_tables (length (all_tables v)) is.few)

  pub left_on_levels : (ls : List (List TableView)) (k : ℕ) (ts : List TableView) → drop k ls ≡ ts ∷ drop (k + 1) ls →
      left_count cut (flattened (drop k ls)) ≡ left_count cut ts + left_count cut (flattened (drop (k + 1) ls))
  left_on_levels ls k ts first =
      ap (λ us. left_count cut (flattened us)) first
      ∙ ap (left_count cut) (flattened_cons ts (drop (k + 1) ls))
      ∙ left_count-append ts (flattened (drop (k + 1) ls))

  pub none_left : (ls : List (List TableView)) (k : ℕ) → length ls ≤ k → left_count cut (flattened (drop k ls)) ≡ 0
  none_left ls k h = ap (λ us. left_count cut (flattened us)) (drop_all k ls h)
