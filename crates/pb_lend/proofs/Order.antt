-- What is lent of a level from 1 on stands by start, as the level does.
use Rattle.std.proofs.Common.{◌≡◌, ℕ, ◌≤◌, List, [], ◌∷◌, true, false, cond, refl, ap, sym, ◌∙◌, arith}
use Rattle.std.proofs.lemmas.Bool.{and_parts, and_from, not-true}
use Rattle.std.proofs.lemmas.Bool.Decides.{nat_tests}
use Rattle.std.proofs.lemmas.List.Elements.{All-head, All-tail}
use Rattle.std.specs.Prelude.{not, ◌&&◌, ◌||◌, ◌==◌, nat_lt, map, All}
use Rattle.std.specs.List.{filter, list_all}
use Rattle.pb_keys.specs.Order.{is_below, greater}
use Rattle.pb_keys.specs.Span.{KeySpan, IsSpan, overlap}
use Rattle.pb_keys.proofs.OrderFacts.{below_chain, below_upto}
use Rattle.pb_keys.proofs.SpanFacts.{overlap-ends, upto_greater}
use Rattle.pb_keys.proofs.Tests.{second_is_false}
use Rattle.pb_version.specs.Version.{TableView}
use Rattle.pb_version.specs.Edited.{starts_below, comes_before}
use Rattle.pb_version.specs.Rules.{each_pair, are_apart, are_all_apart}
use Rattle.pb_lend.specs.Lent.{cut_table, lent_of}
use Rattle.pb_lend.proofs.Beside.{greater-below}

module _ (level : ℕ) (span : KeySpan) (deep : 1 ≤ level) where
  not_first : (level == 0) ≡ false
  not_first = grind (arith, nat_tests)

  by_start : (t u : TableView) → comes_before level t u ≡ starts_below t u
  by_start t u = ap (λ b. cond b (nat_lt u.rank t.rank || (u.rank == t.rank && starts_below t u)) (starts_below t u)) not_first

  no_overlap : (t u : TableView) → are_apart level t u ≡ true → overlap t.view.bounds u.view.bounds ≡ false
  no_overlap t u apart =
      not-true (overlap t.view.bounds u.view.bounds)
      (sym (ap (λ b. (b && not (t.rank == u.rank)) || not (overlap t.view.bounds u.view.bounds)) not_first) ∙ apart)

  -- the first reaches into the span, so the second begins within it
  pair_rises : (t u : TableView) → IsSpan u.view.bounds → overlap t.view.bounds span ≡ true → are_apart level t u ≡ true →
      comes_before level t u ≡ true → comes_before level (cut_table span t) (cut_table span u) ≡ true
  pair_rises t u is meets apart rises =
      let first = t.view.bounds in
      let second = u.view.bounds in
      let starts : is_below first.lo second.lo ≡ true = sym (by_start t u) ∙ rises in
      let ends : is_below second.lo first.hi ≡ false =
      second_is_false (is_below first.lo second.hi) (is_below second.lo first.hi) (sym (overlap-ends first second) ∙ no_overlap t u apart)
      (below_chain first.lo second.lo second.hi starts is.rises) in
      let within : is_below span.lo second.lo ≡ true =
      below_upto span.lo first.hi second.lo
      ((and_parts (is_below first.lo span.hi) (is_below span.lo first.hi) (sym (overlap-ends first span) ∙ meets)).1) ends in
      by_start (cut_table span t) (cut_table span u)
      ∙ below_upto (greater first.lo span.lo) second.lo (greater second.lo span.lo)
      (greater-below first.lo span.lo second.lo ∙ (λ i. starts i && within i)) (upto_greater second.lo span.lo)

  one_rises : (t : TableView) (us : List TableView) → All (λ u. IsSpan u.view.bounds) us → overlap t.view.bounds span ≡ true →
      list_all (are_apart level t) us ≡ true → list_all (comes_before level t) us ≡ true →
      list_all (comes_before level (cut_table span t)) (lent_of span us) ≡ true
  one_rises t [] are meets apart rise = refl
  one_rises t (u ∷ us) are meets apart rise =
      let IsBounded = λ (w : TableView). IsSpan w.view.bounds in
      let aparts = and_parts (are_apart level t u) (list_all (are_apart level t) us) apart in
      let rises = and_parts (comes_before level t u) (list_all (comes_before level t) us) rise in
      let others = filter (λ (w : TableView). overlap w.view.bounds span) us in
      let later = one_rises t us (All-tail IsBounded u us are) meets aparts.1 rises.1 in
      elim (overlap u.view.bounds span)
      as (λ b. list_all (comes_before level (cut_table span t)) (map (cut_table span) (cond b (u ∷ others) others)) ≡ true) [
        | true ↦ and_from (comes_before level (cut_table span t) (cut_table span u))
            (list_all (comes_before level (cut_table span t)) (map (cut_table span) others))
            (pair_rises t u (All-head IsBounded u us are) meets aparts.0 rises.0) later
        | false ↦ later
      ]

  pub all_rise : (ts : List TableView) → All (λ t. IsSpan t.view.bounds) ts → are_all_apart level ts ≡ true →
      each_pair (comes_before level) ts ≡ true → each_pair (comes_before level) (lent_of span ts) ≡ true
  all_rise [] are apart rise = refl
  all_rise (t ∷ ts) are apart rise =
      let IsBounded = λ (w : TableView). IsSpan w.view.bounds in
      let aparts = and_parts (list_all (are_apart level t) ts) (are_all_apart level ts) apart in
      let rises = and_parts (list_all (comes_before level t) ts) (each_pair (comes_before level) ts) rise in
      let others = filter (λ (w : TableView). overlap w.view.bounds span) ts in
      let later = all_rise ts (All-tail IsBounded t ts are) aparts.1 rises.1 in
      elim (overlap t.view.bounds span) as (λ b. overlap t.view.bounds span ≡ b →
      each_pair (comes_before level) (map (cut_table span) (cond b (t ∷ others) others)) ≡ true) [
        | true ↦ λ meets. and_from (list_all (comes_before level (cut_table span t)) (map (cut_table span) others))
            (each_pair (comes_before level) (map (cut_table span) others))
            (one_rises t ts (All-tail IsBounded t ts are) meets aparts.0 rises.0) later
        | false ↦ λ meets. later
      ] refl
