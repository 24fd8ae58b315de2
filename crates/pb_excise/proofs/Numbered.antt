-- V2: the parts' numbers rise from one that none has, and are reserved, as the ranks of the tables are.
use Rattle.std.proofs.Common.{◌≡◌, ℕ, List, [], ◌∷◌, Bool, true, false, refl, ap, sym, ◌∙◌, arith}
use Rattle.std.proofs.lemmas.Bool.Decides.{nat_tests}
use Rattle.std.proofs.lemmas.List.Folds.{list_all-map}
use Rattle.std.specs.Prelude.{not, ◌&&◌, ◌||◌, ◌==◌, nat_lt, nat_le, map}
use Rattle.std.specs.List.{filter, list_any, list_all}
use Rattle.pb_edit.specs.Edit.{CreatedItem}
use Rattle.pb_edit.specs.Grammar.{created_below}
use Rattle.pb_keys.specs.Span.{KeySpan}
use Rattle.pb_version.specs.Version.{TableView, VersionView, all_tables}
use Rattle.pb_version.specs.Edited.{shown_backings}
use Rattle.pb_version.specs.Rules.{are_distinct, is_free, is_reserved, new_numbers, new_ranks, keeps_v2}
use Rattle.pb_version.specs.State.{IsVersion, other_number, is_below_next}
use Rattle.pb_version.specs.Stored.{backing_of}
use Rattle.pb_version.proofs.Lists.{left, right, same_number, list_all_all_placed}
use Rattle.pb_version.proofs.Pairs.{weaker, distinct_numbers, numbers_of}
use Rattle.pb_version.proofs.KeptFacts.{ranks_of}
use Rattle.pb_excise.specs.Planned.{leaves_a_part, all_created}
use Rattle.pb_excise.specs.Allowed.{MayExcise}
use Rattle.pb_excise.proofs.SameLists.{all_of, all_from, of_filter, of_map, pairs_weaker}
use Rattle.pb_excise.proofs.Backings.{created, plain_backing, leaves_no_virtual}
use Rattle.pb_excise.proofs.InForm.{rise, from, parts_are_from, parts_rise}
use Rattle.pb_excise.proofs.NewTables.{edit, parts, new_are, each_part, parts_below}

lower_other : (m n : ℕ) → nat_lt m n ≡ true → not (n == m) ≡ true
lower_other m n e = grind (arith, nat_tests)

below_from : (m n first : ℕ) → nat_lt m first ≡ true → nat_le first n ≡ true → (m == n) ≡ false
below_from m n first e d = grind (arith, nat_tests)

-- of elements with numbers below the first, none has one from it on
none_from : {X : Type 0} (number : X → ℕ) (first n : ℕ) (xs : List X) → list_all (λ x. nat_lt (number x) first) xs ≡ true →
    nat_le first n ≡ true → not (list_any (λ x. number x == n) xs) ≡ true
none_from number first n [] e d = refl
none_from number first n (x ∷ xs) e d =
    ap (λ b. not (b || list_any (λ y. number y == n) xs))
    (below_from (number x) n first (left (nat_lt (number x) first) (list_all (λ y. nat_lt (number y) first) xs) e) d)
    ∙ none_from number first n xs (right (nat_lt (number x) first) (list_all (λ y. nat_lt (number y) first) xs) e) d

module _ (v : VersionView) (is : IsVersion v) (cut : KeySpan) (first accepted : ℕ) (may : MayExcise v cut first accepted) where
  abbrev ts : List TableView
  ts = all_tables v

  numbers : map (λ (t : TableView). t.number) (parts v is cut first accepted) ≡ new_numbers (edit v is cut first accepted)
  numbers =
      ap (map (λ (t : TableView). t.number)) (sym (new_are v is cut first accepted))
      ∙ numbers_of (shown_backings v (edit v is cut first accepted)) [] (edit v is cut first accepted).virtuals

  ranks : map (λ (t : TableView). t.rank) (parts v is cut first accepted) ≡ new_ranks (edit v is cut first accepted)
  ranks =
      ap (map (λ (t : TableView). t.rank)) (sym (new_are v is cut first accepted))
      ∙ ranks_of (shown_backings v (edit v is cut first accepted)) [] (edit v is cut first accepted).virtuals

  each_number : (q : ℕ → Bool) → list_all (λ (t : TableView). q t.number) (parts v is cut first accepted) ≡ true →
      list_all q (new_numbers (edit v is cut first accepted)) ≡ true
  each_number q e =
      sym (ap (list_all q) numbers) ∙ list_all-map q (λ (t : TableView). t.number) (parts v is cut first accepted) ∙ e

  each_rank : (q : ℕ → Bool) → list_all (λ (t : TableView). q t.rank) (parts v is cut first accepted) ≡ true →
      list_all q (new_ranks (edit v is cut first accepted)) ≡ true
  each_rank q e = sym (ap (list_all q) ranks) ∙ list_all-map q (λ (t : TableView). t.rank) (parts v is cut first accepted) ∙ e

  distinct : are_distinct (new_numbers (edit v is cut first accepted)) ≡ true
  distinct =
      sym (ap are_distinct numbers) ∙ distinct_numbers (parts v is cut first accepted)
      ∙ pairs_weaker rise other_number (λ p q e. lower_other p.number q.number e) (parts v is cut first accepted) (parts_rise cut first ts)

  -- a created backing has the number of a table
  created_low : list_all (λ (c : CreatedItem). nat_lt c.number first) (created v is cut) ≡ true
  created_low =
      list_all_all_placed (λ (c : CreatedItem). nat_lt c.number first) created_below (all_created cut v) []
      ∙ (λ i. all_from (λ (c : CreatedItem). nat_lt c.number first) (all_created cut v) (λ c has.
      let it = of_map backing_of (filter (leaves_a_part cut) ts) c has in
      let both = of_filter (leaves_a_part cut) ts it.item it.is_in in
      let number = same_number it.item.backing it.item.number
      (plain_backing v is it.item both.is_in (leaves_no_virtual v is cut it.item both.passes)) in
      sym (ap (λ (b : CreatedItem). nat_lt b.number first) it.image) ∙ ap (λ n. nat_lt n first) number
      ∙ all_of (λ (t : TableView). nat_lt t.number first) ts it.item may.unused.tables both.is_in) i && true)

  free : list_all (is_free v (edit v is cut first accepted)) (new_numbers (edit v is cut first accepted)) ≡ true
  free = each_number (is_free v (edit v is cut first accepted))
      (weaker (from first) (λ (p : TableView). is_free v (edit v is cut first accepted) p.number)
      (λ p e i.
      none_from (λ (t : TableView). t.number) first p.number ts may.unused.tables e i
      && none_from (λ (b : CreatedItem). b.number) first p.number v.backings may.unused.backings e i
      && none_from (λ (c : CreatedItem). c.number) first p.number (created v is cut) created_low e i)
      (parts v is cut first accepted) (parts_are_from cut first first ts (omega arith)))

  reserved : list_all (is_reserved v (edit v is cut first accepted)) (new_numbers (edit v is cut first accepted)) ≡ true
  reserved = each_number (is_reserved v (edit v is cut first accepted)) (parts_below cut v.five.next first ts may.reserved)

  ranks_reserved : list_all (is_reserved v (edit v is cut first accepted)) (new_ranks (edit v is cut first accepted)) ≡ true
  ranks_reserved = each_rank (is_reserved v (edit v is cut first accepted))
      (each_part cut (λ (p : TableView). nat_lt p.rank v.five.next) first ts (λ p it.
      sym (ap (λ (u : TableView). nat_lt u.rank v.five.next) it.is)
      ∙ right (nat_lt it.table.number v.five.next) (nat_lt it.table.rank v.five.next)
      (all_of (is_below_next v.five.next) ts it.table is.below it.stood)))

  pub all_v2 : keeps_v2 v (edit v is cut first accepted) ≡ true
  all_v2 = λ i. distinct i && free i && reserved i && ranks_reserved i
