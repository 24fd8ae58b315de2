-- What was gathered from all tables, in order, is the edit of the excise.
use Rattle.std.proofs.Common.{◌≡◌, ℕ, ◌+◌, ◌≤◌, ◌^◌, List, [], ◌∷◌, Bool, true, false, cond, refl, ap, sym, ◌∙◌, subst, arith}
use Rattle.std.proofs.lemmas.Bool.Decides.{nat_tests}
use Rattle.std.specs.Prelude.{not, ◌&&◌, ◌||◌, ◌==◌, nat_lt}
use Rattle.std.specs.List.{filter, list_any}
use Rattle.pb_edit.specs.Edit.{VersionEdit}
use Rattle.pb_edit.specs.Grammar.{IsEdit, deleted_below, created_below}
use Rattle.pb_keys.specs.Span.{KeySpan, IsSpan}
use Rattle.pb_keys.proofs.Tests.{same_tests, or_false}
use Rattle.pb_span_cases.specs.Remainder.{remains}
use Rattle.pb_version.specs.Version.{TableView, VersionView, all_tables, flattened}
use Rattle.pb_version.specs.Edited.{all_placed, edited}
use Rattle.pb_version.specs.Rules.{has_backing, has_virtual}
use Rattle.pb_version.specs.State.{IsVersion}
use Rattle.pb_version.proofs.Lists.{left, right, same_number}
use Rattle.pb_version.proofs.Pairs.{pairs_filter, number_turned}
use Rattle.pb_version.proofs.Counts.{count, count_all_placed}
use Rattle.pb_excise.specs.Excised.{parts_count, excised_levels, excised}
use Rattle.pb_excise.specs.Planned.{is_cut, are_some, all_deleted, all_created, all_removed, excise_edit, with_count, at_count, HasItems, IsExcise}
use Rattle.pb_excise.specs.Drafted.{DraftView, begun, with_levels, is_unshown, deletions_rise, backings_rise, IsDrafted}
use Rattle.pb_excise.proofs.SameLists.{found, any_of, all_of, pairs_weaker, count_permuted, same_numbers, same_deletion, same_deletions, same_backing, same_created, backing_rises, deletion_rises}
use Rattle.pb_excise.proofs.Sets.{unshown_number}
use Rattle.pb_excise.proofs.Drafts.{AddsLevels, any_shows, any_is_unsure, levels_add}
use Rattle.pb_excise.proofs.Backings.{created_sorted, virtual_backed, levels_shown, stays_shown, shows_after, goes}
use Rattle.pb_excise.proofs.Made.{makes, removed_goes}
use Rattle.pb_excise.proofs.InForm.{deleted_sorted, removed_sorted, in_form}

equal_turned : (m n : ℕ) → (m == n) ≡ true → (n == m) ≡ true
equal_turned m n e = grind (arith, nat_tests)

-- a number in a filtered list
number_filter : (q : ℕ → Bool) (n : ℕ) (xs : List ℕ) → list_any (λ m. n == m) (filter q xs) ≡ (list_any (λ m. n == m) xs && q n)
number_filter q n [] = refl
number_filter q n (x ∷ xs) =
    elim (q x) as (λ b. q x ≡ b → list_any (λ m. n == m) (cond b (x ∷ filter q xs) (filter q xs))
    ≡ ((n == x || list_any (λ m. n == m) xs) && q n)) [
      | true ↦ λ e. ap (λ b. n == x || b) (number_filter q n xs) ∙ with_first (n == x) (list_any (λ m. n == m) xs) (q n)
          (λ same. ap q (same_number n x same) ∙ e)
      | false ↦ λ e. number_filter q n xs ∙ without_first (n == x) (list_any (λ m. n == m) xs) (q n)
          (λ same. ap q (same_number n x same) ∙ e)
    ] refl
  where
    with_first : (s l b : Bool) → (s ≡ true → b ≡ true) → (s || (l && b)) ≡ ((s || l) && b)
    with_first true l b f = sym (f refl)
    with_first false l b f = refl

    without_first : (s l b : Bool) → (s ≡ true → b ≡ false) → (l && b) ≡ ((s || l) && b)
    without_first true l b f = ap (λ c. l && c) (f refl) ∙ and_false l ∙ sym (f refl)
      where
        and_false : (c : Bool) → (c && false) ≡ false
        and_false true = refl
        and_false false = refl
    without_first false l b f = refl

module _ (v : VersionView) (is : IsVersion v) (cut : KeySpan) (cut_is : IsSpan cut) (first : ℕ) where
  abbrev draft : DraftView
  draft = with_levels cut 0 v.levels (begun first)

  added : AddsLevels cut 0 v.levels (begun first) draft
  added = levels_add cut 0 v.levels (begun first)

  -- ---- the backings that go

  abbrev unsure : ℕ → Bool
  unsure n = any_is_unsure cut (all_tables v) (λ m. n == m)

  -- where no virtual table shows the backing afterwards, it was a virtual table's that was cut exactly where it stood
  unsure_stood : (n : ℕ) → stays_shown v is cut n ≡ false → unsure n ≡ has_backing v.backings n
  unsure_stood n gone = same_tests (unsure n) (has_backing v.backings n)
      (λ e.
      let it = found (λ (t : TableView). is_cut cut t && (t.is_virtual && n == t.backing)) (all_tables v) e in
      let both = right (is_cut cut it.item) (it.item.is_virtual && n == it.item.backing) it.passes in
      ap (has_backing v.backings) (same_number n it.item.backing (right it.item.is_virtual (n == it.item.backing) both))
      ∙ virtual_backed v is it.item it.is_in (left it.item.is_virtual (n == it.item.backing) both))
      (λ e.
      let b = found (λ c. c.number == n) v.backings e in
      let number : b.item.number ≡ n = same_number b.item.number n b.passes in
      let shown : has_virtual (all_tables v) b.item.number ≡ true =
      all_of (λ c. has_virtual (all_tables v) c.number) v.backings b.item is.shown b.is_in in
      let it = found (λ (t : TableView). t.is_virtual && t.backing == n) (all_tables v) (ap (has_virtual (all_tables v)) (sym number)
      ∙ shown) in
      let backing : (n == it.item.backing) ≡ true = number_turned n it.item.backing
      ∙ right it.item.is_virtual (it.item.backing == n) it.passes in
      let is_virtual = left it.item.is_virtual (it.item.backing == n) it.passes in
      elim (is_cut cut it.item) as (λ c. is_cut cut it.item ≡ c → unsure n ≡ true) [
        | true ↦ λ goes_then. any_of (λ (t : TableView). is_cut cut t && (t.is_virtual && n == t.backing))
            (all_tables v) it.item it.is_in (λ i. goes_then i && (is_virtual i && backing i))
        | false ↦ λ whole.
            let stays : shows_after v is cut n it.item ≡ true =
            ap (λ c. cond c (are_some (remains it.item.view.bounds cut)) it.item.is_virtual && it.item.backing == n) whole ∙ it.passes in
            let bad : false ≡ true = sym gone ∙ any_of (shows_after v is cut n) (all_tables v) it.item it.is_in stays in
            cc
      ] refl)

  unsure_goes : (n : ℕ) → (unsure n && not (stays_shown v is cut n)) ≡ goes v is cut n
  unsure_goes n =
      elim (stays_shown v is cut n) as (λ s. stays_shown v is cut n ≡ s → (unsure n && not s) ≡ (has_backing v.backings n && not s)) [
        | true ↦ λ _. and_false (unsure n) ∙ sym (and_false (has_backing v.backings n))
        | false ↦ λ gone. ap (λ b. b && true) (unsure_stood n gone)
      ] refl
    where
      and_false : (b : Bool) → (b && false) ≡ false
      and_false true = refl
      and_false false = refl

  shown_then : (n : ℕ) → is_unshown draft.shown n ≡ not (stays_shown v is cut n)
  shown_then n =
      unshown_number draft.shown n
      ∙ ap not (added.shown (λ m. n == m) ∙ or_false (any_shows (flattened (excised_levels cut first v.levels)) (λ m. n == m))
      ∙ ap (λ p. list_any p (flattened (excised_levels cut first v.levels)))
      (λ i (t : TableView). t.is_virtual && number_turned n t.backing i)
      ∙ levels_shown v is cut first n v.levels)

  turned_any : (n : ℕ) (xs : List ℕ) → list_any (λ m. n == m) xs ≡ list_any (λ m. m == n) xs
  turned_any n xs = ap (λ p. list_any p xs) (λ i m. number_turned n m i)

  removed_are : filter (is_unshown draft.shown) draft.unsure ≡ all_removed cut first v
  removed_are = same_numbers (filter (is_unshown draft.shown) draft.unsure) (all_removed cut first v)
      (pairs_filter nat_lt (is_unshown draft.shown) draft.unsure (added.ascend refl))
      (removed_sorted v is cut cut_is first)
      (λ n.
      number_filter (is_unshown draft.shown) n draft.unsure
      ∙ (λ i. (added.unsure (λ m. n == m) ∙ or_false (unsure n)) i && shown_then n i)
      ∙ unsure_goes n
      ∙ sym (turned_any n (all_removed cut first v) ∙ removed_goes v is cut cut_is first 0 n))

  -- ---- the edit

  module _ (edit : VersionEdit) (drafted : IsDrafted draft edit) where
    deleted_are : edit.deleted ≡ all_placed deleted_below (all_deleted cut v) []
    deleted_are = same_deletions edit.deleted (all_placed deleted_below (all_deleted cut v) []) drafted.deleted_rise
        (pairs_weaker deleted_below deletions_rise deletion_rises (all_placed deleted_below (all_deleted cut v) [])
        (deleted_sorted v is cut))
        (λ d. omega (
          arith,
          count_permuted (same_deletion d) draft.deleted edit.deleted drafted.deleted,
          ap (count (same_deletion d)) added.deleted,
          count_all_placed (same_deletion d) deleted_below (all_deleted cut v) [],
        ))

    created_are : edit.created ≡ all_placed created_below (all_created cut v) []
    created_are = same_created edit.created (all_placed created_below (all_created cut v) []) drafted.created_rise
        (pairs_weaker created_below backings_rise backing_rises (all_placed created_below (all_created cut v) []) (created_sorted v is cut))
        (λ c. omega (
          arith,
          count_permuted (same_backing c) draft.created edit.created drafted.created,
          ap (count (same_backing c)) added.created,
          count_all_placed (same_backing c) created_below (all_created cut v) [],
        ))

    has_items : HasItems v cut first edit
    has_items = record {
      deleted = deleted_are;
      virtuals = drafted.virtuals ∙ added.virtuals;
      created = created_are;
      removed = drafted.removed ∙ removed_are;
    }

    is_edit : excise_edit v cut first ≡ edit
    is_edit = λ i. record {
      accepted = sym drafted.numbers.accepted i;
      next = sym drafted.numbers.next i;
      log = sym drafted.numbers.log i;
      flushed = sym drafted.numbers.flushed i;
      format = sym drafted.numbers.format i;
      deleted = sym deleted_are i;
      physical = sym drafted.numbers.physical i;
      virtuals = sym has_items.virtuals i;
      created = sym created_are i;
      removed = sym has_items.removed i;
    }

    pub is_excise : first + parts_count cut (all_tables v) ≤ 2 ^ 62 → IsExcise v cut first edit
    is_excise room = record {
      numbers = drafted.numbers;
      items = has_items;
      makes = λ accepted. subst (λ e. edited v (with_count accepted e) ≡ at_count accepted (excised v cut first)) is_edit
          (makes v is cut cut_is first accepted);
      in_form = λ accepted low. subst (λ e. IsEdit (with_count accepted e)) is_edit (in_form v is cut cut_is first room accepted low);
    }
