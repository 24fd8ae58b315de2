-- The snapshot of a version breaks no rule of the empty version, and makes the version of it.
use Rattle.std.proofs.Common.{◌≡◌, ◌≢◌, ℕ, ◌+◌, ◌≤◌, ◌<◌, List, [], ◌∷◌, ◌++◌, Bool, true, false, cond, length, refl, ap, sym, ◌∙◌, subst, arith}
use Rattle.std.proofs.lemmas.Bool.Decides.{nat_tests}
use Rattle.std.proofs.lemmas.List.{append-nil}
use Rattle.std.proofs.lemmas.List.Folds.{list_all-map}
use Rattle.std.specs.Prelude.{not, ◌==◌, ◌&&◌, ◌||◌, nat_lt, nat_le, map, Some, None}
use Rattle.std.specs.List.{filter, list_all}
use Rattle.std.proofs.lemmas.List.Elements.{filter-append}
use Rattle.pb_edit.specs.Edit.{PhysicalItem, VirtualItem, CreatedItem, VersionEdit}
use Rattle.pb_edit.specs.Grammar.{created_below}
use Rattle.pb_version.specs.declared.broken.Broken.TheVariants.{V1, V2, V3, V4, V5, V6, V7, V8, V9}
use Rattle.pb_version.specs.Version.{TableView, VersionView, empty_version, version_of, all_tables, flattened}
use Rattle.pb_version.specs.Edited.{comes_before, all_placed, tables_of, new_tables, new_tables_of_level, shown_backings, backings_after, each_level, edited}
use Rattle.pb_version.specs.Rules.{each_pair, are_apart, are_all_apart, are_distinct, is_free, is_reserved, has_its_backing, has_virtual, is_plain_view, fit_each_other, level_keeps_v4, new_numbers, new_ranks, keeps_v1, keeps_v2, keeps_v3, keeps_v4, keeps_v5, keeps_v6, keeps_v7, keeps_v8, keeps_v9, first_broken}
use Rattle.pb_version.specs.State.{IsVersion, other_number, is_below_next, is_formed}
use Rattle.pb_version.specs.Judged.{all_levels, seven}
use Rattle.pb_version.specs.Snapshot.{physical_items, virtual_items, snapshot_of}
use Rattle.pb_version.specs.Fold.{FoldsTo}
use Rattle.pb_version.proofs.Lists.{left, right, filter_all, always}
use Rattle.pb_version.proofs.Levels.{flattened_cons, list_all_flattened, levels_all, levels_both, each_is_seven}
use Rattle.pb_version.proofs.Counts.{once, once_each, count_all_placed}
use Rattle.pb_version.proofs.Pairs.{weaker, pairs_all_placed, apart_turned, distinct_numbers, numbers_of}
use Rattle.pb_version.proofs.Ruled.{after_all, after_same, on_levels}
use Rattle.pb_version.proofs.KeptFacts.{ranks_of}
use Rattle.pb_version.proofs.Commute.{sorted_stays}
use Rattle.pb_version.proofs.FoldLaws.{folds_first}
use Rattle.pb_version.proofs.Snapshots.{placed_again}
use Rattle.pb_version.proofs.SnapshotSpelling.{physical_on, virtual_on, levels_above, snapshot_spellable}

-- ---- the items of one level among those of all

pub filter_none : {X : Type 0} (p : X → Bool) (xs : List X) → list_all (λ x. not (p x)) xs ≡ true → filter p xs ≡ []
filter_none p [] e = refl
filter_none p (x ∷ xs) e =
    elim (p x) as (λ b. not b ≡ true → cond b (x ∷ filter p xs) (filter p xs) ≡ []) [
      | true ↦ λ bad. cc
      | false ↦ λ _. filter_none p xs (right (not (p x)) (list_all (λ y. not (p y)) xs) e)
    ] (left (not (p x)) (list_all (λ y. not (p y)) xs) e)

higher_not : (m k : ℕ) → nat_lt k m ≡ true → not (m == k) ≡ true
higher_not m k e = grind (arith, nat_tests)

lower_not : (m k l : ℕ) → k < l → (m == k) ≡ true → not (m == l) ≡ true
lower_not m k l h e = grind (arith, nat_tests)

module _ {Y : Type 0} (level : Y → ℕ) (f : ℕ → List TableView → List Y) (on : (l : ℕ) (ts : List TableView) → list_all (λ y. level y == l) (f l ts) ≡ true) where
  filter_cons : (l k : ℕ) (ts : List TableView) (ls : List (List TableView)) →
      filter (λ y. level y == l) (flattened (each_level f k (ts ∷ ls))) ≡ filter (λ y. level y == l) (f k ts) ++ filter (λ y. level y == l) (flattened (each_level f (k + 1) ls))
  filter_cons l k ts ls =
      ap (filter (λ y. level y == l)) (flattened_cons (f k ts) (each_level f (k + 1) ls))
      ∙ filter-append (λ y. level y == l) (f k ts) (flattened (each_level f (k + 1) ls))

  filter_here : (k : ℕ) (ts : List TableView) (ls : List (List TableView)) → filter (λ y. level y == k) (flattened (each_level f k (ts ∷ ls))) ≡ f k ts
  filter_here k ts ls =
      filter_cons k k ts ls
      ∙ (λ i. filter_all (λ y. level y == k) (f k ts) (on k ts) i
      ++ filter_none (λ y. level y == k) (flattened (each_level f (k + 1) ls))
      (weaker (λ y. nat_lt k (level y)) (λ y. not (level y == k)) (λ y e. higher_not (level y) k e) (flattened (each_level f (k + 1) ls)) (levels_above level f on k (k + 1) ls (omega arith))) i)
      ∙ append-nil (f k ts)

  filter_later : (l k : ℕ) (ts : List TableView) (ls : List (List TableView)) → k < l →
      filter (λ y. level y == l) (flattened (each_level f k (ts ∷ ls))) ≡ filter (λ y. level y == l) (flattened (each_level f (k + 1) ls))
  filter_later l k ts ls h =
      filter_cons l k ts ls
      ∙ ap (λ ys. ys ++ filter (λ y. level y == l) (flattened (each_level f (k + 1) ls)))
      (filter_none (λ y. level y == l) (f k ts) (weaker (λ y. level y == k) (λ y. not (level y == l)) (λ y e. lower_not (level y) k l h e) (f k ts) (on k ts)))

-- ---- each level again

abbrev stands : List CreatedItem → ℕ → List TableView → Bool
stands bs l ts = (list_all (is_formed bs) ts && list_all (λ (t : TableView). is_plain_view t.view) ts) && (each_pair (are_apart l) ts && each_pair (comes_before l) ts)

module _ (bs : List CreatedItem) (ps : List PhysicalItem) (vs : List VirtualItem) where
  abbrev from_items : ℕ → List TableView
  from_items l = all_placed (comes_before l) (tables_of bs (filter (λ p. p.level == l) ps) (filter (λ v. v.level == l) vs)) []

  again : (k : ℕ) (ls : List (List TableView)) →
      ((l : ℕ) → k ≤ l → filter (λ p. p.level == l) ps ≡ filter (λ p. p.level == l) (flattened (each_level physical_items k ls))) →
      ((l : ℕ) → k ≤ l → filter (λ v. v.level == l) vs ≡ filter (λ v. v.level == l) (flattened (each_level virtual_items k ls))) →
      all_levels (stands bs) k ls ≡ true → each_level (λ l ts. from_items l) k ls ≡ ls
  again k [] ep ev e = refl
  again k (ts ∷ ls) ep ev e =
      let here = left (stands bs k ts) (all_levels (stands bs) (k + 1) ls) e in
      let forms = left (list_all (is_formed bs) ts && list_all (λ (t : TableView). is_plain_view t.view) ts) (each_pair (are_apart k) ts && each_pair (comes_before k) ts) here in
      let pairs = right (list_all (is_formed bs) ts && list_all (λ (t : TableView). is_plain_view t.view) ts) (each_pair (are_apart k) ts && each_pair (comes_before k) ts) here in
      let first : from_items k ≡ ts =
      (λ i. all_placed (comes_before k) (tables_of bs
      ((ep k (omega arith) ∙ filter_here (λ (p : PhysicalItem). p.level) physical_items physical_on k ts ls) i)
      ((ev k (omega arith) ∙ filter_here (λ (v : VirtualItem). v.level) virtual_items virtual_on k ts ls) i)) [])
      ∙ placed_again k bs ts
      (left (list_all (is_formed bs) ts) (list_all (λ (t : TableView). is_plain_view t.view) ts) forms) (right (list_all (is_formed bs) ts) (list_all (λ (t : TableView). is_plain_view t.view) ts) forms)
      (left (each_pair (are_apart k) ts) (each_pair (comes_before k) ts) pairs) (right (each_pair (are_apart k) ts) (each_pair (comes_before k) ts) pairs) in
      λ i. first i ∷ again (k + 1) ls
      (λ l h. ep l (omega arith) ∙ filter_later (λ (p : PhysicalItem). p.level) physical_items physical_on l k ts ls (omega arith))
      (λ l h. ev l (omega arith) ∙ filter_later (λ (v : VirtualItem). v.level) virtual_items virtual_on l k ts ls (omega arith))
      (right (stands bs k ts) (all_levels (stands bs) (k + 1) ls) e) i

from_nothing : (a b c d : ℕ) → (nat_le 0 a && nat_le 0 b && nat_le 0 c && nat_le 0 d) ≡ true
from_nothing a b c d = grind (arith, nat_tests)

begun_fits : (format : ℕ) (fits : Bool) → format ≢ 0 → (format == 0 || fits) ≡ true → fits ≡ true
begun_fits format true begun e = refl
begun_fits format false begun e = grind (arith, nat_tests)

module _ (v : VersionView) (is : IsVersion v) where
  abbrev snapshot : VersionEdit
  snapshot = snapshot_of v

  abbrev new : List TableView
  new = new_tables empty_version snapshot

  shown_again : shown_backings empty_version snapshot ≡ v.backings
  shown_again = sorted_stays created_below v.backings is.ascend

  all_stand : all_levels (stands v.backings) 0 v.levels ≡ true
  all_stand =
      levels_both (λ l ts. list_all (is_formed v.backings) ts && list_all (λ (t : TableView). is_plain_view t.view) ts) (λ l ts. each_pair (are_apart l) ts && each_pair (comes_before l) ts) 0 v.levels
      (levels_both (λ l ts. list_all (is_formed v.backings) ts) (λ l ts. list_all (λ (t : TableView). is_plain_view t.view) ts) 0 v.levels
      (sym (levels_all (list_all (is_formed v.backings)) 0 v.levels) ∙ sym (list_all_flattened (is_formed v.backings) v.levels) ∙ is.formed)
      (sym (levels_all (list_all (λ (t : TableView). is_plain_view t.view)) 0 v.levels) ∙ sym (list_all_flattened (λ (t : TableView). is_plain_view t.view) v.levels) ∙ is.views))
      (levels_both are_all_apart (λ l ts. each_pair (comes_before l) ts) 0 v.levels is.apart is.sorted)

  levels_again : seven (λ l. all_placed (comes_before l) (new_tables_of_level empty_version snapshot l) []) ≡ v.levels
  levels_again =
      (λ i. seven (from_items (shown_again i) snapshot.physical snapshot.virtuals))
      ∙ sym (each_is_seven (from_items v.backings snapshot.physical snapshot.virtuals) v.levels is.levels)
      ∙ again v.backings snapshot.physical snapshot.virtuals 0 v.levels (λ l h. refl) (λ l h. refl) all_stand

  backings_again : backings_after empty_version snapshot ≡ v.backings
  backings_again = filter_all (λ (b : CreatedItem). true) (shown_backings empty_version snapshot) (always (shown_backings empty_version snapshot)) ∙ shown_again

  pub snapshot_back : edited empty_version snapshot ≡ v
  unfolding edited
  snapshot_back = λ i. version_of (levels_again i) (backings_again i) v.five

  -- a test of each new table, and that their numbers differ

  each_new : (q : TableView → Bool) → list_all q (all_tables v) ≡ true → list_all q new ≡ true
  each_new q e = left (list_all q new) _ (sym (after_all empty_version snapshot (on_levels snapshot (snapshot_spellable v is)) refl q) ∙ ap (λ u. list_all q (all_tables u)) snapshot_back ∙ e)

  new_numbered : each_pair other_number new ≡ true
  new_numbered = once_each new (λ n. omega (
    arith,
    once (all_tables (edited empty_version snapshot)) (subst (λ u. each_pair other_number (all_tables u) ≡ true) (sym snapshot_back) is.numbered) n,
    after_same empty_version snapshot (on_levels snapshot (snapshot_spellable v is)) refl (λ (t : TableView). t.number == n),
    count_all_placed (λ (t : TableView). t.number == n) (comes_before 0) new [],
  ))

  -- ---- the rules

  numbers : map (λ (t : TableView). t.number) new ≡ new_numbers snapshot
  numbers = numbers_of (shown_backings empty_version snapshot) snapshot.physical snapshot.virtuals

  ranks : map (λ (t : TableView). t.rank) new ≡ new_ranks snapshot
  ranks = ranks_of (shown_backings empty_version snapshot) snapshot.physical snapshot.virtuals

  each_number : (q : ℕ → Bool) → list_all (λ (t : TableView). q t.number) (all_tables v) ≡ true → list_all q (new_numbers snapshot) ≡ true
  each_number q e = sym (ap (list_all q) numbers) ∙ list_all-map q (λ (t : TableView). t.number) new ∙ each_new (λ t. q t.number) e

  each_rank : (q : ℕ → Bool) → list_all (λ (t : TableView). q t.rank) (all_tables v) ≡ true → list_all q (new_ranks snapshot) ≡ true
  each_rank q e = sym (ap (list_all q) ranks) ∙ list_all-map q (λ (t : TableView). t.rank) new ∙ each_new (λ t. q t.rank) e

  are_distinct_again : are_distinct (new_numbers snapshot) ≡ true
  are_distinct_again = sym (ap are_distinct numbers) ∙ distinct_numbers new ∙ new_numbered

  pub all_v1 : keeps_v1 empty_version snapshot ≡ true
  all_v1 = refl

  all_v2 : keeps_v2 empty_version snapshot ≡ true
  all_v2 = λ i.
      are_distinct_again i
      && each_number (is_free empty_version snapshot) is.free i
      && each_number (is_reserved empty_version snapshot) (weaker (is_below_next v.five.next) (λ t. nat_lt t.number v.five.next) (λ t e. left (nat_lt t.number v.five.next) (nat_lt t.rank v.five.next) e) (all_tables v) is.below) i
      && each_rank (is_reserved empty_version snapshot) (weaker (is_below_next v.five.next) (λ t. nat_lt t.rank v.five.next) (λ t e. right (nat_lt t.number v.five.next) (nat_lt t.rank v.five.next) e) (all_tables v) is.below) i

  pub all_v3 : keeps_v3 empty_version snapshot ≡ true
  all_v3 = each_new (λ t. is_plain_view t.view) is.views

  level_v4 : (l : ℕ) → are_all_apart l (all_placed (comes_before l) (new_tables_of_level empty_version snapshot l) []) ≡ true → level_keeps_v4 empty_version snapshot l [] ≡ true
  level_v4 l e = left (level_keeps_v4 empty_version snapshot l []) true
      (sym (pairs_all_placed (are_apart l) (apart_turned l) (comes_before l) (new_tables_of_level empty_version snapshot l) []) ∙ e)

  all_v4 : keeps_v4 empty_version snapshot ≡ true
  all_v4 = weaker (λ l. are_all_apart l (all_placed (comes_before l) (new_tables_of_level empty_version snapshot l) [])) (λ l. level_keeps_v4 empty_version snapshot l []) level_v4 (seven (λ l. l))
      (ap (all_levels are_all_apart 0) levels_again ∙ is.apart)

  pub all_v5 : keeps_v5 empty_version snapshot ≡ true
  all_v5 = is.backings_below

  all_v6 : keeps_v6 empty_version snapshot ≡ true
  all_v6 = (λ i. list_all (has_its_backing (backings_again i)) (all_tables (snapshot_back i))) ∙ is.backed

  pub all_v7 : keeps_v7 empty_version snapshot ≡ true
  all_v7 = (λ i. list_all (λ b. has_virtual (all_tables (snapshot_back i)) b.number) (backings_again i)) ∙ is.shown

  all_v8 : v.five.format ≢ 0 → keeps_v8 empty_version snapshot ≡ true
  all_v8 begun = λ i. from_nothing v.five.accepted v.five.next v.five.flushed v.five.format i && begun_fits v.five.format (fit_each_other v.five) begun is.fits i && true

  pub all_v9 : keeps_v9 empty_version snapshot ≡ true
  all_v9 = ap (λ u. nat_le (length (all_tables u)) 4096) snapshot_back ∙ is.few

  pub snapshot_unbroken : v.five.format ≢ 0 → first_broken empty_version snapshot ≡ None
  unfolding first_broken
  snapshot_unbroken begun = λ i.
      cond (not (all_v1 i)) (Some V1)
      (cond (not (all_v2 i)) (Some V2)
      (cond (not (all_v3 i)) (Some V3)
      (cond (not (all_v4 i)) (Some V4)
      (cond (not (all_v5 i)) (Some V5)
      (cond (not (all_v6 i)) (Some V6)
      (cond (not (all_v7 i)) (Some V7)
      (cond (not (all_v8 begun i)) (Some V8)
      (cond (not (all_v9 i)) (Some V9) None))))))))

  pub snapshot_folds : v.five.format ≢ 0 → FoldsTo (snapshot ∷ []) v
  snapshot_folds begun = subst (FoldsTo (snapshot ∷ [])) snapshot_back (folds_first snapshot (snapshot_unbroken begun))
