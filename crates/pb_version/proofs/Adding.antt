-- New physical tables beside what an edit does otherwise: they are placed last, and which rules they may break.
use Rattle.std.proofs.Common.{◌≡◌, ℕ, List, [], ◌∷◌, ◌++◌, Bool, true, false, cond, length, refl, ap, sym, ◌∙◌}
use Rattle.std.proofs.lemmas.List.Elements.{All-head, All-tail}
use Rattle.std.proofs.lemmas.List.Folds.{list_all-append, list_all-map}
use Rattle.std.specs.Prelude.{not, ◌≢◌, ◌==◌, ◌&&◌, ◌||◌, nat_le, map, Option, Some, None, All, if◌then◌else◌}
use Rattle.std.specs.List.{filter, list_any, list_all}
use Rattle.pb_edit.specs.Edit.{PhysicalItem, VirtualItem, CreatedItem, VersionEdit}
use Rattle.pb_edit.specs.Grammar.{AreItems, IsPhysical, IsEdit, physical_below, edit_spelling, numbers_spelling, lists_spelling, items, deleted_content, physical_content, virtual_content, created_content, removed_content}
use Rattle.pb_keys.specs.Span.{IsSpan, span_of, is_span}
use Rattle.pb_keys.proofs.Forms.{span_tests}
use Rattle.pb_version.specs.declared.broken.Broken.{Broken}
use Rattle.pb_version.specs.declared.broken.Broken.TheVariants.{V1, V2, V3, V4, V5, V6, V7, V8, V9}
use Rattle.pb_version.specs.Version.{TableView, VersionView, version_of, all_tables, flattened}
use Rattle.pb_version.specs.Edited.{comes_before, physical_table, virtual_table, new_tables, new_tables_of_level, shown_backings, backings_after, five_after, all_placed, staying, level_after, each_level, edited}
use Rattle.pb_version.specs.Rules.{has_backing, has_its_backing, has_virtual, is_plain_view, is_free, is_listed, is_reserved, are_all_apart, are_apart, are_distinct, each_pair, new_numbers, new_ranks, level_keeps_v4, keeps_v2, keeps_v3, keeps_v4, keeps_v6, keeps_v7, first_broken}
use Rattle.pb_version.specs.Judged.{all_levels, any_level}
use Rattle.pb_version.specs.Adding.{more_tables, tables_for, level_with, with_tables, is_unused, level_may_add, MayAdd, AreInForm}
use Rattle.pb_version.proofs.Lists.{left, right, list_all_all_placed, list_any_all_placed}
use Rattle.pb_version.proofs.Pairs.{weaker}
use Rattle.pb_version.proofs.Levels.{any_append, list_all_flattened, list_any_flattened, all_each, any_each, each_of_each, levels_gives, levels_both, levels_all}
use Rattle.pb_version.proofs.Commute.{all_placed_append}
use Rattle.pb_version.proofs.KeptFacts.{both_all}
use Rattle.pb_version.proofs.Installing.{KeepsAll, unbroken_keeps}

-- ---- booleans and lists

not_or : (a b : Bool) → not a ≡ true → not b ≡ true → not (a || b) ≡ true
not_or true b e d = cc
not_or false b e d = d

-- the numbers of two lists, if none of the first is among the second
distinct_append : (ns ms : List ℕ) → are_distinct ns ≡ true → list_all (λ n. not (is_listed ms n)) ns ≡ true → are_distinct ms ≡ true → are_distinct (ns ++ ms) ≡ true
distinct_append [] ms d none e = e
distinct_append (n ∷ ns) ms d none e =
    let here : not (is_listed (ns ++ ms) n) ≡ true =
    ap not (any_append (λ m. m == n) ns ms)
    ∙ not_or (is_listed ns n) (is_listed ms n) (left (not (is_listed ns n)) (are_distinct ns) d)
    (left (not (is_listed ms n)) (list_all (λ m. not (is_listed ms m)) ns) none) in
    λ i. here i && distinct_append ns ms (right (not (is_listed ns n)) (are_distinct ns) d)
    (right (not (is_listed ms n)) (list_all (λ m. not (is_listed ms m)) ns) none) e i

and_regrouped : (a b c d e : Bool) → ((a && b) && ((c && d) && e)) ≡ (((a && c) && (b && d)) && e)
and_regrouped true true c d e = refl
and_regrouped true false true d e = refl
and_regrouped true false false d e = refl
and_regrouped false b c d e = refl

pairs_append : {X : Type 0} (r : X → X → Bool) (xs ys : List X) →
    each_pair r (xs ++ ys) ≡ ((each_pair r xs && list_all (λ x. list_all (r x) ys) xs) && each_pair r ys)
pairs_append r [] ys = refl
pairs_append r (x ∷ xs) ys =
    (λ i. list_all-append (r x) xs ys i && pairs_append r xs ys i)
    ∙ and_regrouped (list_all (r x) xs) (list_all (r x) ys) (each_pair r xs) (list_all (λ y. list_all (r y) ys) xs) (each_pair r ys)

-- what holds of the first of two lists of pairs, of the second, and of each two
pairs_of_both : {X : Type 0} (r : X → X → Bool) (xs ys : List X) → each_pair r xs ≡ true → list_all (λ x. list_all (r x) ys) xs ≡ true → each_pair r ys ≡ true →
    each_pair r (xs ++ ys) ≡ true
pairs_of_both r xs ys e between d = pairs_append r xs ys ∙ (λ i. (e i && between i) && d i)

module _ (v : VersionView) (edit : VersionEdit) (none : edit.physical ≡ []) (ps : List PhysicalItem) where
  abbrev more : VersionEdit
  more = more_tables edit ps

  -- the virtual tables that the edit makes for a level
  abbrev virtual_for : ℕ → List TableView
  virtual_for l = map (virtual_table (shown_backings v edit)) (filter (λ (u : VirtualItem). u.level == l) edit.virtuals)

  made_for_level : (l : ℕ) → new_tables_of_level v edit l ≡ virtual_for l
  made_for_level l = ap (λ qs. map physical_table (filter (λ (p : PhysicalItem). p.level == l) qs) ++ virtual_for l) none

  -- ---- they are placed last

  level_is : (l : ℕ) (ts : List TableView) → level_after v more l ts ≡ level_with ps l (level_after v edit l ts)
  level_is l ts =
      all_placed_append (comes_before l) (tables_for ps l) (virtual_for l) (staying edit l ts)
      ∙ ap (λ us. level_with ps l (all_placed (comes_before l) us (staying edit l ts))) (sym (made_for_level l))

  pub come_last : edited v more ≡ with_tables (edited v edit) ps
  unfolding edited with_tables
  come_last =
      ap (λ ls. version_of ls (backings_after v edit) (five_after v.five edit))
      (ap (λ f. each_level f 0 v.levels) (λ i l ts. level_is l ts i) ∙ sym (each_of_each (level_with ps) (level_after v edit) 0 v.levels))

  -- ---- tests that all physical tables pass, or none

  more_all : (q : TableView → Bool) → ((p : PhysicalItem) → q (physical_table p) ≡ true) → list_all q (all_tables (edited v edit)) ≡ true →
      list_all q (all_tables (edited v more)) ≡ true
  unfolding edited
  more_all q passes e =
      list_all_flattened q (each_level (level_after v more) 0 v.levels)
      ∙ all_each (list_all q) (level_after v more) 0 v.levels
      ∙ levels_gives (λ l ts. list_all q (level_after v edit l ts)) (λ l ts. list_all q (level_after v edit l ts)) (λ l ts. list_all q (level_after v more l ts))
      (λ l ts h _. ap (list_all q) (level_is l ts) ∙ list_all_all_placed q (comes_before l) (tables_for ps l) (level_after v edit l ts)
      ∙ (λ i. passing (filter (λ (p : PhysicalItem). p.level == l) ps) i && h i)) 0 v.levels each each
    where
      passing : (qs : List PhysicalItem) → list_all q (map physical_table qs) ≡ true
      passing [] = refl
      passing (p ∷ qs) = λ i. passes p i && passing qs i

      each : all_levels (λ l ts. list_all q (level_after v edit l ts)) 0 v.levels ≡ true
      each =
          sym (all_each (list_all q) (level_after v edit) 0 v.levels) ∙ sym (list_all_flattened q (each_level (level_after v edit) 0 v.levels)) ∙ e

  more_any : (q : TableView → Bool) → ((p : PhysicalItem) → q (physical_table p) ≡ false) → list_any q (all_tables (edited v more)) ≡ list_any q (all_tables (edited v edit))
  unfolding edited
  more_any q fails =
      list_any_flattened q (each_level (level_after v more) 0 v.levels)
      ∙ any_each (list_any q) (level_after v more) 0 v.levels
      ∙ ap (λ f. any_level f 0 v.levels) (λ i l ts. (ap (list_any q) (level_is l ts)
      ∙ list_any_all_placed q (comes_before l) (tables_for ps l) (level_after v edit l ts)
      ∙ ap (λ b. b || list_any q (level_after v edit l ts)) (failing (filter (λ (p : PhysicalItem). p.level == l) ps))) i)
      ∙ sym (any_each (list_any q) (level_after v edit) 0 v.levels)
      ∙ sym (list_any_flattened q (each_level (level_after v edit) 0 v.levels))
    where
      failing : (qs : List PhysicalItem) → list_any q (map physical_table qs) ≡ false
      failing [] = refl
      failing (p ∷ qs) = λ i. fails p i || failing qs i

  -- ---- the rules

  module _ (unbroken : first_broken v edit ≡ None) (may : MayAdd v edit ps) where
    abbrev keeps : KeepsAll v edit
    keeps = unbroken_keeps v edit unbroken

    abbrev numbers : List ℕ
    numbers = map (λ (p : PhysicalItem). p.number) ps

    abbrev virtual_numbers : List ℕ
    virtual_numbers = map (λ (u : VirtualItem). u.number) edit.virtuals

    abbrev virtual_ranks : List ℕ
    virtual_ranks = map (λ (u : VirtualItem). u.rank) edit.virtuals

    record Parts : Type 0 where
      distinct : are_distinct virtual_numbers ≡ true
      free : list_all (is_free v edit) virtual_numbers ≡ true
      numbers : list_all (is_reserved v edit) virtual_numbers ≡ true
      ranks : list_all (is_reserved v edit) virtual_ranks ≡ true

    of_four : (a b c d : Bool) → (a && b && c && d) ≡ true → (a ≡ true) × (b ≡ true) × (c ≡ true) × (d ≡ true)
    of_four a b c d e =
        let abc = left (a && b && c) d e in
        let ab = left (a && b) c abc in
        (left a b ab, right a b ab, right (a && b) c abc, right (a && b && c) d e)

    virtual_v2 : Parts
    virtual_v2 =
        let p = of_four (are_distinct virtual_numbers) (list_all (is_free v edit) virtual_numbers) (list_all (is_reserved v edit) virtual_numbers) (list_all (is_reserved v edit) virtual_ranks)
        ((λ i.
        are_distinct (map (λ (p : PhysicalItem). p.number) (sym none i) ++ virtual_numbers)
        && list_all (is_free v edit) (map (λ (p : PhysicalItem). p.number) (sym none i) ++ virtual_numbers)
        && list_all (is_reserved v edit) (map (λ (p : PhysicalItem). p.number) (sym none i) ++ virtual_numbers)
        && list_all (is_reserved v edit) (map (λ (p : PhysicalItem). p.rank) (sym none i) ++ virtual_ranks))
        ∙ keeps.v2) in
        record { distinct = p.0; free = p.1; numbers = p.2; ranks = p.3 }

    of_each : (q : ℕ → Bool) (ns ms : List ℕ) → list_all q ns ≡ true → list_all q ms ≡ true → list_all q (ns ++ ms) ≡ true
    of_each q ns ms e d = list_all-append q ns ms ∙ (λ i. e i && d i)

    abbrev unused : PhysicalItem → Bool
    unused p = is_unused v edit p.number

    abbrev reserved : PhysicalItem → Bool
    reserved p = is_reserved v edit p.number && is_reserved v edit p.rank

    more_v2 : keeps_v2 v more ≡ true
    more_v2 =
        let distinct = distinct_append numbers virtual_numbers may.distinct
        (list_all-map (λ n. not (is_listed virtual_numbers n)) (λ (p : PhysicalItem). p.number) ps
        ∙ weaker unused (λ (p : PhysicalItem). not (is_listed virtual_numbers p.number))
        (λ p e. right (is_free v edit p.number) (not (is_listed virtual_numbers p.number)) e) ps may.unused) virtual_v2.distinct in
        let free = of_each (is_free v edit) numbers virtual_numbers
        (list_all-map (is_free v edit) (λ (p : PhysicalItem). p.number) ps
        ∙ weaker unused (λ (p : PhysicalItem). is_free v edit p.number)
        (λ p e. left (is_free v edit p.number) (not (is_listed virtual_numbers p.number)) e) ps may.unused) virtual_v2.free in
        let below = of_each (is_reserved v edit) numbers virtual_numbers
        (list_all-map (is_reserved v edit) (λ (p : PhysicalItem). p.number) ps
        ∙ weaker reserved (λ (p : PhysicalItem). is_reserved v edit p.number)
        (λ p e. left (is_reserved v edit p.number) (is_reserved v edit p.rank) e) ps may.reserved) virtual_v2.numbers in
        let ranks = of_each (is_reserved v edit) (map (λ (p : PhysicalItem). p.rank) ps) virtual_ranks
        (list_all-map (is_reserved v edit) (λ (p : PhysicalItem). p.rank) ps
        ∙ weaker reserved (λ (p : PhysicalItem). is_reserved v edit p.rank)
        (λ p e. right (is_reserved v edit p.number) (is_reserved v edit p.rank) e) ps may.reserved) virtual_v2.ranks in
        λ i. distinct i && free i && below i && ranks i

    spans_plain : (qs : List PhysicalItem) → All (λ (p : PhysicalItem). IsSpan (span_of p.lo p.hi)) qs → list_all (λ (t : TableView). is_plain_view t.view) (map physical_table qs) ≡ true
    spans_plain [] all = refl
    spans_plain (p ∷ qs) all = λ i.
        (span_tests (span_of p.lo p.hi) (All-head (λ (q : PhysicalItem). IsSpan (span_of q.lo q.hi)) p qs all) i && true)
        && spans_plain qs (All-tail (λ (q : PhysicalItem). IsSpan (span_of q.lo q.hi)) p qs all) i

    more_v3 : keeps_v3 v more ≡ true
    more_v3 =
        list_all-append (λ (t : TableView). is_plain_view t.view) (map physical_table ps) (map (virtual_table (shown_backings v edit)) edit.virtuals)
        ∙ (λ i. spans_plain ps may.spans i
        && (ap (λ qs. list_all (λ (t : TableView). is_plain_view t.view) (map physical_table qs ++ map (virtual_table (shown_backings v edit)) edit.virtuals)) (sym none) ∙ keeps.v3) i)

    abbrev may_add : ℕ → List TableView → Bool
    may_add l ts = level_may_add ps l (level_after v edit l ts)

    level_v4 : (l : ℕ) (ts : List TableView) → level_keeps_v4 v edit l ts ≡ true → may_add l ts ≡ true → level_keeps_v4 v more l ts ≡ true
    level_v4 l ts kept may_be =
        let stay = staying edit l ts in
        let here = tables_for ps l in
        let there = virtual_for l in
        let old : (are_all_apart l there && list_all (λ t. list_all (are_apart l t) stay) there) ≡ true =
        ap (λ us. are_all_apart l us && list_all (λ t. list_all (are_apart l t) stay) us) (sym (made_for_level l)) ∙ kept in
        let among : are_all_apart l here ≡ true = left (are_all_apart l here) (list_all (λ t. list_all (are_apart l t) (level_after v edit l ts)) here) may_be in
        let parts : (t : TableView) → list_all (are_apart l t) (level_after v edit l ts) ≡ (list_all (are_apart l t) there && list_all (are_apart l t) stay) =
        λ t. ap (λ us. list_all (are_apart l t) (all_placed (comes_before l) us stay)) (made_for_level l) ∙ list_all_all_placed (are_apart l t) (comes_before l) there stay in
        let from : list_all (λ t. list_all (are_apart l t) there && list_all (are_apart l t) stay) here ≡ true =
        (λ i. list_all (λ t. sym (parts t) i) here) ∙ right (are_all_apart l here) (list_all (λ t. list_all (are_apart l t) (level_after v edit l ts)) here) may_be in
        let from_there : list_all (λ t. list_all (are_apart l t) there) here ≡ true =
        weaker (λ t. list_all (are_apart l t) there && list_all (are_apart l t) stay) (λ t. list_all (are_apart l t) there)
        (λ t e. left (list_all (are_apart l t) there) (list_all (are_apart l t) stay) e) here from in
        let from_stay : list_all (λ t. list_all (are_apart l t) stay) here ≡ true =
        weaker (λ t. list_all (are_apart l t) there && list_all (are_apart l t) stay) (λ t. list_all (are_apart l t) stay)
        (λ t e. right (list_all (are_apart l t) there) (list_all (are_apart l t) stay) e) here from in
        let all_new = pairs_of_both (are_apart l) here there among from_there (left (are_all_apart l there) (list_all (λ t. list_all (are_apart l t) stay) there) old) in
        let all_old = list_all-append (λ t. list_all (are_apart l t) stay) here there
        ∙ (λ i. from_stay i && right (are_all_apart l there) (list_all (λ t. list_all (are_apart l t) stay) there) old i) in
        λ i. all_new i && all_old i

    more_v4 : keeps_v4 v more ≡ true
    unfolding edited
    more_v4 = levels_gives (level_keeps_v4 v edit) may_add (level_keeps_v4 v more) level_v4 0 v.levels keeps.v4
        (sym (ap (list_all (λ apart. apart)) (each_of_each (level_may_add ps) (level_after v edit) 0 v.levels)) ∙ apart_unfolded)
      where
        apart_unfolded : list_all (λ apart. apart) (each_level (level_may_add ps) 0 (each_level (level_after v edit) 0 v.levels)) ≡ true
        apart_unfolded = may.apart

    more_v6 : keeps_v6 v more ≡ true
    more_v6 = more_all (has_its_backing (backings_after v edit)) (λ p. refl) keeps.v6

    more_v7 : keeps_v7 v more ≡ true
    more_v7 =
        ap (λ f. list_all (has_backing v.backings) edit.removed && list_all f (backings_after v edit))
        (λ i (b : CreatedItem). more_any (λ (t : TableView). t.is_virtual && t.backing == b.number) (λ p. refl) i)
        ∙ keeps.v7

    turned : (b : Bool) → cond (not b) (Some V9) None ≡ cond b None (Some V9)
    turned true = refl
    turned false = refl

    pub more_rules : first_broken v more ≡ (if nat_le (length (all_tables (with_tables (edited v edit) ps))) 4096 then None else Some V9)
    unfolding first_broken
    more_rules =
        (λ i.
        cond (not (keeps.v1 i)) (Some V1)
        (cond (not (more_v2 i)) (Some V2)
        (cond (not (more_v3 i)) (Some V3)
        (cond (not (more_v4 i)) (Some V4)
        (cond (not (keeps.v5 i)) (Some V5)
        (cond (not (more_v6 i)) (Some V6)
        (cond (not (more_v7 i)) (Some V7)
        (cond (not (keeps.v8 i)) (Some V8)
        (cond (not (nat_le (length (all_tables (come_last i))) 4096)) (Some V9) None)))))))))
        ∙ turned (nat_le (length (all_tables (with_tables (edited v edit) ps))) 4096)

-- ---- the grammar

pub more_in_form : (edit : VersionEdit) (ps : List PhysicalItem) → AreInForm edit → AreItems IsPhysical physical_below ps → edit_spelling (more_tables edit ps) ≢ [] → IsEdit (more_tables edit ps)
more_in_form edit ps form new some = record {
  some = some;
  accepted = form.accepted;
  next = form.next;
  log = form.log;
  flushed = form.flushed;
  format = form.format;
  deleted = form.deleted;
  physical = new;
  virtuals = form.virtuals;
  created = form.created;
  removed = form.removed;
}

second_empty : (xs ys : List ℕ) → xs ++ ys ≡ [] → ys ≡ []
second_empty [] ys e = e
second_empty (x ∷ xs) ys e = cc

first_empty : (xs ys : List ℕ) → xs ++ ys ≡ [] → xs ≡ []
first_empty [] ys e = refl
first_empty (x ∷ xs) ys e = cc

pub more_is_some : (edit : VersionEdit) (ps : List PhysicalItem) → ps ≢ [] → edit_spelling (more_tables edit ps) ≢ []
unfolding edit_spelling
more_is_some edit [] some = λ e. some refl
more_is_some edit (p ∷ ps) some = λ e.
    let e2 = second_empty (numbers_spelling edit) (lists_spelling (more_tables edit (p ∷ ps))) e in
    let e3 = second_empty (items 6 deleted_content edit.deleted)
    (items 7 physical_content (p ∷ ps) ++ (items 8 virtual_content edit.virtuals ++ (items 9 created_content edit.created ++ items 10 removed_content edit.removed))) e2 in
    cc
