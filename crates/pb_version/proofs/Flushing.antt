-- The edit of a flush: its rules, what stands after it, and the map.
use Rattle.std.proofs.Common.{◌≡◌, ℕ, ◌+◌, ◌≤◌, ◌<◌, List, [], ◌∷◌, Bool, true, false, cond, length, suc, zero, refl, ap, sym, ◌∙◌, arith, eq-eqb}
use Rattle.std.proofs.lemmas.Bool.Decides.{nat_tests}
use Rattle.std.specs.Prelude.{not, ◌==◌, ◌&&◌, ◌||◌, nat_lt, nat_le, map, Some, None, slice_index_or, if◌then◌else◌}
use Rattle.std.specs.List.{list_all}
use Rattle.std.specs.FinMap.{empty}
use Rattle.std.proofs.lemmas.Bool.{not-true}
use Rattle.pb_edit.specs.Edit.{CreatedItem, VersionEdit}
use Rattle.pb_keys.specs.Span.{KeySpan, overlap}
use Rattle.pb_keys.proofs.Forms.{span_tests}
use Rattle.pb_rows.specs.Layer.{KeyLayer}
use Rattle.pb_rows.specs.Hull.{hull_of}
use Rattle.pb_rows.specs.Viewed.{viewed, plain_view}
use Rattle.pb_rows.specs.Applied.{applied, applied_newest_first}
use Rattle.pb_rows.proofs.HullHolds.{shown_within}
use Rattle.pb_rows.proofs.LayeringLaws.{same_applied}
use Rattle.pb_version.specs.declared.broken.Broken.TheVariants.{V2, V3, V4, V6, V7, V8, V9}
use Rattle.pb_version.specs.Version.{TableView, VersionView, all_tables, tables_of_level, flattened}
use Rattle.pb_version.specs.Edited.{comes_before, starts_below, placed, all_placed, tables_of, level_after, staying, new_tables_of_level, five_after, each_level, edited}
use Rattle.pb_version.specs.Rules.{are_apart, has_number, has_backing, has_its_backing, keeps_v2, keeps_v3, keeps_v4, keeps_v6, keeps_v7, keeps_v8, first_broken}
use Rattle.pb_version.specs.State.{IsVersion, is_below_next}
use Rattle.pb_version.specs.Judged.{level_is_apart, keep_their_backings, orphans_no_backing, orphan_no_backing, is_shown_after}
use Rattle.pb_version.specs.Meaning.{layer_of_table, map_of}
use Rattle.pb_version.specs.Flush.{flush_item, flush_edit, flush_table, with_layer, MayFlush}
use Rattle.pb_version.proofs.Lists.{left, right, filter_all, always}
use Rattle.pb_version.proofs.Pairs.{weaker}
use Rattle.pb_version.proofs.Levels.{flattened_cons, list_all_flattened, all_each, two_of_each, levels_from}
use Rattle.pb_version.proofs.Commute.{first_placed}
use Rattle.pb_version.proofs.Ruled.{OnLevels, news, after, v4, v6, v7}
use Rattle.pb_version.proofs.MeaningLaws.{map_of-newest_first}

deeper_not : (k : ℕ) → 1 ≤ k → (0 == k) ≡ false
deeper_not k h = grind (arith, nat_tests)

-- ---- numbers

below_other : (m n : ℕ) (b : Bool) → nat_lt m n ≡ true → ((not (n == m) || b) || false) ≡ true
below_other m n b e = let d : not (n == m) ≡ true = grind (arith, nat_tests) in ap (λ x. (x || b) || false) d

no_number : (n : ℕ) (ts : List TableView) → list_all (is_below_next n) ts ≡ true → not (has_number ts n) ≡ true
no_number n [] e = refl
no_number n (t ∷ ts) e =
    let here = left (nat_lt t.number n) (nat_lt t.rank n) (left (is_below_next n t) (list_all (is_below_next n) ts) e) in
    let other : (t.number == n) ≡ false = grind (arith, nat_tests) in
    ap (λ b. not (b || has_number ts n)) other ∙ no_number n ts (right (is_below_next n t) (list_all (is_below_next n) ts) e)

no_backing : (n : ℕ) (bs : List CreatedItem) → list_all (λ (b : CreatedItem). nat_lt b.number n) bs ≡ true → not (has_backing bs n) ≡ true
no_backing n [] e = refl
no_backing n (b ∷ bs) e =
    let here = left (nat_lt b.number n) (list_all (λ (c : CreatedItem). nat_lt c.number n) bs) e in
    let other : (b.number == n) ≡ false = grind (arith, nat_tests) in
    ap (λ x. not (x || has_backing bs n)) other ∙ no_backing n bs (right (nat_lt b.number n) (list_all (λ (c : CreatedItem). nat_lt c.number n) bs) e)

lower : (m n : ℕ) → m < n → nat_lt m n ≡ true
lower m n h = grind (arith, nat_tests)

fit_parts : (a f n l g : ℕ) → g ≡ 1 → (g == 0 || (nat_le f a && nat_lt l n && g == 1)) ≡ true → f ≤ a
fit_parts a f n l g e k = grind (arith, nat_tests)

five_fit : (a n f g count log : ℕ) → g ≡ 1 → f ≤ a → a ≤ count → log < n →
    (((nat_le a count && nat_le n n) && nat_le f count && nat_le g g) && (nat_le count count && nat_lt log n && g == 1) && (not (g == 0) || false)) ≡ true
five_fit a n f g count log e fa ac ln = grind (arith, nat_tests)

kept_bool : (v : Bool) → ((not v || true) || false) ≡ true
kept_bool true = refl
kept_bool false = refl

shown_bool : (v s : Bool) → (((not v || true) || false) || s) ≡ true
shown_bool true s = refl
shown_bool false s = refl

turned : (b : Bool) → cond (not b) (Some V9) None ≡ cond b None (Some V9)
turned true = refl
turned false = refl

module _ (v : VersionView) (count log number size : ℕ) (hull : KeySpan) where
  abbrev edit : VersionEdit
  edit = flush_edit count log number size hull

  abbrev table : TableView
  table = flush_table number size hull

  -- the new tables of a level, if it is the first, and of another
  abbrev new_if : Bool → List TableView
  new_if b = tables_of v.backings (cond b (flush_item number size hull ∷ []) []) []

  -- ---- what stands after it

  level_same : (k : ℕ) (ts : List TableView) → 1 ≤ k → level_after v edit k ts ≡ ts
  level_same k ts h = ap (λ b. all_placed (comes_before k) (new_if b) (staying edit k ts)) (deeper_not k h) ∙ filter_all (λ (t : TableView). true) ts (always ts)

  pub levels_same_after : (k : ℕ) (ls : List (List TableView)) → 1 ≤ k → each_level (level_after v edit) k ls ≡ ls
  levels_same_after k [] h = refl
  levels_same_after k (ts ∷ ls) h = λ i. level_same k ts h i ∷ levels_same_after (k + 1) ls (omega arith) i

  pub first_level : (ts : List TableView) → list_all (λ (t : TableView). nat_lt t.rank number) ts ≡ true → level_after v edit 0 ts ≡ table ∷ ts
  first_level ts e =
      ap (placed (comes_before 0) table) (filter_all (λ (t : TableView). true) ts (always ts))
      ∙ first_placed (comes_before 0) table ts (weaker (λ (t : TableView). nat_lt t.rank number) (comes_before 0 table) (λ t k. ap (λ b. b || (t.rank == number && starts_below table t)) k) ts e)

  levels_after : (ls : List (List TableView)) → length ls ≡ 7 → list_all (λ (t : TableView). nat_lt t.rank number) (slice_index_or ls 0 []) ≡ true →
      flattened (each_level (level_after v edit) 0 ls) ≡ table ∷ flattened ls
  levels_after [] seven e = cc
  levels_after (ts ∷ ls) seven e =
      (λ i. flattened (first_level ts e i ∷ levels_same_after 1 ls (omega arith) i))
      ∙ flattened_cons (table ∷ ts) ls ∙ ap (λ us. table ∷ us) (sym (flattened_cons ts ls))

  pub table_first : IsVersion v → list_all (λ (t : TableView). nat_lt t.rank number) (tables_of_level v 0) ≡ true → all_tables (edited v edit) ≡ table ∷ all_tables v
  unfolding edited
  table_first is e = levels_after v.levels is.levels e

  pub backings_stay : (edited v edit).backings ≡ v.backings
  unfolding edited
  backings_stay = filter_all (λ (b : CreatedItem). true) v.backings (always v.backings)

  pub five_then : (edited v edit).five ≡ five_after v.five edit
  unfolding edited
  five_then = refl

  -- ---- the map

  other_layers : (layers : ℕ → KeyLayer) (layer : KeyLayer) (ts : List TableView) → list_all (λ (t : TableView). not (t.backing == number)) ts ≡ true →
      map (layer_of_table (with_layer layers number layer)) ts ≡ map (layer_of_table layers) ts
  other_layers layers layer [] e = refl
  other_layers layers layer (t ∷ ts) e =
      λ i. viewed t.view (cond (not-true (t.backing == number) (left (not (t.backing == number)) (list_all (λ (u : TableView). not (u.backing == number)) ts) e) i) layer (layers t.backing))
      ∷ other_layers layers layer ts (right (not (t.backing == number)) (list_all (λ (u : TableView). not (u.backing == number)) ts) e) i

  pub map_kept : IsVersion v → list_all (λ (t : TableView). nat_lt t.rank number) (tables_of_level v 0) ≡ true → (layers : ℕ → KeyLayer) (layer : KeyLayer) → hull_of layer ≡ Some hull →
      list_all (λ (t : TableView). not (t.backing == number)) (all_tables v) ≡ true → map_of (edited v edit) (with_layer layers number layer) ≡ applied layer (map_of v layers)
  map_kept is e layers layer hulled others =
      map_of-newest_first (edited v edit) (with_layer layers number layer)
      ∙ ap (λ ts. applied_newest_first (map (layer_of_table (with_layer layers number layer)) ts) empty) (table_first is e)
      ∙ (λ i. applied (viewed (plain_view hull) (cond (eq-eqb number number refl i) layer (layers number))) (applied_newest_first (other_layers layers layer (all_tables v) others i) empty))
      ∙ same_applied (viewed (plain_view hull) layer) layer (λ key. shown_within layer hull key hulled) (applied_newest_first (map (layer_of_table layers) (all_tables v)) empty)
      ∙ ap (applied layer) (sym (map_of-newest_first v layers))

  -- ---- the rules

  module _ (is : IsVersion v) (may : MayFlush v count log number hull) where
    each_below : list_all (λ ts. list_all (is_below_next number) ts) v.levels ≡ true
    each_below = sym (list_all_flattened (is_below_next number) v.levels) ∙ may.tables

    on : OnLevels edit
    on = record { physical = (omega arith, tt); virtuals = tt }

    all_v2 : keeps_v2 v edit ≡ true
    all_v2 = λ i.
        (no_number number (all_tables v) may.tables i && no_backing number v.backings may.backings i && true && true)
        && (lower number v.five.next may.reserved i && true) && (lower number v.five.next may.reserved i && true)

    all_v3 : keeps_v3 v edit ≡ true
    all_v3 = λ i. (span_tests hull may.bounds i && true) && true

    level_v4 : (l : ℕ) (ts : List TableView) → list_all (is_below_next number) ts ≡ true → level_is_apart [] l (new_if (0 == l)) ts ≡ true
    level_v4 zero ts e = λ i.
        weaker (is_below_next number) (λ u. are_apart 0 table u || false)
        (λ u k. below_other u.rank number (not (overlap hull u.view.bounds)) (right (nat_lt u.number number) (nat_lt u.rank number) k)) ts e i && true
    level_v4 (suc k) ts e = ap (λ b. level_is_apart [] (suc k) (new_if b) ts) (deeper_not (suc k) (omega arith))

    all_v4 : keeps_v4 v edit ≡ true
    all_v4 =
        v4 v edit
        ∙ ap (list_all (λ apart. apart)) (two_of_each (level_is_apart []) (λ l ts. new_tables_of_level v edit l) 0 v.levels)
        ∙ levels_from (list_all (is_below_next number)) (λ l ts. level_is_apart [] l (new_if (0 == l)) ts) level_v4 0 v.levels each_below

    new_backed : (l : ℕ) (ts : List TableView) → list_all (λ (t : TableView). true) ts ≡ true → list_all (has_its_backing (after v edit)) (new_if (0 == l)) ≡ true
    new_backed zero ts e = refl
    new_backed (suc k) ts e = ap (λ b. list_all (has_its_backing (after v edit)) (new_if b)) (deeper_not (suc k) (omega arith))

    each_always : (ls : List (List TableView)) → list_all (λ ts. list_all (λ (t : TableView). true) ts) ls ≡ true
    each_always [] = refl
    each_always (ts ∷ ls) = λ i. always ts i && each_always ls i

    all_v6 : keeps_v6 v edit ≡ true
    all_v6 =
        v6 v edit on is
        ∙ (λ i.
        (all_each (list_all (has_its_backing (after v edit))) (λ l ts. new_tables_of_level v edit l) 0 v.levels
        ∙ levels_from (list_all (λ (t : TableView). true)) (λ l ts. list_all (has_its_backing (after v edit)) (new_if (0 == l))) new_backed 0 v.levels (each_always v.levels)) i
        && levels_from (list_all (λ (t : TableView). true)) (keep_their_backings [] [])
        (λ l ts e. weaker (λ (t : TableView). true) (λ t. (not t.is_virtual || true) || false) (λ t _. kept_bool t.is_virtual) ts e) 0 v.levels (each_always v.levels) i)

    all_v7 : keeps_v7 v edit ≡ true
    all_v7 =
        v7 v edit is on
        ∙ levels_from (list_all (λ (t : TableView). true)) (orphan_no_backing v.levels [] [] (news v edit))
        (λ l ts e. weaker (λ (t : TableView). true) (orphans_no_backing v.levels [] [] (news v edit) l) (λ t _. shown_bool t.is_virtual (is_shown_after v.levels [] (news v edit) t.backing)) ts e) 0 v.levels (each_always v.levels)

    all_v8 : keeps_v8 v edit ≡ true
    all_v8 = five_fit v.five.accepted v.five.next v.five.flushed v.five.format count log may.begun
        (fit_parts v.five.accepted v.five.flushed v.five.next v.five.log v.five.format may.begun is.fits) may.rises may.log_reserved

    ranks_below : list_all (λ (t : TableView). nat_lt t.rank number) (tables_of_level v 0) ≡ true
    ranks_below = weaker (is_below_next number) (λ (t : TableView). nat_lt t.rank number) (λ t e. right (nat_lt t.number number) (nat_lt t.rank number) e) (tables_of_level v 0) (first_of v.levels each_below)
      where
        first_of : (ls : List (List TableView)) → list_all (λ ts. list_all (is_below_next number) ts) ls ≡ true → list_all (is_below_next number) (slice_index_or ls 0 []) ≡ true
        first_of [] e = refl
        first_of (ts ∷ ls) e = left (list_all (is_below_next number) ts) (list_all (λ us. list_all (is_below_next number) us) ls) e

    pub flush_rules : first_broken v edit ≡ (if nat_lt (length (all_tables v)) 4096 then None else Some V9)
    unfolding first_broken
    flush_rules =
        (λ i.
        cond (not (all_v2 i)) (Some V2)
        (cond (not (all_v3 i)) (Some V3)
        (cond (not (all_v4 i)) (Some V4)
        (cond (not (all_v6 i)) (Some V6)
        (cond (not (all_v7 i)) (Some V7)
        (cond (not (all_v8 i)) (Some V8)
        (cond (not (nat_le (length (table_first is ranks_below i)) 4096)) (Some V9) None)))))))
        ∙ one_more (length (all_tables v))
      where
        one_more : (n : ℕ) → cond (not (nat_le (suc n) 4096)) (Some V9) None ≡ (if nat_lt n 4096 then None else Some V9)
        one_more n =
            let same : nat_le (suc n) 4096 ≡ nat_lt n 4096 = grind (arith, nat_tests) in
            ap (λ b. cond (not b) (Some V9) None) same ∙ turned (nat_lt n 4096)
