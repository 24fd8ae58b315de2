-- What has bytes behind a version to which physical tables came.
use Rattle.std.proofs.Common.{◌≡◌, ℕ, ◌+◌, ◌≤◌, List, [], ◌∷◌, ◌++◌, Bool, true, false, cond, get_or, refl, ap, sym, ◌∙◌, arith, eq-eqb}
use Rattle.std.proofs.lemmas.List.Folds.{list_any_at}
use Rattle.std.proofs.lemmas.Map.Views.{Contains-from_any}
use Rattle.std.specs.Prelude.{◌==◌, ◌&&◌, ◌↔◌, nat_lt, map, Contains, length}
use Rattle.std.specs.List.{filter, list_any, AllByRecursion}
use Rattle.std.proofs.lemmas.Bool.{eqb-true}
use Rattle.pb_edit.specs.Edit.{PhysicalItem, CreatedItem}
use Rattle.pb_version.specs.Version.{TableView, VersionView, all_tables, flattened}
use Rattle.pb_version.specs.Edited.{comes_before, physical_table, each_level}
use Rattle.pb_version.specs.Stored.{backing_of, stored_in}
use Rattle.pb_version.specs.Adding.{tables_for, with_tables}
use Rattle.pb_version.specs.Judged.{seven, total}
use Rattle.pb_version.proofs.Lists.{left, right}
use Rattle.pb_version.proofs.Levels.{each_is_seven}
use Rattle.pb_version.proofs.Counts.{count, count_append, count_map, count_flattened, count_levels, any_count, in_one_level}

abbrev same_item : CreatedItem → CreatedItem → Bool
same_item a b = a.number == b.number && a.size == b.size

item_says : (a b : CreatedItem) → same_item a b ≡ true → a ≡ b
item_says a b e = λ i. record {
  number = eqb-true a.number b.number (left (a.number == b.number) (a.size == b.size) e) i;
  size = eqb-true a.size b.size (right (a.number == b.number) (a.size == b.size) e) i;
}

item_itself : (a b : CreatedItem) → a ≡ b → same_item b a ≡ true
item_itself a b e = λ i. eq-eqb b.number a.number (ap (λ (c : CreatedItem). c.number) (sym e)) i && eq-eqb b.size a.size (ap (λ (c : CreatedItem). c.size) (sym e)) i

found : (xs : List CreatedItem) (b : CreatedItem) → Contains xs b → list_any (same_item b) xs ≡ true
found xs b has = list_any_at (same_item b) xs has.0 b has.1 (item_itself (get_or xs has.0 b) b has.2)

module _ (v : VersionView) (ps : List PhysicalItem) (levels : length v.levels ≡ 7) (on : AllByRecursion (λ (p : PhysicalItem). p.level ≤ 6) ps) where
  new_count : (q : TableView → Bool) → count q (flattened (each_level (λ l ts. tables_for ps l) 0 v.levels)) ≡ count q (map physical_table ps)
  new_count q =
      ap (λ xss. count q (flattened xss)) (each_is_seven (tables_for ps) v.levels levels)
      ∙ count_flattened q (seven (tables_for ps))
      ∙ (λ i. total (seven (λ l. count_map q physical_table (filter (λ (p : PhysicalItem). p.level == l) ps) i)))
      ∙ in_one_level (λ (p : PhysicalItem). p.level) (λ (p : PhysicalItem). q (physical_table p)) ps on
      ∙ sym (count_map q physical_table ps)

  same_levels : (k : ℕ) (ls : List (List TableView)) → each_level (λ l ts. ts) k ls ≡ ls
  same_levels k [] = refl
  same_levels k (ts ∷ ls) = ap (λ us. ts ∷ us) (same_levels (k + 1) ls)

  -- as many of both pass each test
  stored_count : (q : CreatedItem → Bool) → count q (stored_in (with_tables v ps)) ≡ count q (map backing_of (map physical_table ps) ++ stored_in v)
  unfolding with_tables
  stored_count q =
      let shows = λ (t : TableView). q (backing_of t) in
      let tables = all_tables (with_tables v ps) in
      let of_tables : count shows tables ≡ count shows (map physical_table ps) + count shows (all_tables v) =
      count_levels shows (λ l ts. tables_for ps l) (λ l ts. ts) 0 v.levels
      ∙ (λ i. new_count shows i + count shows (flattened (same_levels 0 v.levels i))) in
      let left_side = count_append q (map backing_of tables) v.backings ∙ ap (λ n. n + count q v.backings) (count_map q backing_of tables) in
      let right_side = count_append q (map backing_of (map physical_table ps)) (stored_in v)
      ∙ (λ i. count_map q backing_of (map physical_table ps) i
      + (count_append q (map backing_of (all_tables v)) v.backings ∙ ap (λ n. n + count q v.backings) (count_map q backing_of (all_tables v))) i) in
      omega (arith, left_side, right_side, of_tables)

  stored_any : (q : CreatedItem → Bool) → list_any q (stored_in (with_tables v ps)) ≡ list_any q (map backing_of (map physical_table ps) ++ stored_in v)
  stored_any q =
      any_count q (stored_in (with_tables v ps)) ∙ ap (λ n. nat_lt 0 n) (stored_count q)
      ∙ sym (any_count q (map backing_of (map physical_table ps) ++ stored_in v))

  pub stored_with : (b : CreatedItem) → Contains (stored_in (with_tables v ps)) b ↔ Contains (map backing_of (map physical_table ps) ++ stored_in v) b
  stored_with b = (
    λ has. Contains-from_any item_says b (map backing_of (map physical_table ps) ++ stored_in v) (sym (stored_any (same_item b)) ∙ found (stored_in (with_tables v ps)) b has),
    λ has. Contains-from_any item_says b (stored_in (with_tables v ps)) (stored_any (same_item b) ∙ found (map backing_of (map physical_table ps) ++ stored_in v) b has),
  )
