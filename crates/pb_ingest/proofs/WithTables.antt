-- A version with new tables: how many it has, what holds of each level, and what is a member.
use Rattle.std.proofs.Common.{◌≡◌, ℕ, ◌+◌, ◌≤◌, zero, suc, List, [], ◌∷◌, Bool, true, false, cond, length, refl, ap, sym, ◌∙◌, subst, arith, eq-eqb}
use Rattle.std.proofs.lemmas.Bool.{and_parts, not-true, both_ways}
use Rattle.std.proofs.lemmas.List.Elements.{All-nil, All-cons, All-head, All-tail, All-map, All-weaker, All-contains, All-contains_itself, All-from_recursion, recursion_from_All, Contains-append_right}
use Rattle.std.specs.Prelude.{not, ◌==◌, ◌&&◌, map, slice_index_or, All, Contains}
use Rattle.std.specs.List.{filter, list_all, AllByRecursion}
use Rattle.pb_edit.specs.Edit.{PhysicalItem, VersionEdit}
use Rattle.pb_version.specs.Version.{TableView, VersionView, tables_of_level, all_tables, flattened}
use Rattle.pb_version.specs.Edited.{physical_table, comes_before, placed, all_placed, each_level, level_after, edited}
use Rattle.pb_version.specs.Rules.{has_number, has_backing, is_free, is_listed}
use Rattle.pb_version.specs.Judged.{seven, total}
use Rattle.pb_version.specs.Adding.{tables_for, level_with, with_tables, is_unused}
use Rattle.pb_version.proofs.Commute.{each_all_placed}
use Rattle.pb_version.proofs.Counts.{count, length_count, count_map, count_flattened, count_levels, in_one_level}
use Rattle.pb_version.proofs.Levels.{list_all_flattened, each_is_seven, test_on}
use Rattle.pb_version.proofs.Pairs.{not_any}

-- ---- as many tables more

pub levels_after : (v : VersionView) (edit : VersionEdit) → length (edited v edit).levels ≡ length v.levels
unfolding edited
levels_after v edit = same 0 v.levels
  where
    same : (k : ℕ) (ls : List (List TableView)) → length (each_level (level_after v edit) k ls) ≡ length ls
    same k [] = refl
    same k (ts ∷ ls) = ap suc (same (k + 1) ls)

same_levels : (k : ℕ) (ls : List (List TableView)) → each_level (λ l ts. ts) k ls ≡ ls
same_levels k [] = refl
same_levels k (ts ∷ ls) = ap (λ us. ts ∷ us) (same_levels (k + 1) ls)

pub tables_more : (v : VersionView) (ps : List PhysicalItem) → length v.levels ≡ 7 → AllByRecursion (λ (p : PhysicalItem). p.level ≤ 6) ps →
    length (all_tables (with_tables v ps)) ≡ length (all_tables v) + length ps
unfolding with_tables
tables_more v ps levels on =
    let any = λ (t : TableView). true in
    let new : count any (flattened (each_level (λ l ts. tables_for ps l) 0 v.levels)) ≡ count (λ (p : PhysicalItem). true) ps =
    ap (λ xss. count any (flattened xss)) (each_is_seven (tables_for ps) v.levels levels)
    ∙ count_flattened any (seven (tables_for ps))
    ∙ (λ i. total (seven (λ l. count_map any physical_table (filter (λ (p : PhysicalItem). p.level == l) ps) i)))
    ∙ in_one_level (λ (p : PhysicalItem). p.level) (λ (p : PhysicalItem). true) ps on in
    let old : count any (flattened (each_level (λ l ts. ts) 0 v.levels)) ≡ count any (flattened v.levels) =
    ap (λ ls. count any (flattened ls)) (same_levels 0 v.levels) in
    omega (
      arith,
      length_count (all_tables (with_tables v ps)),
      count_levels any (λ l ts. tables_for ps l) (λ l ts. ts) 0 v.levels,
      new,
      old,
      length_count (flattened v.levels),
      length_count ps,
    )

-- ---- one level with new tables

filtered_each : {X : Type 0} (P : X → Type 0) (q : X → Bool) (xs : List X) → All (λ x. q x ≡ true → P x) xs → All P (filter q xs)
filtered_each P q [] all = All-nil P
filtered_each P q (x ∷ xs) all =
    let later = filtered_each P q xs (All-tail (λ y. q y ≡ true → P y) x xs all) in
    elim (q x) as (λ b. q x ≡ b → All P (cond b (x ∷ filter q xs) (filter q xs))) [
      | true ↦ λ e. All-cons P x (filter q xs) (All-head (λ y. q y ≡ true → P y) x xs all e) later
      | false ↦ λ _. later
    ] refl

level_each : (P : TableView → Type 0) (ps : List PhysicalItem) (m : ℕ) (ts : List TableView) → All P ts →
    All (λ (p : PhysicalItem). (p.level == m) ≡ true → P (physical_table p)) ps → All P (level_with ps m ts)
level_each P ps m ts old new =
    All-from_recursion P (level_with ps m ts)
    (each_all_placed P (comes_before m) (tables_for ps m) ts
    (recursion_from_All P (tables_for ps m)
    (All-map P physical_table (filter (λ (p : PhysicalItem). p.level == m) ps) (filtered_each (λ (p : PhysicalItem). P (physical_table p)) (λ (p : PhysicalItem). p.level == m) ps new)))
    (recursion_from_All P ts old))

-- the level m of levels that are numbered from k on
levels_each : (P : TableView → Type 0) (ps : List PhysicalItem) (m k l : ℕ) → k + l ≡ m → (ls : List (List TableView)) → All P (slice_index_or ls l []) →
    All (λ (p : PhysicalItem). (p.level == m) ≡ true → P (physical_table p)) ps → All P (slice_index_or (each_level (level_with ps) k ls) l [])
levels_each P ps m k l at [] old new = All-nil P
levels_each P ps m k zero at (ts ∷ ls) old new =
    let here : m ≡ k = omega (arith, at) in
    subst (λ n. All P (level_with ps n ts)) here (level_each P ps m ts old new)
levels_each P ps m k (suc l) at (ts ∷ ls) old new = levels_each P ps m (k + 1) l (omega (arith, at)) ls old new

pub with_each : (P : TableView → Type 0) (v : VersionView) (ps : List PhysicalItem) (level : ℕ) → All P (tables_of_level v level) →
    All (λ (p : PhysicalItem). (p.level == level) ≡ true → P (physical_table p)) ps → All P (tables_of_level (with_tables v ps) level)
unfolding with_tables
with_each P v ps level old new = levels_each P ps level 0 level (omega arith) v.levels old new

pub passes_each : {X : Type 0} (q : X → Bool) (xs : List X) → list_all q xs ≡ true → All (λ x. q x ≡ true) xs
passes_each q [] e = All-nil (λ x. q x ≡ true)
passes_each q (x ∷ xs) e =
    let both = and_parts (q x) (list_all q xs) e in
    All-cons (λ y. q y ≡ true) x xs both.0 (passes_each q xs both.1)

-- a number that is in use nowhere is no table's
pub no_table : (v : VersionView) (edit : VersionEdit) (t : TableView) (level : ℕ) → is_unused v edit t.number ≡ true → ¬ (Contains (tables_of_level v level) t)
no_table v edit t level unused has =
    let number = t.number in
    let virtual = not (is_listed (map (λ u. u.number) edit.virtuals) number) in
    let free = (and_parts (is_free v edit number) virtual unused).0 in
    let none : not (has_number (all_tables v) number) ≡ true =
    (and_parts (not (has_number (all_tables v) number)) (not (has_backing v.backings number))
    (and_parts (not (has_number (all_tables v) number) && not (has_backing v.backings number)) (not (has_backing edit.created number)) free).0).0 in
    let other = λ (u : TableView). not (u.number == number) in
    let all : list_all other (tables_of_level v level) ≡ true =
    test_on other v.levels level
    (sym (list_all_flattened other v.levels) ∙ sym (not_any (λ (u : TableView). u.number == number) (all_tables v)) ∙ none) in
    let differs = All-contains (λ u. other u ≡ true) (tables_of_level v level) t (passes_each other (tables_of_level v level) all) has in
    both_ways (number == number) (not-true (number == number) differs) (eq-eqb number number refl)

-- ---- members of placed lists

behind_first : {X : Type 0} (x : X) (xs : List X) (z : X) → Contains xs z → Contains (x ∷ xs) z
behind_first x xs z has = Contains-append_right (x ∷ []) xs z has

first_of : {X : Type 0} (x : X) (xs : List X) → Contains (x ∷ xs) x
first_of x xs = All-head (Contains (x ∷ xs)) x xs (All-contains_itself (x ∷ xs))

tail_each : {X : Type 0} (x : X) (xs ys : List X) → All (Contains xs) ys → All (Contains (x ∷ xs)) ys
tail_each x xs ys all = All-weaker (Contains xs) (Contains (x ∷ xs)) (λ z has. behind_first x xs z has) ys all

-- what is placed is there, and what was there before it
placed_there : {X : Type 0} (f : X → X → Bool) (x : X) (ys : List X) → All (Contains (placed f x ys)) (x ∷ ys)
placed_there f x [] = All-contains_itself (x ∷ [])
placed_there f x (y ∷ ys) =
    elim (f x y) as (λ b. All (Contains (cond b (x ∷ y ∷ ys) (y ∷ placed f x ys))) (x ∷ y ∷ ys)) [
      | true ↦ All-contains_itself (x ∷ y ∷ ys)
      | false ↦
          let later = placed_there f x ys in
          let whole = y ∷ placed f x ys in
          All-cons (Contains whole) x (y ∷ ys) (behind_first y (placed f x ys) x (All-head (Contains (placed f x ys)) x ys later))
          (All-cons (Contains whole) y ys (first_of y (placed f x ys)) (tail_each y (placed f x ys) ys (All-tail (Contains (placed f x ys)) x ys later)))
    ]

pub all_placed_there : {X : Type 0} (f : X → X → Bool) (xs ys : List X) → All (Contains (all_placed f xs ys)) xs
all_placed_there f [] ys = All-nil (Contains ys)
all_placed_there f (x ∷ xs) ys =
    let behind = all_placed f xs ys in
    let there = placed_there f x behind in
    All-cons (Contains (placed f x behind)) x xs (All-head (Contains (placed f x behind)) x behind there)
    (All-weaker (Contains behind) (Contains (placed f x behind))
    (λ z has. All-contains (Contains (placed f x behind)) behind z (All-tail (Contains (placed f x behind)) x behind there) has) xs (all_placed_there f xs ys))

-- what a function makes of a member is a member of what it makes of them
pub made_there : {X Y : Type 0} (g : X → Y) (xs : List X) → All (λ x. Contains (map g xs) (g x)) xs
made_there g [] = All-nil (λ x. Contains [] (g x))
made_there g (x ∷ xs) =
    All-cons (λ y. Contains (g x ∷ map g xs) (g y)) x xs (first_of (g x) (map g xs))
    (All-weaker (λ y. Contains (map g xs) (g y)) (λ y. Contains (g x ∷ map g xs) (g y)) (λ y has. behind_first (g x) (map g xs) (g y) has) xs (made_there g xs))
