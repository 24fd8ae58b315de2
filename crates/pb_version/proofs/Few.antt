-- How many items an edit that breaks no rule has of each kind.
use Rattle.std.proofs.Common.{◌≡◌, ℕ, ◌+◌, ◌≤◌, suc, List, [], ◌∷◌, ◌++◌, Bool, true, false, cond, length, get_or, refl, ap, sym, ◌∙◌, arith, length-append, eq-eqb}
use Rattle.std.proofs.lemmas.Bool.Decides.{nat_tests}
use Rattle.std.proofs.lemmas.List.{length-map}
use Rattle.std.specs.Prelude.{not, ◌==◌, ◌&&◌, ◌||◌, nat_lt, map, slice_index_or}
use Rattle.std.specs.List.{filter, list_any, list_all, AllByRecursion}
use Rattle.std.proofs.Math.Bool.{or-true}
use Rattle.std.proofs.lemmas.Bool.{eqb-true, leb-true}
use Rattle.pb_edit.specs.Edit.{DeletedItem, CreatedItem, VersionEdit}
use Rattle.pb_edit.specs.Grammar.{IsEdit, IsDeleted, Ascend, deleted_below, created_below}
use Rattle.pb_version.specs.Version.{TableView, VersionView, all_tables, tables_of_level, flattened}
use Rattle.pb_version.specs.Edited.{comes_before, physical_table, virtual_table, shown_backings, backings_after, is_removed, all_placed, edited}
use Rattle.pb_version.specs.Rules.{each_pair, has_number, has_backing, has_virtual, is_freed, is_reserved, is_backing_anew, keeps_v1, keeps_v5, keeps_v7, keeps_v9}
use Rattle.pb_version.specs.State.{IsVersion}
use Rattle.pb_version.specs.Judged.{seven, total}
use Rattle.pb_version.proofs.Lists.{left, right, list_any_filter, length_all_placed, always}
use Rattle.pb_version.proofs.Pairs.{weaker, filter_keeps, pairs_filter}
use Rattle.pb_version.proofs.Levels.{flattened_cons, seven_map}
use Rattle.pb_version.proofs.Counts.{count, length_count, in_one_level, same_length}
use Rattle.pb_version.proofs.Commute.{IsTransitive}
use Rattle.pb_version.proofs.KeptFacts.{any_gives, both_all, backings_chain}
use Rattle.pb_version.proofs.Ruled.{new, stays, on_levels, after_same, has_after, of_backing}
use Rattle.pb_version.proofs.Spelling.{spellable_edit}
use Rattle.pb_version.proofs.SnapshotSpelling.{chain_place}

-- ---- as many as there are of another list at most, where each has its own there

pub any_weaker : {X : Type 0} (p q : X → Bool) → ((x : X) → p x ≡ true → q x ≡ true) → (xs : List X) → list_any p xs ≡ true → list_any q xs ≡ true
any_weaker p q gives [] e = cc
any_weaker p q gives (x ∷ xs) e =
    elim (p x) as (λ b. p x ≡ b → (b || list_any p xs) ≡ true → (q x || list_any q xs) ≡ true) [
      | true ↦ λ k _. ap (λ b. b || list_any q xs) (gives x k)
      | false ↦ λ _ later. ap (λ b. q x || b) (any_weaker p q gives xs later) ∙ or-true (q x)
    ] refl e

no_more : {Y : Type 0} (g : Y → Bool) (ys : List Y) → length (filter (λ y. not (g y)) ys) ≤ length ys
no_more g [] = omega arith
no_more g (y ∷ ys) =
    elim (g y) as (λ b. length (cond (not b) (y ∷ filter (λ z. not (g z)) ys) (filter (λ z. not (g z)) ys)) ≤ suc (length ys)) [
      | true ↦ omega (arith, no_more g ys)
      | false ↦ omega (arith, no_more g ys)
    ]

one_fewer : {Y : Type 0} (g : Y → Bool) (ys : List Y) → list_any g ys ≡ true → suc (length (filter (λ y. not (g y)) ys)) ≤ length ys
one_fewer g [] e = cc
one_fewer g (y ∷ ys) e =
    elim (g y) as (λ b. (b || list_any g ys) ≡ true → suc (length (cond (not b) (y ∷ filter (λ z. not (g z)) ys) (filter (λ z. not (g z)) ys))) ≤ suc (length ys)) [
      | true ↦ λ _. omega (arith, no_more g ys)
      | false ↦ λ later. omega (arith, one_fewer g ys later)
    ] e

other_than : (m n k : ℕ) → not (n == k) ≡ true → (m == k) ≡ true → (m == k && not (m == n)) ≡ true
other_than m n k apart e = grind (arith, nat_tests)

pigeons : {X Y : Type 0} (k : X → ℕ) (m : Y → ℕ) (xs : List X) (ys : List Y) → each_pair (λ x y. not (k x == k y)) xs ≡ true →
    list_all (λ x. list_any (λ y. m y == k x) ys) xs ≡ true → length xs ≤ length ys
pigeons k m [] ys apart found = omega arith
pigeons k m (x ∷ xs) ys apart found =
    let there = left (list_any (λ y. m y == k x) ys) (list_all (λ z. list_any (λ y. m y == k z) ys) xs) found in
    let later = right (list_any (λ y. m y == k x) ys) (list_all (λ z. list_any (λ y. m y == k z) ys) xs) found in
    let others = left (list_all (λ z. not (k x == k z)) xs) (each_pair (λ y z. not (k y == k z)) xs) apart in
    let left_over = filter (λ y. not (m y == k x)) ys in
    let still : list_all (λ z. list_any (λ y. m y == k z) left_over) xs ≡ true =
    weaker (λ z. not (k x == k z) && list_any (λ y. m y == k z) ys) (λ z. list_any (λ y. m y == k z) left_over)
    (λ z e. list_any_filter (λ y. m y == k z) (λ y. m y == k x) ys
    ∙ any_weaker (λ y. m y == k z) (λ y. m y == k z && not (m y == k x))
    (λ y d. other_than (m y) (k x) (k z) (left (not (k x == k z)) (list_any (λ w. m w == k z) ys) e) d) ys
    (right (not (k x == k z)) (list_any (λ y. m y == k z) ys) e)) xs
    (both_all (λ z. not (k x == k z)) (λ z. list_any (λ y. m y == k z) ys) xs others later) in
    omega (
      arith,
      one_fewer (λ y. m y == k x) ys there,
      pigeons k m xs left_over (right (list_all (λ z. not (k x == k z)) xs) (each_pair (λ y z. not (k y == k z)) xs) apart) still,
    )

-- ---- items in order differ

pub ascend_pairs : {X : Type 0} (f : X → X → Bool) → IsTransitive f → (xs : List X) → Ascend f xs → each_pair f xs ≡ true
ascend_pairs f chain [] a = refl
ascend_pairs f chain (x ∷ []) a = refl
ascend_pairs f chain (x ∷ y ∷ ys) a =
    let later = ascend_pairs f chain (y ∷ ys) a.1 in
    λ i. (a.0 i && weaker (f y) (f x) (λ z h. chain x y z a.0 h) ys (left (list_all (f y) ys) (each_pair f ys) later) i) && later i

pairs_weaker : {X : Type 0} (p : X → Bool) (r s : X → X → Bool) → ((x y : X) → p x ≡ true → p y ≡ true → r x y ≡ true → s x y ≡ true) →
    (xs : List X) → list_all p xs ≡ true → each_pair r xs ≡ true → each_pair s xs ≡ true
pairs_weaker p r s gives [] e d = refl
pairs_weaker p r s gives (x ∷ xs) e d =
    let here = left (p x) (list_all p xs) e in
    let later = right (p x) (list_all p xs) e in
    λ i.
    weaker (λ y. p y && r x y) (s x) (λ y h. gives x y here (left (p y) (r x y) h) (right (p y) (r x y) h)) xs
    (both_all p (r x) xs later (left (list_all (r x) xs) (each_pair r xs) d)) i
    && pairs_weaker p r s gives xs later (right (list_all (r x) xs) (each_pair r xs) d) i

filter_passes : {X : Type 0} (p : X → Bool) (xs : List X) → list_all p (filter p xs) ≡ true
filter_passes p [] = refl
filter_passes p (x ∷ xs) =
    elim (p x) as (λ b. p x ≡ b → list_all p (cond b (x ∷ filter p xs) (filter p xs)) ≡ true) [
      | true ↦ λ e i. e i && filter_passes p xs i
      | false ↦ λ _. filter_passes p xs
    ] refl

lower_differs : (m n : ℕ) → nat_lt m n ≡ true → not (m == n) ≡ true
lower_differs m n e = grind (arith, nat_tests)

place_differs : (l k j m n : ℕ) → (k == l) ≡ true → (j == l) ≡ true → (nat_lt k j || (k == j && nat_lt m n)) ≡ true → not (m == n) ≡ true
place_differs l k j m n e d h = grind (arith, nat_tests)

numbers_chain : IsTransitive nat_lt
numbers_chain a b c e d = grind (arith, nat_tests)

deleted_chain : IsTransitive deleted_below
deleted_chain a b c p q = chain_place a.level b.level c.level a.number b.number c.number p q

deleted_levels : (ds : List DeletedItem) → AllByRecursion IsDeleted ds → AllByRecursion (λ (d : DeletedItem). d.level ≤ 6) ds
deleted_levels [] all = tt
deleted_levels (d ∷ ds) all = (all.0.level, deleted_levels ds all.1)

seven_below : (a b : ℕ → ℕ) → ((l : ℕ) → a l ≤ b l) → total (seven a) ≤ total (seven b)
seven_below a b less = omega (arith, less 0, less 1, less 2, less 3, less 4, less 5, less 6)

length_flattened : (xss : List (List TableView)) → length (flattened xss) ≡ total (map length xss)
length_flattened [] = refl
length_flattened (xs ∷ xss) = ap length (flattened_cons xs xss) ∙ length-append xs (flattened xss) ∙ ap (λ n. length xs + n) (length_flattened xss)

module _ (old : VersionView) (edit : VersionEdit) (form : IsEdit edit) (is : IsVersion old) where
  -- ---- deleted tables

  abbrev deleted_on : ℕ → List DeletedItem
  deleted_on l = filter (λ (d : DeletedItem). d.level == l) edit.deleted

  level_few : keeps_v1 old edit ≡ true → (l : ℕ) → length (deleted_on l) ≤ length (tables_of_level old l)
  level_few kept l = pigeons (λ (d : DeletedItem). d.number) (λ (t : TableView). t.number) (deleted_on l) (tables_of_level old l)
      (pairs_weaker (λ (d : DeletedItem). d.level == l) deleted_below (λ d e. not (d.number == e.number))
      (λ d e p q h. place_differs l d.level e.level d.number e.number p q h) (deleted_on l) (filter_passes (λ (d : DeletedItem). d.level == l) edit.deleted)
      (pairs_filter deleted_below (λ (d : DeletedItem). d.level == l) edit.deleted (ascend_pairs deleted_below deleted_chain edit.deleted form.deleted.ascend)))
      (weaker (λ (d : DeletedItem). d.level == l && has_number (tables_of_level old d.level) d.number) (λ (d : DeletedItem). has_number (tables_of_level old l) d.number)
      (λ d e. ap (λ m. has_number (tables_of_level old m) d.number) (sym (eqb-true d.level l (left (d.level == l) (has_number (tables_of_level old d.level) d.number) e)))
      ∙ right (d.level == l) (has_number (tables_of_level old d.level) d.number) e) (deleted_on l)
      (both_all (λ (d : DeletedItem). d.level == l) (λ (d : DeletedItem). has_number (tables_of_level old d.level) d.number) (deleted_on l) (filter_passes (λ (d : DeletedItem). d.level == l) edit.deleted)
      (filter_keeps (λ (d : DeletedItem). has_number (tables_of_level old d.level) d.number) (λ (d : DeletedItem). d.level == l) edit.deleted kept)))

  pub deleted_few : keeps_v1 old edit ≡ true → length edit.deleted ≤ 4096
  deleted_few kept =
      let of_levels : total (seven (λ l. length (deleted_on l))) ≡ length edit.deleted =
      (λ i. total (seven (λ l. length_count (deleted_on l) i)))
      ∙ in_one_level (λ (d : DeletedItem). d.level) (λ (d : DeletedItem). true) edit.deleted (deleted_levels edit.deleted form.deleted.each)
      ∙ sym (length_count edit.deleted) in
      let of_tables : total (seven (λ l. length (tables_of_level old l))) ≡ length (all_tables old) =
      ap total (seven_map length old.levels [] [] [] [] [] [] [] is.levels) ∙ sym (length_flattened old.levels) in
      omega (arith, of_levels, of_tables, seven_below (λ l. length (deleted_on l)) (λ l. length (tables_of_level old l)) (level_few kept), leb-true (length (all_tables old)) 4096 is.few)

  -- ---- new tables

  pub new_few : keeps_v9 old edit ≡ true → length edit.physical + length edit.virtuals ≤ 4096
  new_few kept = omega (
    arith,
    leb-true (length (all_tables (edited old edit))) 4096 kept,
    same_length (all_tables (edited old edit)) (all_placed (comes_before 0) (new old edit) (stays old edit)) (after_same old edit (on_levels edit (spellable_edit edit form)) is.levels),
    length_all_placed (comes_before 0) (new old edit) (stays old edit),
    length-append (map physical_table edit.physical) (map (virtual_table (shown_backings old edit)) edit.virtuals),
    length-map edit.physical physical_table,
    length-map edit.virtuals (virtual_table (shown_backings old edit)),
  )

  -- ---- backings

  not_both : (b r : Bool) → not b ≡ true → (r ≡ true → b ≡ true) → not r ≡ true
  not_both true r e f = cc
  not_both false true e f = let bad : false ≡ true = f refl in cc
  not_both false false e f = refl

  shown_one : (ts : List TableView) (n : ℕ) → has_virtual ts n ≡ true → list_any (λ (t : TableView). t.backing == n) ts ≡ true
  shown_one ts n e = any_weaker (λ (t : TableView). t.is_virtual && t.backing == n) (λ (t : TableView). t.backing == n) (λ t k. right t.is_virtual (t.backing == n) k) ts e

  pub created_few : keeps_v5 old edit ≡ true → keeps_v7 old edit ≡ true → keeps_v9 old edit ≡ true → length edit.created ≤ 4096
  created_few new_ones shown few =
      let were = left (list_all (has_backing old.backings) edit.removed) (list_all (λ b. has_virtual (all_tables (edited old edit)) b.number) (backings_after old edit)) shown in
      let then = right (list_all (has_backing old.backings) edit.removed) (list_all (λ b. has_virtual (all_tables (edited old edit)) b.number) (backings_after old edit)) shown in
      let apart = pairs_weaker (λ (c : CreatedItem). true) created_below (λ b c. not (b.number == c.number)) (λ b c _ _ h. lower_differs b.number c.number h) edit.created
      (always edit.created) (ascend_pairs created_below backings_chain edit.created form.created.ascend) in
      omega (
        arith,
        leb-true (length (all_tables (edited old edit))) 4096 few,
        pigeons (λ (c : CreatedItem). c.number) (λ (t : TableView). t.backing) edit.created (all_tables (edited old edit)) apart
            (weaker (λ c. is_backing_anew old edit c && has_backing edit.created c.number) (λ (c : CreatedItem). list_any (λ (t : TableView). t.backing == c.number) (all_tables (edited old edit)))
            (λ c e.
            let fresh = left (not (has_backing old.backings c.number)) (is_freed old edit c || not (has_number (all_tables old) c.number))
            (left (not (has_backing old.backings c.number) && (is_freed old edit c || not (has_number (all_tables old) c.number))) (is_reserved old edit c.number)
            (left (is_backing_anew old edit c) (has_backing edit.created c.number) e)) in
            let kept : not (is_removed edit c.number) ≡ true = not_both (has_backing old.backings c.number) (is_removed edit c.number) fresh
            (λ r. any_gives (λ n. n == c.number && has_backing old.backings n) (has_backing old.backings c.number)
            (λ n d. ap (has_backing old.backings) (sym (eqb-true n c.number (left (n == c.number) (has_backing old.backings n) d))) ∙ right (n == c.number) (has_backing old.backings n) d)
            edit.removed (any_both (λ n. n == c.number) (has_backing old.backings) edit.removed r were)) in
            let there : has_backing (backings_after old edit) c.number ≡ true = has_after old edit c.number
            ∙ (λ i. (right (is_backing_anew old edit c) (has_backing edit.created c.number) e i || has_backing old.backings c.number) && kept i) in
            shown_one (all_tables (edited old edit)) c.number (of_backing (λ n. has_virtual (all_tables (edited old edit)) n) (backings_after old edit) c.number there then))
            edit.created (both_all (is_backing_anew old edit) (λ (c : CreatedItem). has_backing edit.created c.number) edit.created new_ones (has_own edit.created))),
      )
    where
      any_both : (p q : ℕ → Bool) (ns : List ℕ) → list_any p ns ≡ true → list_all q ns ≡ true → list_any (λ n. p n && q n) ns ≡ true
      any_both p q [] e d = cc
      any_both p q (n ∷ ns) e d =
          elim (p n) as (λ b. (b || list_any p ns) ≡ true → ((b && q n) || list_any (λ m. p m && q m) ns) ≡ true) [
            | true ↦ λ _. ap (λ b. b || list_any (λ m. p m && q m) ns) (left (q n) (list_all q ns) d)
            | false ↦ λ later. any_both p q ns later (right (q n) (list_all q ns) d)
          ] e

      more_has : (c : CreatedItem) (cs ds : List CreatedItem) → list_all (λ (d : CreatedItem). has_backing cs d.number) ds ≡ true → list_all (λ (d : CreatedItem). has_backing (c ∷ cs) d.number) ds ≡ true
      more_has c cs ds e = weaker (λ (d : CreatedItem). has_backing cs d.number) (λ (d : CreatedItem). has_backing (c ∷ cs) d.number)
          (λ d h. ap (λ b. c.number == d.number || b) h ∙ or-true (c.number == d.number)) ds e

      has_own : (cs : List CreatedItem) → list_all (λ (c : CreatedItem). has_backing cs c.number) cs ≡ true
      has_own [] = refl
      has_own (c ∷ cs) = λ i. (eq-eqb c.number c.number refl i || has_backing cs c.number) && more_has c cs cs (has_own cs) i

  pub removed_few : keeps_v7 old edit ≡ true → length edit.removed ≤ 4096
  removed_few shown =
      let were = left (list_all (has_backing old.backings) edit.removed) (list_all (λ b. has_virtual (all_tables (edited old edit)) b.number) (backings_after old edit)) shown in
      omega (
        arith,
        leb-true (length (all_tables old)) 4096 is.few,
        pigeons (λ n. n) (λ (t : TableView). t.backing) edit.removed (all_tables old)
            (pairs_weaker (λ n. true) nat_lt (λ m n. not (m == n)) (λ m n _ _ h. lower_differs m n h) edit.removed (always edit.removed)
            (ascend_pairs nat_lt numbers_chain edit.removed form.removed.ascend))
            (weaker (has_backing old.backings) (λ n. list_any (λ (t : TableView). t.backing == n) (all_tables old))
            (λ n e. shown_one (all_tables old) n (of_backing (λ m. has_virtual (all_tables old) m) old.backings n e is.shown)) edit.removed were),
      )
