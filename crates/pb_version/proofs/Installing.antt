-- What stands after an edit that was made ready is the version after the edit.
use Rattle.std.proofs.Common.{◌≡◌, ◌+◌, ◌≤◌, ◌^◌, List, Bool, true, false, cond, length, refl, ap, sym, ◌∙◌, subst, arith, ℕ, suc, [], ◌∷◌, get_or, eq-eqb}
use Rattle.std.proofs.lemmas.Bool.{lt-ltb, ltb-true, eqb-true}
use Rattle.std.proofs.lemmas.Bool.Decides.{nat_tests}
use Rattle.std.proofs.lemmas.List.Folds.{list_all-map, list_all-append, list_any_at}
use Rattle.std.proofs.lemmas.List.Elements.{recursion_from_All}
use Rattle.std.proofs.lemmas.List.Sums.{list_all-from_AllPass}
use Rattle.std.specs.Option.{unwrap_or}
use Rattle.std.specs.Prelude.{not, nat_lt, nat_le, Option, Some, None, ◌&&◌, ◌||◌, ◌==◌, map}
use Rattle.std.specs.List.{filter, list_any, list_all, AllByRecursion}
use Rattle.std.proofs.Math.Bool.{or-true, and-false}
use Rattle.pb_edit.specs.Edit.{DeletedItem, PhysicalItem, VirtualItem, CreatedItem, VersionEdit}
use Rattle.pb_edit.specs.Grammar.{IsPhysical, IsCreated, created_below}
use Rattle.pb_bytes.specs.Number.{IsNumber}
use Rattle.pb_version.specs.declared.broken.Broken.{Broken}
use Rattle.pb_version.specs.declared.broken.Broken.TheVariants.{V1, V2, V3, V4, V5, V6, V7, V8, V9}
use Rattle.pb_version.specs.Version.{TableView, VersionView, all_tables, flattened, version_of, size_of}
use Rattle.pb_version.specs.Edited.{comes_before, physical_table, virtual_table, new_tables, new_tables_of_level, all_placed, staying, each_level, level_after, shown_backings, backings_after, is_removed, five_after, edited}
use Rattle.pb_version.specs.Rules.{each_pair, are_apart, are_all_apart, are_distinct, is_free, is_reserved, is_backing_anew, is_freed, is_freed_physical, level_keeps_v4, has_its_backing, has_number, has_backing, has_virtual, is_plain_view, none_of_four_falls, fit_each_other, has_all_five, new_numbers, new_ranks, keeps_v1, keeps_v2, keeps_v3, keeps_v4, keeps_v5, keeps_v6, keeps_v7, keeps_v8, keeps_v9, first_broken}
use Rattle.pb_version.specs.State.{IsVersion, IsSpellable, PreparedEdit, Prepares, other_number, is_below_next, is_formed}
use Rattle.pb_version.specs.Judged.{all_levels, any_level, each_two, is_gone, tables_after, HaveRoomFor}
use Rattle.pb_version.proofs.Lists.{left, right, list_all_all_placed}
use Rattle.pb_version.proofs.Levels.{flattened_cons, list_all_flattened, all_each, each_of_each, two_of_each, levels_gives, levels_from, levels_both, levels_all}
use Rattle.pb_version.proofs.Counts.{one_if, with_number, count_append, same_all, same_numbered, once, once_each, none_with, any_count, count_stays}
use Rattle.pb_version.proofs.Ruled.{stays, new_each, after_same, has_after, of_backing, on_levels}
use Rattle.pb_version.proofs.Judging.{room_for}
use Rattle.pb_version.proofs.Commute.{each_filter, each_all_placed, sorted_all_placed}
use Rattle.pb_version.proofs.KeptFacts.{below_more, below_more_one, both_all, size_kept, size_shown, sizes_of_new, created_sizes, numbers_after, ranks_of, backings_chain, ascending_differ, none_differ}
use Rattle.pb_version.proofs.Kept.{tables_chain, all_tables_differ, tables_differ_from}
use Rattle.pb_version.proofs.Pairs.{filter_keeps, pairs_filter, pairs_all_placed, weaker, apart_turned, other_turned, others, not_any, distinct_numbers, numbers_of}

passes : (kept : Bool) (rule : Broken) (rest : Option Broken) → cond (not kept) (Some rule) rest ≡ None → (kept ≡ true) × (rest ≡ None)
passes true rule rest e = (refl, e)
passes false rule rest e = cc

-- an edit that breaks no rule keeps each
pub record KeepsAll (old : VersionView) (edit : VersionEdit) : Type 0 where
  pub v1 : keeps_v1 old edit ≡ true
  pub v2 : keeps_v2 old edit ≡ true
  pub v3 : keeps_v3 old edit ≡ true
  pub v4 : keeps_v4 old edit ≡ true
  pub v5 : keeps_v5 old edit ≡ true
  pub v6 : keeps_v6 old edit ≡ true
  pub v7 : keeps_v7 old edit ≡ true
  pub v8 : keeps_v8 old edit ≡ true
  pub v9 : keeps_v9 old edit ≡ true

pub unbroken_keeps : (old : VersionView) (edit : VersionEdit) → first_broken old edit ≡ None → KeepsAll old edit
unfolding first_broken
unbroken_keeps old edit e =
    let p1 = passes (keeps_v1 old edit) V1 _ e in
    let p2 = passes (keeps_v2 old edit) V2 _ p1.1 in
    let p3 = passes (keeps_v3 old edit) V3 _ p2.1 in
    let p4 = passes (keeps_v4 old edit) V4 _ p3.1 in
    let p5 = passes (keeps_v5 old edit) V5 _ p4.1 in
    let p6 = passes (keeps_v6 old edit) V6 _ p5.1 in
    let p7 = passes (keeps_v7 old edit) V7 _ p6.1 in
    let p8 = passes (keeps_v8 old edit) V8 _ p7.1 in
    let p9 = passes (keeps_v9 old edit) V9 _ p8.1 in
    record { v1 = p1.0; v2 = p2.0; v3 = p3.0; v4 = p4.0; v5 = p5.0; v6 = p6.0; v7 = p7.0; v8 = p8.0; v9 = p9.0 }

free_bool : (h c b r : Bool) → h ≡ ((c || b) && not r) → not c ≡ true → not b ≡ true → not h ≡ true
free_bool h true b r e p q = cc
free_bool h false true r e p q = cc
free_bool h false false r e p q = ap not e

-- ---- those that stay

stays_keep : (q : TableView → Bool) (edit : VersionEdit) (k : ℕ) (ls : List (List TableView)) → list_all q (flattened ls) ≡ true → list_all q (flattened (each_level (staying edit) k ls)) ≡ true
stays_keep q edit k ls e =
    list_all_flattened q (each_level (staying edit) k ls) ∙ all_each (list_all q) (staying edit) k ls
    ∙ levels_from (list_all q) (λ l ts. list_all q (staying edit l ts)) (λ l ts h. filter_keeps q (λ t. not (is_gone edit.deleted l t)) ts h) k ls
    (sym (list_all_flattened q ls) ∙ e)

stays_numbered : (edit : VersionEdit) (k : ℕ) (ls : List (List TableView)) → each_pair other_number (flattened ls) ≡ true → each_pair other_number (flattened (each_level (staying edit) k ls)) ≡ true
stays_numbered edit k ls e = once_each (flattened (each_level (staying edit) k ls))
    (λ n. omega (arith, count_stays (λ (t : TableView). t.number == n) (is_gone edit.deleted) k ls, once (flattened ls) e n))

goes_with : (deleted : List DeletedItem) (c : CreatedItem) (l : ℕ) (ts : List TableView) →
    list_any (λ t. is_gone deleted l t && not t.is_virtual && t.number == c.number && t.size == c.size) ts ≡ true → 1 ≤ with_number c.number (filter (is_gone deleted l) ts)
goes_with deleted c l [] e = cc
goes_with deleted c l (t ∷ ts) e =
    elim (is_gone deleted l t) as (λ b. ((((b && not t.is_virtual) && t.number == c.number) && t.size == c.size) || list_any (λ u. is_gone deleted l u && not u.is_virtual && u.number == c.number && u.size == c.size) ts) ≡ true →
    1 ≤ with_number c.number (cond b (t ∷ filter (is_gone deleted l) ts) (filter (is_gone deleted l) ts))) [
      | true ↦ λ k. elim (t.number == c.number) as (λ b. (((not t.is_virtual && b) && t.size == c.size) || list_any (λ u. is_gone deleted l u && not u.is_virtual && u.number == c.number && u.size == c.size) ts) ≡ true →
          1 ≤ one_if b + with_number c.number (filter (is_gone deleted l) ts)) [
            | true ↦ λ _. omega arith
            | false ↦ λ later. omega (arith, goes_with deleted c l ts (ap (λ b. (b && t.size == c.size) || list_any (λ u. is_gone deleted l u && not u.is_virtual && u.number == c.number && u.size == c.size) ts) (sym (and-false (not t.is_virtual))) ∙ later))
          ] k
      | false ↦ λ later. goes_with deleted c l ts later
    ] e

goes_from : (edit : VersionEdit) (c : CreatedItem) (k : ℕ) (ls : List (List TableView)) → any_level (is_freed_physical edit c) k ls ≡ true →
    1 ≤ with_number c.number (flattened (each_level (λ l ts. filter (is_gone edit.deleted l) ts) k ls))
goes_from edit c k [] e = cc
goes_from edit c k (ts ∷ ls) e =
    let both = ap (with_number c.number) (flattened_cons (filter (is_gone edit.deleted k) ts) (each_level (λ l us. filter (is_gone edit.deleted l) us) (k + 1) ls))
    ∙ count_append (λ (t : TableView). t.number == c.number) (filter (is_gone edit.deleted k) ts) (flattened (each_level (λ l us. filter (is_gone edit.deleted l) us) (k + 1) ls)) in
    elim (is_freed_physical edit c k ts) as (λ b. is_freed_physical edit c k ts ≡ b → (b || any_level (is_freed_physical edit c) (k + 1) ls) ≡ true →
    1 ≤ with_number c.number (flattened (filter (is_gone edit.deleted k) ts ∷ each_level (λ l us. filter (is_gone edit.deleted l) us) (k + 1) ls))) [
      | true ↦ λ here _. omega (arith, both, goes_with edit.deleted c k ts here)
      | false ↦ λ _ later. omega (arith, both, goes_from edit c (k + 1) ls later)
    ] refl e

zero_is : (n : ℕ) → n ≤ 0 → (n == 0) ≡ true
zero_is n h = grind (arith, nat_tests)

-- the table of a number that goes, or that isn't there, doesn't stay
gone_or_new : (edit : VersionEdit) (c : CreatedItem) (ls : List (List TableView)) → each_pair other_number (flattened ls) ≡ true →
    (any_level (is_freed_physical edit c) 0 ls || not (has_number (flattened ls) c.number)) ≡ true → (with_number c.number (flattened (each_level (staying edit) 0 ls)) == 0) ≡ true
gone_or_new edit c ls numbered e =
    let parts = count_stays (λ (t : TableView). t.number == c.number) (is_gone edit.deleted) 0 ls in
    elim (any_level (is_freed_physical edit c) 0 ls) as (λ b. any_level (is_freed_physical edit c) 0 ls ≡ b → (b || not (has_number (flattened ls) c.number)) ≡ true → (with_number c.number (flattened (each_level (staying edit) 0 ls)) == 0) ≡ true) [
      | true ↦ λ goes _. zero_is (with_number c.number (flattened (each_level (staying edit) 0 ls))) (omega (arith, parts, once (flattened ls) numbered c.number, goes_from edit c 0 ls goes))
      | false ↦ λ _ none. zero_is (with_number c.number (flattened (each_level (staying edit) 0 ls))) (omega (arith, parts, none_with (flattened ls) c.number (sym (not_any (λ (t : TableView). t.number == c.number) (flattened ls)) ∙ none)))
    ] refl e

not_among : (b : Bool) (n : ℕ) → nat_lt 0 n ≡ true → (b ≡ true → (n == 0) ≡ true) → not b ≡ true
not_among false n some none = refl
not_among true n some none = let e : (n == 0) ≡ true = none refl in absurd (omega (arith, eqb-true n 0 e, lt_of n some))
  where
    lt_of : (n : ℕ) → nat_lt 0 n ≡ true → 1 ≤ n
    lt_of n e = grind (arith, nat_tests)

-- ---- sizes as tests

abbrev pub has_size : TableView → Bool
has_size t = nat_lt t.size (2 ^ 62)

pub size_tests : (ts : List TableView) → AllByRecursion (λ (t : TableView). IsNumber t.size) ts → list_all has_size ts ≡ true
size_tests [] all = refl
size_tests (t ∷ ts) all = λ i. lt-ltb t.size (2 ^ 62) all.0 i && size_tests ts all.1 i

pub sizes_tested : (ts : List TableView) → list_all has_size ts ≡ true → AllByRecursion (λ (t : TableView). IsNumber t.size) ts
sizes_tested [] e = tt
sizes_tested (t ∷ ts) e = (ltb-true t.size (2 ^ 62) (left (has_size t) (list_all has_size ts) e), sizes_tested ts (right (has_size t) (list_all has_size ts) e))

length_each : (f : ℕ → List TableView → List TableView) (k : ℕ) (ls : List (List TableView)) → length (each_level f k ls) ≡ length ls
length_each f k [] = refl
length_each f k (ts ∷ ls) = ap suc (length_each f (k + 1) ls)

physical_formed : (bs : List CreatedItem) (ps : List PhysicalItem) → list_all (λ (p : PhysicalItem). is_formed bs (physical_table p)) ps ≡ true
physical_formed bs [] = refl
physical_formed bs (p ∷ ps) = λ i. eq-eqb p.number p.number refl i && physical_formed bs ps i

second_of_four : (a b c d : Bool) → (a && b && c && d) ≡ true → b ≡ true
second_of_four a b c d e = right a b (left (a && b) c (left (a && b && c) d e))

last_parts : (a b c d : Bool) → (a && b && c && d) ≡ true → (c ≡ true) × (d ≡ true)
last_parts a b c d e = (right (a && b) c (left (a && b && c) d e), right (a && b && c) d e)

module _ (old : VersionView) (edit : VersionEdit) (spellable : IsSpellable edit) (is : IsVersion old) (unbroken : first_broken old edit ≡ None) where
  abbrev new : List TableView
  new = new_tables old edit

  abbrev stay : List TableView
  stay = stays old edit

  abbrev keeps : KeepsAll old edit
  keeps = unbroken_keeps old edit unbroken

  -- what holds of each table, and of each two, holds of those that stay
  stay_keeps : (q : TableView → Bool) → list_all q (all_tables old) ≡ true → list_all q stay ≡ true
  stay_keeps q e = stays_keep q edit 0 old.levels e

  all_views : list_all (λ (t : TableView). is_plain_view t.view) (all_placed (comes_before 0) new stay) ≡ true
  all_views =
      list_all_all_placed (λ (t : TableView). is_plain_view t.view) (comes_before 0) new stay
      ∙ (λ i. keeps.v3 i && stay_keeps (λ (t : TableView). is_plain_view t.view) is.views i)

  new_views : all_levels (λ l ts. list_all (λ (t : TableView). is_plain_view t.view) (new_tables_of_level old edit l)) 0 old.levels ≡ true
  new_views =
      sym (all_each (list_all (λ (t : TableView). is_plain_view t.view)) (λ l ts. new_tables_of_level old edit l) 0 old.levels)
      ∙ sym (new_each old edit (on_levels edit spellable) is.levels (λ (t : TableView). is_plain_view t.view)) ∙ keeps.v3

  level_apart : (l : ℕ) (ts : List TableView) → level_keeps_v4 old edit l ts ≡ true → are_all_apart l ts ≡ true → are_all_apart l (level_after old edit l ts) ≡ true
  level_apart l ts e d =
      pairs_all_placed (are_apart l) (apart_turned l) (comes_before l) (new_tables_of_level old edit l) (staying edit l ts)
      ∙ (λ i. e i && pairs_filter (are_apart l) (λ t. not (is_gone edit.deleted l t)) ts d i)

  all_apart : all_levels are_all_apart 0 (each_level (level_after old edit) 0 old.levels) ≡ true
  all_apart =
      ap (list_all (λ apart. apart)) (each_of_each are_all_apart (level_after old edit) 0 old.levels)
      ∙ levels_gives (level_keeps_v4 old edit) are_all_apart (λ l ts. are_all_apart l (level_after old edit l ts)) level_apart 0 old.levels keeps.v4 is.apart

  abbrev level_views : ℕ → List TableView → Bool
  level_views l ts = list_all (λ (t : TableView). is_plain_view t.view) (new_tables_of_level old edit l) && list_all (λ (t : TableView). is_plain_view t.view) ts

  level_sorted : (l : ℕ) (ts : List TableView) → (level_keeps_v4 old edit l ts && level_views l ts) ≡ true → each_pair (comes_before l) ts ≡ true → each_pair (comes_before l) (level_after old edit l ts) ≡ true
  level_sorted l ts e d =
      let added = new_tables_of_level old edit l in
      let kept = left (level_keeps_v4 old edit l ts) (level_views l ts) e in
      let views = right (level_keeps_v4 old edit l ts) (level_views l ts) e in
      let added_views = left (list_all (λ (t : TableView). is_plain_view t.view) added) (list_all (λ (t : TableView). is_plain_view t.view) ts) views in
      let stay_views = filter_keeps (λ (t : TableView). is_plain_view t.view) (λ t. not (is_gone edit.deleted l t)) ts
      (right (list_all (λ (t : TableView). is_plain_view t.view) added) (list_all (λ (t : TableView). is_plain_view t.view) ts) views) in
      sorted_all_placed (comes_before l) (tables_chain l) added (staying edit l ts)
      (all_tables_differ l added added_views (left (are_all_apart l added) (list_all (λ t. list_all (are_apart l t) (staying edit l ts)) added) kept))
      (tables_differ_from l added (staying edit l ts) added_views stay_views (right (are_all_apart l added) (list_all (λ t. list_all (are_apart l t) (staying edit l ts)) added) kept))
      (pairs_filter (comes_before l) (λ t. not (is_gone edit.deleted l t)) ts d)

  all_sorted : all_levels (λ l ts. each_pair (comes_before l) ts) 0 (each_level (level_after old edit) 0 old.levels) ≡ true
  all_sorted =
      ap (list_all (λ sorted. sorted)) (each_of_each (λ l ts. each_pair (comes_before l) ts) (level_after old edit) 0 old.levels)
      ∙ levels_gives (λ l ts. level_keeps_v4 old edit l ts && level_views l ts) (λ l ts. each_pair (comes_before l) ts) (λ l ts. each_pair (comes_before l) (level_after old edit l ts)) level_sorted 0 old.levels
      (levels_both (level_keeps_v4 old edit) level_views 0 old.levels keeps.v4
      (levels_both (λ l ts. list_all (λ (t : TableView). is_plain_view t.view) (new_tables_of_level old edit l)) (λ l ts. list_all (λ (t : TableView). is_plain_view t.view) ts) 0 old.levels new_views
      (sym (levels_all (list_all (λ (t : TableView). is_plain_view t.view)) 0 old.levels) ∙ sym (list_all_flattened (λ (t : TableView). is_plain_view t.view) old.levels) ∙ is.views)))
      is.sorted

  numbers : map (λ (t : TableView). t.number) new ≡ new_numbers edit
  numbers = numbers_of (shown_backings old edit) edit.physical edit.virtuals

  -- the four parts of the second rule
  parts : (a b c d : Bool) → (a && b && c && d) ≡ true → (a ≡ true) × (b ≡ true)
  parts a b c d e = (left a b (left (a && b) c (left (a && b && c) d e)), right a b (left (a && b) c (left (a && b && c) d e)))

  new_numbered : (each_pair other_number new ≡ true) × (list_all (λ (t : TableView). is_free old edit t.number) new ≡ true)
  new_numbered =
      let p = parts (are_distinct (new_numbers edit)) (list_all (is_free old edit) (new_numbers edit))
      (list_all (is_reserved old edit) (new_numbers edit)) (list_all (is_reserved old edit) (new_ranks edit)) keeps.v2 in (
        sym (distinct_numbers new) ∙ ap are_distinct numbers ∙ p.0,
        sym (list_all-map (is_free old edit) (λ (t : TableView). t.number) new)
            ∙ ap (list_all (is_free old edit)) numbers ∙ p.1,
      )

  free_of_standing : (t : TableView) → is_free old edit t.number ≡ true → list_all (other_number t) stay ≡ true
  free_of_standing t e =
      stay_keeps (other_number t)
      (sym (others (all_tables old) t)
      ∙ left (not (has_number (all_tables old) t.number)) (not (has_backing old.backings t.number))
      (left (not (has_number (all_tables old) t.number) && not (has_backing old.backings t.number)) (not (has_backing edit.created t.number)) e))

  all_numbered : each_pair other_number (all_placed (comes_before 0) new stay) ≡ true
  all_numbered =
      pairs_all_placed other_number other_turned (comes_before 0) new stay
      ∙ (λ i.
      (new_numbered.0 i && weaker (λ t. is_free old edit t.number) (λ t. list_all (other_number t) stay) free_of_standing new new_numbered.1 i)
      && stays_numbered edit 0 old.levels is.numbered i)

  next_rises : nat_le old.five.next (five_after old.five edit).next ≡ true
  next_rises =
      let all = left (none_of_four_falls old.five (five_after old.five edit)) (fit_each_other (five_after old.five edit))
      (left (none_of_four_falls old.five (five_after old.five edit) && fit_each_other (five_after old.five edit)) (not (old.five.format == 0) || has_all_five edit) keeps.v8) in
      second_of_four (nat_le old.five.accepted (five_after old.five edit).accepted) (nat_le old.five.next (five_after old.five edit).next)
      (nat_le old.five.flushed (five_after old.five edit).flushed) (nat_le old.five.format (five_after old.five edit).format) all

  new_below : list_all (is_below_next (five_after old.five edit).next) new ≡ true
  new_below =
      let p = last_parts (are_distinct (new_numbers edit)) (list_all (is_free old edit) (new_numbers edit))
      (list_all (is_reserved old edit) (new_numbers edit)) (list_all (is_reserved old edit) (new_ranks edit)) keeps.v2 in
      both_all (λ (t : TableView). nat_lt t.number (five_after old.five edit).next) (λ (t : TableView). nat_lt t.rank (five_after old.five edit).next) new
      (sym (list_all-map (is_reserved old edit) (λ (t : TableView). t.number) new)
      ∙ ap (list_all (is_reserved old edit)) numbers ∙ p.0)
      (sym (list_all-map (is_reserved old edit) (λ (t : TableView). t.rank) new)
      ∙ ap (list_all (is_reserved old edit)) (ranks_of (shown_backings old edit) edit.physical edit.virtuals) ∙ p.1)

  all_below : list_all (is_below_next (five_after old.five edit).next) (all_placed (comes_before 0) new stay) ≡ true
  all_below =
      list_all_all_placed (is_below_next (five_after old.five edit).next) (comes_before 0) new stay
      ∙ (λ i. new_below i && stay_keeps (is_below_next (five_after old.five edit).next)
      (weaker (is_below_next old.five.next) (is_below_next (five_after old.five edit).next)
      (λ t e. below_more t.number t.rank old.five.next (five_after old.five edit).next e next_rises) (all_tables old) is.below) i)

  created_new : list_all (λ (c : CreatedItem). not (has_backing old.backings c.number)) edit.created ≡ true
  created_new = weaker (is_backing_anew old edit) (λ (c : CreatedItem). not (has_backing old.backings c.number))
      (λ c e. left (not (has_backing old.backings c.number)) (is_freed old edit c || not (has_number (all_tables old) c.number))
      (left (not (has_backing old.backings c.number) && (is_freed old edit c || not (has_number (all_tables old) c.number))) (is_reserved old edit c.number) e))
      edit.created keeps.v5

  shown_below : list_all (λ (b : CreatedItem). nat_lt b.number (five_after old.five edit).next) (shown_backings old edit) ≡ true
  shown_below =
      list_all_all_placed (λ (b : CreatedItem). nat_lt b.number (five_after old.five edit).next) created_below edit.created old.backings
      ∙ (λ i.
      weaker (is_backing_anew old edit) (λ (c : CreatedItem). nat_lt c.number (five_after old.five edit).next)
      (λ c e. right (not (has_backing old.backings c.number) && (is_freed old edit c || not (has_number (all_tables old) c.number))) (is_reserved old edit c.number) e)
      edit.created keeps.v5 i
      && weaker (λ (b : CreatedItem). nat_lt b.number old.five.next) (λ (b : CreatedItem). nat_lt b.number (five_after old.five edit).next)
      (λ b e. below_more_one b.number old.five.next (five_after old.five edit).next e next_rises) old.backings is.backings_below i)

  shown_ascend : each_pair created_below (shown_backings old edit) ≡ true
  shown_ascend = sorted_all_placed created_below backings_chain edit.created old.backings
      (ascending_differ edit.created spellable.created_ascend) (none_differ edit.created old.backings created_new) is.ascend

  -- no table that stays has a created backing's number
  none_stays : (c : CreatedItem) → is_backing_anew old edit c ≡ true → (with_number c.number stay == 0) ≡ true
  none_stays c e = gone_or_new edit c old.levels is.numbered
      (right (not (has_backing old.backings c.number)) (is_freed old edit c || not (has_number (all_tables old) c.number))
      (left (not (has_backing old.backings c.number) && (is_freed old edit c || not (has_number (all_tables old) c.number))) (is_reserved old edit c.number) e))

  stay_not_created : list_all (λ (u : TableView). not (has_backing edit.created u.number)) stay ≡ true
  stay_not_created = list_all-from_AllPass (λ (u : TableView). not (has_backing edit.created u.number)) stay
      (λ k d h. not_among (has_backing edit.created (get_or stay k d).number) (with_number (get_or stay k d).number stay)
      (sym (any_count (λ (t : TableView). t.number == (get_or stay k d).number) stay)
      ∙ list_any_at (λ (t : TableView). t.number == (get_or stay k d).number) stay k d h (eq-eqb (get_or stay k d).number (get_or stay k d).number refl))
      (λ there. of_backing (λ n. with_number n stay == 0) edit.created (get_or stay k d).number there
      (weaker (is_backing_anew old edit) (λ (c : CreatedItem). with_number c.number stay == 0) none_stays edit.created keeps.v5)))

  free_after : (t : TableView) → (not (has_backing edit.created t.number) && not (has_backing old.backings t.number)) ≡ true → not (has_backing (backings_after old edit) t.number) ≡ true
  free_after t e = free_bool (has_backing (backings_after old edit) t.number) (has_backing edit.created t.number) (has_backing old.backings t.number) (is_removed edit t.number)
      (has_after old edit t.number)
      (left (not (has_backing edit.created t.number)) (not (has_backing old.backings t.number)) e)
      (right (not (has_backing edit.created t.number)) (not (has_backing old.backings t.number)) e)

  new_free : (t : TableView) → is_free old edit t.number ≡ true → (not (has_backing edit.created t.number) && not (has_backing old.backings t.number)) ≡ true
  new_free t e = λ i.
      right (not (has_number (all_tables old) t.number) && not (has_backing old.backings t.number)) (not (has_backing edit.created t.number)) e i
      && right (not (has_number (all_tables old) t.number)) (not (has_backing old.backings t.number))
      (left (not (has_number (all_tables old) t.number) && not (has_backing old.backings t.number)) (not (has_backing edit.created t.number)) e) i

  all_free : list_all (λ (t : TableView). not (has_backing (backings_after old edit) t.number)) (all_placed (comes_before 0) new stay) ≡ true
  all_free =
      list_all_all_placed (λ (t : TableView). not (has_backing (backings_after old edit) t.number)) (comes_before 0) new stay
      ∙ (λ i.
      weaker (λ (t : TableView). is_free old edit t.number) (λ (t : TableView). not (has_backing (backings_after old edit) t.number))
      (λ t e. free_after t (new_free t e)) new new_numbered.1 i
      && weaker (λ (t : TableView). not (has_backing edit.created t.number) && not (has_backing old.backings t.number))
      (λ (t : TableView). not (has_backing (backings_after old edit) t.number)) free_after stay
      (both_all (λ (t : TableView). not (has_backing edit.created t.number)) (λ (t : TableView). not (has_backing old.backings t.number)) stay stay_not_created
      (stay_keeps (λ (t : TableView). not (has_backing old.backings t.number)) is.free)) i)

  -- ---- sizes

  abbrev after : List CreatedItem
  after = backings_after old edit

  have_theirs : (list_all (has_its_backing after) new && list_all (has_its_backing after) stay) ≡ true
  have_theirs =
      sym (list_all_all_placed (has_its_backing after) (comes_before 0) new stay)
      ∙ sym (same_all (all_tables (edited old edit)) (all_placed (comes_before 0) new stay) (after_same old edit (on_levels edit spellable) is.levels) (has_its_backing after))
      ∙ keeps.v6

  size_after : (n : ℕ) → has_backing after n ≡ true → size_of after n ≡ size_of (shown_backings old edit) n
  size_after n e = size_kept (is_removed edit) (shown_backings old edit) n
      (right (has_backing edit.created n || has_backing old.backings n) (not (is_removed edit n)) (sym (has_after old edit n) ∙ e))

  not_created : (n : ℕ) → has_backing old.backings n ≡ true → has_backing edit.created n ≡ false
  not_created n there =
      elim (has_backing edit.created n) as (λ b. has_backing edit.created n ≡ b → b ≡ false) [
        | true ↦ λ k. let bad : not (has_backing old.backings n) ≡ true = of_backing (λ m. not (has_backing old.backings m)) edit.created n k created_new in cc
        | false ↦ λ k. refl
      ] refl

  formed_stays : (u : TableView) → ((is_formed old.backings u && has_its_backing after u) && has_its_backing old.backings u) ≡ true → is_formed after u ≡ true
  formed_stays u e =
      elim u.is_virtual as (λ b.
      cond b (unwrap_or (size_of old.backings u.backing) 0 == u.size) (u.backing == u.number) ≡ true → (not b || has_backing after u.backing) ≡ true → (not b || has_backing old.backings u.backing) ≡ true →
      cond b (unwrap_or (size_of after u.backing) 0 == u.size) (u.backing == u.number) ≡ true) [
        | true ↦ λ formed has had.
            ap (λ o. unwrap_or o 0 == u.size) (size_after u.backing has ∙ size_shown created_below edit.created old.backings u.backing (not_created u.backing had)) ∙ formed
        | false ↦ λ formed has had. formed
      ]
      (left (is_formed old.backings u) (has_its_backing after u) (left (is_formed old.backings u && has_its_backing after u) (has_its_backing old.backings u) e))
      (right (is_formed old.backings u) (has_its_backing after u) (left (is_formed old.backings u && has_its_backing after u) (has_its_backing old.backings u) e))
      (right (is_formed old.backings u && has_its_backing after u) (has_its_backing old.backings u) e)

  stay_formed : list_all (is_formed after) stay ≡ true
  stay_formed = weaker (λ u. (is_formed old.backings u && has_its_backing after u) && has_its_backing old.backings u) (is_formed after) formed_stays stay
      (both_all (λ u. is_formed old.backings u && has_its_backing after u) (has_its_backing old.backings) stay
      (both_all (is_formed old.backings) (has_its_backing after) stay (stay_keeps (is_formed old.backings) is.formed)
      (right (list_all (has_its_backing after) new) (list_all (has_its_backing after) stay) have_theirs))
      (stay_keeps (has_its_backing old.backings) is.backed))

  abbrev shown : List CreatedItem
  shown = shown_backings old edit

  virtual_have : list_all (λ (v : VirtualItem). has_its_backing after (virtual_table shown v)) edit.virtuals ≡ true
  virtual_have =
      sym (list_all-map (has_its_backing after) (virtual_table shown) edit.virtuals)
      ∙ right (list_all (has_its_backing after) (map physical_table edit.physical)) (list_all (has_its_backing after) (map (virtual_table shown) edit.virtuals))
      (sym (list_all-append (has_its_backing after) (map physical_table edit.physical) (map (virtual_table shown) edit.virtuals))
      ∙ left (list_all (has_its_backing after) new) (list_all (has_its_backing after) stay) have_theirs)

  new_formed : list_all (is_formed after) new ≡ true
  new_formed =
      list_all-append (is_formed after) (map physical_table edit.physical) (map (virtual_table shown) edit.virtuals)
      ∙ (λ i.
      (list_all-map (is_formed after) physical_table edit.physical ∙ physical_formed after edit.physical) i
      && (list_all-map (is_formed after) (virtual_table shown) edit.virtuals
      ∙ weaker (λ (v : VirtualItem). has_its_backing after (virtual_table shown v)) (λ (v : VirtualItem). is_formed after (virtual_table shown v))
      (λ v e. eq-eqb _ _ (ap (λ o. unwrap_or o 0) (size_after v.backing e))) edit.virtuals virtual_have) i)

  all_formed : list_all (is_formed after) (all_placed (comes_before 0) new stay) ≡ true
  all_formed = list_all_all_placed (is_formed after) (comes_before 0) new stay ∙ (λ i. new_formed i && stay_formed i)

  shown_sizes : AllByRecursion (λ (b : CreatedItem). IsNumber b.size) shown
  shown_sizes = each_all_placed (λ (b : CreatedItem). IsNumber b.size) created_below edit.created old.backings
      (created_sizes edit.created (recursion_from_All IsCreated edit.created spellable.created)) is.backing_sizes

  all_sizes : list_all has_size (all_placed (comes_before 0) new stay) ≡ true
  all_sizes =
      list_all_all_placed has_size (comes_before 0) new stay
      ∙ (λ i. size_tests new (sizes_of_new shown edit.physical edit.virtuals (recursion_from_All IsPhysical edit.physical spellable.physical) shown_sizes) i
      && stay_keeps has_size (size_tests (all_tables old) is.sizes) i)

  then_fits : ((five_after old.five edit).format == 0 || fit_each_other (five_after old.five edit)) ≡ true
  then_fits =
      let e = right (none_of_four_falls old.five (five_after old.five edit)) (fit_each_other (five_after old.five edit))
      (left (none_of_four_falls old.five (five_after old.five edit) && fit_each_other (five_after old.five edit)) (not (old.five.format == 0) || has_all_five edit) keeps.v8) in
      ap (λ b. (five_after old.five edit).format == 0 || b) e ∙ or-true ((five_after old.five edit).format == 0)

  -- what holds of all tables in another order
  in_turn : (q : TableView → Bool) → list_all q (all_placed (comes_before 0) new stay) ≡ true → list_all q (all_tables (edited old edit)) ≡ true
  in_turn q e = same_all (all_tables (edited old edit)) (all_placed (comes_before 0) new stay) (after_same old edit (on_levels edit spellable) is.levels) q ∙ e

  pub edited_is_version : IsVersion (edited old edit)
  unfolding edited
  edited_is_version = record {
    levels = length_each (level_after old edit) 0 old.levels ∙ is.levels;
    numbered = same_numbered (all_tables (edited old edit)) (all_placed (comes_before 0) new stay) (after_same old edit (on_levels edit spellable) is.levels) all_numbered;
    views = in_turn (λ (t : TableView). is_plain_view t.view) all_views;
    apart = all_apart;
    fits = then_fits;
    few = keeps.v9;
    sorted = all_sorted;
    formed = in_turn (is_formed after) all_formed;
    free = in_turn (λ (t : TableView). not (has_backing after t.number)) all_free;
    below = in_turn (is_below_next (five_after old.five edit).next) all_below;
    ascend = pairs_filter created_below (λ b. not (is_removed edit b.number)) (shown_backings old edit) shown_ascend;
    backings_below = filter_keeps (λ (b : CreatedItem). nat_lt b.number (five_after old.five edit).next) (λ b. not (is_removed edit b.number)) (shown_backings old edit) shown_below;
    backed = keeps.v6;
    shown = right (list_all (has_backing old.backings) edit.removed)
        (list_all (λ b. has_virtual (all_tables (edited old edit)) b.number) (backings_after old edit)) keeps.v7;
    numbers = numbers_after old.five edit is.numbers spellable;
    sizes = sizes_tested (all_tables (edited old edit)) (in_turn has_size all_sizes);
    backing_sizes = each_filter (λ (b : CreatedItem). IsNumber b.size) (λ b. not (is_removed edit b.number)) shown shown_sizes;
  }

module _ (old : VersionView) (edit : VersionEdit) (p : PreparedEdit) (is : Prepares old edit p) where
  pub installed_is : (levels : List (List TableView)) → levels ≡ each_two (tables_after p.deleted) 0 p.tables old.levels →
      version_of levels p.backings p.five ≡ edited old edit
  unfolding edited
  installed_is levels made =
      let same : levels ≡ each_level (level_after old edit) 0 old.levels =
      made ∙ (λ i. each_two (tables_after (is.deleted i)) 0 (is.tables i) old.levels)
      ∙ two_of_each (tables_after edit.deleted) (λ l ts. new_tables_of_level old edit l) 0 old.levels in
      λ i. version_of (same i) (is.backings i) (is.five i)

  pub fits : HaveRoomFor p.deleted 0 p.tables old.levels p.room
  fits = subst (λ (q : List DeletedItem × List (List TableView)). HaveRoomFor q.0 0 q.1 old.levels p.room) (λ i. (sym is.deleted i, sym is.tables i)) (room_for old edit 0 old.levels p.room is.room)
