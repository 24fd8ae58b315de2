-- The rules judged level by level, by what an edit touches, are the rules of a version.
use Rattle.std.proofs.Common.{◌≡◌, ℕ, ◌+◌, ◌≤◌, List, [], ◌∷◌, Bool, true, false, cond, length, get_or, refl, ap, sym, ◌∙◌, subst}
use Rattle.std.proofs.lemmas.List.Elements.{recursion_from_All}
use Rattle.std.proofs.lemmas.List.Sums.{AllPass-from_list_all, list_all-from_AllPass}
use Rattle.std.specs.Prelude.{not, ◌==◌, ◌&&◌, ◌||◌, nat_lt, nat_le, map, Option, Some, None}
use Rattle.std.specs.List.{filter, list_any, list_all, AllByRecursion}
use Rattle.std.specs.Option.{option_or}
use Rattle.std.proofs.lemmas.Bool.{eqb-true}
use Rattle.pb_keys.proofs.Tests.{either_turns, both_groups, same_tests}
use Rattle.pb_edit.specs.Edit.{PhysicalItem, VirtualItem, CreatedItem, VersionEdit}
use Rattle.pb_edit.specs.Grammar.{IsPhysical, IsVirtual, created_below}
use Rattle.pb_version.specs.declared.broken.Broken.{Broken}
use Rattle.pb_version.specs.declared.broken.Broken.TheVariants.{V1, V2, V3, V4, V5, V6, V7, V8, V9}
use Rattle.pb_version.specs.Version.{TableView, VersionView, all_tables, flattened}
use Rattle.pb_version.specs.Edited.{comes_before, physical_table, virtual_table, new_tables, new_tables_of_level, shown_backings, backings_after, is_removed, five_after, all_placed, staying, level_after, each_level, edited}
use Rattle.pb_version.specs.Rules.{has_number, has_backing, has_its_backing, has_virtual, is_plain_view, is_freed, are_all_apart, are_apart, are_distinct, is_reserved, new_numbers, new_ranks, level_keeps_v4, keeps_v1, keeps_v2, keeps_v3, keeps_v4, keeps_v5, keeps_v6, keeps_v7, keeps_v8, keeps_v9, first_broken}
use Rattle.pb_version.specs.State.{IsVersion, IsSpellable}
use Rattle.pb_version.specs.Judged.{all_levels, any_level, seven, total, made_for, is_gone, has_number_on, deletes_existing, are_numbered_anew, are_apart_after, level_is_apart, is_new_backing, keeps_its_backing, keep_their_backings, have_backings, is_still_shown, is_shown_after, orphans_no_backing, orphan_no_backing, is_created_shown, are_shown, stay, stay_counts, counts_after, fit_the_limit, broken_against_old, broken_against_new}
use Rattle.pb_version.proofs.Lists.{left, right, list_all_filter, list_any_filter, list_any_and, list_all_same, list_all_all_placed, list_any_all_placed, length_all_placed}
use Rattle.pb_version.proofs.Pairs.{weaker}
use Rattle.pb_version.proofs.Levels.{flattened_cons, any_append, list_all_flattened, list_any_flattened, all_each, any_each, two_of_each, levels_same, levels_from, each_is_seven, length_levels}
use Rattle.pb_version.proofs.Counts.{count, Same, count_append, count_all_placed, count_map, count_flattened, count_levels, same_all, same_any, sum_two, in_one_level}

-- ---- items on seven levels

physical_levels : (ps : List PhysicalItem) → AllByRecursion IsPhysical ps → AllByRecursion (λ (p : PhysicalItem). p.level ≤ 6) ps
physical_levels [] all = tt
physical_levels (p ∷ ps) all = (all.0.level, physical_levels ps all.1)

virtual_levels : (vs : List VirtualItem) → AllByRecursion IsVirtual vs → AllByRecursion (λ (v : VirtualItem). v.level ≤ 6) vs
virtual_levels [] all = tt
virtual_levels (v ∷ vs) all = (all.0.level, virtual_levels vs all.1)

-- the items of an edit are on seven levels
pub record OnLevels (edit : VersionEdit) : Type 0 where
  pub physical : AllByRecursion (λ (p : PhysicalItem). p.level ≤ 6) edit.physical
  pub virtuals : AllByRecursion (λ (v : VirtualItem). v.level ≤ 6) edit.virtuals

pub on_levels : (edit : VersionEdit) → IsSpellable edit → OnLevels edit
on_levels edit spellable = record {
  physical = physical_levels edit.physical (recursion_from_All IsPhysical edit.physical spellable.physical);
  virtuals = virtual_levels edit.virtuals (recursion_from_All IsVirtual edit.virtuals spellable.virtuals);
}

pub number_on : (ls : List (List TableView)) (n : ℕ) → has_number (flattened ls) n ≡ has_number_on ls n
number_on ls n = list_any_flattened (λ (t : TableView). t.number == n) ls

module _ (old : VersionView) (edit : VersionEdit) where
  abbrev pub new : List TableView
  new = new_tables old edit

  abbrev pub news : List (List TableView)
  news = each_level (λ l ts. new_tables_of_level old edit l) 0 old.levels

  abbrev pub stays : List TableView
  stays = flattened (each_level (staying edit) 0 old.levels)

  abbrev pub after : List CreatedItem
  after = backings_after old edit

  v2 : keeps_v2 old edit ≡ are_numbered_anew old.levels old.backings edit.created (five_after old.five edit).next (new_numbers edit) (new_ranks edit)
  v2 = λ i.
      are_distinct (new_numbers edit)
      && list_all (λ n. not (number_on old.levels n i) && not (has_backing old.backings n) && not (has_backing edit.created n)) (new_numbers edit)
      && list_all (is_reserved old edit) (new_numbers edit)
      && list_all (is_reserved old edit) (new_ranks edit)

  level_v4 : (l : ℕ) (ts : List TableView) → level_keeps_v4 old edit l ts ≡ level_is_apart edit.deleted l (new_tables_of_level old edit l) ts
  level_v4 l ts = λ i.
      are_all_apart l (new_tables_of_level old edit l)
      && list_all (λ t. list_all_filter (are_apart l t) (is_gone edit.deleted l) ts i) (new_tables_of_level old edit l)

  pub v4 : keeps_v4 old edit ≡ are_apart_after old.levels edit.deleted news
  v4 =
      ap (λ f. all_levels f 0 old.levels) (λ i l ts. level_v4 l ts i)
      ∙ sym (ap (list_all (λ apart. apart)) (two_of_each (level_is_apart edit.deleted) (λ l ts. new_tables_of_level old edit l) 0 old.levels))

  v5 : keeps_v5 old edit ≡ list_all (is_new_backing old.levels old.backings (five_after old.five edit).next edit.deleted) edit.created
  v5 = ap (λ p. list_all p edit.created) (λ i c.
      not (has_backing old.backings c.number)
      && (is_freed old edit c || not (number_on old.levels c.number i))
      && nat_lt c.number (five_after old.five edit).next)

  pub length_after : (l : ℕ) (ts : List TableView) → length (level_after old edit l ts) ≡ length (new_tables_of_level old edit l) + length (stay edit.deleted l ts)
  length_after l ts = length_all_placed (comes_before l) (new_tables_of_level old edit l) (staying edit l ts)

  -- how many tables of each level stay
  abbrev pub stays_on : List ℕ
  stays_on = stay_counts edit.deleted old.levels

  counts_are : (k : ℕ) (ls : List (List TableView)) →
      each_level (λ l ts. length (level_after old edit l ts)) k ls
      ≡ counts_after (each_level (λ l ts. new_tables_of_level old edit l) k ls) (each_level (λ l ts. length (stay edit.deleted l ts)) k ls)
  counts_are k [] = refl
  counts_are k (ts ∷ ls) = λ i. length_after k ts i ∷ counts_are (k + 1) ls i

  v9 : keeps_v9 old edit ≡ fit_the_limit news stays_on
  unfolding edited
  v9 = ap (λ n. nat_le n 4096) (length_levels (level_after old edit) 0 old.levels ∙ ap total (counts_are 0 old.levels))

  module _ (on : OnLevels edit) (seven_levels : length old.levels ≡ 7) where
    made_is : news ≡ seven (made_for (shown_backings old edit) edit)
    made_is = each_is_seven (made_for (shown_backings old edit) edit) old.levels seven_levels

    -- each new table is on one level
    pub new_same : Same new (flattened news)
    new_same q =
        let shown = shown_backings old edit in
        let physical = λ (l : ℕ). filter (λ (p : PhysicalItem). p.level == l) edit.physical in
        let virtuals = λ (l : ℕ). filter (λ (v : VirtualItem). v.level == l) edit.virtuals in
        let qp = λ (p : PhysicalItem). q (physical_table p) in
        let qv = λ (v : VirtualItem). q (virtual_table shown v) in
        count_append q (map physical_table edit.physical) (map (virtual_table shown) edit.virtuals)
        ∙ (λ i. count_map q physical_table edit.physical i + count_map q (virtual_table shown) edit.virtuals i)
        ∙ sym (λ i.
        in_one_level (λ (p : PhysicalItem). p.level) qp edit.physical on.physical i
        + in_one_level (λ (v : VirtualItem). v.level) qv edit.virtuals on.virtuals i)
        ∙ sym (sum_two (λ l. count qp (physical l)) (λ l. count qv (virtuals l)))
        ∙ sym (λ i. total (seven (λ l.
        (count_append q (map physical_table (physical l)) (map (virtual_table shown) (virtuals l))
        ∙ (λ j. count_map q physical_table (physical l) j + count_map q (virtual_table shown) (virtuals l) j)) i)))
        ∙ sym (ap (λ xss. total (map (count q) xss)) made_is)
        ∙ sym (count_flattened q news)

    pub after_same : Same (all_tables (edited old edit)) (all_placed (comes_before 0) new stays)
    unfolding edited
    after_same q =
        count_levels q (λ l ts. new_tables_of_level old edit l) (staying edit) 0 old.levels
        ∙ ap (λ n. n + count q stays) (sym (new_same q))
        ∙ sym (count_all_placed q (comes_before 0) new stays)

    pub after_all : (q : TableView → Bool) → list_all q (all_tables (edited old edit)) ≡ (list_all q new && list_all q stays)
    after_all q = same_all (all_tables (edited old edit)) (all_placed (comes_before 0) new stays) after_same q ∙ list_all_all_placed q (comes_before 0) new stays

    pub new_each : (q : TableView → Bool) → list_all q new ≡ list_all (λ ts. list_all q ts) news
    new_each q = same_all new (flattened news) new_same q ∙ list_all_flattened q news

    pub new_seven : (q : TableView → Bool) → list_all (λ ts. list_all q ts) (seven (made_for (shown_backings old edit) edit)) ≡ list_all q new
    new_seven q = sym (ap (list_all (λ ts. list_all q ts)) made_is) ∙ sym (new_each q)

-- ---- V6

of_number : (p : ℕ → Bool) (m n : ℕ) → (m == n && not (p m)) ≡ (m == n && not (p n))
of_number p m n =
    elim (m == n) as (λ b. (m == n) ≡ b → (b && not (p m)) ≡ (b && not (p n))) [
      | true ↦ λ e. ap (λ k. not (p k)) (eqb-true m n e)
      | false ↦ λ e. refl
    ] refl

backed_bool : (nv hb c r g h : Bool) → (nv || hb) ≡ true → h ≡ ((c || hb) && not r) → ((nv || h) || g) ≡ ((nv || not r) || g)
backed_bool true hb c r g h e d = refl
backed_bool false true true r g h e d = ap (λ x. x || g) d
backed_bool false true false r g h e d = ap (λ x. x || g) d
backed_bool false false c r g h e d = cc

module _ (old : VersionView) (edit : VersionEdit) where
  pub has_after : (n : ℕ) → has_backing (after old edit) n ≡ ((has_backing edit.created n || has_backing old.backings n) && not (is_removed edit n))
  has_after n =
      list_any_filter (λ (b : CreatedItem). b.number == n) (λ b. is_removed edit b.number) (all_placed created_below edit.created old.backings)
      ∙ ap (λ p. list_any p (all_placed created_below edit.created old.backings)) (λ i (b : CreatedItem). of_number (is_removed edit) b.number n i)
      ∙ list_any_and (λ (b : CreatedItem). b.number == n) (not (is_removed edit n)) (all_placed created_below edit.created old.backings)
      ∙ ap (λ b. b && not (is_removed edit n)) (list_any_all_placed (λ (b : CreatedItem). b.number == n) created_below edit.created old.backings)

  keeps_backing : (l : ℕ) (u : TableView) → has_its_backing old.backings u ≡ true →
      (has_its_backing (after old edit) u || is_gone edit.deleted l u) ≡ keeps_its_backing edit.deleted edit.removed l u
  keeps_backing l u e =
      backed_bool (not u.is_virtual) (has_backing old.backings u.backing) (has_backing edit.created u.backing) (is_removed edit u.backing) (is_gone edit.deleted l u)
      (has_backing (after old edit) u.backing) e (has_after u.backing)

  pub v6 : OnLevels edit → IsVersion old → keeps_v6 old edit ≡ have_backings old.levels edit.deleted edit.removed (after old edit) (news old edit)
  v6 on is =
      after_all old edit on is.levels (has_its_backing (after old edit))
      ∙ (λ i.
      new_each old edit on is.levels (has_its_backing (after old edit)) i
      && (list_all_flattened (has_its_backing (after old edit)) (each_level (staying edit) 0 old.levels)
      ∙ all_each (list_all (has_its_backing (after old edit))) (staying edit) 0 old.levels
      ∙ levels_same (list_all (has_its_backing old.backings)) (λ l ts. list_all (has_its_backing (after old edit)) (staying edit l ts)) (keep_their_backings edit.deleted edit.removed)
      (λ l ts h. list_all_filter (has_its_backing (after old edit)) (is_gone edit.deleted l) ts
      ∙ list_all_same (has_its_backing old.backings) (λ u. has_its_backing (after old edit) u || is_gone edit.deleted l u) (keeps_its_backing edit.deleted edit.removed l) (keeps_backing l) ts h)
      0 old.levels (sym (list_all_flattened (has_its_backing old.backings) old.levels) ∙ is.backed)) i)

-- ---- V7

-- what holds of the number of each backing holds of a number that is a backing's
pub of_backing : (p : ℕ → Bool) (backings : List CreatedItem) (n : ℕ) → has_backing backings n ≡ true → list_all (λ b. p b.number) backings ≡ true → p n ≡ true
of_backing p [] n some all = cc
of_backing p (b ∷ bs) n some all =
    elim (b.number == n) as (λ t. (b.number == n) ≡ t → (t || has_backing bs n) ≡ true → p n ≡ true) [
      | true ↦ λ e _. sym (ap p (eqb-true b.number n e)) ∙ left (p b.number) (list_all (λ c. p c.number) bs) all
      | false ↦ λ e later. of_backing p bs n later (right (p b.number) (list_all (λ c. p c.number) bs) all)
    ] refl some

leaves_bool : (v hb g r s : Bool) → (not v || hb) ≡ true → (hb ≡ true → (s || r) ≡ true) → (((not v || not g) || r) || s) ≡ true
leaves_bool false hb g r s e f = refl
leaves_bool true hb false r s e f = refl
leaves_bool true hb true r s e f = either_turns r s ∙ f e

still_bool : (v e g r s l : Bool) → (v && e) ≡ true → (((not v || not g) || r) || s) ≡ true → ((s || r) || (((v && e) && not g) || l)) ≡ true
still_bool false e g r s l m k = cc
still_bool true false g r s l m k = cc
still_bool true true true true true l m k = refl
still_bool true true true true false l m k = refl
still_bool true true true false true l m k = refl
still_bool true true true false false l m k = cc
still_bool true true false true true l m k = refl
still_bool true true false true false l m k = refl
still_bool true true false false true l m k = refl
still_bool true true false false false l m k = refl

later_bool : (a x l : Bool) → (a || l) ≡ true → (a || (x || l)) ≡ true
later_bool true x l e = refl
later_bool false true l e = refl
later_bool false false l e = e

sooner_bool : (a x l : Bool) → (a || x) ≡ true → (a || (x || l)) ≡ true
sooner_bool true x l e = refl
sooner_bool false true l e = refl
sooner_bool false false l e = cc

either_bool : (s r l : Bool) → ((s || r) || l) ≡ true → (l ≡ true → s ≡ true) → (s || r) ≡ true
either_bool true r l e f = refl
either_bool false true l e f = refl
either_bool false false l e f = f e

module _ (g : TableView → Bool) (r s : ℕ → Bool) where
  abbrev leaves : TableView → Bool
  leaves u = ((not u.is_virtual || not (g u)) || r u.backing) || s u.backing

  -- where one of the tables shows the backing, one that stays shows it, or it is shown otherwise, or removed
  still : (n : ℕ) (ts : List TableView) → has_virtual ts n ≡ true → list_all leaves ts ≡ true →
      ((s n || r n) || list_any (λ (u : TableView). (u.is_virtual && u.backing == n) && not (g u)) ts) ≡ true
  still n [] some all = cc
  still n (u ∷ us) some all =
      elim (u.is_virtual && u.backing == n) as (λ t. (u.is_virtual && u.backing == n) ≡ t → (t || has_virtual us n) ≡ true →
      ((s n || r n) || (((u.is_virtual && u.backing == n) && not (g u)) || list_any (λ (w : TableView). (w.is_virtual && w.backing == n) && not (g w)) us)) ≡ true) [
        | true ↦ λ e _.
            let same : u.backing ≡ n = eqb-true u.backing n (right u.is_virtual (u.backing == n) e) in
            still_bool u.is_virtual (u.backing == n) (g u) (r n) (s n) (list_any (λ (w : TableView). (w.is_virtual && w.backing == n) && not (g w)) us) e
            (subst (λ m. (((not u.is_virtual || not (g u)) || r m) || s m) ≡ true) same (left (leaves u) (list_all leaves us) all))
        | false ↦ λ e later.
            later_bool (s n || r n) ((u.is_virtual && u.backing == n) && not (g u)) (list_any (λ (w : TableView). (w.is_virtual && w.backing == n) && not (g w)) us)
            (still n us later (right (leaves u) (list_all leaves us) all))
      ] refl some

module _ (g : ℕ → TableView → Bool) (r s : ℕ → Bool) where
  -- the same of the tables of all levels
  still_on : (n k : ℕ) (ls : List (List TableView)) → has_virtual (flattened ls) n ≡ true → all_levels (λ l ts. list_all (leaves (g l) r s) ts) k ls ≡ true →
      ((s n || r n) || any_level (λ l ts. list_any (λ (u : TableView). (u.is_virtual && u.backing == n) && not (g l u)) ts) k ls) ≡ true
  still_on n k [] some all = cc
  still_on n k (ts ∷ ls) some all =
      let here = list_any (λ (u : TableView). (u.is_virtual && u.backing == n) && not (g k u)) ts in
      let deeper = any_level (λ l us. list_any (λ (u : TableView). (u.is_virtual && u.backing == n) && not (g l u)) us) (k + 1) ls in
      elim (has_virtual ts n) as (λ t. has_virtual ts n ≡ t → (t || has_virtual (flattened ls) n) ≡ true → ((s n || r n) || (here || deeper)) ≡ true) [
        | true ↦ λ e _. sooner_bool (s n || r n) here deeper (still (g k) r s n ts e (left (list_all (leaves (g k) r s) ts) (all_levels (λ l us. list_all (leaves (g l) r s) us) (k + 1) ls) all))
        | false ↦ λ e later. later_bool (s n || r n) here deeper (still_on n (k + 1) ls later (right (list_all (leaves (g k) r s) ts) (all_levels (λ l us. list_all (leaves (g l) r s) us) (k + 1) ls) all))
      ] refl (sym (ap (λ us. has_virtual us n) (flattened_cons ts ls) ∙ any_append (λ (t : TableView). t.is_virtual && t.backing == n) ts (flattened ls)) ∙ some)

module _ (old : VersionView) (edit : VersionEdit) where
  abbrev shown_then : ℕ → Bool
  shown_then n = is_shown_after old.levels edit.deleted (news old edit) n

  abbrev shown_or_removed : CreatedItem → Bool
  shown_or_removed b = shown_then b.number || is_removed edit b.number

  abbrev leaves_then : ℕ → TableView → Bool
  leaves_then = orphans_no_backing old.levels edit.deleted edit.removed (news old edit)

  abbrev all_leave : Bool
  all_leave = all_levels (orphan_no_backing old.levels edit.deleted edit.removed (news old edit)) 0 old.levels

  shown_is : OnLevels edit → IsVersion old → (n : ℕ) → has_virtual (all_tables (edited old edit)) n ≡ shown_then n
  shown_is on is n =
      let shows = λ (t : TableView). t.is_virtual && t.backing == n in
      same_any (all_tables (edited old edit)) (all_placed (comes_before 0) (new old edit) (stays old edit)) (after_same old edit on is.levels) shows
      ∙ list_any_all_placed shows (comes_before 0) (new old edit) (stays old edit)
      ∙ (λ i.
      (same_any (new old edit) (flattened (news old edit)) (new_same old edit on is.levels) shows ∙ list_any_flattened shows (news old edit)) i
      || (list_any_flattened shows (each_level (staying edit) 0 old.levels)
      ∙ any_each (list_any shows) (staying edit) 0 old.levels
      ∙ ap (λ f. any_level f 0 old.levels) (λ j l ts. list_any_filter shows (is_gone edit.deleted l) ts j)) i)

  still_then : (n : ℕ) → any_level (is_still_shown edit.deleted n) 0 old.levels ≡ true → shown_then n ≡ true
  still_then n e = ap (λ b. list_any (λ ts. has_virtual ts n) (news old edit) || b) e ∙ either_turns (list_any (λ ts. has_virtual ts n) (news old edit)) true

  module _ (is : IsVersion old) where
    leaves_each : list_all shown_or_removed old.backings ≡ true → (l : ℕ) (u : TableView) → has_its_backing old.backings u ≡ true → leaves_then l u ≡ true
    leaves_each all l u e =
        leaves_bool u.is_virtual (has_backing old.backings u.backing) (is_gone edit.deleted l u) (is_removed edit u.backing) (shown_then u.backing) e
        (λ there. of_backing (λ n. shown_then n || is_removed edit n) old.backings u.backing there all)

    shows_each : all_leave ≡ true → (b : CreatedItem) → has_virtual (all_tables old) b.number ≡ true → shown_or_removed b ≡ true
    shows_each all b some =
        either_bool (shown_then b.number) (is_removed edit b.number) (any_level (is_still_shown edit.deleted b.number) 0 old.levels)
        (still_on (is_gone edit.deleted) (is_removed edit) shown_then b.number 0 old.levels some all)
        (still_then b.number)

    pub standing_shown : list_all shown_or_removed old.backings ≡ all_leave
    standing_shown = same_tests (list_all shown_or_removed old.backings) all_leave
        (λ all. levels_from (list_all (has_its_backing old.backings)) (orphan_no_backing old.levels edit.deleted edit.removed (news old edit))
        (λ l ts h. weaker (has_its_backing old.backings) (leaves_then l) (leaves_each all l) ts h)
        0 old.levels (sym (list_all_flattened (has_its_backing old.backings) old.levels) ∙ is.backed))
        (λ all. list_all-from_AllPass shown_or_removed old.backings (λ k d h. shows_each all (get_or old.backings k d) (AllPass-from_list_all (λ b. has_virtual (all_tables old) b.number) old.backings is.shown k d h)))

    all_shown : OnLevels edit →
        list_all (λ b. has_virtual (all_tables (edited old edit)) b.number) (after old edit) ≡ (list_all (is_created_shown old.levels edit (news old edit)) edit.created && all_leave)
    all_shown on =
        ap (λ p. list_all p (after old edit)) (λ i (b : CreatedItem). shown_is on is b.number i)
        ∙ list_all_filter (λ (b : CreatedItem). shown_then b.number) (λ b. is_removed edit b.number) (all_placed created_below edit.created old.backings)
        ∙ list_all_all_placed shown_or_removed created_below edit.created old.backings
        ∙ (λ i. list_all (λ (c : CreatedItem). either_turns (shown_then c.number) (is_removed edit c.number) i) edit.created && standing_shown i)

    pub v7 : OnLevels edit → keeps_v7 old edit ≡ are_shown old.levels old.backings edit (news old edit)
    v7 on =
        ap (λ b. list_all (has_backing old.backings) edit.removed && b) (all_shown on)
        ∙ sym (both_groups (list_all (has_backing old.backings) edit.removed) (list_all (is_created_shown old.levels edit (news old edit)) edit.created) all_leave)

-- ---- all rules

in_two : (k1 k2 : Bool) (rest : Option Broken) →
    cond (not k1) (Some V1) (cond (not k2) (Some V2) rest) ≡ option_or (cond (not k1) (Some V1) (cond (not k2) (Some V2) None)) rest
in_two true true rest = refl
in_two true false rest = refl
in_two false k2 rest = refl

-- the first of both kinds of rules, and of the third between them
pub first_is : (old : VersionView) (edit : VersionEdit) → OnLevels edit → IsVersion old →
    first_broken old edit
    ≡ option_or (broken_against_old old.levels old.backings (five_after old.five edit).next edit (new_numbers edit) (new_ranks edit))
    (cond (not (list_all (λ (t : TableView). is_plain_view t.view) (new old edit))) (Some V3)
    (broken_against_new old.levels old.backings old.five edit (news old edit) (after old edit) (five_after old.five edit) (stays_on old edit)))
unfolding first_broken
first_is old edit on is =
    (λ i.
    cond (not (keeps_v1 old edit)) (Some V1)
    (cond (not (v2 old edit i)) (Some V2)
    (cond (not (keeps_v3 old edit)) (Some V3)
    (cond (not (v4 old edit i)) (Some V4)
    (cond (not (v5 old edit i)) (Some V5)
    (cond (not (v6 old edit on is i)) (Some V6)
    (cond (not (v7 old edit is on i)) (Some V7)
    (cond (not (keeps_v8 old edit)) (Some V8)
    (cond (not (v9 old edit i)) (Some V9) None)))))))))
    ∙ in_two (deletes_existing old.levels edit.deleted) (are_numbered_anew old.levels old.backings edit.created (five_after old.five edit).next (new_numbers edit) (new_ranks edit)) _
