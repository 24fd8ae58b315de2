-- The nine rules of an edit, and the first that it breaks.
use Rattle.std.specs.Prelude.{ℕ, List, [], ◌∷◌, ◌++◌, map, length, Bool, true, not, ◌&&◌, ◌||◌, ◌==◌, nat_lt, nat_le, if◌then◌else◌, Option, Some, None, is_some}
use Rattle.std.specs.List.{list_any, list_all}
use Rattle.pb_edit.specs.Edit.{CreatedItem, VersionEdit}
use Rattle.pb_keys.specs.Span.{overlap}
use Rattle.pb_keys.specs.View.{KeyView, is_view}
use Rattle.pb_version.specs.declared.broken.Broken.{Broken}
use Rattle.pb_version.specs.declared.broken.Broken.TheVariants.{V1, V2, V3, V4, V5, V6, V7, V8, V9}
use Rattle.pb_version.specs.Version.{TableView, FiveNumbers, VersionView, tables_of_level, all_tables}
use Rattle.pb_version.specs.Edited.{is_deleted, staying, new_tables, new_tables_of_level, backings_after, five_after, each_level, edited}

abbrev pub has_number : List TableView → ℕ → Bool
has_number tables number = list_any (λ t. t.number == number) tables

abbrev pub has_backing : List CreatedItem → ℕ → Bool
has_backing backings number = list_any (λ b. b.number == number) backings

-- ---- V1: each deleted table is in the version at that level

abbrev pub keeps_v1 : VersionView → VersionEdit → Bool
keeps_v1 old edit = list_all (λ d. has_number (tables_of_level old d.level) d.number) edit.deleted

-- ---- V2: a new table's number is no other's, and its number and rank are reserved

abbrev pub new_numbers : VersionEdit → List ℕ
new_numbers edit = map (λ p. p.number) edit.physical ++ map (λ v. v.number) edit.virtuals

abbrev pub new_ranks : VersionEdit → List ℕ
new_ranks edit = map (λ p. p.rank) edit.physical ++ map (λ v. v.rank) edit.virtuals

abbrev pub is_listed : List ℕ → ℕ → Bool
is_listed numbers number = list_any (λ n. n == number) numbers

abbrev pub are_distinct : List ℕ → Bool
are_distinct [] = true
are_distinct (n ∷ ns) = not (is_listed ns n) && are_distinct ns

-- after the edit
abbrev pub is_reserved : VersionView → VersionEdit → ℕ → Bool
is_reserved old edit number = nat_lt number (five_after old.five edit).next

-- neither a table's before the edit nor a backing's then or after it
abbrev pub is_free : VersionView → VersionEdit → ℕ → Bool
is_free old edit number =
    not (has_number (all_tables old) number) && not (has_backing old.backings number) && not (has_backing edit.created number)

abbrev pub keeps_v2 : VersionView → VersionEdit → Bool
keeps_v2 old edit =
    are_distinct (new_numbers edit)
    && list_all (is_free old edit) (new_numbers edit)
    && list_all (is_reserved old edit) (new_numbers edit)
    && list_all (is_reserved old edit) (new_ranks edit)

-- ---- V3: a new table's ends are a span, and its prefix and suffix have their form, which is none yet

-- what a later format takes away
abbrev pub has_no_parts : KeyView → Bool
has_no_parts view = length view.prefix == 0 && length view.suffix == 0

abbrev pub is_plain_view : KeyView → Bool
is_plain_view view = is_view view && has_no_parts view

abbrev pub keeps_v3 : VersionView → VersionEdit → Bool
keeps_v3 old edit = list_all (λ t. is_plain_view t.view) (new_tables old edit)

-- ---- V4: a new table overlaps no other of its level that stays or is new; on level 0 it may, with another rank

abbrev pub are_apart : ℕ → TableView → TableView → Bool
are_apart level t u = (level == 0 && not (t.rank == u.rank)) || not (overlap t.view.bounds u.view.bounds)

-- of each element and each later one
abbrev pub each_pair : {X : Type 0} → (X → X → Bool) → List X → Bool
each_pair holds [] = true
each_pair holds (x ∷ xs) = list_all (holds x) xs && each_pair holds xs

abbrev pub are_all_apart : ℕ → List TableView → Bool
are_all_apart level tables = each_pair (are_apart level) tables

abbrev pub level_keeps_v4 : VersionView → VersionEdit → ℕ → List TableView → Bool
level_keeps_v4 old edit level tables =
    are_all_apart level (new_tables_of_level old edit level)
    && list_all (λ t. list_all (are_apart level t) (staying edit level tables)) (new_tables_of_level old edit level)

abbrev pub keeps_v4 : VersionView → VersionEdit → Bool
keeps_v4 old edit = list_all (λ kept. kept) (each_level (level_keeps_v4 old edit) 0 old.levels)

-- ---- V5: a created backing is new and reserved, and is that of a physical table which the edit deletes, or of no table

-- whether a physical table of this number and size goes from the level
abbrev pub is_freed_physical : VersionEdit → CreatedItem → ℕ → List TableView → Bool
is_freed_physical edit c level tables =
    list_any (λ t. is_deleted edit level t && not t.is_virtual && t.number == c.number && t.size == c.size) tables

abbrev pub is_freed : VersionView → VersionEdit → CreatedItem → Bool
is_freed old edit c = list_any (λ goes. goes) (each_level (is_freed_physical edit c) 0 old.levels)

abbrev pub is_backing_anew : VersionView → VersionEdit → CreatedItem → Bool
is_backing_anew old edit c =
    not (has_backing old.backings c.number)
    && (is_freed old edit c || not (has_number (all_tables old) c.number))
    && is_reserved old edit c.number

abbrev pub keeps_v5 : VersionView → VersionEdit → Bool
keeps_v5 old edit = list_all (is_backing_anew old edit) edit.created

-- ---- V6: after the edit the backing of each virtual table is there

abbrev pub has_its_backing : List CreatedItem → TableView → Bool
has_its_backing backings t = not t.is_virtual || has_backing backings t.backing

abbrev pub keeps_v6 : VersionView → VersionEdit → Bool
keeps_v6 old edit = list_all (has_its_backing (backings_after old edit)) (all_tables (edited old edit))

-- ---- V7: a removed backing was there, and after the edit each backing has a virtual table

abbrev pub has_virtual : List TableView → ℕ → Bool
has_virtual tables backing = list_any (λ t. t.is_virtual && t.backing == backing) tables

abbrev pub keeps_v7 : VersionView → VersionEdit → Bool
keeps_v7 old edit =
    list_all (has_backing old.backings) edit.removed
    && list_all (λ b. has_virtual (all_tables (edited old edit)) b.number) (backings_after old edit)

-- ---- V8: counts, reserved numbers and format don't fall, the five numbers fit each other, and the first edit has them all

abbrev pub none_of_four_falls : FiveNumbers → FiveNumbers → Bool
none_of_four_falls old new =
    nat_le old.accepted new.accepted && nat_le old.next new.next && nat_le old.flushed new.flushed && nat_le old.format new.format

abbrev pub fit_each_other : FiveNumbers → Bool
fit_each_other five = nat_le five.flushed five.accepted && nat_lt five.log five.next && five.format == 1

abbrev pub has_all_five : VersionEdit → Bool
has_all_five edit = is_some edit.accepted && is_some edit.next && is_some edit.log && is_some edit.flushed && is_some edit.format

-- before the first edit the format is 0
abbrev pub keeps_v8 : VersionView → VersionEdit → Bool
keeps_v8 old edit =
    none_of_four_falls old.five (five_after old.five edit)
    && fit_each_other (five_after old.five edit)
    && (not (old.five.format == 0) || has_all_five edit)

-- ---- V9: at most 4,096 tables stand after the edit

abbrev pub keeps_v9 : VersionView → VersionEdit → Bool
keeps_v9 old edit = nat_le (length (all_tables (edited old edit))) 4096

-- ---- all of them, in this order

unfoldable pub first_broken : VersionView → VersionEdit → Option Broken
first_broken old edit =
    if not (keeps_v1 old edit) then Some V1
    else if not (keeps_v2 old edit) then Some V2
    else if not (keeps_v3 old edit) then Some V3
    else if not (keeps_v4 old edit) then Some V4
    else if not (keeps_v5 old edit) then Some V5
    else if not (keeps_v6 old edit) then Some V6
    else if not (keeps_v7 old edit) then Some V7
    else if not (keeps_v8 old edit) then Some V8
    else if not (keeps_v9 old edit) then Some V9
    else None
