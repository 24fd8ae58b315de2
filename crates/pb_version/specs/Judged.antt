-- The rules in the form in which they are judged: level by level, by what an edit touches. `levels` are the tables of each level,
-- `new` those that the edit makes for each.
use Rattle.std.specs.Prelude.{◌≡◌, ℕ, ◌+◌, ◌≤◌, ◌⊎◌, List, [], ◌∷◌, length, Bool, true, false, not, ◌&&◌, ◌||◌, ◌==◌, nat_lt, nat_le, if◌then◌else◌, Option, Some, None, slice_index_or}
use Rattle.std.specs.List.{filter, list_any, list_all}
use Rattle.pb_edit.specs.Edit.{DeletedItem, CreatedItem, VersionEdit}
use Rattle.pb_version.specs.declared.broken.Broken.{Broken}
use Rattle.pb_version.specs.declared.broken.Broken.TheVariants.{V1, V2, V3, V4, V5, V6, V7, V8, V9, NoMemory}
use Rattle.pb_version.specs.Version.{TableView, FiveNumbers}
use Rattle.pb_version.specs.State.{PreparedEdit, is_touched}
use Rattle.pb_version.specs.Edited.{tables_of, each_level, all_placed, comes_before}
use Rattle.pb_version.specs.Rules.{has_number, has_backing, has_its_backing, is_listed, has_virtual, are_distinct, are_apart, are_all_apart, none_of_four_falls, fit_each_other, has_all_five}

-- there was no memory, or V3 is broken
abbrev pub IsRefused : Bool → Broken → Type 0
IsRefused kept error = (error ≡ NoMemory) ⊎ ((error ≡ V3) × (kept ≡ false))

-- what f makes of each level with its new tables
abbrev pub each_two : {X : Type 0} → (ℕ → List TableView → List TableView → X) → ℕ → List (List TableView) → List (List TableView) → List X
each_two f level (new ∷ news) (tables ∷ deeper) = f level new tables ∷ each_two f (level + 1) news deeper
each_two f level new [] = []
each_two f level [] (tables ∷ deeper) = []

abbrev pub all_levels : (ℕ → List TableView → Bool) → ℕ → List (List TableView) → Bool
all_levels holds level levels = list_all (λ held. held) (each_level holds level levels)

abbrev pub any_level : (ℕ → List TableView → Bool) → ℕ → List (List TableView) → Bool
any_level holds level levels = list_any (λ held. held) (each_level holds level levels)

abbrev pub total : List ℕ → ℕ
total [] = 0
total (n ∷ ns) = n + total ns

-- the tables that an edit makes for a level, where these backings may be shown
abbrev pub made_for : List CreatedItem → VersionEdit → ℕ → List TableView
made_for shown edit level = tables_of shown (filter (λ p. p.level == level) edit.physical) (filter (λ v. v.level == level) edit.virtuals)

abbrev pub seven : {X : Type 0} → (ℕ → X) → List X
seven f = f 0 ∷ f 1 ∷ f 2 ∷ f 3 ∷ f 4 ∷ f 5 ∷ f 6 ∷ []

abbrev pub is_gone : List DeletedItem → ℕ → TableView → Bool
is_gone deleted level t = list_any (λ d. d.level == level && d.number == t.number) deleted

abbrev pub stay : List DeletedItem → ℕ → List TableView → List TableView
stay deleted level tables = filter (λ t. not (is_gone deleted level t)) tables

-- ---- V1 and V2

abbrev pub deletes_existing : List (List TableView) → List DeletedItem → Bool
deletes_existing levels deleted = list_all (λ d. has_number (slice_index_or levels d.level []) d.number) deleted

abbrev pub has_number_on : List (List TableView) → ℕ → Bool
has_number_on levels number = list_any (λ tables. has_number tables number) levels

abbrev pub is_free_of : List (List TableView) → List CreatedItem → List CreatedItem → ℕ → Bool
is_free_of levels backings created number =
    not (has_number_on levels number) && not (has_backing backings number) && not (has_backing created number)

abbrev pub all_below : ℕ → List ℕ → Bool
all_below next numbers = list_all (λ n. nat_lt n next) numbers

abbrev pub are_numbered_anew : List (List TableView) → List CreatedItem → List CreatedItem → ℕ → List ℕ → List ℕ → Bool
are_numbered_anew levels backings created next numbers ranks =
    are_distinct numbers && list_all (is_free_of levels backings created) numbers && all_below next numbers && all_below next ranks

abbrev pub broken_against_old : List (List TableView) → List CreatedItem → ℕ → VersionEdit → List ℕ → List ℕ → Option Broken
broken_against_old levels backings next edit numbers ranks =
    if not (deletes_existing levels edit.deleted) then Some V1
    else if not (are_numbered_anew levels backings edit.created next numbers ranks) then Some V2
    else None

-- ---- V4

abbrev pub overlaps_none : List DeletedItem → ℕ → List TableView → TableView → Bool
overlaps_none deleted level tables t = list_all (λ u. are_apart level t u || is_gone deleted level u) tables

abbrev pub level_is_apart : List DeletedItem → ℕ → List TableView → List TableView → Bool
level_is_apart deleted level new tables = are_all_apart level new && list_all (overlaps_none deleted level tables) new

abbrev pub are_apart_after : List (List TableView) → List DeletedItem → List (List TableView) → Bool
are_apart_after levels deleted new = list_all (λ apart. apart) (each_two (level_is_apart deleted) 0 new levels)

-- ---- V5

abbrev pub frees_physical : List DeletedItem → CreatedItem → ℕ → List TableView → Bool
frees_physical deleted c level tables =
    list_any (λ t. is_gone deleted level t && not t.is_virtual && t.number == c.number && t.size == c.size) tables

abbrev pub is_new_backing : List (List TableView) → List CreatedItem → ℕ → List DeletedItem → CreatedItem → Bool
is_new_backing levels backings next deleted c =
    not (has_backing backings c.number) && (any_level (frees_physical deleted c) 0 levels || not (has_number_on levels c.number)) && nat_lt c.number next

-- ---- V6

-- a backing that is removed has no table that stays
abbrev pub keeps_its_backing : List DeletedItem → List ℕ → ℕ → TableView → Bool
keeps_its_backing deleted removed level t = not t.is_virtual || not (is_listed removed t.backing) || is_gone deleted level t

abbrev pub keep_their_backings : List DeletedItem → List ℕ → ℕ → List TableView → Bool
keep_their_backings deleted removed level tables = list_all (keeps_its_backing deleted removed level) tables

abbrev pub have_new_backings : List CreatedItem → List (List TableView) → Bool
have_new_backings after new = list_all (λ tables. list_all (has_its_backing after) tables) new

abbrev pub have_backings : List (List TableView) → List DeletedItem → List ℕ → List CreatedItem → List (List TableView) → Bool
have_backings levels deleted removed after new = have_new_backings after new && all_levels (keep_their_backings deleted removed) 0 levels

-- ---- V7

abbrev pub is_still_shown : List DeletedItem → ℕ → ℕ → List TableView → Bool
is_still_shown deleted backing level tables = list_any (λ t. t.is_virtual && t.backing == backing && not (is_gone deleted level t)) tables

abbrev pub is_shown_by : List (List TableView) → ℕ → Bool
is_shown_by new backing = list_any (λ tables. has_virtual tables backing) new

abbrev pub is_shown_after : List (List TableView) → List DeletedItem → List (List TableView) → ℕ → Bool
is_shown_after levels deleted new backing = is_shown_by new backing || any_level (is_still_shown deleted backing) 0 levels

-- a backing that loses a table is removed, or has another
abbrev pub orphans_no_backing : List (List TableView) → List DeletedItem → List ℕ → List (List TableView) → ℕ → TableView → Bool
orphans_no_backing levels deleted removed new level t =
    not t.is_virtual || not (is_gone deleted level t) || is_listed removed t.backing || is_shown_after levels deleted new t.backing

abbrev pub orphan_no_backing : List (List TableView) → List DeletedItem → List ℕ → List (List TableView) → ℕ → List TableView → Bool
orphan_no_backing levels deleted removed new level tables = list_all (orphans_no_backing levels deleted removed new level) tables

abbrev pub is_created_shown : List (List TableView) → VersionEdit → List (List TableView) → CreatedItem → Bool
is_created_shown levels edit new c = is_listed edit.removed c.number || is_shown_after levels edit.deleted new c.number

abbrev pub are_shown : List (List TableView) → List CreatedItem → VersionEdit → List (List TableView) → Bool
are_shown levels backings edit new =
    list_all (has_backing backings) edit.removed
    && list_all (is_created_shown levels edit new) edit.created
    && all_levels (orphan_no_backing levels edit.deleted edit.removed new) 0 levels

-- ---- V8 and V9

abbrev pub fits_after : FiveNumbers → FiveNumbers → VersionEdit → Bool
fits_after old new edit = none_of_four_falls old new && fit_each_other new && (not (old.format == 0) || has_all_five edit)

-- how many tables of each level stay
abbrev pub stay_counts : List DeletedItem → List (List TableView) → List ℕ
stay_counts deleted levels = each_level (λ level tables. length (stay deleted level tables)) 0 levels

-- how many tables of each level stand after the edit, where so many stay
abbrev pub counts_after : List (List TableView) → List ℕ → List ℕ
counts_after (new ∷ news) (stays ∷ others) = (length new + stays) ∷ counts_after news others
counts_after [] stays = []
counts_after (new ∷ news) [] = []

abbrev pub fit_the_limit : List (List TableView) → List ℕ → Bool
fit_the_limit new stays = nat_le (total (counts_after new stays)) 4096

-- of the rules from the fourth on
abbrev pub broken_against_new : List (List TableView) → List CreatedItem → FiveNumbers → VersionEdit → List (List TableView) → List CreatedItem → FiveNumbers → List ℕ → Option Broken
broken_against_new levels backings old edit new after five stays =
    if not (are_apart_after levels edit.deleted new) then Some V4
    else if not (list_all (is_new_backing levels backings five.next edit.deleted) edit.created) then Some V5
    else if not (have_backings levels edit.deleted edit.removed after new) then Some V6
    else if not (are_shown levels backings edit new) then Some V7
    else if not (fits_after old five edit) then Some V8
    else if not (fit_the_limit new stays) then Some V9
    else None

-- ---- what an install puts in place

abbrev pub tables_after : List DeletedItem → ℕ → List TableView → List TableView → List TableView
tables_after deleted level new tables = all_placed (comes_before level) new (stay deleted level tables)

-- room for the tables of a level after the edit, if it touches the level
abbrev pub HasRoomFor : List DeletedItem → ℕ → List TableView → List TableView → ℕ → Type 0
HasRoomFor deleted level new tables room = is_touched deleted level new ≡ true → length new + length (stay deleted level tables) ≤ room

abbrev pub HaveRoomFor : List DeletedItem → ℕ → List (List TableView) → List (List TableView) → List ℕ → Type 0
HaveRoomFor deleted level (new ∷ news) (tables ∷ deeper) (room ∷ rooms) = HasRoomFor deleted level new tables room × HaveRoomFor deleted (level + 1) news deeper rooms
HaveRoomFor deleted level news [] rooms = Unit {0}
HaveRoomFor deleted level [] (tables ∷ deeper) rooms = ⊥
HaveRoomFor deleted level (new ∷ news) (tables ∷ deeper) [] = ⊥

-- room for exactly as many, where so many stay, and none where the edit doesn't touch the level
abbrev pub room_of : List DeletedItem → ℕ → List TableView → ℕ → ℕ
room_of deleted level new stays = if is_touched deleted level new then length new + stays else 0

abbrev pub rooms_of : List DeletedItem → ℕ → List (List TableView) → List ℕ → List ℕ
rooms_of deleted level (new ∷ news) (stays ∷ others) = room_of deleted level new stays ∷ rooms_of deleted (level + 1) news others
rooms_of deleted level [] stays = []
rooms_of deleted level (new ∷ news) [] = []

pub record IsMadeReady (stays : List ℕ) (edit : VersionEdit) (new : List (List TableView)) (after : List CreatedItem) (numbers : FiveNumbers) (p : PreparedEdit) : Type 0 where
  pub deleted : p.deleted ≡ edit.deleted
  pub tables : p.tables ≡ new
  pub backings : p.backings ≡ after
  pub five : p.five ≡ numbers
  pub room : p.room ≡ rooms_of edit.deleted 0 new stays
