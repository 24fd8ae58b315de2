-- What holds of every version, and what is made ready for an edit of one.
use Rattle.std.specs.Prelude.{◌≡◌, ℕ, ◌+◌, ◌*◌, ◌≤◌, ◌⊎◌, ◌||◌, ◌==◌, List, [], ◌∷◌, length, Bool, true, not, nat_le, nat_lt, ◌&&◌, if◌then◌else◌, Option, Some, None, IfSome, All}
use Rattle.std.specs.List.{list_any, list_all, AllByRecursion}
use Rattle.std.specs.Option.{unwrap_or}
use Rattle.pb_edit.specs.Edit.{DeletedItem, CreatedItem, VersionEdit}
use Rattle.pb_edit.specs.Grammar.{IsPhysical, IsVirtual, IsCreated, Ascend, created_below}
use Rattle.pb_bytes.specs.Number.{IsNumber}
use Rattle.pb_version.specs.declared.broken.Broken.{Broken}
use Rattle.pb_version.specs.declared.broken.Broken.TheVariants.{NoMemory}
use Rattle.pb_version.specs.Version.{TableView, FiveNumbers, VersionView, all_tables, size_of}
use Rattle.pb_version.specs.Edited.{new_tables_of_level, level_after, backings_after, five_after, each_level, comes_before}
use Rattle.pb_version.specs.Rules.{each_pair, are_all_apart, fit_each_other, has_backing, has_its_backing, has_virtual, is_plain_view, first_broken}

abbrev pub other_number : TableView → TableView → Bool
other_number t u = not (u.number == t.number)

-- the size of a virtual table is that of its backing, and a physical table's backing has its number
abbrev pub is_formed : List CreatedItem → TableView → Bool
is_formed backings t = if t.is_virtual then unwrap_or (size_of backings t.backing) 0 == t.size else t.backing == t.number

abbrev pub is_below_next : ℕ → TableView → Bool
is_below_next next t = nat_lt t.number next && nat_lt t.rank next

-- an edit can say each of them
pub record AreNumbers (five : FiveNumbers) : Type 0 where
  pub accepted : IsNumber five.accepted
  pub next : IsNumber five.next
  pub log : IsNumber five.log
  pub flushed : IsNumber five.flushed
  pub format : IsNumber five.format

-- what the grammar and the rules of edits leave true of a version: its tables' numbers, views and places, their backings,
-- and its numbers and sizes
pub record IsVersion (v : VersionView) : Type 0 where
  pub levels : length v.levels ≡ 7
  pub numbered : each_pair other_number (all_tables v) ≡ true
  pub views : list_all (λ t. is_plain_view t.view) (all_tables v) ≡ true
  pub apart : list_all (λ apart. apart) (each_level are_all_apart 0 v.levels) ≡ true
  pub fits : (v.five.format == 0 || fit_each_other v.five) ≡ true
  pub few : nat_le (length (all_tables v)) 4096 ≡ true
  pub sorted : list_all (λ sorted. sorted) (each_level (λ level tables. each_pair (comes_before level) tables) 0 v.levels) ≡ true
  pub formed : list_all (is_formed v.backings) (all_tables v) ≡ true
  pub free : list_all (λ t. not (has_backing v.backings t.number)) (all_tables v) ≡ true
  pub below : list_all (is_below_next v.five.next) (all_tables v) ≡ true
  pub ascend : each_pair created_below v.backings ≡ true
  pub backings_below : list_all (λ b. nat_lt b.number v.five.next) v.backings ≡ true
  pub backed : list_all (has_its_backing v.backings) (all_tables v) ≡ true
  pub shown : list_all (λ b. has_virtual (all_tables v) b.number) v.backings ≡ true
  pub numbers : AreNumbers v.five
  pub sizes : AllByRecursion (λ t. IsNumber t.size) (all_tables v)
  pub backing_sizes : AllByRecursion (λ b. IsNumber b.size) v.backings

-- what the grammar of edits says of numbers and levels
pub record IsSpellable (edit : VersionEdit) : Type 0 where
  pub accepted : IfSome edit.accepted IsNumber
  pub next : IfSome edit.next IsNumber
  pub log : IfSome edit.log IsNumber
  pub flushed : IfSome edit.flushed IsNumber
  pub format : IfSome edit.format IsNumber
  pub physical : All IsPhysical edit.physical
  pub virtuals : All IsVirtual edit.virtuals
  pub created : All IsCreated edit.created
  pub created_ascend : Ascend created_below edit.created

-- there was no memory, or this is the first rule that is broken
abbrev pub IsVerdict : Option Broken → Broken → Type 0
IsVerdict first error = (error ≡ NoMemory) ⊎ (first ≡ Some error)

-- what an install puts in place: the new tables of each level, with room for so many tables of it
pub record PreparedEdit : Type 0 where
  pub deleted : List DeletedItem
  pub tables : List (List TableView)
  pub backings : List CreatedItem
  pub five : FiveNumbers
  pub room : List ℕ

-- whether a table goes from the level or comes to it
abbrev pub is_touched : List DeletedItem → ℕ → List TableView → Bool
is_touched deleted level new = not (length new == 0) || list_any (λ d. d.level == level) deleted

-- each level that is touched has room for its tables after the edit, and for twice as many at most
abbrev pub HaveRoom : VersionView → VersionEdit → ℕ → List (List TableView) → List ℕ → Type 0
HaveRoom old edit level [] rooms = Unit {0}
HaveRoom old edit level (tables ∷ deeper) [] = ⊥
HaveRoom old edit level (tables ∷ deeper) (room ∷ rooms) =
    (is_touched edit.deleted level (new_tables_of_level old edit level) ≡ true →
    (length (level_after old edit level tables) ≤ room) × (room ≤ 2 * length (level_after old edit level tables)))
    × HaveRoom old edit (level + 1) deeper rooms

-- the edit breaks no rule, and all that it makes of this version is ready
pub record Prepares (old : VersionView) (edit : VersionEdit) (p : PreparedEdit) : Type 0 where
  pub spellable : IsSpellable edit
  pub unbroken : first_broken old edit ≡ None
  pub deleted : p.deleted ≡ edit.deleted
  pub tables : p.tables ≡ each_level (λ level tables. new_tables_of_level old edit level) 0 old.levels
  pub backings : p.backings ≡ backings_after old edit
  pub five : p.five ≡ five_after old.five edit
  pub room : HaveRoom old edit 0 old.levels p.room
