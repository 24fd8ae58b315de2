-- Tables that were written, as an edit adds them.
use Rattle.std.specs.Prelude.{◌≡◌, ℕ, ◌<◌, List, [], map, Bool, true, not, min, Option, Some, All}
use Rattle.std.specs.List.{list_all}
use Rattle.pb_bytes.specs.Number.{IsNumber}
use Rattle.pb_edit.specs.Edit.{PhysicalItem, VersionEdit}
use Rattle.pb_edit.specs.Grammar.{physical_below}
use Rattle.pb_keys.specs.Span.{KeySpan, IsSpan, overlap}
use Rattle.pb_rows.specs.Hull.{hull_of}
use Rattle.pb_rows.specs.Layer.{KeyLayer}
use Rattle.pb_version.specs.Version.{VersionView, tables_of_level}
use Rattle.pb_version.specs.Edited.{all_placed}
use Rattle.pb_version.specs.Rules.{is_reserved, are_distinct, each_pair}
use Rattle.pb_version.specs.Adding.{is_unused}
use Rattle.pb_ingest.specs.Levels.{level_without}

-- the number and the size of a table's bytes, the hull of its layer, and the level that was chosen before they were written
pub record WrittenTable : Type 0 where
  pub number : ℕ
  pub size : ℕ
  pub hull : KeySpan
  pub level : ℕ

-- its rank is its number, and its level the lesser of the one that was chosen and the one that is chosen now
abbrev pub item_of : VersionView → Option KeySpan → WrittenTable → PhysicalItem
item_of v cut w = record {
  level = min w.level (level_without v cut w.hull);
  number = w.number;
  rank = w.number;
  size = w.size;
  lo = w.hull.lo;
  hi = w.hull.hi;
}

-- by level, and then by number
abbrev pub items_of : VersionView → Option KeySpan → List WrittenTable → List PhysicalItem
items_of v cut written = all_placed physical_below (map (item_of v cut) written) []

abbrev pub numbers_of : List WrittenTable → List ℕ
numbers_of written = map (λ w. w.number) written

-- its number is above the rank of each table on level 0
abbrev pub IsNewer : VersionView → WrittenTable → Type 0
IsNewer v w = All (λ t. t.rank < w.number) (tables_of_level v 0)

-- numbers differ, nothing has one of them, and they are reserved
pub record AreNew (v : VersionView) (edit : VersionEdit) (written : List WrittenTable) : Type 0 where
  pub distinct : are_distinct (numbers_of written) ≡ true
  pub unused : list_all (λ w. is_unused v edit w.number) written ≡ true
  pub reserved : list_all (λ w. is_reserved v edit w.number) written ≡ true
  pub newer : All (IsNewer v) written

abbrev pub hulls_apart : WrittenTable → WrittenTable → Bool
hulls_apart w x = not (overlap w.hull x.hull)

-- no two of the hulls overlap
abbrev pub AreApart : List WrittenTable → Type 0
AreApart written = each_pair hulls_apart written ≡ true

-- an edit can say its number and size, and its hull is a span
pub record IsWritten (w : WrittenTable) : Type 0 where
  pub number : IsNumber w.number
  pub size : IsNumber w.size
  pub hull : IsSpan w.hull

-- its hull is that of the layer that its bytes stand for
abbrev pub HasItsHull : (ℕ → KeyLayer) → WrittenTable → Type 0
HasItsHull layers w = hull_of (layers w.number) ≡ Some w.hull
