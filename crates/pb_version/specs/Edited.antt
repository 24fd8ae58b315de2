-- The version after an edit: tables deleted, backings created, tables added, backings removed, and then the five numbers.
use Rattle.std.specs.Prelude.{ℕ, ◌+◌, List, [], ◌∷◌, ◌++◌, map, Bool, true, false, not, ◌&&◌, ◌||◌, ◌==◌, nat_lt, if◌then◌else◌}
use Rattle.std.specs.List.{filter, list_any}
use Rattle.std.specs.Option.{unwrap_or}
use Rattle.pb_edit.specs.Edit.{PhysicalItem, VirtualItem, CreatedItem, VersionEdit}
use Rattle.pb_edit.specs.Grammar.{created_below}
use Rattle.pb_keys.specs.Order.{is_below}
use Rattle.pb_keys.specs.Span.{span_of}
use Rattle.pb_rows.specs.Viewed.{plain_view}
use Rattle.pb_version.specs.Version.{TableView, FiveNumbers, VersionView, size_of}

-- ---- lists in order

-- in front of the first that it comes before
abbrev pub placed : {X : Type 0} → (X → X → Bool) → X → List X → List X
placed comes_before x [] = x ∷ []
placed comes_before x (y ∷ ys) = if comes_before x y then x ∷ y ∷ ys else y ∷ placed comes_before x ys

abbrev pub all_placed : {X : Type 0} → (X → X → Bool) → List X → List X → List X
all_placed comes_before [] ys = ys
all_placed comes_before (x ∷ xs) ys = placed comes_before x (all_placed comes_before xs ys)

abbrev pub starts_below : TableView → TableView → Bool
starts_below t u = is_below t.view.bounds.lo u.view.bounds.lo

-- on level 0 by falling rank and then by start, deeper by start
abbrev pub comes_before : ℕ → TableView → TableView → Bool
comes_before level t u = if level == 0 then nat_lt u.rank t.rank || (u.rank == t.rank && starts_below t u) else starts_below t u

-- ---- backings

-- those that new tables may show
abbrev pub shown_backings : VersionView → VersionEdit → List CreatedItem
shown_backings old edit = all_placed created_below edit.created old.backings

abbrev pub is_removed : VersionEdit → ℕ → Bool
is_removed edit number = list_any (λ n. n == number) edit.removed

abbrev pub backings_after : VersionView → VersionEdit → List CreatedItem
backings_after old edit = filter (λ b. not (is_removed edit b.number)) (shown_backings old edit)

-- ---- tables

abbrev pub is_deleted : VersionEdit → ℕ → TableView → Bool
is_deleted edit level t = list_any (λ d. d.level == level && d.number == t.number) edit.deleted

abbrev pub staying : VersionEdit → ℕ → List TableView → List TableView
staying edit level tables = filter (λ t. not (is_deleted edit level t)) tables

abbrev pub physical_table : PhysicalItem → TableView
physical_table p = record {
  number = p.number;
  rank = p.rank;
  backing = p.number;
  size = p.size;
  view = plain_view (span_of p.lo p.hi);
  is_virtual = false;
}

abbrev pub virtual_table : List CreatedItem → VirtualItem → TableView
virtual_table backings v = record {
  number = v.number;
  rank = v.rank;
  backing = v.backing;
  size = unwrap_or (size_of backings v.backing) 0;
  view = record { bounds = span_of v.lo v.hi; prefix = v.prefix; suffix = v.suffix };
  is_virtual = true;
}

-- where these backings may be shown
abbrev pub tables_of : List CreatedItem → List PhysicalItem → List VirtualItem → List TableView
tables_of shown physical virtuals = map physical_table physical ++ map (virtual_table shown) virtuals

abbrev pub new_tables : VersionView → VersionEdit → List TableView
new_tables old edit = tables_of (shown_backings old edit) edit.physical edit.virtuals

abbrev pub new_tables_of_level : VersionView → VersionEdit → ℕ → List TableView
new_tables_of_level old edit level =
    tables_of (shown_backings old edit) (filter (λ p. p.level == level) edit.physical) (filter (λ v. v.level == level) edit.virtuals)

abbrev pub level_after : VersionView → VersionEdit → ℕ → List TableView → List TableView
level_after old edit level tables = all_placed (comes_before level) (new_tables_of_level old edit level) (staying edit level tables)

-- what f makes of each level from this number on
abbrev pub each_level : {X : Type 0} → (ℕ → List TableView → X) → ℕ → List (List TableView) → List X
each_level f level [] = []
each_level f level (tables ∷ deeper) = f level tables ∷ each_level f (level + 1) deeper

-- ---- the five numbers: the edit's, where it has them

abbrev pub five_after : FiveNumbers → VersionEdit → FiveNumbers
five_after old edit = record {
  accepted = unwrap_or edit.accepted old.accepted;
  next = unwrap_or edit.next old.next;
  log = unwrap_or edit.log old.log;
  flushed = unwrap_or edit.flushed old.flushed;
  format = unwrap_or edit.format old.format;
}

-- ---- all of it

unfoldable pub edited : VersionView → VersionEdit → VersionView
edited old edit = record {
  levels = each_level (level_after old edit) 0 old.levels;
  backings = backings_after old edit;
  five = five_after old.five edit;
}
