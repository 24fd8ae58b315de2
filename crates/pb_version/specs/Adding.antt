-- Tables that come on top of a version: new physical tables beside what an edit does otherwise.
use Rattle.std.specs.Prelude.{◌≡◌, ℕ, ◌<◌, List, length, map, Bool, true, not, ◌&&◌, ◌||◌, ◌==◌, nat_lt, Some, IfSome, All}
use Rattle.std.specs.List.{filter, list_all}
use Rattle.pb_bytes.specs.Number.{IsNumber}
use Rattle.pb_edit.specs.Edit.{PhysicalItem, VersionEdit}
use Rattle.pb_edit.specs.Grammar.{AreItems, IsDeleted, IsPhysical, IsVirtual, IsCreated, deleted_below, physical_below, virtual_below, created_below}
use Rattle.pb_keys.specs.Span.{IsSpan, span_of, overlap}
use Rattle.pb_rows.specs.Hull.{hull_of}
use Rattle.pb_rows.specs.Layer.{KeyLayer}
use Rattle.pb_version.specs.Version.{TableView, VersionView, version_of}
use Rattle.pb_version.specs.Edited.{physical_table, all_placed, comes_before, each_level, edited}
use Rattle.pb_version.specs.Rules.{is_free, is_listed, is_reserved, are_apart, are_all_apart, are_distinct, each_pair}

-- the edit with these physical tables
abbrev pub more_tables : VersionEdit → List PhysicalItem → VersionEdit
more_tables edit ps = record edit { physical = ps }

-- the tables of those for a level
abbrev pub tables_for : List PhysicalItem → ℕ → List TableView
tables_for ps level = map physical_table (filter (λ p. p.level == level) ps)

abbrev pub level_with : List PhysicalItem → ℕ → List TableView → List TableView
level_with ps level tables = all_placed (comes_before level) (tables_for ps level) tables

-- each level with its new tables, put in their places
unfoldable pub with_tables : VersionView → List PhysicalItem → VersionView
with_tables v ps = version_of (each_level (level_with ps) 0 v.levels) v.backings v.five

-- ---- new tables that break no rule

-- neither a table's nor a backing's, before the edit or new with it
abbrev pub is_unused : VersionView → VersionEdit → ℕ → Bool
is_unused v edit number = is_free v edit number && not (is_listed (map (λ u. u.number) edit.virtuals) number)

-- the new tables of a level are apart from one another and from these
abbrev pub level_may_add : List PhysicalItem → ℕ → List TableView → Bool
level_may_add ps level tables =
    are_all_apart level (tables_for ps level) && list_all (λ t. list_all (are_apart level t) tables) (tables_for ps level)

-- their numbers are new and differ, numbers and ranks are reserved, their ends are spans, and on its level each is apart from
-- the other new ones and from what stands after the edit
pub record MayAdd (v : VersionView) (edit : VersionEdit) (ps : List PhysicalItem) : Type 0 where
  pub distinct : are_distinct (map (λ p. p.number) ps) ≡ true
  pub unused : list_all (λ p. is_unused v edit p.number) ps ≡ true
  pub reserved : list_all (λ p. is_reserved v edit p.number && is_reserved v edit p.rank) ps ≡ true
  pub spans : All (λ p. IsSpan (span_of p.lo p.hi)) ps
  pub apart : list_all (λ apart. apart) (each_level (level_may_add ps) 0 (edited v edit).levels) ≡ true

-- what the grammar says of the items of an edit, of which there may be none
pub record AreInForm (e : VersionEdit) : Type 0 where
  pub accepted : IfSome e.accepted IsNumber
  pub next : IfSome e.next IsNumber
  pub log : IfSome e.log IsNumber
  pub flushed : IfSome e.flushed IsNumber
  pub format : IfSome e.format IsNumber
  pub deleted : AreItems IsDeleted deleted_below e.deleted
  pub physical : AreItems IsPhysical physical_below e.physical
  pub virtuals : AreItems IsVirtual virtual_below e.virtuals
  pub created : AreItems IsCreated created_below e.created
  pub removed : AreItems IsNumber nat_lt e.removed

-- ---- new tables whose layers are the newest

-- a table u of level l stands under t on its level: u is deeper, or they don't overlap, or both are on level 0 and u has the
-- lesser rank
abbrev pub is_under : ℕ → TableView → ℕ → TableView → Bool
is_under level t l u =
    nat_lt level l || not (overlap t.view.bounds u.view.bounds) || (l == 0 && level == 0 && nat_lt u.rank t.rank)

abbrev pub level_is_under : ℕ → TableView → ℕ → List TableView → Bool
level_is_under level t l tables = list_all (is_under level t l) tables

abbrev pub is_on_top : VersionView → ℕ → TableView → Bool
is_on_top v level t = list_all (λ under. under) (each_level (level_is_under level t) 0 v.levels)

-- all tables of the version stand under t on this level
abbrev pub IsOnTop : VersionView → ℕ → TableView → Type 0
IsOnTop v level t = is_on_top v level t ≡ true

-- the table's level is one of the version's, it is on top there, and its bounds are the hull of its layer
pub record StandsOnTop (v : VersionView) (layers : ℕ → KeyLayer) (p : PhysicalItem) : Type 0 where
  pub level : p.level < length v.levels
  pub on_top : IsOnTop v p.level (physical_table p)
  pub hull : hull_of (layers p.number) ≡ Some (span_of p.lo p.hi)

abbrev pub bounds_apart : PhysicalItem → PhysicalItem → Bool
bounds_apart p q = not (overlap (span_of p.lo p.hi) (span_of q.lo q.hi))

-- each does, and no two of them overlap
pub record AllStandOnTop (v : VersionView) (layers : ℕ → KeyLayer) (ps : List PhysicalItem) : Type 0 where
  pub each : All (StandsOnTop v layers) ps
  pub apart : each_pair bounds_apart ps ≡ true

-- the layers of these tables
abbrev pub layers_of : (ℕ → KeyLayer) → List PhysicalItem → List KeyLayer
layers_of layers ps = map (λ p. layers p.number) ps
