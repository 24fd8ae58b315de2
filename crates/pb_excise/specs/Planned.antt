-- The edit of an excise.
use Rattle.std.specs.Prelude.{◌≡◌, ℕ, ◌+◌, List, [], ◌∷◌, ◌++◌, length, map, Bool, true, false, not, ◌&&◌, Some, None}
use Rattle.std.specs.List.{filter}
use Rattle.pb_bytes.specs.Number.{IsNumber}
use Rattle.pb_edit.specs.Edit.{DeletedItem, VirtualItem, CreatedItem, VersionEdit}
use Rattle.pb_edit.specs.Grammar.{IsEdit, deleted_below, created_below}
use Rattle.pb_keys.specs.Span.{KeySpan, overlap}
use Rattle.pb_version.specs.Version.{TableView, VersionView, version_of, all_tables, flattened}
use Rattle.pb_version.specs.Edited.{all_placed, each_level, edited}
use Rattle.pb_version.specs.Rules.{has_virtual}
use Rattle.pb_version.specs.Snapshot.{virtual_item}
use Rattle.pb_version.specs.Stored.{backing_of}
use Rattle.pb_excise.specs.Excised.{parts_of, numbered_parts, parts_count, excised}

-- ---- the tables that go

abbrev pub is_cut : KeySpan → TableView → Bool
is_cut cut t = overlap t.view.bounds cut

abbrev pub deleted_item : ℕ → TableView → DeletedItem
deleted_item level t = record { level = level; number = t.number }

-- from a level
abbrev pub deleted_items : KeySpan → ℕ → List TableView → List DeletedItem
deleted_items cut level tables = map (deleted_item level) (filter (is_cut cut) tables)

abbrev pub all_deleted : KeySpan → VersionView → List DeletedItem
all_deleted cut v = flattened (each_level (deleted_items cut) 0 v.levels)

-- ---- their parts, numbered as they stand in the version afterwards

abbrev pub parts_from : KeySpan → ℕ → List TableView → List TableView
parts_from cut first [] = []
parts_from cut first (t ∷ ts) = numbered_parts t first (parts_of cut t) ++ parts_from cut (first + length (parts_of cut t)) ts

abbrev pub parts_of_levels : KeySpan → ℕ → List (List TableView) → List (List TableView)
parts_of_levels cut first [] = []
parts_of_levels cut first (tables ∷ deeper) = parts_from cut first tables ∷ parts_of_levels cut (first + parts_count cut tables) deeper

abbrev pub part_items : ℕ → List TableView → List VirtualItem
part_items level parts = map (virtual_item level) parts

abbrev pub all_parts : KeySpan → ℕ → VersionView → List VirtualItem
all_parts cut first v = flattened (each_level part_items 0 (parts_of_levels cut first v.levels))

-- ---- backings that come and go

abbrev pub are_some : List KeySpan → Bool
are_some [] = false
are_some (part ∷ parts) = true

-- whether it is physical, and has a part afterwards
abbrev pub leaves_a_part : KeySpan → TableView → Bool
leaves_a_part cut t = not t.is_virtual && are_some (parts_of cut t)

abbrev pub all_created : KeySpan → VersionView → List CreatedItem
all_created cut v = map backing_of (filter (leaves_a_part cut) (all_tables v))

-- those that no virtual table shows afterwards
abbrev pub all_removed : KeySpan → ℕ → VersionView → List ℕ
all_removed cut first v =
    map (λ b. b.number) (filter (λ b. not (has_virtual (all_tables (excised v cut first)) b.number)) v.backings)

-- ---- the edit

-- the tables that go, by level and number; their parts; and the backings that come and those that go, by number
abbrev pub excise_edit : VersionView → KeySpan → ℕ → VersionEdit
excise_edit v cut first = record {
  accepted = None;
  next = None;
  log = None;
  flushed = None;
  format = None;
  deleted = all_placed deleted_below (all_deleted cut v) [];
  physical = [];
  virtuals = all_parts cut first v;
  created = all_placed created_below (all_created cut v) [];
  removed = all_removed cut first v;
}

-- with a count of accepted commands
abbrev pub with_count : ℕ → VersionEdit → VersionEdit
with_count accepted edit = record edit { accepted = Some accepted }

abbrev pub at_count : ℕ → VersionView → VersionView
at_count accepted v = version_of v.levels v.backings (record v.five { accepted = accepted })

-- the edit has none of the five numbers and no physical table
pub record HasListsAlone (edit : VersionEdit) : Type 0 where
  pub accepted : edit.accepted ≡ None
  pub next : edit.next ≡ None
  pub log : edit.log ≡ None
  pub flushed : edit.flushed ≡ None
  pub format : edit.format ≡ None
  pub physical : edit.physical ≡ []

-- its lists, each in the order of the grammar
pub record HasItems (v : VersionView) (cut : KeySpan) (first : ℕ) (edit : VersionEdit) : Type 0 where
  pub deleted : edit.deleted ≡ all_placed deleted_below (all_deleted cut v) []
  pub virtuals : edit.virtuals ≡ all_parts cut first v
  pub created : edit.created ≡ all_placed created_below (all_created cut v) []
  pub removed : edit.removed ≡ all_removed cut first v

-- the edit of an excise: with each count it makes of the version what the excise leaves, and with a count that a payload can
-- say it is an edit of the grammar
pub record IsExcise (v : VersionView) (cut : KeySpan) (first : ℕ) (edit : VersionEdit) : Type 0 where
  pub numbers : HasListsAlone edit
  pub items : HasItems v cut first edit
  pub makes : (accepted : ℕ) → edited v (with_count accepted edit) ≡ at_count accepted (excised v cut first)
  pub in_form : (accepted : ℕ) → IsNumber accepted → IsEdit (with_count accepted edit)
