-- The edit that makes a version from nothing: all five numbers, and all tables and backings as new ones, in the order of the
-- grammar.
use Rattle.std.specs.Prelude.{ℕ, List, [], map, not, Some}
use Rattle.std.specs.List.{filter}
use Rattle.pb_edit.specs.Edit.{PhysicalItem, VirtualItem, VersionEdit}
use Rattle.pb_edit.specs.Grammar.{physical_below, virtual_below}
use Rattle.pb_version.specs.Version.{TableView, VersionView, flattened}
use Rattle.pb_version.specs.Edited.{all_placed, each_level}

abbrev pub physical_item : ℕ → TableView → PhysicalItem
physical_item level t = record {
  level = level;
  number = t.number;
  rank = t.rank;
  size = t.size;
  lo = t.view.bounds.lo;
  hi = t.view.bounds.hi;
}

abbrev pub virtual_item : ℕ → TableView → VirtualItem
virtual_item level t = record {
  level = level;
  number = t.number;
  rank = t.rank;
  backing = t.backing;
  lo = t.view.bounds.lo;
  hi = t.view.bounds.hi;
  prefix = t.view.prefix;
  suffix = t.view.suffix;
}

abbrev pub physical_items : ℕ → List TableView → List PhysicalItem
physical_items level tables = all_placed physical_below (map (physical_item level) (filter (λ t. not t.is_virtual) tables)) []

abbrev pub virtual_items : ℕ → List TableView → List VirtualItem
virtual_items level tables = all_placed virtual_below (map (virtual_item level) (filter (λ t. t.is_virtual) tables)) []

abbrev pub snapshot_of : VersionView → VersionEdit
snapshot_of v = record {
  accepted = Some v.five.accepted;
  next = Some v.five.next;
  log = Some v.five.log;
  flushed = Some v.five.flushed;
  format = Some v.five.format;
  deleted = [];
  physical = flattened (each_level physical_items 0 v.levels);
  virtuals = flattened (each_level virtual_items 0 v.levels);
  created = v.backings;
  removed = [];
}
