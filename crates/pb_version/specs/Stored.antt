-- What has bytes behind a version, with its kept size.
use Rattle.std.specs.Prelude.{List, ◌++◌, map}
use Rattle.pb_edit.specs.Edit.{CreatedItem}
use Rattle.pb_version.specs.Version.{TableView, VersionView, all_tables}

-- behind a table, what it shows
abbrev pub backing_of : TableView → CreatedItem
backing_of table = record { number = table.backing; size = table.size }

-- behind the version's tables, and its backings
abbrev pub stored_in : VersionView → List CreatedItem
stored_in version = map backing_of (all_tables version) ++ version.backings
