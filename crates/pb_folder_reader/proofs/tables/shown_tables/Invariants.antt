use Rattle.std.proofs.Common.{◌++◌, List, drop}
use Rattle.pb_folder.specs.Listed.{folder_of, objects_of}
use Rattle.pb_payloads.specs.Places.{bytes_of}
use Rattle.pb_rows.specs.Layer.{KeyLayer}
use Rattle.pb_folder_reader.specs.Tables.{AllShow}
use Rattle.pb_folder_reader.proofs.tables.shown_tables.Given as goal

-- with what those that are left show, this is what all show
abbrev pub invariant-loop-table : goal.invariant-loop-table
invariant-loop-table l = (rest : List KeyLayer) → AllShow (bytes_of (folder_of l.files) (objects_of l.objects) l.entries) (drop l.table-index l.tables) rest → AllShow (bytes_of (folder_of l.files) (objects_of l.objects) l.entries) l.tables (l.shown.items ++ rest)
