use Rattle.std.proofs.Common.{take}
use Rattle.std.specs.List.{All}
use Rattle.pb_folder.specs.Listed.{folder_of, objects_of}
use Rattle.pb_payloads.specs.Places.{bytes_of}
use Rattle.pb_folder_reader.specs.Tables.{HasSome}
use Rattle.pb_folder_reader.proofs.tables.check_backings.Given as goal

abbrev pub invariant-loop-backing : goal.invariant-loop-backing
invariant-loop-backing l = All (HasSome (bytes_of (folder_of l.files) (objects_of l.objects) l.entries)) (take l.backing-index l.backings)
