use Rattle.std.proofs.Common.{◌≡◌, drop}
use Rattle.pb_folder.specs.Listed.{folder_of}
use Rattle.pb_folder_reader.proofs.files.bytes_in.Given as goal

abbrev pub invariant-loop-file : goal.invariant-loop-file
invariant-loop-file l = folder_of (drop l.file-index l.files) l.name ≡ folder_of l.files l.name
