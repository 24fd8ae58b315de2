use Rattle.std.proofs.Common.{◌≡◌, ◌++◌, map, string_bytes}
use Rattle.pb_mem.proofs.FolderLemmas.{file_names}
use Rattle.pb_mem.proofs.folder.list_files.Given as goal

-- the names so far, and those of the entries that are left, are the names
abbrev pub invariant-loop-name : goal.invariant-loop-name
invariant-loop-name l = map string_bytes l.names.items ++ file_names l.name-iterator ≡ file_names l.slots.entries
