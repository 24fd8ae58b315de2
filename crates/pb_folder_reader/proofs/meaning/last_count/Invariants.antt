use Rattle.std.proofs.Common.{◌≡◌, drop, map}
use Rattle.pb_payloads.specs.Log.{last_count}
use Rattle.pb_wal.specs.Changes.{entry_of}
use Rattle.pb_folder_reader.proofs.meaning.last_count.Given as goal

abbrev pub invariant-loop-entry : goal.invariant-loop-entry
invariant-loop-entry l = last_count l.last (map entry_of (drop l.entry-index l.log)) ≡ last_count l.flushed (map entry_of l.log)
