use Rattle.std.proofs.Common.{drop, map}
use Rattle.pb_wal.specs.Changes.{entry_of}
use Rattle.pb_folder_reader.proofs.Entries.{IsReadUpTo}
use Rattle.pb_folder_reader.proofs.log.log_of.Given as goal

abbrev pub invariant-loop-payload : goal.invariant-loop-payload
invariant-loop-payload l = IsReadUpTo l.flushed l.last l.payloads (drop l.payload-index l.payloads) (map entry_of l.log.items)
