use Rattle.std.proofs.Common.{◌≡◌, ℕ, drop, map}
use Rattle.pb_folder.specs.Meaning.{after_log}
use Rattle.pb_rows.specs.Layer.{KeyLayer}
use Rattle.pb_wal.specs.Changes.{entry_of}
use Rattle.pb_folder_reader.proofs.meaning.apply_log.Given as goal

abbrev pub invariant-loop-entry : goal.invariant-loop-entry
invariant-loop-entry l = (layers : ℕ → KeyLayer)
    → after_log layers l.pairs (map entry_of (drop l.entry-index l.log)) ≡ after_log layers l.initial.pairs (map entry_of l.log)
