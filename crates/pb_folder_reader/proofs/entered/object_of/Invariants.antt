use Rattle.std.proofs.Common.{◌≡◌, drop}
use Rattle.pb_payloads.specs.Places.{object_of}
use Rattle.pb_folder_reader.proofs.entered.object_of.Given as goal

abbrev pub invariant-loop-entry : goal.invariant-loop-entry
invariant-loop-entry l = object_of (drop l.entry-index l.entries) l.number ≡ object_of l.entries l.number
