use Rattle.std.proofs.Common.{[], drop}
use Rattle.pb_payloads.proofs.CatalogueFolds.{AlikeOn}
use Rattle.pb_folder_reader.proofs.catalogue.changed_by.Given as goal

abbrev pub invariant-loop-payload : goal.invariant-loop-payload
invariant-loop-payload l = AlikeOn [] l.entries.items l.payloads (drop l.payload-index l.payloads)
