use Rattle.std.proofs.Common.{[], drop}
use Rattle.pb_catalog.specs.Entered.{entries_of}
use Rattle.pb_payloads.proofs.CatalogueFolds.{AlikeOn}
use Rattle.pb_catalog.proofs.read.follow_all.Given as goal

abbrev pub invariant-loop-payload : goal.invariant-loop-payload
invariant-loop-payload l = AlikeOn [] (entries_of l.entries.entries) l.payloads (drop l.payload-index l.payloads)
