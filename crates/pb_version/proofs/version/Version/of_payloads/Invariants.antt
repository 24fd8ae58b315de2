use Rattle.std.proofs.Common.{drop}
use Rattle.pb_version.specs.Version.{empty_version}
use Rattle.pb_version.proofs.PayloadFolds.{AlikeOn}
use Rattle.pb_version.proofs.version.Version.of_payloads.Given as goal

abbrev pub invariant-loop-payload : goal.invariant-loop-payload
invariant-loop-payload l = AlikeOn empty_version l.version l.payloads (drop l.payload-index l.payloads)
