use Rattle.std.proofs.Common.{sym}
use Rattle.pb_gate_log.proofs.LogLemmas.{EndsAt-payloads}
use Rattle.pb_gate_log.proofs.decode.payloads.Goals as goal

pub returns : goal.returns
returns c = sym (EndsAt-payloads _ _ _ c.in_ok-found.ensures)
