use Rattle.pb_lend.proofs.Received.{is_received, bundle_received}
use Rattle.pb_lend.proofs.laws.a_bundle_is_received.Goals as goal

pub returns-clause-layers : goal.returns-clause-layers
returns-clause-layers c = is_received

pub returns-clause-bundle : goal.returns-clause-bundle
returns-clause-bundle c = bundle_received
