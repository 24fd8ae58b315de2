use Rattle.pb_names.proofs.RangeLemmas.{tests_tell_stores}
use Rattle.pb_names.proofs.laws.tests_tell_stores.Goals as goal

pub returns : goal.returns
returns c = tests_tell_stores
