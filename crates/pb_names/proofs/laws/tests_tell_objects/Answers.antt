use Rattle.pb_names.proofs.RangeLemmas.{tests_tell_objects}
use Rattle.pb_names.proofs.laws.tests_tell_objects.Goals as goal

pub returns : goal.returns
returns c = tests_tell_objects
