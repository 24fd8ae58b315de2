use Rattle.pb_keys.specs.KeyLaws.{key_cmp_total, key_cmp_exact}
use Rattle.pb_keys.proofs.laws.keys_are_ordered.Goals as goal

pub returns-clause-total : goal.returns-clause-total
returns-clause-total c = key_cmp_total

pub returns-clause-exact : goal.returns-clause-exact
returns-clause-exact c = key_cmp_exact
