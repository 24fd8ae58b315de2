use Rattle.pb_rows.proofs.MappedLaws.{prefix_of-mapped_key, own_suffix, given_suffix}
use Rattle.pb_rows.proofs.laws.views.mapped_keys_have_these_parts.Goals as goal

pub returns-clause-prefix : goal.returns-clause-prefix
returns-clause-prefix c = prefix_of-mapped_key

pub returns-clause-own_suffix : goal.returns-clause-own_suffix
returns-clause-own_suffix c = own_suffix

pub returns-clause-given_suffix : goal.returns-clause-given_suffix
returns-clause-given_suffix c = given_suffix
