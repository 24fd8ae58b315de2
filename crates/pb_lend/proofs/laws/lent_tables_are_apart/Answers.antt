use Rattle.pb_version.specs.Version.{tables_of_level}
use Rattle.pb_lend.proofs.Beside.{all_apart, lent_beside, lent_beside_parts, bundle_above}
use Rattle.pb_lend.proofs.Order.{all_rise}
use Rattle.pb_lend.proofs.laws.lent_tables_are_apart.Goals as goal

pub returns-clause-apart : goal.returns-clause-apart
returns-clause-apart c = λ v level span. all_apart level span (tables_of_level v level)

pub returns-clause-by_start : goal.returns-clause-by_start
returns-clause-by_start c = λ v level span deep. all_rise level span deep (tables_of_level v level)

pub returns-clause-beside : goal.returns-clause-beside
returns-clause-beside c = λ v level span others. lent_beside level span (tables_of_level v level) others

pub returns-clause-parts : goal.returns-clause-parts
returns-clause-parts c = lent_beside_parts

pub returns-clause-adds_above : goal.returns-clause-adds_above
returns-clause-adds_above c = bundle_above
