use Rattle.pb_rows.proofs.MappedVerdicts.{verdict-own_suffix, verdict-given_suffix, verdict-elsewhere}
use Rattle.pb_rows.proofs.laws.views.mapped_by_key.Goals as goal

pub returns-clause-own_suffix : goal.returns-clause-own_suffix
returns-clause-own_suffix c = verdict-own_suffix

pub returns-clause-given_suffix : goal.returns-clause-given_suffix
returns-clause-given_suffix c = verdict-given_suffix

pub returns-clause-elsewhere : goal.returns-clause-elsewhere
returns-clause-elsewhere c = verdict-elsewhere
