use Rattle.pb_excise.proofs.Stored.{nothing_new, tables_shown}
use Rattle.pb_excise.proofs.laws.nothing_new_is_stored.Goals as goal

pub returns-clause-stored : goal.returns-clause-stored
returns-clause-stored c = nothing_new

pub returns-clause-tables : goal.returns-clause-tables
returns-clause-tables c = tables_shown
