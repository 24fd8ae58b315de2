use Rattle.pb_folder.proofs.Examples.{an_empty_folder, a_new_store, one_set, a_flush}
use Rattle.pb_folder.proofs.laws.the_first_folders.Goals as goal

pub returns-clause-nothing : goal.returns-clause-nothing
returns-clause-nothing c = an_empty_folder

pub returns-clause-new : goal.returns-clause-new
returns-clause-new c = a_new_store

pub returns-clause-set : goal.returns-clause-set
returns-clause-set c = one_set

pub returns-clause-flush : goal.returns-clause-flush
returns-clause-flush c = a_flush
