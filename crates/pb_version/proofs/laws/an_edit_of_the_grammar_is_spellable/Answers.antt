use Rattle.pb_version.proofs.Spelling.{spellable_edit}
use Rattle.pb_version.proofs.laws.an_edit_of_the_grammar_is_spellable.Goals as goal

pub returns : goal.returns
returns c = spellable_edit
