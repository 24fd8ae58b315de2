use Rattle.pb_script.proofs.Parts.{texts_cut}
use Rattle.pb_script.proofs.script.first_text.Goals as goal

pub returns-in-Some-clause-texts : goal.returns-in-Some-clause-texts
returns-in-Some-clause-texts c = rw c.without_return.ensures (texts_cut c.args.script.now c.in-Some.text.now c.in-Some.behind.now c.in-Some.ensures.parts)
