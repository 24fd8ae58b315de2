use Rattle.pb_ingest.proofs.OnTop.{on_top, rests_itself, uncut_stays}
use Rattle.pb_ingest.proofs.laws.a_free_level_is_on_top.Goals as goal

pub returns-clause-on_top : goal.returns-clause-on_top
returns-clause-on_top c old new cut level t rests newer deep = on_top old cut level t newer deep new rests

pub returns-clause-itself : goal.returns-clause-itself
returns-clause-itself c = rests_itself

pub returns-clause-uncut : goal.returns-clause-uncut
returns-clause-uncut c = uncut_stays
