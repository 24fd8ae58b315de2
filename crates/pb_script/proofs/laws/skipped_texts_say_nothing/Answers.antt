use Rattle.pb_script.proofs.SkippedLemmas.{skipped_says_nothing}
use Rattle.pb_script.proofs.laws.skipped_texts_say_nothing.Goals as goal

pub returns : goal.returns
returns c = skipped_says_nothing
