use Rattle.pb_script.proofs.SpacedLemmas.{spaced_are}
use Rattle.pb_script.proofs.laws.spaces_part_words.Goals as goal

pub returns : goal.returns
returns c = spaced_are
