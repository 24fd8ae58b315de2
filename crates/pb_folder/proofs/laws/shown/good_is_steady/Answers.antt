use Rattle.pb_folder.proofs.ShownLaws.{sound_is_steady}
use Rattle.pb_folder.proofs.laws.shown.good_is_steady.Goals as goal

pub returns : goal.returns
returns c = sound_is_steady
