use Rattle.pb_folder.proofs.ShownLaws.{shows_kept, keeps_back}
use Rattle.pb_folder.proofs.laws.shown.payloads_decide.Goals as goal

pub returns : goal.returns
returns c = λ one other id words keeps. (shows_kept one other keeps id words, shows_kept other one (keeps_back one other keeps) id words)
