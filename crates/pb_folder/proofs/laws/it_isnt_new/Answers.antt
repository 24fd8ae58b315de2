use Rattle.std.proofs.Common.{inr}
use Rattle.pb_folder.proofs.GoingOn.{it_means}
use Rattle.pb_folder.proofs.laws.it_isnt_new.Goals as goal

pub returns : goal.returns
returns c = λ folder objects id n m pointer says. (it_means folder objects id n m pointer says, inr)
