use Rattle.pb_version.proofs.Adding.{come_last}
use Rattle.pb_version.proofs.laws.on_top.tables_come_last.Goals as goal

pub returns : goal.returns
returns c = λ v edit ps none. come_last v edit none ps
