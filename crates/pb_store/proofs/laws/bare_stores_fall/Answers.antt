use Rattle.pb_store.proofs.Moves.{bare_words}
use Rattle.pb_store.proofs.laws.bare_stores_fall.Goals as goal

pub returns : goal.returns
returns c = λ store folder said ready says next. bare_words store said ready.bare says.bare next
