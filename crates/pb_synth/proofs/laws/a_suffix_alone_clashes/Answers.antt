use Rattle.pb_synth.proofs.ClashLaws.{apart_without_clash, no_clash_apart, apart_by_own}
use Rattle.pb_synth.proofs.laws.a_suffix_alone_clashes.Goals as goal

pub returns-clause-with_one : goal.returns-clause-with_one
returns-clause-with_one c = λ view layer mapping of some. (no_clash_apart view layer.rows some, apart_without_clash view layer.rows mapping of.rise)

pub returns-clause-without : goal.returns-clause-without
returns-clause-without c = λ view layer mapping of none. apart_by_own view layer.rows none of.rise
