use Rattle.pb_block.proofs.BlockLaws.{one_block}
use Rattle.pb_block.proofs.laws.one_block.Goals as goal

pub returns : goal.returns
returns c = λ distance a b same is_a is_b. one_block distance a b is_a is_b same
