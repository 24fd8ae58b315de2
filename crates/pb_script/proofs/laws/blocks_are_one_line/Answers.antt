use Rattle.pb_script.proofs.BlockLemmas.{block_is_line}
use Rattle.pb_script.proofs.laws.blocks_are_one_line.Goals as goal

pub returns : goal.returns
returns c = block_is_line
