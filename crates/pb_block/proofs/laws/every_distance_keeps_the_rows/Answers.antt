use Rattle.pb_block.proofs.BlockLaws.{another_distance, block_again}
use Rattle.pb_block.proofs.laws.every_distance_keeps_the_rows.Goals as goal

pub returns : goal.returns
returns c = record {
  block = λ distance other rows is room. another_distance distance other rows is room;
  read = λ distance other rows is room. block_again other rows (another_distance distance other rows is room);
}
