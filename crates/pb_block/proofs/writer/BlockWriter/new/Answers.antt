use Rattle.std.proofs.Common.{[], ap, ◌∙◌}
use Rattle.pb_block.specs.Reading.{all_behind}
use Rattle.pb_block.proofs.WriteLaws.{written_none, none_written}
use Rattle.pb_block.proofs.writer.BlockWriter.new.Goals as goal

pub invariant_of-result : goal.invariant_of-result
invariant_of-result g c = rw (c.new.ensures.items, c.new-2.ensures.items, c.new-3.ensures.items) (written_none g.row.R c.requires)

pub returns : goal.returns
returns g c = ap (all_behind []) c.new.ensures.items ∙ none_written
