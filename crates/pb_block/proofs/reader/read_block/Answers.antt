use Rattle.std.proofs.Common.{sym}
use Rattle.pb_block.proofs.Checks.{not_empty}
use Rattle.pb_block.proofs.BlockLaws.{held_is}
use Rattle.pb_block.proofs.reader.read_block.Goals as goal

pub invariant_of-result : goal.invariant_of-result
invariant_of-result g c =
    held_is g.row.R c.in_ok-entries.entries.now c.in_ok-entries.restarts.now (not_empty c.in_ok-entries.entries.now c.if-is_empty.ensures)
    (sym c.if-not-is_run.ensures)
