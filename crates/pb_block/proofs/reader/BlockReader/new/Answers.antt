use Rattle.std.proofs.Common.{sym, ◌∙◌, arith}
use Rattle.pb_block.proofs.BlockLaws.{block_takes, no_block}
use Rattle.pb_block.proofs.reader.BlockReader.new.Goals as goal

pub returns-in_err-block-clause-none : goal.returns-in_err-block-clause-none
returns-in_err-block-clause-none g c =
    rw c.from_residual.ensures
    (λ rows is spelled. no_block g.row.R c.args.bytes.now rows (sym c.read_block.ensures ∙ c.in_err-block.was) is spelled)

pub returns-clause-found : goal.returns-clause-found
returns-clause-found g c =
    block_takes g.row.R c.args.bytes.now c.in_ok-block.block (λ place. omega (arith, c.type_inv.bytes place)) (sym c.in_ok-block.ensures)
