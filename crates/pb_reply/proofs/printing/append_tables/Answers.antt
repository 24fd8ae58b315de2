use Rattle.pb_reply.proofs.Growth.{front_before}
use Rattle.pb_reply.proofs.printing.append_tables.Goals as goal
use Rattle.pb_keys.proofs.Results.{on_err}

pub returns-in_err-append_table-clause-err : goal.returns-in_err-append_table-clause-err
returns-in_err-append_table-clause-err c = on_err _ _ (front_before _ _ _ _ c.loop-table.invariant c.in_err-append_table.ensures.err)
