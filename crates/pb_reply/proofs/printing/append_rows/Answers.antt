use Rattle.pb_reply.proofs.Growth.{front_before}
use Rattle.pb_reply.proofs.printing.append_rows.Goals as goal
use Rattle.pb_keys.proofs.Results.{on_err}

pub returns-in_err-append_pair-clause-err : goal.returns-in_err-append_pair-clause-err
returns-in_err-append_pair-clause-err c = on_err _ _ (front_before _ _ _ _ c.loop-pair.invariant c.in_err-append_pair.ensures.err)
