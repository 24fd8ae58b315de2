use Rattle.pb_crash_tests.proofs.log.len_after.Goals as goal

pub loop-payload-preserved : goal.loop-payload-preserved
loop-payload-preserved g c told = (_, (c.in_ok-append.ensures.appends told).ok (c.loop-payload.invariant told).0 (c.loop-payload.invariant told).1)
