use Rattle.pb_crash_tests.proofs.log.reopened.Goals as goal

pub open_or_create-requires : goal.open_or_create-requires
open_or_create-requires g c told = (c.in-Ok.ensures.ok told).settled c.args.name
