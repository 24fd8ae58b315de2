use Rattle.pb_crash_tests.proofs.manifest.folder_reopened.Goals as goal

pub open-requires : goal.open-requires
open-requires g c = λ told. (c.in_ok-barrier.ensures.ok told).settled
