use Rattle.std.proofs.Common.{ap, arith, length}
use Rattle.pb_names.specs.Padding.{length-IsPadded}
use Rattle.pb_names.proofs.PaddingLemmas.{IsPadded-put_mid}
use Rattle.pb_names.proofs.name.Name.push.Goals as goal

pub invariant_of-self : goal.invariant_of-self
invariant_of-self c = IsPadded-put_mid _ _ _ _ _ c.self.invariant c.requires.ascii (omega (arith, c.requires.room, length-IsPadded _ _ c.self.invariant, ap length c.self.view_is)) (omega arith) c.copy_from_slice.ensures.after
