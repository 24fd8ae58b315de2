use Rattle.pb_synth.specs.Clash.{HasNoClashUpTo}
use Rattle.pb_synth.proofs.clashes.clash.Given as goal

abbrev pub invariant-loop-at : goal.invariant-loop-at
invariant-loop-at l = HasNoClashUpTo l.rows l.at
