use Rattle.std.proofs.Common.{◌≡◌, take, map}
use Rattle.pb_synth.specs.Parts.{shown_part}
use Rattle.pb_synth.proofs.dels.parts_of.Given as goal

abbrev pub invariant-loop-del : goal.invariant-loop-del
invariant-loop-del l = l.parts.items ≡ map (shown_part l.view) (take l.del-index l.dels)
