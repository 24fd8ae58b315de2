use Rattle.std.proofs.Common.{rules, length, ap, arith}
use Rattle.pb_names.specs.Spelling.{marker_prefix}
use Rattle.pb_names.proofs.SpellingLemmas.{length-object_name}
use Rattle.pb_names.proofs.shared_object.marker_prefix.Goals as goal

pub push-requires-clause-room : goal.push-requires-clause-room
push-requires-clause-room c = omega (arith, ap length c.object-name.ensures, length-object_name c.args.id.now c.requires)

pub returns : goal.returns
unfolding marker_prefix
returns c = search rules
