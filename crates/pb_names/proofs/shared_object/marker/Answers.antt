use Rattle.std.proofs.Common.{rules, ℕ, length, ap, arith, length-append}
use Rattle.pb_names.specs.Spelling.{marker_name}
use Rattle.pb_names.proofs.SpellingLemmas.{length-marker_prefix, length-decimal-store, length-decimal-drawn}
use Rattle.pb_names.proofs.shared_object.marker.Goals as goal

pub push_number-requires : goal.push_number-requires
push_number-requires c =
    omega (
      arith,
      ap length c.marker_prefix-name.ensures,
      length-marker_prefix c.args.id.now c.requires.object,
      length-decimal-store c.args.store c.requires.store,
    )

pub push-requires-clause-room : goal.push-requires-clause-room
push-requires-clause-room c =
    omega (
      arith,
      ap length c.push_number.ensures,
      length-append {A = ℕ},
      ap length c.marker_prefix-name.ensures,
      length-marker_prefix c.args.id.now c.requires.object,
      length-decimal-store c.args.store c.requires.store,
    )

pub push_number-requires-2 : goal.push_number-requires-2
push_number-requires-2 c =
    omega (
      arith,
      ap length c.push.ensures,
      ap length c.push_number.ensures,
      length-append {A = ℕ},
      ap length c.marker_prefix-name.ensures,
      length-marker_prefix c.args.id.now c.requires.object,
      length-decimal-store c.args.store c.requires.store,
      length-decimal-drawn c.args.number c.requires.number,
    )

pub returns : goal.returns
unfolding marker_name
returns c = search rules
