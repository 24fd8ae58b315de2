use Rattle.std.proofs.Common.{rules, ℕ, length, ap, arith, length-append}
use Rattle.pb_names.specs.Spelling.{file_name}
use Rattle.pb_names.proofs.SpellingLemmas.{length-decimal-u64, length-ending}
use Rattle.pb_names.proofs.files.file.Goals as goal

pub push_number-requires : goal.push_number-requires
push_number-requires c = omega (arith, ap length c.empty-name.ensures, length-decimal-u64 c.args.number c.ranges.number.fits)

pub push-requires-clause-room : goal.push-requires-clause-room
push-requires-clause-room c =
    omega (
      arith,
      ap length c.push_number.ensures,
      length-append {A = ℕ},
      ap length c.empty-name.ensures,
      ap length c.ending_of.ensures,
      length-decimal-u64 c.args.number c.ranges.number.fits,
      length-ending c.args.kind,
    )

pub returns : goal.returns
unfolding file_name
returns c = search rules
