use Rattle.std.proofs.Common.{inl, inr, arith}
use Rattle.pb_mem.specs.Files.{empty_file, written}
use Rattle.pb_mem.specs.Images.{two_bytes}
use Rattle.pb_mem.specs.Seen.{seen-torn}
use Rattle.pb_mem.proofs.laws.the_middle_file_is_left.Goals as goal

pub returns-clause-left : goal.returns-clause-left
returns-clause-left c name = inl (inr (inl (seen-torn (written empty_file 0 two_bytes))))

-- no file of two bytes is torn from an empty one
pub returns-clause-settled : goal.returns-clause-settled
returns-clause-settled c name left = elim left [ inl earlier ↦ earlier | inr torn ↦ absurd (omega (arith, torn.no_longer)) ]
