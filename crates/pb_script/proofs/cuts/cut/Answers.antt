use Rattle.std.proofs.Common.{rules, ◌==◌, arith}
use Rattle.std.proofs.lemmas.Grind.{common_steps}
use Rattle.pb_script.proofs.Parts.{cut_found, cut_missing}
use Rattle.pb_script.proofs.cuts.cut.Goals as goal

pub returns-in_err-place-clause-parts : goal.returns-in_err-place-clause-parts
returns-in_err-place-clause-parts c = rw c.from_residual.ensures (cut_missing (λ byte. byte == c.args.at) c.args.text.now (search rules))

pub returns-clause-parts : goal.returns-clause-parts
returns-clause-parts c = let parts = cut_found (λ byte. byte == c.args.at) c.args.text.now c.in_ok-place.place (search rules) in grind (arith, common_steps, parts.1)
