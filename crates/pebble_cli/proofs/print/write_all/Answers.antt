use Rattle.std.proofs.Common.{rules, ◌∙◌, arith}
use Rattle.std.proofs.Math.Seq.{take-add}
use Rattle.std.proofs.lemmas.Grind.{common_steps}
use Rattle.pebble_cli.proofs.print.write_all.Goals as goal

pub loop-at-preserved : goal.loop-at-preserved
loop-at-preserved g c =
    let sum = take-add c.loop-at.at c.in_ok-at.field-0 c.args.text.now in
    record {
      within = search rules;
      taken = λ told.
          let got = c.in_ok-at.ensures.ok told in
          let so_far = c.loop-at.invariant.taken told in
          grind (arith, common_steps, sum, got, so_far);
      calm = c.in_ok-at.ensures.cause.calm tt ∙ c.loop-at.invariant.calm;
    }
