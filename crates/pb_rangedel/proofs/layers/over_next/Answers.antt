use Rattle.std.proofs.Common.{◌++◌, sym, ap, ◌∙◌}
use Rattle.std.specs.Prelude.{Option}
use Rattle.std.specs.Option.{option_to_list}
use Rattle.pb_rows.specs.Layer.{KeyLayer}
use Rattle.pb_rows.specs.Over.{over, over_all}
use Rattle.pb_rangedel.proofs.LayerPairs.{over_all-pair}
use Rattle.pb_rangedel.proofs.layers.over_next.Goals as goal

pub returns-in_ok-layer-in-Some-clause-same : goal.returns-in_ok-layer-in-Some-clause-same
returns-in_ok-layer-in-Some-clause-same c rest are =
    let form = c.in_ok-layer-in-Some.ensures.in_form in
    over_all-pair c.args.newer c.in-Some.older c.in_ok-layer-in-Some.layer rest form.0 form.1 are c.in_ok-layer-in-Some.ensures.ok
    ∙ ap (λ (older : Option KeyLayer). over c.args.newer (over_all (option_to_list older ++ rest))) (sym c.in-Some.is)
