use Rattle.std.proofs.Common.{sym, ap, ◌∙◌}
use Rattle.pb_keys.specs.Map.{without}
use Rattle.pb_rows.specs.Applied.{applied}
use Rattle.pb_rows.specs.ChangingLayers.{layer_of_changes}
use Rattle.pb_rows.proofs.CommandLaws.{does_the_commands}
use Rattle.pb_rows.proofs.TouchLaws.{untouched_span, untouched_layer}
use Rattle.pb_memtable.proofs.laws.untouched_commands_commute.Goals as goal

pub returns-clause-span : goal.returns-clause-span
returns-clause-span c changes m span none =
    sym (does_the_commands changes (without m span)) ∙ untouched_span (layer_of_changes changes) m span none
    ∙ ap (λ n. without n span) (does_the_commands changes m)

pub returns-clause-layer : goal.returns-clause-layer
returns-clause-layer c changes m b hull is none =
    sym (does_the_commands changes (applied b m)) ∙ untouched_layer (layer_of_changes changes) b m hull is none
    ∙ ap (applied b) (does_the_commands changes m)
