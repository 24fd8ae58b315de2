use Rattle.std.proofs.Common.{sym, ap, ◌∙◌, subst, []}
use Rattle.std.specs.Prelude.{filter}
use Rattle.pb_rows.specs.Layer.{IsLayer, layer_of}
use Rattle.pb_compact.specs.Outputs.{has_value}
use Rattle.pb_compact.proofs.LayersCut.{some_rows}
use Rattle.pb_compact.proofs.values.without_deletions.Goals as goal

pub from_parts-requires : goal.from_parts-requires
from_parts-requires c =
    let rows = c.keep_values.ensures ∙ ap (filter has_value) c.into_parts-rows.ensures.rows in
    subst IsLayer (sym (λ i. layer_of (c.new.ensures.items i) (rows i)))
    (some_rows has_value [] c.args.layer tt c.into_parts-rows.ensures.in_form)
