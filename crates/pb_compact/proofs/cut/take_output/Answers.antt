use Rattle.std.proofs.Common.{sym, subst}
use Rattle.pb_rows.specs.Layer.{IsLayer, layer_of}
use Rattle.pb_compact.proofs.LayersCut.{below_is_layer}
use Rattle.pb_compact.proofs.cut.take_output.Goals as goal

pub from_parts-requires : goal.from_parts-requires
from_parts-requires c =
    let dels = c.in_ok-taken_dels.ensures.taken in
    let rows = c.in_ok-taken_rows.ensures.taken in
    subst IsLayer (sym (λ i. layer_of (dels i) (rows i)))
    (below_is_layer c.args.end.now (layer_of c.args.dels.now.items c.args.rows.now.items) c.requires.end c.requires.in_form)
