use Rattle.std.proofs.Common.{◌∙◌, ap}
use Rattle.pb_rows.specs.Applied.{applied, with_rows, without_all}
use Rattle.pb_rows.specs.Layer.{KeyLayer}
use Rattle.pb_folder_reader.proofs.meaning.apply.Goals as goal

pub returns : goal.returns
unfolding applied
returns c =
    let map = c.args.pairs.now in
    c.in_ok-put_rows.ensures
    ∙ (λ i. with_rows ((c.del_ranges.ensures ∙ ap (without_all map) c.deref.ensures.value) i) (c.deref-2.ensures.value i))
    ∙ ap (λ (layer : KeyLayer). with_rows (without_all map layer.dels) layer.rows) c.layer.view_is
