use Rattle.std.proofs.Common.{sym, ap, ◌∙◌, subst}
use Rattle.std.specs.Prelude.{filter}
use Rattle.pb_keys.specs.Span.{holds_key}
use Rattle.pb_rows.specs.Layer.{KeyRow, IsLayer, layer_of}
use Rattle.pb_rows.specs.Viewed.{cut_to}
use Rattle.pb_virtual.proofs.ShownLaws.{bounded_is_layer}
use Rattle.pb_virtual.proofs.bounds.bounded.Goals as goal

pub from_parts-requires : goal.from_parts-requires
from_parts-requires c =
    let bounds = c.args.bounds.now in
    let dels = c.in_ok-dels.ensures.exact ∙ ap (cut_to bounds) (c.as_slice.ensures.value ∙ c.into_parts-dels.ensures.dels) in
    let rows = c.keep_held.ensures ∙ ap (filter (λ (row : KeyRow). holds_key bounds row.key)) c.into_parts-dels.ensures.rows in
    subst IsLayer (sym (λ i. layer_of (dels i) (rows i))) (bounded_is_layer bounds c.args.layer c.requires c.into_parts-dels.ensures.in_form)

pub returns : goal.returns
returns c =
    let bounds = c.args.bounds.now in
    let dels = c.in_ok-dels.ensures.exact ∙ ap (cut_to bounds) (c.as_slice.ensures.value ∙ c.into_parts-dels.ensures.dels) in
    let rows = c.keep_held.ensures ∙ ap (filter (λ (row : KeyRow). holds_key bounds row.key)) c.into_parts-dels.ensures.rows in
    record { ok = c.from_parts.ensures ∙ (λ i. layer_of (dels i) (rows i)) }
