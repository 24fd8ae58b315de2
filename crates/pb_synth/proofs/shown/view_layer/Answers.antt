use Rattle.std.proofs.Common.{◌≡◌, ◌≤◌, true, length, map, sym, ap, ◌∙◌, subst}
use Rattle.std.specs.Prelude.{All, filter}
use Rattle.std.proofs.lemmas.List.Elements.{All-filter, filter_passes}
use Rattle.pb_keys.specs.Span.{IsSpan}
use Rattle.pb_rows.specs.Layer.{IsLayer}
use Rattle.pb_rows.specs.Viewed.{mapped_key, mapped_row, mapped_span}
use Rattle.pb_rows.proofs.ViewedForm.{viewed_is_layer}
use Rattle.pb_synth.specs.Parts.{shown_part}
use Rattle.pb_synth.proofs.ShownLaws.{is_held, is_shown, shown_is}
use Rattle.pb_synth.proofs.shown.view_layer.Goals as goal

pub parts_of-requires-clause-mapped : goal.parts_of-requires-clause-mapped
parts_of-requires-clause-mapped c =
    let view = c.args.view.now in
    subst (All (λ del. IsSpan (mapped_span view del))) (sym c.shown_dels.ensures)
    (All-filter (is_shown view) (λ del. IsSpan (mapped_span view del)) c.dels.result.now (subst (All (λ del. IsSpan (mapped_span view del))) (sym c.dels.ensures.value) c.requires.within.ends))

pub parts_of-requires-clause-overlap : goal.parts_of-requires-clause-overlap
parts_of-requires-clause-overlap c =
    let view = c.args.view.now in
    subst (All (λ del. is_shown view del ≡ true)) (sym c.shown_dels.ensures) (filter_passes (is_shown view) c.dels.result.now)

pub mapped_rows-requires-clause-within : goal.mapped_rows-requires-clause-within
mapped_rows-requires-clause-within c =
    let view = c.args.view.now in
    subst (All (λ row. length (mapped_key view row.key) ≤ 1024)) (sym c.held_rows.ensures)
    (All-filter (is_held view) (λ row. length (mapped_key view row.key) ≤ 1024) c.rows.result.now
    (subst (All (λ row. length (mapped_key view row.key) ≤ 1024)) (sym c.rows.ensures.value) (λ k d h. (c.requires.within.keys k d h).within)))

pub from_parts-requires : goal.from_parts-requires
from_parts-requires c =
    let view = c.args.view.now in let layer = c.args.layer.now in
    let dels = c.in_ok-dels.ensures.ok ∙ ap (map (shown_part view)) (c.shown_dels.ensures ∙ ap (filter (is_shown view)) c.dels.ensures.value) in
    let rows = c.in_ok-rows.ensures.ok ∙ ap (map (mapped_row view)) (c.held_rows.ensures ∙ ap (filter (is_held view)) c.rows.ensures.value) in
    subst IsLayer (sym (shown_is view layer c.in_ok-dels.dels.items c.in_ok-rows.rows.items dels rows)) (viewed_is_layer view layer c.requires.view c.rows.ensures.in_form c.requires.within)

pub returns : goal.returns
returns c =
    let view = c.args.view.now in let layer = c.args.layer.now in
    let dels = c.in_ok-dels.ensures.ok ∙ ap (map (shown_part view)) (c.shown_dels.ensures ∙ ap (filter (is_shown view)) c.dels.ensures.value) in
    let rows = c.in_ok-rows.ensures.ok ∙ ap (map (mapped_row view)) (c.held_rows.ensures ∙ ap (filter (is_held view)) c.rows.ensures.value) in
    record { ok = c.from_parts.ensures ∙ shown_is view layer c.in_ok-dels.dels.items c.in_ok-rows.rows.items dels rows }
