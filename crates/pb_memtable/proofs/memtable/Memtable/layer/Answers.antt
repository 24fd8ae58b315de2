use Rattle.std.proofs.Common.{◌≡◌, sym, ap, ◌∙◌, subst}
use Rattle.std.specs.Prelude.{All}
use Rattle.pb_memtable.specs.Search.{rows_at}
use Rattle.pb_memtable.specs.View.{Commands, layer_of_all}
use Rattle.pb_memtable.proofs.CommandLaws.{filled_if_some}
use Rattle.pb_memtable.proofs.Looking.{rows_short}
use Rattle.pb_rows.specs.Layer.{IsFilled, IsShortRow, layer_of}
use Rattle.pb_memtable.proofs.memtable.Memtable.layer.Goals as goal

pub layer_of-layer-requires-clause-short : goal.layer_of-layer-requires-clause-short
layer_of-layer-requires-clause-short c =
    let index = c.self.invariant.index in
    let rows = c.in_ok-rows.ensures.ok ∙ (λ i. rows_at (c.as_slice-2.ensures.value i) (c.as_slice-3.ensures.value i)) in
    subst (All IsShortRow) (sym rows) (rows_short c.self.inside.changes.items c.self.inside.places.items index.short index.places)

pub returns-clause-filled : goal.returns-clause-filled
returns-clause-filled c =
    let changes = c.self.inside.changes.items in
    let index = c.self.invariant.index in
    let rows = c.in_ok-rows.ensures.ok ∙ (λ i. rows_at (c.as_slice-2.ensures.value i) (c.as_slice-3.ensures.value i)) ∙ index.rows in
    let dels = c.in_ok-dels.ensures.ok ∙ c.as_slice.ensures.value ∙ index.dels in
    let whole : c.layer_of-layer.result ≡ layer_of_all changes = c.layer_of-layer.ensures ∙ (λ i. layer_of (dels i) (rows i)) in
    λ some. subst IsFilled (sym whole) (filled_if_some changes (λ none. some (sym (ap
    (λ (view : Commands). view.changes) c.self.view_is) ∙ none)))
