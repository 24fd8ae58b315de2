use Rattle.std.proofs.Common.{List, sym, ap, ◌∙◌, subst}
use Rattle.std.specs.Prelude.{All, filter}
use Rattle.pb_keys.specs.Span.{holds_key}
use Rattle.pb_memtable.specs.Search.{IsRowPlace, rows_at}
use Rattle.pb_memtable.specs.View.{Commands, layer_of_all}
use Rattle.pb_memtable.proofs.HeldParts.{bounded-plain}
use Rattle.pb_memtable.proofs.Looking.{rows_short}
use Rattle.pb_rows.specs.ChangingLayers.{layer_of_changes}
use Rattle.pb_rows.specs.Layer.{IsShortRow, KeyRow, Rise, layer_of}
use Rattle.pb_rows.specs.Viewed.{cut_to, plain_view, viewed}
use Rattle.pb_wal.specs.declared.entry.Change.{Change}
use Rattle.pb_memtable.proofs.memtable.Memtable.layer_within.Goals as goal

pub layer_of-layer-requires-clause-apart : goal.layer_of-layer-requires-clause-apart
layer_of-layer-requires-clause-apart c = c.in_ok-dels.ensures.apart

pub layer_of-layer-requires-clause-rise : goal.layer_of-layer-requires-clause-rise
layer_of-layer-requires-clause-rise c = subst Rise (sym c.in_ok-rows.ensures.ok) c.places_within-places.ensures.rise

pub layer_of-layer-requires-clause-short : goal.layer_of-layer-requires-clause-short
layer_of-layer-requires-clause-short c =
    let places = c.places_within-places.result.now in
    let slice = c.as_slice-changes.ensures.value in
    let rows = c.in_ok-rows.ensures.ok ∙ ap (λ (cs : List Change). rows_at cs places) slice in
    subst (All IsShortRow) (sym rows)
    (rows_short c.self.inside.changes.items places c.self.invariant.index.short (subst (λ (cs : List Change). All
    (IsRowPlace cs) places) slice c.places_within-places.ensures.places))

pub returns : goal.returns
returns c =
    let span = c.args.span.now in
    let index = c.self.invariant.index in
    let layer = layer_of_all c.self.inside.changes.items in
    let p = λ (row : KeyRow). holds_key span row.key in
    let rows = c.in_ok-rows.ensures.ok ∙ c.places_within-places.ensures.rows
    ∙ ap (filter p) ((λ i. rows_at (c.as_slice-changes.ensures.value i) (c.as_slice.ensures.value i)) ∙ index.rows) in
    let dels = c.in_ok-dels.ensures.exact ∙ ap (cut_to span) (c.as_slice-2.ensures.value ∙ index.dels) in
    record {
      ok = c.layer_of-layer.ensures ∙ (λ i. layer_of (dels i) (rows i)) ∙ bounded-plain span layer
          ∙ ap (λ (view : Commands). viewed (plain_view span) (layer_of_changes view.changes)) c.self.view_is;
    }
