use Rattle.std.proofs.Common.{◌≡◌, List, get_or, cond, sym, ap, ◌∙◌, subst}
use Rattle.std.specs.Prelude.{Some, None}
use Rattle.pb_memtable.proofs.Bits.{true_is_not_false}
use Rattle.pb_memtable.specs.View.{Commands, layer_of_all}
use Rattle.pb_memtable.specs.Search.{change_at, row_of_change, rows_at}
use Rattle.pb_memtable.proofs.Looking.{found_row, missing_row}
use Rattle.pb_rows.specs.ChangingLayers.{layer_of_changes}
use Rattle.pb_rows.specs.Layer.{KeyRow, Rise}
use Rattle.pb_rows.specs.Verdict.{row_verdict, verdict}
use Rattle.pb_rows.proofs.VerdictLaws.{verdict_by_row, verdict_by_spans}
use Rattle.pb_memtable.proofs.memtable.Memtable.get.Goals as goal

pub returns-then-is_at : goal.returns-then-is_at
returns-then-is_at c =
    let key = c.args.key.now in
    let changes = c.as_slice-changes.result.now in let places = c.as_slice-places.result.now in
    let at = c.place_of-at.result in
    let index = c.self.invariant.index in
    let layer = layer_of_all c.self.inside.changes.items in
    let rows = (λ i. rows_at (c.as_slice-changes.ensures.value i) (c.as_slice-places.ensures.value i)) ∙ index.rows in
    let place = c.place_of-at.ensures key c.prefix.ensures.value c.suffix.ensures in
    let found = found_row changes places key at place (c.is_at.ensures.within c.if-is_at.true) (c.is_at.ensures.key c.if-is_at.true) in
    c.found_at.ensures
    ∙ verdict_by_row layer.dels layer.rows key (row_of_change (change_at changes (get_or places at 0))).value (found ∙ ap (λ (rs : List KeyRow). row_verdict rs key) rows)
    ∙ ap (λ (view : Commands). verdict (layer_of_changes view.changes) key) c.self.view_is

pub returns-then-covers : goal.returns-then-covers
returns-then-covers c =
    let key = c.args.key.now in
    let changes = c.as_slice-changes.result.now in let places = c.as_slice-places.result.now in
    let at = c.place_of-at.result in
    let index = c.self.invariant.index in
    let layer = layer_of_all c.self.inside.changes.items in
    let rows : rows_at changes places ≡ rows_at c.self.inside.changes.items c.self.inside.places.items = (λ i. rows_at (c.as_slice-changes.ensures.value i) (c.as_slice-places.ensures.value i)) in
    let place = c.place_of-at.ensures key c.prefix.ensures.value c.suffix.ensures in
    let none = missing_row changes places key at (subst Rise (sym rows) index.rise) place (λ h same. true_is_not_false (sym (c.is_at.ensures.other h same) ∙ c.if-is_at.false)) in
    ap (λ b. cond b (Some None) None) (sym (sym c.covers.ensures ∙ c.if-covers.true))
    ∙ verdict_by_spans layer.dels layer.rows key c.as_slice.result.now (c.as_slice.ensures.value ∙ index.dels) (none ∙ ap (λ (rs : List KeyRow). row_verdict rs key) (rows ∙ index.rows))
    ∙ ap (λ (view : Commands). verdict (layer_of_changes view.changes) key) c.self.view_is

pub returns : goal.returns
returns c =
    let key = c.args.key.now in
    let changes = c.as_slice-changes.result.now in let places = c.as_slice-places.result.now in
    let at = c.place_of-at.result in
    let index = c.self.invariant.index in
    let layer = layer_of_all c.self.inside.changes.items in
    let rows : rows_at changes places ≡ rows_at c.self.inside.changes.items c.self.inside.places.items = (λ i. rows_at (c.as_slice-changes.ensures.value i) (c.as_slice-places.ensures.value i)) in
    let place = c.place_of-at.ensures key c.prefix.ensures.value c.suffix.ensures in
    let none = missing_row changes places key at (subst Rise (sym rows) index.rise) place (λ h same. true_is_not_false (sym (c.is_at.ensures.other h same) ∙ c.if-is_at.false)) in
    ap (λ b. cond b (Some None) None) (sym (sym c.covers.ensures ∙ c.if-covers.false))
    ∙ verdict_by_spans layer.dels layer.rows key c.as_slice.result.now (c.as_slice.ensures.value ∙ index.dels) (none ∙ ap (λ (rs : List KeyRow). row_verdict rs key) (rows ∙ index.rows))
    ∙ ap (λ (view : Commands). verdict (layer_of_changes view.changes) key) c.self.view_is
