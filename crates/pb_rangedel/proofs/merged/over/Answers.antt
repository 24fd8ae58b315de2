use Rattle.std.proofs.Common.{◌≡◌, sym, ◌∙◌, subst}
use Rattle.pb_rows.proofs.LayersOver.{layer-over}
use Rattle.pb_rows.specs.Layer.{AreApart, IsLayer, layer_of}
use Rattle.pb_rows.specs.Over.{over, union_of, rows_over, uncovered}
use Rattle.pb_rangedel.proofs.merged.over.Goals as goal

pub from_parts-requires : goal.from_parts-requires
unfolding over
from_parts-requires c =
    let dels : c.in_ok-dels.dels.items ≡ union_of c.args.newer.now.dels c.args.older.now.dels =
    c.in_ok-dels.ensures.exact (subst AreApart (sym c.dels.ensures.value) c.dels.ensures.in_form.apart) (subst AreApart (sym c.dels-2.ensures.value) c.dels-2.ensures.in_form.apart)
    ∙ (λ i. union_of (c.dels.ensures.value i) (c.dels-2.ensures.value i)) in
    let rows : c.in_ok-rows.rows.items ≡ rows_over c.args.newer.now.rows (uncovered c.args.newer.now.dels c.args.older.now.rows) =
    c.in_ok-rows.ensures.ok ∙ (λ i. rows_over (c.rows.ensures.value i) (uncovered (c.dels-3.ensures.value i) (c.rows-2.ensures.value i))) in
    let same : layer_of c.in_ok-dels.dels.items c.in_ok-rows.rows.items ≡ over c.args.newer.now c.args.older.now = λ i. layer_of (dels i) (rows i) in
    subst IsLayer (sym same) (layer-over c.args.newer.now c.args.older.now c.rows.ensures.in_form c.rows-2.ensures.in_form)

pub returns : goal.returns
unfolding over
returns c =
    let dels : c.in_ok-dels.dels.items ≡ union_of c.args.newer.now.dels c.args.older.now.dels =
    c.in_ok-dels.ensures.exact (subst AreApart (sym c.dels.ensures.value) c.dels.ensures.in_form.apart) (subst AreApart (sym c.dels-2.ensures.value) c.dels-2.ensures.in_form.apart)
    ∙ (λ i. union_of (c.dels.ensures.value i) (c.dels-2.ensures.value i)) in
    let rows : c.in_ok-rows.rows.items ≡ rows_over c.args.newer.now.rows (uncovered c.args.newer.now.dels c.args.older.now.rows) =
    c.in_ok-rows.ensures.ok ∙ (λ i. rows_over (c.rows.ensures.value i) (uncovered (c.dels-3.ensures.value i) (c.rows-2.ensures.value i))) in
    record { ok = c.from_parts.ensures ∙ (λ i. layer_of (dels i) (rows i)) }
