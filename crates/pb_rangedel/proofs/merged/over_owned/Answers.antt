use Rattle.std.proofs.Common.{◌≡◌, sym, ◌∙◌, subst}
use Rattle.pb_rows.proofs.LayersOver.{layer-over}
use Rattle.pb_rows.specs.Layer.{AreApart, IsLayer, layer_of}
use Rattle.pb_rows.specs.Over.{over, union_of, rows_over, uncovered}
use Rattle.pb_rangedel.proofs.merged.over_owned.Goals as goal

pub from_parts-requires : goal.from_parts-requires
unfolding over
from_parts-requires c =
    let new : IsLayer c.args.newer = c.into_parts-new_dels.ensures.in_form in
    let old : IsLayer c.args.older = c.into_parts-old_dels.ensures.in_form in
    let first : c.as_slice.result.now ≡ c.args.newer.dels = c.as_slice.ensures.value ∙ c.into_parts-new_dels.ensures.dels in
    let second : c.as_slice-2.result.now ≡ c.args.older.dels = c.as_slice-2.ensures.value ∙ c.into_parts-old_dels.ensures.dels in
    let third : c.as_slice-3.result.now ≡ c.args.newer.dels = c.as_slice-3.ensures.value ∙ c.into_parts-new_dels.ensures.dels in
    let dels : c.in_ok-dels.dels.items ≡ union_of c.args.newer.dels c.args.older.dels =
    c.in_ok-dels.ensures.exact (subst AreApart (sym first) new.apart) (subst AreApart (sym second) old.apart) ∙ (λ i. union_of (first i) (second i)) in
    let rows : c.in_ok-rows.rows.items ≡ rows_over c.args.newer.rows (uncovered c.args.newer.dels c.args.older.rows) =
    c.in_ok-rows.ensures.ok
    ∙ (λ i. rows_over (c.into_parts-new_dels.ensures.rows i) (uncovered (third i) (c.into_parts-old_dels.ensures.rows i))) in
    let same : layer_of c.in_ok-dels.dels.items c.in_ok-rows.rows.items ≡ over c.args.newer c.args.older = λ i. layer_of (dels i) (rows i) in
    subst IsLayer (sym same) (layer-over c.args.newer c.args.older new old)

pub returns-clause-ok : goal.returns-clause-ok
unfolding over
returns-clause-ok c =
    let new : IsLayer c.args.newer = c.into_parts-new_dels.ensures.in_form in
    let old : IsLayer c.args.older = c.into_parts-old_dels.ensures.in_form in
    let first : c.as_slice.result.now ≡ c.args.newer.dels = c.as_slice.ensures.value ∙ c.into_parts-new_dels.ensures.dels in
    let second : c.as_slice-2.result.now ≡ c.args.older.dels = c.as_slice-2.ensures.value ∙ c.into_parts-old_dels.ensures.dels in
    let third : c.as_slice-3.result.now ≡ c.args.newer.dels = c.as_slice-3.ensures.value ∙ c.into_parts-new_dels.ensures.dels in
    let dels : c.in_ok-dels.dels.items ≡ union_of c.args.newer.dels c.args.older.dels =
    c.in_ok-dels.ensures.exact (subst AreApart (sym first) new.apart) (subst AreApart (sym second) old.apart) ∙ (λ i. union_of (first i) (second i)) in
    let rows : c.in_ok-rows.rows.items ≡ rows_over c.args.newer.rows (uncovered c.args.newer.dels c.args.older.rows) =
    c.in_ok-rows.ensures.ok
    ∙ (λ i. rows_over (c.into_parts-new_dels.ensures.rows i) (uncovered (third i) (c.into_parts-old_dels.ensures.rows i))) in
    c.from_parts.ensures ∙ (λ i. layer_of (dels i) (rows i))
