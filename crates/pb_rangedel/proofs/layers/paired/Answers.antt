use Rattle.std.proofs.Common.{◌≡◌, ◌++◌, ◌∷◌, List, sym, ap, ◌∙◌, subst, vec_len}
use Rattle.std.specs.Prelude.{All}
use Rattle.std.specs.Option.{option_to_list}
use Rattle.std.specs.Vec.Iter.{into_iter_items, into_iter_len}
use Rattle.std.proofs.lemmas.List.Elements.{All-cons, All-append}
use Rattle.pb_rows.specs.Layer.{KeyLayer, IsLayer}
use Rattle.pb_rows.specs.Over.{over_all}
use Rattle.pb_rangedel.proofs.LayerPairs.{over_all-paired, pair_counts}
use Rattle.pb_rangedel.proofs.layers.paired.Goals as goal

pub loop-newer-preserved : goal.loop-newer-preserved
loop-newer-preserved c =
    let newer = c.in-Some.newer in
    let older = c.next-in-Some.result in
    let pairs = c.loop-newer.pairs.items in
    let rest = into_iter_items c.next-in-Some.new.self in
    let items : into_iter_items c.loop-newer.left ≡ newer ∷ (option_to_list older ++ rest) = c.in-Some.ensures.items ∙ ap (λ (layers : List KeyLayer). newer ∷ layers) c.next-in-Some.ensures.items in
    let form = c.in_ok-layer.ensures.in_form in
    let counts = pair_counts older (into_iter_len c.loop-newer.left) (into_iter_len c.next.new.self) (into_iter_len c.next-in-Some.new.self) (vec_len c.loop-newer.pairs) (vec_len c.push.new.self) (vec_len c.args.layers)
    c.in_ok-push.ensures.len c.in-Some.ensures.len c.next-in-Some.ensures.len c.next-in-Some.ensures.variant.1 c.loop-newer.invariant.whole in
    record {
      same = λ are. ap (λ (layers : List KeyLayer). over_all (layers ++ rest)) c.in_ok-push.ensures.items
          ∙ over_all-paired pairs rest c.in_ok-layer.layer newer older (c.in_ok-layer.ensures.same rest are)
          ∙ ap (λ (layers : List KeyLayer). over_all (pairs ++ layers)) (sym items)
          ∙ c.loop-newer.invariant.same (subst (All IsLayer) (sym items) (All-cons IsLayer newer (option_to_list older ++ rest) form.0 (All-append IsLayer (option_to_list older) rest form.1 are)));
      fewer = counts.0;
      whole = counts.1;
    }
