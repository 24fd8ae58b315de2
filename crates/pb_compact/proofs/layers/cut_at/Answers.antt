use Rattle.std.proofs.Common.{◌≡◌, ◌≤◌, ◌+◌, List, ℕ, [], ◌∷◌, ◌++◌, drop, length, sym, ap, ◌∙◌, subst, arith}
use Rattle.std.proofs.lemmas.List.{drop_more, drop_all}
use Rattle.pb_rows.specs.Layer.{KeyLayer, layer_of}
use Rattle.pb_compact.proofs.CutSteps.{CutUpTo, begun, stepped, finished}
use Rattle.pb_compact.proofs.layers.cut_at.Goals as goal

pub loop-point-init : goal.loop-point-init
loop-point-init c =
    let layer = c.args.layer in
    let ends = λ (points : List (List ℕ)). points ++ c.args.hull.now.hi ∷ [] in
    let whole : layer_of c.from-dels.result.items c.from-rows.result.items ≡ layer =
    λ i. layer_of ((c.from-dels.ensures.0 ∙ c.into_parts-dels.ensures.dels) i)
    ((c.from-rows.ensures.0 ∙ c.into_parts-dels.ensures.rows) i) in
    subst (λ (l : KeyLayer). CutUpTo layer l c.new-outputs.result.items (ends c.args.points.now)) (sym whole)
    (subst (λ (outputs : List KeyLayer). CutUpTo layer layer outputs (ends c.args.points.now)) (sym c.new-outputs.ensures.items)
    (subst (λ (points : List (List ℕ)). CutUpTo layer layer [] (ends points)) (sym c.requires.points)
    (begun layer c.args.hull.now c.into_parts-dels.ensures.in_form c.requires.hull)))

pub loop-point-preserved : goal.loop-point-preserved
loop-point-preserved c =
    let points = c.args.points.now in
    let at = c.loop-point.point-index in
    let top = c.args.hull.now.hi ∷ [] in
    let left = layer_of c.loop-point.dels.items c.loop-point.rows.items in
    let rest = drop (at + 1) points ++ top in
    let split : drop at points ++ top ≡ c.as_slice.result.now ∷ rest =
    ap (λ (ps : List (List ℕ)). ps ++ top)
    (drop_more points at c.point-item.result (omega arith)
    ∙ ap (λ (p : List ℕ). p ∷ drop (at + 1) points) (sym c.point-item.is ∙ sym c.as_slice.ensures)) in
    stepped c.args.layer left (layer_of c.take_output.new.dels.items c.take_output.new.rows.items) c.in_ok-output.output
    c.loop-point.outputs.items
    c.push.new.self.items c.as_slice.result.now rest
    (subst (CutUpTo c.args.layer left c.loop-point.outputs.items) split c.loop-point.invariant)
    c.in_ok-output.ensures.taken c.in_ok-output.ensures.left c.in_ok-push.ensures.items

pub returns : goal.returns
returns c =
    let points = c.args.points.now in
    let at = c.loop-point.point-index in
    let left = layer_of c.loop-point.dels.items c.loop-point.rows.items in
    let past : length points ≤ at = omega arith in
    let split : drop at points ++ c.args.hull.now.hi ∷ [] ≡ c.hi.result.now ∷ [] =
    ap (λ (ps : List (List ℕ)). ps ++ c.args.hull.now.hi ∷ []) (drop_all at points past)
    ∙ ap (λ (p : List ℕ). p ∷ []) (sym c.hi.ensures.value) in
    let last = stepped c.args.layer left (layer_of c.take_output-2.new.dels.items c.take_output-2.new.rows.items) c.in_ok-last.last
    c.loop-point.outputs.items
    c.push-2.new.self.items c.hi.result.now [] (subst (CutUpTo c.args.layer left c.loop-point.outputs.items) split c.loop-point.invariant)
    c.in_ok-last.ensures.taken c.in_ok-last.ensures.left c.in_ok-push-2.ensures.items in
    record { ok = finished c.args.layer _ c.push-2.new.self.items last }
