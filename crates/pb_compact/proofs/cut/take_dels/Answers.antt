use Rattle.std.proofs.Common.{List, ◌++◌, refl, sym, ap, ◌∙◌}
use Rattle.std.specs.List.{flat_map}
use Rattle.std.proofs.lemmas.List.{append-nil}
use Rattle.pb_keys.specs.Span.{KeySpan}
use Rattle.pb_rows.proofs.NormalSpans.{normal_from_apart}
use Rattle.pb_compact.specs.Cutting.{part_below}
use Rattle.pb_compact.proofs.SpansCut.{IsStep, step_taken, step_left, step_normal, step_fewer, taken_whole, left_whole}
use Rattle.pb_compact.proofs.cut.take_dels.Goals as goal

pub loop-alloc-init : goal.loop-alloc-init
loop-alloc-init c = record {
  taken = ap (λ (ss : List KeySpan). ss ++ flat_map (part_below c.args.end.now) c.args.dels.now.items) c.new-taken.ensures.items;
  left = refl;
  normal = normal_from_apart c.args.dels.now.items c.requires.in_form c.requires.apart;
}

pub loop-alloc-smaller : goal.loop-alloc-smaller
loop-alloc-smaller c =
    step_fewer c.args.end.now c.loop-alloc.dels.items c.loop-alloc.taken.items c.take_first.new.out.items c.take_first.new.dels.items
    (sym c.begins_below.ensures ∙ c.loop-alloc-test.true)
    (record { taken = c.in_ok-take_first.ensures.out; kept = c.in_ok-take_first.ensures.left })

pub loop-alloc-preserved : goal.loop-alloc-preserved
loop-alloc-preserved c =
    let end = c.args.end.now in
    let dels = c.loop-alloc.dels.items in
    let out = c.loop-alloc.taken.items in
    let moved = c.take_first.new.out.items in
    let left = c.take_first.new.dels.items in
    let begins = sym c.begins_below.ensures ∙ c.loop-alloc-test.true in
    let step : IsStep end dels out moved left = record { taken = c.in_ok-take_first.ensures.out; kept = c.in_ok-take_first.ensures.left } in
    record {
      taken = step_taken end dels out moved left begins step ∙ c.loop-alloc.invariant.taken;
      left = step_left end dels out moved left begins step ∙ c.loop-alloc.invariant.left;
      normal = step_normal end dels out moved left c.requires.end c.loop-alloc.invariant.normal begins step;
    }

pub returns-clause-taken : goal.returns-clause-taken
returns-clause-taken c =
    let taken = c.loop-alloc.taken.items in
    let none = taken_whole c.args.end.now c.loop-alloc.dels.items c.loop-alloc.invariant.normal
    (sym c.begins_below.ensures ∙ c.loop-alloc-test.false) in
    sym (append-nil taken) ∙ ap (λ (ss : List KeySpan). taken ++ ss) (sym none) ∙ c.loop-alloc.invariant.taken

pub returns-clause-left : goal.returns-clause-left
returns-clause-left c =
    sym (left_whole c.args.end.now c.loop-alloc.dels.items c.loop-alloc.invariant.normal
    (sym c.begins_below.ensures ∙ c.loop-alloc-test.false))
    ∙ c.loop-alloc.invariant.left
