use Rattle.std.proofs.Common.{◌+◌, ◌<◌, length, arith}
use Rattle.pb_rangedel.proofs.SpanMerging.{merged_left, turned_merge, all_merged}
use Rattle.pb_rangedel.proofs.unite.union.Goals as goal
use Rattle.pb_rangedel.proofs.unite.union.Goals.{then-left-a, else-left-a+then-right-b}

pub loop-left-preserved-then-is_left_next : goal.loop-left-preserved-then-is_left_next
loop-left-preserved-then-is_left_next c =
    let added = c.in_ok-append.ensures in
    let left = c.if-is_left_next.true in
    merged_left c.args.a.now c.args.b.now c.loop-left.out.items c.append.new.out.items c.loop-left.left c.loop-left.right c.index-a-left.result c.loop-left.invariant c.index-a-left.is
    (c.is_left_next.ensures.left left) added.next (c.is_left_next.ensures.before left) added.covered added.in_form added.apart

pub loop-left-preserved : goal.loop-left-preserved
loop-left-preserved c =
    let added = c.in_ok-append-2.ensures in
    let right = c.if-is_left_next.false in
    let within : c.loop-left.right < length c.args.b.now = elim c.if-left-a.branch [
      | then-left-a w ↦ c.is_left_next.ensures.right right w.if-left-a.true
      | else-left-a+then-right-b w ↦ omega (arith, w.if-right-b.true)
    ] in
    turned_merge c.args.b.now c.args.a.now c.append-else-is_left_next.new.out.items (c.loop-left.right + 1) c.loop-left.left
    (merged_left c.args.b.now c.args.a.now c.loop-left.out.items c.append-else-is_left_next.new.out.items c.loop-left.right c.loop-left.left c.index-b-right.result
    (turned_merge c.args.a.now c.args.b.now c.loop-left.out.items c.loop-left.left c.loop-left.right c.loop-left.invariant) c.index-b-right.is
    within added.next (c.is_left_next.ensures.after right) added.covered added.in_form added.apart)

pub returns-clause-exact : goal.returns-clause-exact
returns-clause-exact c = (all_merged c.args.a.now c.args.b.now c.loop-left.out.items c.loop-left.left c.loop-left.right c.loop-left.invariant c.if-left-a.false c.if-right-b.false).exact
