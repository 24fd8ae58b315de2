use Rattle.std.proofs.Common.{arith, subst}
use Rattle.std.specs.Prelude.{None}
use Rattle.pb_rangedel.specs.Merging.{IsStep, IsNext}
use Rattle.pb_rangedel.specs.declared.rows.Step.TheVariants.{Newer, Older, Skip}
use Rattle.pb_rangedel.proofs.Passing.{item_is, passed_from, passed_to, passed_rest}
use Rattle.pb_rangedel.proofs.RowMerging.{rise_rest, fewer_rest, moved_newer, moved_older, skipped_older, all_written}
use Rattle.pb_rangedel.proofs.rows.merge_owned.Goals as goal

pub step_of-requires-clause-passed : goal.step_of-requires-clause-passed
step_of-requires-clause-passed c = passed_to c.args.dels.now c.loop-step.older.items 0 c.loop-step.passed c.front-in-loop-step.result (item_is c.loop-step.older.items 0 c.front-in-loop-step.result c.front-in-loop-step.ensures.item) c.loop-step.invariant.passed

pub loop-step-smaller-in-Continue-branch-2 : goal.loop-step-smaller-in-Continue-branch-2
loop-step-smaller-in-Continue-branch-2 c =
    let next = c.in-Some.ensures.step c.loop-step.newer.items c.loop-step.older.items 0 0 c.loop-step.invariant.newer c.loop-step.invariant.older
    (item_is c.loop-step.newer.items 0 c.front.result c.front.ensures.item) (item_is c.loop-step.older.items 0 c.front-in-loop-step.result c.front-in-loop-step.ensures.item) in
    let here : IsStep Newer c.args.dels.now c.loop-step.newer.items c.loop-step.older.items 0 0 = subst (λ step. IsStep step c.args.dels.now c.loop-step.newer.items c.loop-step.older.items 0 0) c.in-Newer.is next in
    omega (arith, fewer_rest c.loop-step.newer.items c.move_first.new.from.items here.0 c.in_ok-move_first-in-Newer.ensures.left)

pub loop-step-preserved-in-Continue-branch-2 : goal.loop-step-preserved-in-Continue-branch-2
loop-step-preserved-in-Continue-branch-2 c =
    let next = c.in-Some.ensures.step c.loop-step.newer.items c.loop-step.older.items 0 0 c.loop-step.invariant.newer c.loop-step.invariant.older
    (item_is c.loop-step.newer.items 0 c.front.result c.front.ensures.item) (item_is c.loop-step.older.items 0 c.front-in-loop-step.result c.front-in-loop-step.ensures.item) in
    let here : IsStep Newer c.args.dels.now c.loop-step.newer.items c.loop-step.older.items 0 0 = subst (λ step. IsStep step c.args.dels.now c.loop-step.newer.items c.loop-step.older.items 0 0) c.in-Newer.is next in
    record {
      rows = moved_newer c.args.dels.now c.loop-step.newer.items c.loop-step.older.items c.move_first.new.from.items c.loop-step.out.items c.move_first.new.out.items _ here c.in_ok-move_first-in-Newer.ensures.out c.in_ok-move_first-in-Newer.ensures.left c.loop-step.invariant.rows;
      newer = rise_rest c.loop-step.newer.items c.move_first.new.from.items c.loop-step.invariant.newer c.in_ok-move_first-in-Newer.ensures.left;
      older = c.loop-step.invariant.older;
      passed = (passed_from c.args.dels.now c.loop-step.older.items 0 c.step_of.new.passed c.front-in-loop-step.result (item_is c.loop-step.older.items 0 c.front-in-loop-step.result c.front-in-loop-step.ensures.item) c.in-Some.ensures.passed);
    }

pub loop-step-smaller-in-Continue-branch-3 : goal.loop-step-smaller-in-Continue-branch-3
loop-step-smaller-in-Continue-branch-3 c =
    let next = c.in-Some.ensures.step c.loop-step.newer.items c.loop-step.older.items 0 0 c.loop-step.invariant.newer c.loop-step.invariant.older
    (item_is c.loop-step.newer.items 0 c.front.result c.front.ensures.item) (item_is c.loop-step.older.items 0 c.front-in-loop-step.result c.front-in-loop-step.ensures.item) in
    let here : IsStep Older c.args.dels.now c.loop-step.newer.items c.loop-step.older.items 0 0 = subst (λ step. IsStep step c.args.dels.now c.loop-step.newer.items c.loop-step.older.items 0 0) c.in-Older.is next in
    omega (arith, fewer_rest c.loop-step.older.items c.move_first-in-Older.new.from.items here.0 c.in_ok-move_first-in-Older.ensures.left)

pub loop-step-preserved-in-Continue-branch-3 : goal.loop-step-preserved-in-Continue-branch-3
loop-step-preserved-in-Continue-branch-3 c =
    let next = c.in-Some.ensures.step c.loop-step.newer.items c.loop-step.older.items 0 0 c.loop-step.invariant.newer c.loop-step.invariant.older
    (item_is c.loop-step.newer.items 0 c.front.result c.front.ensures.item) (item_is c.loop-step.older.items 0 c.front-in-loop-step.result c.front-in-loop-step.ensures.item) in
    let here : IsStep Older c.args.dels.now c.loop-step.newer.items c.loop-step.older.items 0 0 = subst (λ step. IsStep step c.args.dels.now c.loop-step.newer.items c.loop-step.older.items 0 0) c.in-Older.is next in
    record {
      rows = moved_older c.args.dels.now c.loop-step.newer.items c.loop-step.older.items c.move_first-in-Older.new.from.items c.loop-step.out.items c.move_first-in-Older.new.out.items _ here c.in_ok-move_first-in-Older.ensures.out c.in_ok-move_first-in-Older.ensures.left c.loop-step.invariant.rows;
      newer = c.loop-step.invariant.newer;
      older = rise_rest c.loop-step.older.items c.move_first-in-Older.new.from.items c.loop-step.invariant.older c.in_ok-move_first-in-Older.ensures.left;
      passed = passed_rest c.args.dels.now c.loop-step.older.items c.move_first-in-Older.new.from.items c.step_of.new.passed c.loop-step.invariant.older c.in_ok-move_first-in-Older.ensures.left (passed_from c.args.dels.now c.loop-step.older.items 0 c.step_of.new.passed c.front-in-loop-step.result (item_is c.loop-step.older.items 0 c.front-in-loop-step.result c.front-in-loop-step.ensures.item) c.in-Some.ensures.passed);
    }

pub loop-step-smaller : goal.loop-step-smaller
loop-step-smaller c =
    let next = c.in-Some.ensures.step c.loop-step.newer.items c.loop-step.older.items 0 0 c.loop-step.invariant.newer c.loop-step.invariant.older
    (item_is c.loop-step.newer.items 0 c.front.result c.front.ensures.item) (item_is c.loop-step.older.items 0 c.front-in-loop-step.result c.front-in-loop-step.ensures.item) in
    let here : IsStep Skip c.args.dels.now c.loop-step.newer.items c.loop-step.older.items 0 0 = subst (λ step. IsStep step c.args.dels.now c.loop-step.newer.items c.loop-step.older.items 0 0) c.in-Skip.is next in
    omega (arith, fewer_rest c.loop-step.older.items c.drop_first.new.from.items here.0 c.drop_first.ensures)

pub loop-step-preserved : goal.loop-step-preserved
loop-step-preserved c =
    let next = c.in-Some.ensures.step c.loop-step.newer.items c.loop-step.older.items 0 0 c.loop-step.invariant.newer c.loop-step.invariant.older
    (item_is c.loop-step.newer.items 0 c.front.result c.front.ensures.item) (item_is c.loop-step.older.items 0 c.front-in-loop-step.result c.front-in-loop-step.ensures.item) in
    let here : IsStep Skip c.args.dels.now c.loop-step.newer.items c.loop-step.older.items 0 0 = subst (λ step. IsStep step c.args.dels.now c.loop-step.newer.items c.loop-step.older.items 0 0) c.in-Skip.is next in
    record {
      rows = skipped_older c.args.dels.now c.loop-step.newer.items c.loop-step.older.items c.drop_first.new.from.items c.loop-step.out.items _ here c.drop_first.ensures c.loop-step.invariant.rows;
      newer = c.loop-step.invariant.newer;
      older = rise_rest c.loop-step.older.items c.drop_first.new.from.items c.loop-step.invariant.older c.drop_first.ensures;
      passed = passed_rest c.args.dels.now c.loop-step.older.items c.drop_first.new.from.items c.step_of.new.passed c.loop-step.invariant.older c.drop_first.ensures (passed_from c.args.dels.now c.loop-step.older.items 0 c.step_of.new.passed c.front-in-loop-step.result (item_is c.loop-step.older.items 0 c.front-in-loop-step.result c.front-in-loop-step.ensures.item) c.in-Some.ensures.passed);
    }

pub returns : goal.returns
returns c =
    let next = c.step_of.ensures.step c.loop-step.newer.items c.loop-step.older.items 0 0 c.loop-step.invariant.newer c.loop-step.invariant.older
    (item_is c.loop-step.newer.items 0 c.front.result c.front.ensures.item) (item_is c.loop-step.older.items 0 c.front-in-loop-step.result c.front-in-loop-step.ensures.item) in
    let none : IsNext None c.args.dels.now c.loop-step.newer.items c.loop-step.older.items 0 0 = subst (λ step. IsNext step c.args.dels.now c.loop-step.newer.items c.loop-step.older.items 0 0) c.in_default.is next in
    record { ok = all_written c.args.dels.now c.loop-step.newer.items c.loop-step.older.items c.loop-step.out.items _ 0 0 none c.loop-step.invariant.rows }
