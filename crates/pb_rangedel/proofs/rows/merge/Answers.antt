use Rattle.std.proofs.Common.{◌≡◌, ◌++◌, ◌∷◌, [], ◌+◌, sym, ap, ◌∙◌, subst, arith, List}
use Rattle.std.specs.Prelude.{None}
use Rattle.std.proofs.lemmas.List.{append_assoc}
use Rattle.pb_rangedel.specs.Merging.{rest_of, IsStep, IsNext}
use Rattle.pb_rangedel.specs.declared.rows.Step.TheVariants.{Newer, Older, Skip}
use Rattle.pb_rangedel.proofs.Passing.{item_is, passed_from, passed_more}
use Rattle.pb_rangedel.proofs.RowMerging.{all_written}
use Rattle.pb_rows.specs.Layer.{KeyRow}
use Rattle.pb_rangedel.proofs.rows.merge.Goals as goal

pub bounds-newer-new : goal.bounds-newer-new
bounds-newer-new c =
    let next = c.in-Some.ensures.step c.args.newer.now c.args.older.now c.loop-step.new c.loop-step.old c.requires.newer c.requires.older (item_is c.args.newer.now c.loop-step.new c.get.result c.get.ensures.lookup) (item_is c.args.older.now c.loop-step.old c.get-in-loop-step.result c.get-in-loop-step.ensures.lookup) in
    let here : IsStep Newer c.args.dels.now c.args.newer.now c.args.older.now c.loop-step.new c.loop-step.old =
    subst (λ step. IsStep step c.args.dels.now c.args.newer.now c.args.older.now c.loop-step.new c.loop-step.old) c.in-Newer.is next in
    here.0

pub loop-step-smaller-in-Newer : goal.loop-step-smaller-in-Newer
loop-step-smaller-in-Newer c =
    let next = c.in-Some.ensures.step c.args.newer.now c.args.older.now c.loop-step.new c.loop-step.old c.requires.newer c.requires.older (item_is c.args.newer.now c.loop-step.new c.get.result c.get.ensures.lookup) (item_is c.args.older.now c.loop-step.old c.get-in-loop-step.result c.get-in-loop-step.ensures.lookup) in
    let here : IsStep Newer c.args.dels.now c.args.newer.now c.args.older.now c.loop-step.new c.loop-step.old =
    subst (λ step. IsStep step c.args.dels.now c.args.newer.now c.args.older.now c.loop-step.new c.loop-step.old) c.in-Newer.is next in
    omega (arith, here.0, c.loop-step.invariant.newer_within)

pub loop-step-preserved-in-Newer : goal.loop-step-preserved-in-Newer
loop-step-preserved-in-Newer c =
    let next = c.in-Some.ensures.step c.args.newer.now c.args.older.now c.loop-step.new c.loop-step.old c.requires.newer c.requires.older (item_is c.args.newer.now c.loop-step.new c.get.result c.get.ensures.lookup) (item_is c.args.older.now c.loop-step.old c.get-in-loop-step.result c.get-in-loop-step.ensures.lookup) in
    let here : IsStep Newer c.args.dels.now c.args.newer.now c.args.older.now c.loop-step.new c.loop-step.old =
    subst (λ step. IsStep step c.args.dels.now c.args.newer.now c.args.older.now c.loop-step.new c.loop-step.old) c.in-Newer.is next in
    let out = c.loop-step.out.items in
    let row = c.index-newer-new.result in
    let rest = rest_of c.args.dels.now c.args.newer.now c.args.older.now (c.loop-step.new + 1) c.loop-step.old in
    let front : row ∷ rest ≡ rest_of c.args.dels.now c.args.newer.now c.args.older.now c.loop-step.new c.loop-step.old = (λ i. c.index-newer-new.is i ∷ rest) ∙ sym (here.1 row) in
    record {
      rows = ap (λ (rows : List KeyRow). rows ++ rest) (c.in_ok-push-in-Newer.ensures.items ∙ (λ i. out ++ c.in_ok-row-in-Newer.ensures.ok i ∷ []))
          ∙ append_assoc out (row ∷ []) rest ∙ ap (λ (rows : List KeyRow). out ++ rows) front ∙ c.loop-step.invariant.rows;
      newer_within = omega (arith, here.0, c.loop-step.invariant.newer_within);
      older_within = omega (arith, here.0, c.loop-step.invariant.older_within);
      passed = passed_from c.args.dels.now c.args.older.now c.loop-step.old c.step_of.new.passed c.get-in-loop-step.result (item_is c.args.older.now c.loop-step.old c.get-in-loop-step.result c.get-in-loop-step.ensures.lookup) c.in-Some.ensures.passed;
    }

pub bounds-older-old : goal.bounds-older-old
bounds-older-old c =
    let next = c.in-Some.ensures.step c.args.newer.now c.args.older.now c.loop-step.new c.loop-step.old c.requires.newer c.requires.older (item_is c.args.newer.now c.loop-step.new c.get.result c.get.ensures.lookup) (item_is c.args.older.now c.loop-step.old c.get-in-loop-step.result c.get-in-loop-step.ensures.lookup) in
    let here : IsStep Older c.args.dels.now c.args.newer.now c.args.older.now c.loop-step.new c.loop-step.old =
    subst (λ step. IsStep step c.args.dels.now c.args.newer.now c.args.older.now c.loop-step.new c.loop-step.old) c.in-Older.is next in
    here.0

pub loop-step-smaller-in-Older : goal.loop-step-smaller-in-Older
loop-step-smaller-in-Older c =
    let next = c.in-Some.ensures.step c.args.newer.now c.args.older.now c.loop-step.new c.loop-step.old c.requires.newer c.requires.older (item_is c.args.newer.now c.loop-step.new c.get.result c.get.ensures.lookup) (item_is c.args.older.now c.loop-step.old c.get-in-loop-step.result c.get-in-loop-step.ensures.lookup) in
    let here : IsStep Older c.args.dels.now c.args.newer.now c.args.older.now c.loop-step.new c.loop-step.old =
    subst (λ step. IsStep step c.args.dels.now c.args.newer.now c.args.older.now c.loop-step.new c.loop-step.old) c.in-Older.is next in
    omega (arith, here.0, c.loop-step.invariant.older_within)

pub loop-step-preserved-in-Older : goal.loop-step-preserved-in-Older
loop-step-preserved-in-Older c =
    let next = c.in-Some.ensures.step c.args.newer.now c.args.older.now c.loop-step.new c.loop-step.old c.requires.newer c.requires.older (item_is c.args.newer.now c.loop-step.new c.get.result c.get.ensures.lookup) (item_is c.args.older.now c.loop-step.old c.get-in-loop-step.result c.get-in-loop-step.ensures.lookup) in
    let here : IsStep Older c.args.dels.now c.args.newer.now c.args.older.now c.loop-step.new c.loop-step.old =
    subst (λ step. IsStep step c.args.dels.now c.args.newer.now c.args.older.now c.loop-step.new c.loop-step.old) c.in-Older.is next in
    let out = c.loop-step.out.items in
    let row = c.index-older-old.result in
    let rest = rest_of c.args.dels.now c.args.newer.now c.args.older.now c.loop-step.new (c.loop-step.old + 1) in
    let front : row ∷ rest ≡ rest_of c.args.dels.now c.args.newer.now c.args.older.now c.loop-step.new c.loop-step.old = (λ i. c.index-older-old.is i ∷ rest) ∙ sym (here.1 row) in
    record {
      rows = ap (λ (rows : List KeyRow). rows ++ rest) (c.in_ok-push-in-Older.ensures.items ∙ (λ i. out ++ c.in_ok-row-in-Older.ensures.ok i ∷ []))
          ∙ append_assoc out (row ∷ []) rest ∙ ap (λ (rows : List KeyRow). out ++ rows) front ∙ c.loop-step.invariant.rows;
      newer_within = omega (arith, here.0, c.loop-step.invariant.newer_within);
      older_within = omega (arith, here.0, c.loop-step.invariant.older_within);
      passed = passed_more c.args.dels.now c.args.older.now c.loop-step.old c.step_of.new.passed c.requires.older (passed_from c.args.dels.now c.args.older.now c.loop-step.old c.step_of.new.passed c.get-in-loop-step.result (item_is c.args.older.now c.loop-step.old c.get-in-loop-step.result c.get-in-loop-step.ensures.lookup) c.in-Some.ensures.passed);
    }

pub loop-step-smaller : goal.loop-step-smaller
loop-step-smaller c =
    let next = c.in-Some.ensures.step c.args.newer.now c.args.older.now c.loop-step.new c.loop-step.old c.requires.newer c.requires.older (item_is c.args.newer.now c.loop-step.new c.get.result c.get.ensures.lookup) (item_is c.args.older.now c.loop-step.old c.get-in-loop-step.result c.get-in-loop-step.ensures.lookup) in
    let here : IsStep Skip c.args.dels.now c.args.newer.now c.args.older.now c.loop-step.new c.loop-step.old =
    subst (λ step. IsStep step c.args.dels.now c.args.newer.now c.args.older.now c.loop-step.new c.loop-step.old) c.in-Skip.is next in
    omega (arith, here.0, c.loop-step.invariant.older_within)

pub loop-step-preserved : goal.loop-step-preserved
loop-step-preserved c =
    let next = c.in-Some.ensures.step c.args.newer.now c.args.older.now c.loop-step.new c.loop-step.old c.requires.newer c.requires.older (item_is c.args.newer.now c.loop-step.new c.get.result c.get.ensures.lookup) (item_is c.args.older.now c.loop-step.old c.get-in-loop-step.result c.get-in-loop-step.ensures.lookup) in
    let here : IsStep Skip c.args.dels.now c.args.newer.now c.args.older.now c.loop-step.new c.loop-step.old =
    subst (λ step. IsStep step c.args.dels.now c.args.newer.now c.args.older.now c.loop-step.new c.loop-step.old) c.in-Skip.is next in
    record {
      rows = ap (λ (rows : List KeyRow). c.loop-step.out.items ++ rows) (sym here.1) ∙ c.loop-step.invariant.rows;
      newer_within = c.loop-step.invariant.newer_within;
      older_within = omega (arith, here.0);
      passed = passed_more c.args.dels.now c.args.older.now c.loop-step.old c.step_of.new.passed c.requires.older (passed_from c.args.dels.now c.args.older.now c.loop-step.old c.step_of.new.passed c.get-in-loop-step.result (item_is c.args.older.now c.loop-step.old c.get-in-loop-step.result c.get-in-loop-step.ensures.lookup) c.in-Some.ensures.passed);
    }

pub returns : goal.returns
returns c =
    let next = c.step_of.ensures.step c.args.newer.now c.args.older.now c.loop-step.new c.loop-step.old c.requires.newer c.requires.older (item_is c.args.newer.now c.loop-step.new c.get.result c.get.ensures.lookup) (item_is c.args.older.now c.loop-step.old c.get-in-loop-step.result c.get-in-loop-step.ensures.lookup) in
    let none : IsNext None c.args.dels.now c.args.newer.now c.args.older.now c.loop-step.new c.loop-step.old =
    subst (λ step. IsNext step c.args.dels.now c.args.newer.now c.args.older.now c.loop-step.new c.loop-step.old) c.in_default.is next in
    record { ok = all_written c.args.dels.now c.args.newer.now c.args.older.now c.loop-step.out.items _ c.loop-step.new c.loop-step.old none c.loop-step.invariant.rows }
