use Rattle.std.proofs.Common.{◌≡◌, ◌<◌, length, get_or, true, false, refl, sym, ap, ◌∙◌, subst, inl, inr, arith}
use Rattle.std.proofs.lemmas.Bool.{cases_lt}
use Rattle.pb_counts.specs.Pairs.{used_in}
use Rattle.pb_counts.specs.Counts.{IsCounts}
use Rattle.pb_counts.proofs.Used.{from_here, used_here, all_used, found_some, found_not_none, none_some}
use Rattle.pb_counts.proofs.counts.Counts.obsolete.Goals as goal

pub returns-then-not-begin_with-clause-some : goal.returns-then-not-begin_with-clause-some
returns-then-not-begin_with-clause-some c =
    let at = c.loop-backing.backing-index in
    let form : IsCounts c.args.self.now = subst IsCounts c.self.view_is c.self.invariant in
    let items = c.deref-backing-items.ensures.value ∙ ap (λ v. v.known) c.self.view_is in
    let is = ap (λ l. get_or l at 0) items in
    let within : at < length c.args.self.now.known = omega (arith, ap length items, c.loop-backing-test.true) in
    let unused : used_in c.args.self.now.pairs (get_or c.args.self.now.known at 0) ≡ false =
    used_here c.args.self.now c.loop-backing.pairs.now c.from_backing-pairs.result.now at _ false is within
    c.loop-backing.invariant.passed c.from_backing-pairs.ensures.used (sym c.begin_with.ensures ∙ c.if-not-begin_with.true) in
    found_some c.args.self.now at _ form within is unused c.loop-backing.invariant.used

pub returns-then-not-begin_with-clause-none : goal.returns-then-not-begin_with-clause-none
returns-then-not-begin_with-clause-none c =
    let at = c.loop-backing.backing-index in
    let form : IsCounts c.args.self.now = subst IsCounts c.self.view_is c.self.invariant in
    let items = c.deref-backing-items.ensures.value ∙ ap (λ v. v.known) c.self.view_is in
    let is = ap (λ l. get_or l at 0) items in
    let within : at < length c.args.self.now.known = omega (arith, ap length items, c.loop-backing-test.true) in
    let unused : used_in c.args.self.now.pairs (get_or c.args.self.now.known at 0) ≡ false =
    used_here c.args.self.now c.loop-backing.pairs.now c.from_backing-pairs.result.now at _ false is within
    c.loop-backing.invariant.passed c.from_backing-pairs.ensures.used (sym c.begin_with.ensures ∙ c.if-not-begin_with.true) in
    found_not_none c.args.self.now at _ form within is unused c.loop-backing.invariant.used

pub loop-backing-preserved : goal.loop-backing-preserved
loop-backing-preserved c =
    let at = c.loop-backing.backing-index in
    let form : IsCounts c.args.self.now = subst IsCounts c.self.view_is c.self.invariant in
    let items = c.deref-backing-items.ensures.value ∙ ap (λ v. v.known) c.self.view_is in
    let is = ap (λ l. get_or l at 0) items in
    let within : at < length c.args.self.now.known = omega (arith, ap length items, c.loop-backing-test.true) in
    let here : used_in c.args.self.now.pairs (get_or c.args.self.now.known at 0) ≡ true =
    used_here c.args.self.now c.loop-backing.pairs.now c.from_backing-pairs.result.now at _ true is within
    c.loop-backing.invariant.passed c.from_backing-pairs.ensures.used (sym c.begin_with.ensures ∙ c.if-not-begin_with.false) in
    record {
      ascends = c.from_backing-pairs.ensures.ascends;
      passed = λ k h inside.
          let up = from_here c.args.self.now.known at k form.known (omega arith) inside in
          c.from_backing-pairs.ensures.used (get_or c.args.self.now.known k 0) (omega (arith, is, up))
          ∙ c.loop-backing.invariant.passed k (omega arith) inside;
      used = λ k h. elim (cases_lt k at) [
        | inl earlier ↦ c.loop-backing.invariant.used k earlier
        | inr later ↦ let same : at ≡ k = omega arith in
            subst (λ n. used_in c.args.self.now.pairs (get_or c.args.self.now.known n 0) ≡ true) same here
      ];
    }

pub returns-clause-some : goal.returns-clause-some
returns-clause-some c =
    let items = c.deref-backing-items.ensures.value ∙ ap (λ v. v.known) c.self.view_is in
    none_some c.args.self.now
    (all_used c.args.self.now (λ k h. c.loop-backing.invariant.used k (omega (arith, ap length items, c.loop-backing-test.false))))

pub returns-clause-none : goal.returns-clause-none
returns-clause-none c =
    let items = c.deref-backing-items.ensures.value ∙ ap (λ v. v.known) c.self.view_is in
    let all =
    all_used c.args.self.now (λ k h. c.loop-backing.invariant.used k (omega (arith, ap length items, c.loop-backing-test.false))) in
    (λ e. all, λ used. refl)
