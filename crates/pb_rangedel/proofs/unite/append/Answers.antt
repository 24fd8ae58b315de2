use Rattle.std.proofs.Common.{◌≡◌, ◌++◌, ◌∷◌, ◌-◌, [], sym, ap, ◌∙◌, subst, take, List}
use Rattle.std.specs.Prelude.{All, Some}
use Rattle.std.proofs.lemmas.List.Elements.{All-pop, All-push}
use Rattle.pb_keys.specs.Span.{KeySpan, IsSpan, joined}
use Rattle.pb_rows.specs.Layer.{AreApart}
use Rattle.pb_rows.specs.Verdict.{is_covered}
use Rattle.pb_keys.proofs.SpanFacts.{joined_is_span}
use Rattle.pb_rangedel.specs.Spans.{BeginUpto}
use Rattle.pb_rangedel.proofs.SpanMerging.{added_first, added_behind, added_joined, covered_joined}
use Rattle.pb_rangedel.proofs.unite.append.Goals as goal

pub returns-in_ok-push-in-None-clause-apart : goal.returns-in_ok-push-in-None-clause-apart
returns-in_ok-push-in-None-clause-apart c =
    let next = c.args.next.now in
    let none : c.pop.new.self.items ≡ [] = c.in-None.ensures.rest ∙ ap (λ n. take (n - 1) c.args.out.now.items) c.in-None.ensures.cases.0 in
    let items : c.push.new.self.items ≡ next ∷ [] = c.in_ok-push-in-None.ensures.items ∙ (λ i. none i ++ c.in_ok-span-in-None.ensures.ok i ∷ []) in
    λ begin apart. subst (λ (spans : List KeySpan). AreApart spans × BeginUpto next.lo spans) (sym items) (added_first next c.lo-lo.ensures.in_form)

pub returns-in_ok-push-in-Some-2-clause-apart : goal.returns-in_ok-push-in-Some-2-clause-apart
returns-in_ok-push-in-Some-2-clause-apart c =
    let next = c.args.next.now in
    let old = c.args.out.now.items in
    let items : c.push-then-are_apart-2.new.self.items ≡ old ++ next ∷ [] = c.in_ok-push-in-Some-2.ensures.items
    ∙ (λ i. (c.in_ok-push-in-Some.ensures.items ∙ sym c.in-Some.ensures.items) i ++ c.in_ok-span-in-Some.ensures.ok i ∷ []) in
    λ begin apart. subst (λ (spans : List KeySpan). AreApart spans × BeginUpto next.lo spans) (sym items)
    (added_behind old c.pop.new.self.items c.in-Some.last next c.in-Some.ensures.items c.requires c.lo-lo.ensures.in_form (sym c.are_apart.ensures ∙ c.if-are_apart.true) begin apart)

pub returns-in_ok-push-in-Some-3-clause-covered : goal.returns-in_ok-push-in-Some-3-clause-covered
returns-in_ok-push-in-Some-3-clause-covered c =
    let next = c.args.next.now in
    let init = c.pop.new.self.items in
    let items : c.push-else-are_apart.new.self.items ≡ init ++ joined c.in-Some.last next ∷ [] = c.in_ok-push-in-Some-3.ensures.items ∙ (λ i. init ++ c.in_ok-span-in-Some-2.ensures.ok i ∷ []) in
    λ key. ap (λ spans. is_covered spans key) items
    ∙ covered_joined c.args.out.now.items init c.in-Some.last next c.in-Some.ensures.items (sym c.are_apart.ensures ∙ c.if-are_apart.false) key

pub returns-in_ok-push-in-Some-3-clause-in_form : goal.returns-in_ok-push-in-Some-3-clause-in_form
returns-in_ok-push-in-Some-3-clause-in_form c =
    let next = c.args.next.now in
    let init = c.pop.new.self.items in
    let items : c.push-else-are_apart.new.self.items ≡ init ++ joined c.in-Some.last next ∷ [] = c.in_ok-push-in-Some-3.ensures.items ∙ (λ i. init ++ c.in_ok-span-in-Some-2.ensures.ok i ∷ []) in
    let parts = All-pop IsSpan c.args.out.now.items init (Some c.in-Some.last) c.in-Some.ensures.items c.requires in
    subst (All IsSpan) (sym items) (All-push IsSpan init (joined c.in-Some.last next) parts.0 (joined_is_span c.in-Some.last next parts.1 c.lo-lo.ensures.in_form))

pub returns-in_ok-push-in-Some-3-clause-apart : goal.returns-in_ok-push-in-Some-3-clause-apart
returns-in_ok-push-in-Some-3-clause-apart c =
    let next = c.args.next.now in
    let init = c.pop.new.self.items in
    let items : c.push-else-are_apart.new.self.items ≡ init ++ joined c.in-Some.last next ∷ [] = c.in_ok-push-in-Some-3.ensures.items ∙ (λ i. init ++ c.in_ok-span-in-Some-2.ensures.ok i ∷ []) in
    λ begin apart. subst (λ (spans : List KeySpan). AreApart spans × BeginUpto next.lo spans) (sym items)
    (added_joined c.args.out.now.items init c.in-Some.last next c.in-Some.ensures.items c.requires c.lo-lo.ensures.in_form begin apart)
