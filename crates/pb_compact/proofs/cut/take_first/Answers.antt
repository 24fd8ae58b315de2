use Rattle.std.proofs.Common.{◌≡◌, List, ◌∷◌, [], ◌++◌, true, false, sym, ap, ◌∙◌}
use Rattle.pb_keys.specs.Order.{is_below}
use Rattle.pb_keys.specs.Span.{KeySpan, span_of}
use Rattle.pb_compact.specs.Cutting.{begins_below}
use Rattle.pb_compact.proofs.SpansCut.{below_whole, below_split, from_split}
use Rattle.pb_compact.proofs.cut.take_first.Goals as goal

pub returns-then-not-is_below-clause-out : goal.returns-then-not-is_below-clause-out
returns-then-not-is_below-clause-out c first rest is =
    let end = c.args.end.now in
    let out = c.args.out.now.items in
    let lists : c.in-Some.first ∷ c.pop_front.new.self.items ≡ first ∷ rest = sym c.in-Some.ensures.items ∙ is in
    let same : c.in-Some.first ≡ first = cc in
    let begins : is_below first.lo end ≡ true = ap (begins_below end) (sym is) ∙ c.requires.begins in
    let whole : is_below end first.hi ≡ false = ap (λ (s : KeySpan). is_below end s.hi) (sym same)
    ∙ ap (is_below end) (sym c.hi.ensures.value)
    ∙ sym c.is_below.ensures ∙ c.if-not-is_below.true in
    c.in_ok-push.ensures.items ∙ ap (λ (s : KeySpan). out ++ s ∷ []) same
    ∙ ap (λ (ss : List KeySpan). out ++ ss) (sym (below_whole end first begins whole))

pub returns-clause-out : goal.returns-clause-out
returns-clause-out c first rest is =
    let end = c.args.end.now in
    let out = c.args.out.now.items in
    let lists : c.in-Some.first ∷ c.pop_front.new.self.items ≡ first ∷ rest = sym c.in-Some.ensures.items ∙ is in
    let same : c.in-Some.first ≡ first = cc in
    let begins : is_below first.lo end ≡ true = ap (begins_below end) (sym is) ∙ c.requires.begins in
    let split : is_below end first.hi ≡ true = ap (λ (s : KeySpan). is_below end s.hi) (sym same)
    ∙ ap (is_below end) (sym c.hi.ensures.value)
    ∙ sym c.is_below.ensures ∙ c.if-not-is_below.false in
    let taken : c.in_ok-taken.taken ≡ span_of first.lo end = c.in_ok-taken.ensures.ok
    ∙ ap (λ lo. span_of lo end) (c.lo.ensures.value ∙ ap (λ (s : KeySpan). s.lo) same) in
    c.in_ok-push-2.ensures.items ∙ ap (λ (s : KeySpan). out ++ s ∷ []) taken
    ∙ ap (λ (ss : List KeySpan). out ++ ss) (sym (below_split end first begins split))

pub returns-clause-left : goal.returns-clause-left
returns-clause-left c first rest is =
    let end = c.args.end.now in
    let lists : c.in-Some.first ∷ c.pop_front.new.self.items ≡ first ∷ rest = sym c.in-Some.ensures.items ∙ is in
    let same : c.in-Some.first ≡ first = cc in
    let others : c.pop_front.new.self.items ≡ rest = cc in
    let begins : is_below first.lo end ≡ true = ap (begins_below end) (sym is) ∙ c.requires.begins in
    let split : is_below end first.hi ≡ true = ap (λ (s : KeySpan). is_below end s.hi) (sym same)
    ∙ ap (is_below end) (sym c.hi.ensures.value)
    ∙ sym c.is_below.ensures ∙ c.if-not-is_below.false in
    let left : c.in_ok-left.left ≡ span_of end first.hi = c.in_ok-left.ensures.ok
    ∙ ap (span_of end) (c.hi-2.ensures.value ∙ ap (λ (s : KeySpan). s.hi) same) in
    c.in_ok-push_front.ensures.items ∙ (λ i. left i ∷ others i)
    ∙ ap (λ (ss : List KeySpan). ss ++ rest) (sym (from_split end first begins split))
