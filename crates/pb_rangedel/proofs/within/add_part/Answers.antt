use Rattle.std.proofs.Common.{◌++◌, ◌∷◌, [], sym, ap, ◌∙◌, List}
use Rattle.std.proofs.lemmas.List.{append-nil}
use Rattle.pb_keys.specs.Span.{KeySpan, span_of}
use Rattle.pb_rangedel.proofs.PartCases.{none_stays, span_stays, bounds_stay, front_stays, back_stays}
use Rattle.pb_rangedel.proofs.within.add_part.Goals as goal
use Rattle.pb_rangedel.proofs.within.add_part.Goals.{in-Equal+in_ok-part-in-Equal, in-StartedBy+in_ok-part-in-StartedBy, in-Overlaps+in_ok-part-in-Overlaps, in-OverlappedBy+in_ok-part-in-OverlappedBy}

pub returns-in-Before-clause-added : goal.returns-in-Before-clause-added
returns-in-Before-clause-added c =
    let none = none_stays c.relation.result c.args.span.now c.args.bounds.now c.relation.ensures.holds c.in-Before.is in
    sym (ap (λ (part : List KeySpan). c.args.out.now.items ++ part) none ∙ append-nil c.args.out.now.items)

pub returns-clause-added : goal.returns-clause-added
returns-clause-added c =
    let span = c.args.span.now in let bounds = c.args.bounds.now in
    let rel = c.relation.result in
    let holds = c.relation.ensures.holds in
    let in_form = c.relation.ensures.in_form in
    c.in_ok-push.ensures.items ∙ ap (λ (part : List KeySpan). c.args.out.now.items ++ part) (elim c.match-relation.branch [
      | in-Equal+in_ok-part-in-Equal w ↦ (λ i. (w.part-is ∙ w.in_ok-part-in-Equal.ensures.ok) i ∷ []) ∙ sym (span_stays rel span bounds holds in_form.0 w.in-Equal.is)
      | in-StartedBy+in_ok-part-in-StartedBy w ↦ (λ i. (w.part-is ∙ w.in_ok-part-in-StartedBy.ensures.ok) i ∷ []) ∙ sym (bounds_stay rel span bounds holds in_form.1 w.in-StartedBy.is)
      | in-Overlaps+in_ok-part-in-Overlaps w ↦
          (λ i. (w.part-is ∙ w.in_ok-part-in-Overlaps.ensures.ok ∙ (λ j. span_of (w.lo.ensures.value j) (w.hi.ensures.value j))) i ∷ []) ∙ sym (front_stays rel span bounds holds in_form.0 w.in-Overlaps.is)
      | in-OverlappedBy+in_ok-part-in-OverlappedBy w ↦
          (λ i. (w.part-is ∙ w.in_ok-part-in-OverlappedBy.ensures.ok ∙ (λ j. span_of (w.lo-in-OverlappedBy.ensures.value j) (w.hi-in-OverlappedBy.ensures.value j))) i ∷ []) ∙ sym (back_stays rel span bounds holds in_form.0 w.in-OverlappedBy.is)
    ])
