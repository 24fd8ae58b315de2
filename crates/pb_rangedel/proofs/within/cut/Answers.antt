use Rattle.std.proofs.Common.{◌≡◌, ◌<◌, ◌+◌, ◌++◌, ◌∷◌, [], length, take, sym, ap, ◌∙◌, subst, arith, List}
use Rattle.std.specs.Prelude.{All}
use Rattle.std.proofs.lemmas.List.{take_all, take_more, flat_map_more}
use Rattle.std.proofs.lemmas.List.Elements.{All-more}
use Rattle.pb_keys.specs.Span.{KeySpan, IsSpan}
use Rattle.pb_rows.specs.Viewed.{cut_to, part_within}
use Rattle.pb_rows.proofs.Parts.{apart_within, parts_in_form}
use Rattle.pb_rows.specs.Layer.{AreApart}
use Rattle.pb_rows.specs.Verdict.{is_covered}
use Rattle.pb_rows.proofs.ViewLaws.{is_covered-cut}
use Rattle.pb_rangedel.proofs.within.cut.Goals as goal

pub loop-span-preserved : goal.loop-span-preserved
loop-span-preserved c =
    let bounds = c.args.bounds.now in let dels = c.args.dels.now in let at = c.loop-span.span-index in let span = c.span-item.result in
    let within : at < length dels = omega arith in
    let more : take (at + 1) dels ≡ take at dels ++ span ∷ [] = take_more dels at span within ∙ ap (λ (s : KeySpan). take at dels ++ s ∷ []) (sym c.span-item.is) in
    let added = c.in_ok-add_part.ensures in
    record {
      parts = added.added ∙ ap (λ (spans : List KeySpan). spans ++ part_within bounds span) c.loop-span.invariant.parts
          ∙ flat_map_more (part_within bounds) [] (take at dels) span ∙ ap (cut_to bounds) (sym more);
      in_form = All-more IsSpan dels at span within c.loop-span.invariant.in_form (subst IsSpan c.span-item.is added.in_form.0);
      bounds = λ _. added.in_form.1;
    }

pub returns-clause-covered : goal.returns-clause-covered
returns-clause-covered c =
    let bounds = c.args.bounds.now in let dels = c.args.dels.now in
    let whole : take c.loop-span.span-index dels ≡ dels = take_all c.loop-span.span-index dels c.loop-span-test.false in
    λ key. ap (λ (spans : List KeySpan). is_covered spans key) (c.loop-span.invariant.parts ∙ ap (cut_to bounds) whole) ∙ is_covered-cut bounds dels key

pub returns-clause-in_form : goal.returns-clause-in_form
returns-clause-in_form c =
    let bounds = c.args.bounds.now in let dels = c.args.dels.now in
    let whole : take c.loop-span.span-index dels ≡ dels = take_all c.loop-span.span-index dels c.loop-span-test.false in
    subst (All IsSpan) (sym (c.loop-span.invariant.parts ∙ ap (cut_to bounds) whole))
    (parts_in_form bounds dels (λ h. c.loop-span.invariant.bounds (omega arith)) (subst (All IsSpan) whole c.loop-span.invariant.in_form))

pub returns-clause-apart : goal.returns-clause-apart
returns-clause-apart c =
    let bounds = c.args.bounds.now in let dels = c.args.dels.now in
    let whole : take c.loop-span.span-index dels ≡ dels = take_all c.loop-span.span-index dels c.loop-span-test.false in
    λ apart. subst AreApart (sym (c.loop-span.invariant.parts ∙ ap (cut_to bounds) whole))
    (apart_within bounds dels (λ h. c.loop-span.invariant.bounds (omega arith)) (subst (All IsSpan) whole c.loop-span.invariant.in_form) apart)
