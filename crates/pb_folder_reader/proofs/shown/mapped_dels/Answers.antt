use Rattle.std.proofs.Common.{◌≡◌, Option, IfSome, ◌∙◌, subst}
use Rattle.pb_keys.specs.Span.{KeySpan, IsSpan}
use Rattle.pb_rows.specs.Viewed.{mapped_span}
use Rattle.pb_folder_reader.proofs.Lists.{All_next, map_next}
use Rattle.pb_folder_reader.proofs.shown.mapped_dels.Goals as goal

pub loop-span-preserved : goal.loop-span-preserved
loop-span-preserved c =
    let i = c.loop-span.span-index in
    let dels = c.args.dels.now in
    let view = c.args.view.now in
    let span = c.span-item.result in
    let is = subst (λ (o : Option KeySpan). IfSome o (λ mapped. mapped ≡ mapped_span view span)) c.in-Some.is c.in_ok-span.ensures.some in
    let in_form = subst (λ (o : Option KeySpan). IfSome o (λ mapped. IsSpan (mapped_span view span))) c.in-Some.is c.in_ok-span.ensures.in_form in
    record {
      mapped =
          c.in_ok-push.ensures.items
          ∙ map_next (mapped_span view) dels i span c.loop-span.mapped.items c.in-Some.span c.loop-span-test.true c.span-item.is c.loop-span.invariant.mapped is;
      in_form = All_next (λ span. IsSpan (mapped_span view span)) dels i span c.loop-span-test.true c.span-item.is c.loop-span.invariant.in_form in_form;
    }
