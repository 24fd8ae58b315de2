use Rattle.std.proofs.Common.{◌≡◌, Option, IfSome, ◌∙◌, subst}
use Rattle.pb_keys.specs.Key.{IsKey}
use Rattle.pb_rows.specs.Layer.{KeyRow}
use Rattle.pb_rows.specs.Viewed.{mapped_key, mapped_row}
use Rattle.pb_folder_reader.proofs.Lists.{All_next, map_next}
use Rattle.pb_folder_reader.proofs.shown.mapped_rows.Goals as goal

pub loop-row-preserved : goal.loop-row-preserved
loop-row-preserved c =
    let i = c.loop-row.row-index in
    let rows = c.args.rows.now in
    let view = c.args.view.now in
    let row = c.row-item.result in
    let is = subst (λ (o : Option KeyRow). IfSome o (λ mapped. mapped ≡ mapped_row view row)) c.in-Some.is c.in_ok-row.ensures.some in
    let in_form = subst (λ (o : Option KeyRow). IfSome o (λ mapped. IsKey (mapped_key view row.key))) c.in-Some.is c.in_ok-row.ensures.in_form in
    record {
      mapped =
          c.in_ok-push.ensures.items
          ∙ map_next (mapped_row view) rows i row c.loop-row.mapped.items c.in-Some.row c.loop-row-test.true c.row-item.is c.loop-row.invariant.mapped is;
      in_form = All_next (λ row. IsKey (mapped_key view row.key)) rows i row c.loop-row-test.true c.row-item.is c.loop-row.invariant.in_form in_form;
    }
