use Rattle.std.proofs.Common.{◌∙◌, ap}
use Rattle.pb_rows.specs.Verdict.{row_verdict, verdict}
use Rattle.pb_rows.proofs.VerdictLaws.{verdict_by_row, verdict_by_spans}
use Rattle.pb_rows.proofs.layer.Layer.get.Goals as goal

pub returns-in-Some : goal.returns-in-Some
returns-in-Some c =
    c.found_in.ensures
    ∙ verdict_by_row c.self.inside.dels.items c.self.inside.rows.items c.args.key.now c.in-Some.row.now.value (c.in-Some.ensures ∙ ap (λ rows. row_verdict rows c.args.key.now) c.as_slice.ensures.value)
    ∙ ap (λ layer. verdict layer c.args.key.now) c.self.view_is

pub returns-in-None : goal.returns-in-None
returns-in-None c =
    c.found_among.ensures
    ∙ verdict_by_spans c.self.inside.dels.items c.self.inside.rows.items c.args.key.now c.as_slice-in-None.result.now c.as_slice-in-None.ensures.value (c.in-None.ensures ∙ ap (λ rows. row_verdict rows c.args.key.now) c.as_slice.ensures.value)
    ∙ ap (λ layer. verdict layer c.args.key.now) c.self.view_is
