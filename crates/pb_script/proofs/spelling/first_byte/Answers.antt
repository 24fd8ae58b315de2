use Rattle.std.proofs.Common.{sym, ◌∙◌}
use Rattle.std.proofs.lemmas.Result.{err_from_is_err_and}
use Rattle.pb_script.proofs.Coded.{coded_ok, plain_ok, coded_err, off_err}
use Rattle.pb_script.proofs.spelling.first_byte.Goals as goal

pub returns-in_err-hex_pair-clause-err : goal.returns-in_err-hex_pair-clause-err
returns-in_err-hex_pair-clause-err c =
    let p = err_from_is_err_and c.from_residual.result c.from_residual.ensures.1 in
    rw (p.1, p.2) (coded_err c.in_err-hex_pair.field-0.0 c.args.text.now c.if-text-ge3.true c.if-text-eq37.true c.in_err-hex_pair.ensures)

pub returns-then-text-ge3-clause-ok : goal.returns-then-text-ge3-clause-ok
returns-then-text-ge3-clause-ok c = coded_ok c.args.text.now c.in_ok-hex_pair.field-0 c.if-text-ge3.true c.if-text-eq37.true c.in_ok-hex_pair.ensures

pub returns-then-is_plain-clause-ok : goal.returns-then-is_plain-clause-ok
returns-then-is_plain-clause-ok c = plain_ok c.args.text.now c.requires (sym c.is_plain.ensures ∙ c.if-is_plain.true)

pub returns-clause-err : goal.returns-clause-err
returns-clause-err c = off_err c.args.text.now c.requires (sym c.is_plain.ensures ∙ c.if-is_plain.false) c.else-text-eq37.either
