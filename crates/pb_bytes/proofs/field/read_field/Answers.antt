use Rattle.std.proofs.Common.{◌<◌, ◌≤◌, ◌+◌, sym, arith, length, take, drop, length-drop}
use Rattle.pb_bytes.proofs.ReadingLemmas.{field_at-off, field_at-short, field_at-whole, field_at-some, field_at-none, rest_of}
use Rattle.pb_bytes.proofs.field.read_field.Goals as goal

pub returns-in_err-len-clause-none : goal.returns-in_err-len-clause-none
returns-in_err-len-clause-none c =
    rw c.from_residual.ensures (field_at-none c.args.from.now (omega arith) (field_at-off c.args.from.now c.in_err-len.ensures.exact))

pub returns-in_err-len-clause-exact : goal.returns-in_err-len-clause-exact
returns-in_err-len-clause-exact c =
    rw c.from_residual.ensures (sym (field_at-off c.args.from.now c.in_err-len.ensures.exact))

pub returns-then-len-rest-clause-none : goal.returns-then-len-rest-clause-none
returns-then-len-rest-clause-none c =
    let short : length c.args.from.now < c.in_ok-len.used + c.in_ok-len.len = omega (arith, simp (rest_of, length-drop) at c.if-len-rest.true) in
    field_at-none c.args.from.now (omega arith) (field_at-short c.args.from.now c.in_ok-len.len c.in_ok-len.used c.in_ok-len.ensures.exact short)

pub returns-then-len-rest-clause-exact : goal.returns-then-len-rest-clause-exact
returns-then-len-rest-clause-exact c =
    let short : length c.args.from.now < c.in_ok-len.used + c.in_ok-len.len = omega (arith, simp (rest_of, length-drop) at c.if-len-rest.true) in
    sym (field_at-short c.args.from.now c.in_ok-len.len c.in_ok-len.used c.in_ok-len.ensures.exact short)

pub returns-clause-found : goal.returns-clause-found
returns-clause-found c =
    let within = c.in_ok-len.ensures.within in
    let enough : c.in_ok-len.used + c.in_ok-len.len ≤ length c.args.from.now = omega (arith, within, simp (rest_of, length-drop) at c.if-len-rest.false) in
    let read = field_at-whole c.args.from.now c.in_ok-len.len c.in_ok-len.used c.in_ok-len.ensures.exact enough in
    rw rest_of (field_at-some c.args.from.now (take c.in_ok-len.len (drop c.in_ok-len.used c.args.from.now)) (c.in_ok-len.used + c.in_ok-len.len) read).spelled

pub returns-clause-exact : goal.returns-clause-exact
returns-clause-exact c =
    let within = c.in_ok-len.ensures.within in
    let enough : c.in_ok-len.used + c.in_ok-len.len ≤ length c.args.from.now = omega (arith, within, simp (rest_of, length-drop) at c.if-len-rest.false) in
    rw rest_of (sym (field_at-whole c.args.from.now c.in_ok-len.len c.in_ok-len.used c.in_ok-len.ensures.exact enough))
