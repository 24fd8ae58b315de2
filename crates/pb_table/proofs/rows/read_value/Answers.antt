use Rattle.std.proofs.Common.{◌≡◌, get_or, arith}
use Rattle.pb_table.proofs.ItemLemmas.{long_value}
use Rattle.pb_table.proofs.rows.read_value.Goals as goal

pub returns-then-value-gt-MAX_VALUE-clause-none : goal.returns-then-value-gt-MAX_VALUE-clause-none
returns-then-value-gt-MAX_VALUE-clause-none c =
    let first : get_or c.args.from.now 0 0 ≡ 1 = omega arith in
    long_value c.args.from.now c.in-Some.value.now c.in-Some.rest.now c.in-1.len_at_least first c.in-Some.ensures.found c.in-Some.ensures.short c.if-value-gt-MAX_VALUE.true
