use Rattle.std.proofs.Common.{arith}
use Rattle.pb_bytes.proofs.Steps.{some_left}
use Rattle.pb_table.proofs.TableLemmas.{ReadDels, ReadRows, no_dels, no_rows, only, found_layer, no_layer, none_left}
use Rattle.pb_table.proofs.table.read_format_1.Goals as goal

pub returns-in_default-clause-none : goal.returns-in_default-clause-none
returns-in_default-clause-none c = no_dels c.args.from.now (rw c.in_default.is at c.in_ok-dels.ensures.none)

pub returns-in_default-2-clause-none : goal.returns-in_default-2-clause-none
returns-in_default-2-clause-none c =
    let dels : ReadDels c.args.from.now c.in-Some.dels.items c.in-Some.rest.now =
    record { split = rw c.in-Some.is at c.in_ok-dels.ensures.found; in_form = rw c.in-Some.is at c.in_ok-dels.ensures.in_form; fits = omega arith } in
    no_rows c.args.from.now c.in-Some.dels.items c.in-Some.rest.now dels (rw c.in_default-2.is at c.in_ok-rows.ensures.none)

pub returns-then-not-is_empty-clause-none : goal.returns-then-not-is_empty-clause-none
returns-then-not-is_empty-clause-none c = λ layer spells.
    let dels : ReadDels c.args.from.now c.in-Some.dels.items c.in-Some.rest.now =
    record { split = rw c.in-Some.is at c.in_ok-dels.ensures.found; in_form = rw c.in-Some.is at c.in_ok-dels.ensures.in_form; fits = omega arith } in
    let rows : ReadRows c.in-Some.rest.now c.in-Some-2.rows.items c.in-Some-2.rest.now =
    record { split = rw c.in-Some-2.is at c.in_ok-rows.ensures.found; in_form = rw c.in-Some-2.is at c.in_ok-rows.ensures.in_form; fits = omega arith } in
    some_left c.in-Some-2.rest.now c.if-not-is_empty.ensures
    (only c.args.from.now c.in-Some.dels.items c.in-Some.rest.now c.in-Some-2.rows.items c.in-Some-2.rest.now dels rows layer spells).ends

pub returns-clause-found : goal.returns-clause-found
returns-clause-found c =
    let dels : ReadDels c.args.from.now c.in-Some.dels.items c.in-Some.rest.now =
    record { split = rw c.in-Some.is at c.in_ok-dels.ensures.found; in_form = rw c.in-Some.is at c.in_ok-dels.ensures.in_form; fits = omega arith } in
    let rows : ReadRows c.in-Some.rest.now c.in-Some-2.rows.items c.in-Some-2.rest.now =
    record { split = rw c.in-Some-2.is at c.in_ok-rows.ensures.found; in_form = rw c.in-Some-2.is at c.in_ok-rows.ensures.in_form; fits = omega arith } in
    found_layer c.args.from.now c.in-Some.dels.items c.in-Some.rest.now c.in-Some-2.rows.items c.in-Some-2.rest.now dels rows
    (none_left c.in-Some-2.rest.now c.is_empty.result c.is_empty.ensures c.if-not-is_empty.false) (omega arith)
    c.in_ok-layer.layer c.in_ok-layer.ensures.value c.in_ok-layer.ensures.in_form c.in_ok-layer.ensures.filled

pub returns-clause-none : goal.returns-clause-none
returns-clause-none c =
    let dels : ReadDels c.args.from.now c.in-Some.dels.items c.in-Some.rest.now =
    record { split = rw c.in-Some.is at c.in_ok-dels.ensures.found; in_form = rw c.in-Some.is at c.in_ok-dels.ensures.in_form; fits = omega arith } in
    let rows : ReadRows c.in-Some.rest.now c.in-Some-2.rows.items c.in-Some-2.rest.now =
    record { split = rw c.in-Some-2.is at c.in_ok-rows.ensures.found; in_form = rw c.in-Some-2.is at c.in_ok-rows.ensures.in_form; fits = omega arith } in
    no_layer c.args.from.now c.in-Some.dels.items c.in-Some.rest.now c.in-Some-2.rows.items c.in-Some-2.rest.now dels rows
    c.in_ok-layer.layer c.in_ok-layer.ensures.none
