use Rattle.std.proofs.Common.{sym, ◌∙◌, subst}
use Rattle.pb_memtable.specs.Search.{rows_at}
use Rattle.pb_memtable.proofs.HeldParts.{rise-held, rows_at-between, rows-held}
use Rattle.pb_rows.specs.Layer.{Rise}
use Rattle.pb_memtable.proofs.within.places_within.Goals as goal

pub returns-clause-rise : goal.returns-clause-rise
returns-clause-rise c =
    let rows = rows_at c.args.changes.now c.args.places.now in let span = c.args.span.now in
    let from = c.rows_within-from.result.0 in let to = c.rows_within-from.result.1 in
    subst Rise (sym (rows_at-between c.args.changes.now c.args.places.now from to
    ∙ sym (rows-held rows span from to c.rows_within-from.ensures.within))) (rise-held rows span c.requires.rise)

pub returns-clause-rows : goal.returns-clause-rows
returns-clause-rows c =
    let rows = rows_at c.args.changes.now c.args.places.now in
    let from = c.rows_within-from.result.0 in let to = c.rows_within-from.result.1 in
    rows_at-between c.args.changes.now c.args.places.now from to
    ∙ sym (rows-held rows c.args.span.now from to c.rows_within-from.ensures.within)
