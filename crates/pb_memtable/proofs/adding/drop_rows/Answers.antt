use Rattle.std.proofs.Common.{ℕ, List, sym, ap, ◌∙◌, subst}
use Rattle.pb_memtable.specs.Search.{AreWithin, rows_at}
use Rattle.pb_memtable.proofs.Placing.{rows-dropped, rows-uncovered}
use Rattle.pb_memtable.proofs.adding.drop_rows.Goals as goal

pub returns-clause-rows : goal.returns-clause-rows
returns-clause-rows c =
    let span = c.args.span.now in
    let rows = rows_at c.args.changes.now c.args.places.now.items in
    let from = c.rows_within-from.result.0 in let to = c.rows_within-from.result.1 in
    let within : AreWithin span rows from to = subst (λ (ps : List ℕ). AreWithin span (rows_at c.args.changes.now ps) from to) c.as_slice.ensures.value c.rows_within-from.ensures.within in
    ap (rows_at c.args.changes.now) c.remove_range.ensures.items ∙ rows-dropped c.args.changes.now c.args.places.now.items from to
    ∙ sym (rows-uncovered rows span from to within.in_form within.starts within.ends within.rises)
