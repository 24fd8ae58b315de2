use Rattle.std.proofs.Common.{sym, ◌∙◌, arith}
use Rattle.pb_memtable.specs.Search.{rows_at}
use Rattle.pb_memtable.proofs.Placing.{end_without_suffix, ends_rise}
use Rattle.pb_memtable.proofs.SearchLaws.{length-rows_at}
use Rattle.pb_rows.proofs.NormalSpans.{end_is_prefix}
use Rattle.pb_memtable.proofs.within.rows_within.Goals as goal

pub returns-clause-within : goal.returns-clause-within
returns-clause-within c =
    let span = c.args.span.now in let is = c.lo.ensures.in_form in
    let rows = rows_at c.args.changes.now c.args.places.now in
    let starts = c.place_of-from.ensures span.lo (c.lo.ensures.value
    ∙ sym (end_is_prefix span.lo is.lo)) (sym (end_without_suffix span.lo is.lo)) in
    let ends = c.place_of-to.ensures span.hi (c.hi.ensures.value
    ∙ sym (end_is_prefix span.hi is.hi)) (sym (end_without_suffix span.hi is.hi)) in
    record {
      in_form = is;
      starts = starts;
      ends = ends;
      rises = ends_rise rows span c.place_of-from.result
          c.place_of-to.result is starts ends;
    }

pub returns-clause-bound : goal.returns-clause-bound
returns-clause-bound c =
    let span = c.args.span.now in let is = c.lo.ensures.in_form in
    let ends = c.place_of-to.ensures span.hi (c.hi.ensures.value
    ∙ sym (end_is_prefix span.hi is.hi)) (sym (end_without_suffix span.hi is.hi)) in
    omega (arith, ends.within, length-rows_at c.args.changes.now c.args.places.now)
