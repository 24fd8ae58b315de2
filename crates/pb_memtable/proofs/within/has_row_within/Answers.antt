use Rattle.std.proofs.Common.{◌<◌, ◌≤◌, length, get_or, sym, ap, ◌∙◌, arith}
use Rattle.std.proofs.lemmas.Bool.{le-ltb}
use Rattle.pb_keys.specs.Span.{holds_key}
use Rattle.pb_memtable.specs.Search.{change_at, row_of_change, rows_at}
use Rattle.pb_memtable.proofs.Covering.{row_within_here, row_within_nowhere}
use Rattle.pb_memtable.proofs.Placing.{end_without_suffix}
use Rattle.pb_memtable.proofs.SearchLaws.{row_at_place, length-rows_at}
use Rattle.pb_rows.proofs.NormalSpans.{end_is_prefix}
use Rattle.pb_memtable.proofs.within.has_row_within.Goals as goal

pub returns-then-at-places : goal.returns-then-at-places
returns-then-at-places c =
    let changes = c.args.changes.now in let places = c.args.places.now in let span = c.args.span.now in
    let is = c.lo.ensures.in_form in
    let at = c.place_of-at.result in
    let place = c.place_of-at.ensures span.lo (c.lo.ensures.value ∙ sym (end_is_prefix span.lo is.lo)) (sym (end_without_suffix span.lo is.lo)) in
    let row = row_of_change (change_at changes (get_or places at 0)) in
    let within : at < length places = omega arith in
    let rows_within : at < length (rows_at changes places) = omega (arith, length-rows_at changes places) in
    c.contains.ensures ∙ ap (holds_key span) c.key_at.ensures
    ∙ row_within_here (rows_at changes places) span at row c.requires.rise is place rows_within (sym (row_at_place changes places at row within))

pub returns-else-at-places : goal.returns-else-at-places
returns-else-at-places c =
    let changes = c.args.changes.now in let places = c.args.places.now in let span = c.args.span.now in
    let is = c.lo.ensures.in_form in
    let at = c.place_of-at.result in
    let place = c.place_of-at.ensures span.lo (c.lo.ensures.value ∙ sym (end_is_prefix span.lo is.lo)) (sym (end_without_suffix span.lo is.lo)) in
    let past : length places ≤ at = omega arith in
    let rows_past : length (rows_at changes places) ≤ at = omega (arith, length-rows_at changes places) in
    le-ltb at (length places) past ∙ sym (row_within_nowhere (rows_at changes places) span at is place rows_past)
