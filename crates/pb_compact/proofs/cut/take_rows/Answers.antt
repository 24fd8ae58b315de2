use Rattle.std.proofs.Common.{List, ◌++◌, sym, ap, ◌∙◌, subst}
use Rattle.std.proofs.lemmas.List.{append-nil}
use Rattle.pb_rows.specs.Layer.{KeyRow}
use Rattle.pb_rows.proofs.RowsOver.{Rising, rising_from_rise, rise_from_rising, rising-drop}
use Rattle.pb_compact.proofs.RowsCut.{first_taken, first_left, taken_whole, left_whole}
use Rattle.pb_compact.proofs.cut.take_rows.Goals as goal

pub loop-rows-preserved : goal.loop-rows-preserved
loop-rows-preserved c =
    let end = c.args.end.now in
    let rows = c.loop-rows.rows.items in
    let left = c.move_first.new.from.items in
    let first = sym c.is_first_below.ensures ∙ c.loop-rows-test.true in
    let rest = c.in_ok-move_first.ensures.left in
    record {
      taken = first_taken end rows c.loop-rows.taken.items c.move_first.new.out.items left first c.in_ok-move_first.ensures.out rest
          ∙ c.loop-rows.invariant.taken;
      left = first_left end rows left first rest ∙ c.loop-rows.invariant.left;
      rise = rise_from_rising left (subst Rising (sym rest) (rising-drop 1 rows (rising_from_rise rows c.loop-rows.invariant.rise)));
    }

pub returns-clause-taken : goal.returns-clause-taken
returns-clause-taken c =
    let taken = c.loop-rows.taken.items in
    let rows = c.loop-rows.rows.items in
    let none = taken_whole c.args.end.now rows (rising_from_rise rows c.loop-rows.invariant.rise)
    (sym c.is_first_below.ensures ∙ c.loop-rows-test.false) in
    sym (append-nil taken) ∙ ap (λ (rs : List KeyRow). taken ++ rs) (sym none) ∙ c.loop-rows.invariant.taken

pub returns-clause-left : goal.returns-clause-left
returns-clause-left c =
    let rows = c.loop-rows.rows.items in
    sym (left_whole c.args.end.now rows (rising_from_rise rows c.loop-rows.invariant.rise)
    (sym c.is_first_below.ensures ∙ c.loop-rows-test.false))
    ∙ c.loop-rows.invariant.left
