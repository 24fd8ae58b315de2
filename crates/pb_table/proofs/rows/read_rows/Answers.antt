use Rattle.std.proofs.Common.{◌≡◌, ◌+◌, ◌∷◌, [], List, length, sym, ap, ◌∙◌, subst, arith, length-append}
use Rattle.pb_rows.specs.Layer.{KeyRow}
use Rattle.pb_table.specs.Spelling.{row_spelling}
use Rattle.pb_table.specs.Spells.{IsTableRow}
use Rattle.pb_table.proofs.CountedLemmas.{ReadSoFar, read_more, stops_short}
use Rattle.pb_table.proofs.ItemLemmas.{one_row}
use Rattle.pb_table.proofs.rows.read_rows.Goals as goal

pub returns-in_default-2-clause-none : goal.returns-in_default-2-clause-none
returns-in_default-2-clause-none c =
    stops_short row_spelling IsTableRow one_row c.args.from.now c.in-Some.count c.loop.rows.items c.loop.rest.now c.loop.invariant.so_far
    (omega arith) (omega arith) (rw c.in_default-2.is at c.in_ok-row.ensures.none)

pub loop-preserved : goal.loop-preserved
loop-preserved c =
    let more : length c.push.new.self.items ≡ length c.loop.rows.items + 1 =
    ap length c.in_ok-push.ensures.items ∙ length-append c.loop.rows.items (c.in-Some-2.row ∷ []) in
    record {
      number = omega (arith, more, c.loop.invariant.number);
      so_far = subst (λ (items : List KeyRow). ReadSoFar row_spelling IsTableRow c.args.from.now c.in-Some.count items c.in-Some-2.behind.now) (sym c.in_ok-push.ensures.items)
          (read_more row_spelling IsTableRow c.args.from.now c.in-Some.count c.loop.rows.items c.loop.rest.now c.in-Some-2.row c.in-Some-2.behind.now c.loop.invariant.so_far
          (rw c.in-Some-2.is at c.in_ok-row.ensures.found) (rw c.in-Some-2.is at c.in_ok-row.ensures.in_form));
    }
