use Rattle.std.proofs.Common.{◌≡◌, ℕ, List, ◌++◌, OnOk, subst}
use Rattle.pb_reply.specs.LevelRow.{LevelRow}
use Rattle.pb_reply.specs.Printed.{table_line}
use Rattle.pb_reply.proofs.PrintedLemmas.{parts-table_line}
use Rattle.pb_reply.proofs.printing.append_table.Goals as goal

pub returns-clause-ok : goal.returns-clause-ok
returns-clause-ok c =
    let table : LevelRow = record {
      level = c.table.inside.level;
      number = c.table.inside.number;
      lo = c.table.inside.lo;
      hi = c.table.inside.hi;
      is_virtual = c.table.inside.is_virtual;
      backing = c.table.inside.backing;
    } in
    subst (λ (seen : LevelRow). OnOk c.append.result (c.append.new.out.items ≡ c.args.out.now.items ++ table_line seen)) c.table.view_is
    (subst (λ (text : List ℕ). OnOk c.append.result (c.append.new.out.items ≡ c.args.out.now.items ++ text))
    (parts-table_line table c.as_slice.result.now c.as_slice-2.result.now c.kind_of.result.now c.as_slice.ensures c.as_slice-2.ensures c.kind_of.ensures)
    c.append.ensures.ok)
