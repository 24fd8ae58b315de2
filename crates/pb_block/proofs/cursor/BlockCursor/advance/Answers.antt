use Rattle.std.proofs.Common.{sym}
use Rattle.pb_block.proofs.Cursors.{advance_none, advance_some}
use Rattle.pb_block.proofs.cursor.BlockCursor.advance.Goals as goal

pub returns-in_default-clause-moves : goal.returns-in_default-clause-moves
returns-in_default-clause-moves c =
    advance_none c.self.inside.standing _ c.self.inside.key c.self.inside.rest.now c.len.result c.args.self.now
    (sym c.if-is_before_row.ensures) c.self.view_is c.len.ensures.value c.in_default.ensures.exact

pub returns-clause-moves : goal.returns-clause-moves
returns-clause-moves c =
    advance_some c.self.inside.standing _ c.self.inside.key c.self.inside.rest.now c.put.new.self c.in-Some.rest.now c.in-Some.entry _
    c.len.result c.args.self.now (sym c.if-is_before_row.ensures) c.self.view_is
    c.len.ensures.value c.in-Some.ensures.exact c.entry.view_is c.put.ensures
