use Rattle.std.proofs.Common.{◌≡◌, ◌++◌, take}
use Rattle.pb_edit.specs.Grammar.{items}
use Rattle.pb_edit.proofs.item.put_items.Given as goal

abbrev pub invariant-loop-item : goal.invariant-loop-item
invariant-loop-item g l = l.out.items ≡ l.fn.out.items ++ items g.T.Item.form.byte g.T.Item.content (take l.item-index l.list)
