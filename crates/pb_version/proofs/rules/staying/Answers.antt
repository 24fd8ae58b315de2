use Rattle.std.proofs.Common.{◌∙◌, ap, length, sym}
use Rattle.pb_version.proofs.Levels.{all_stay}
use Rattle.pb_version.proofs.rules.staying.Goals as goal

pub returns-then-not-deletes_from : goal.returns-then-not-deletes_from
returns-then-not-deletes_from c = ap length (sym (all_stay c.args.deleted.now c.args.level c.args.tables.now (sym c.deletes_from.ensures ∙ c.if-not-deletes_from.true)))
