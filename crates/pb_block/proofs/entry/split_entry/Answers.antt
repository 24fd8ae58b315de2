use Rattle.std.proofs.Common.{sym}
use Rattle.pb_block.proofs.Entries.{entry_takes, entry_shorter}
use Rattle.pb_block.proofs.entry.split_entry.Goals as goal

pub returns-clause-shared : goal.returns-clause-shared
returns-clause-shared c = (entry_takes c.args.before c.args.from.now _ (sym c.in_ok-entry.ensures)).shared

pub returns-clause-within : goal.returns-clause-within
returns-clause-within c = (entry_takes c.args.before c.args.from.now _ (sym c.in_ok-entry.ensures)).within

pub returns-clause-shorter : goal.returns-clause-shorter
returns-clause-shorter c = entry_shorter c.args.before c.args.from.now _ (sym c.in_ok-entry.ensures)
