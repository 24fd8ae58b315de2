use Rattle.std.proofs.Common.{sym, ◌∙◌}
use Rattle.pb_catalog.proofs.Pairs.{stands_among}
use Rattle.pb_catalog.proofs.entries.stands.Goals as goal

pub returns : goal.returns
returns c = c.contains_key.ensures ∙ sym (stands_among c.args.number c.args.entries.now.entries)
