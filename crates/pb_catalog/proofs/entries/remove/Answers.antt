use Rattle.std.proofs.Common.{ap, ◌∙◌}
use Rattle.pb_catalog.specs.Entered.{entries_of}
use Rattle.pb_catalog.proofs.Pairs.{dropped_among}
use Rattle.pb_catalog.proofs.entries.remove.Goals as goal

pub returns : goal.returns
returns c =
    ap entries_of c.shift_remove.ensures.entries ∙ dropped_among c.args.number c.args.entries.now.entries c.len-len.ensures.unique
