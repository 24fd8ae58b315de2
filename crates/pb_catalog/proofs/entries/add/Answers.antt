use Rattle.std.proofs.Common.{nat_eq, ap, ◌∙◌}
use Rattle.indexmap.proofs.CallerLemmas.{insert_entry-new}
use Rattle.pb_catalog.specs.Entered.{entries_of}
use Rattle.pb_catalog.proofs.Pairs.{absent_among, added_among}
use Rattle.pb_catalog.proofs.Results.{ok_has}
use Rattle.pb_catalog.proofs.entries.add.Goals as goal

pub returns : goal.returns
returns c =
    let pairs = c.args.entries.now.entries in
    ap entries_of (ok_has c.insert.result c.unwrap.result _ c.unwrap.ensures c.insert.ensures.entries ∙ insert_entry-new nat_eq c.args.entries.now c.args.number c.args.entry.now (absent_among c.args.number pairs c.requires.absent))
    ∙ added_among c.args.number c.args.entry.now pairs
