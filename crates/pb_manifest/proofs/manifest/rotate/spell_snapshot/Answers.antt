use Rattle.pb_manifest.proofs.Snapshot.{snapshot_says, snapshot_short}
use Rattle.pb_manifest.proofs.manifest.rotate.spell_snapshot.Goals as goal

pub returns-clause-says : goal.returns-clause-says
returns-clause-says c =
    snapshot_says c.args.version.now c.in_ok-snapshot.snapshot c.in_ok-bytes.bytes.items (c.in_ok-snapshot.ensures.folds c.requires)
    c.in_ok-snapshot.ensures.in_form c.in_ok-bytes.ensures

pub returns-clause-short : goal.returns-clause-short
returns-clause-short c =
    snapshot_short c.args.version.now c.in_ok-snapshot.snapshot c.in_ok-bytes.bytes.items (c.in_ok-snapshot.ensures.folds c.requires)
    c.in_ok-snapshot.ensures.in_form c.in_ok-snapshot.ensures.ok c.in_ok-bytes.ensures
