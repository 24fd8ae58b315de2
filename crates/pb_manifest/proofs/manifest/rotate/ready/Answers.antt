use Rattle.pb_version.proofs.Spelling.{spellable_edit}
use Rattle.pb_manifest.proofs.manifest.rotate.ready.Goals as goal

pub prepare-requires : goal.prepare-requires
prepare-requires c = spellable_edit c.args.edit.now c.requires.edit
