use Rattle.pb_version.proofs.Spelling.{spellable_edit}
use Rattle.pb_manifest.proofs.create.first_version.Goals as goal

pub apply-requires : goal.apply-requires
apply-requires c = spellable_edit c.args.first.now c.requires
