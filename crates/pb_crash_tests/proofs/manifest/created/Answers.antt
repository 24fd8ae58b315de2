use Rattle.std.proofs.Common.{◌∙◌}
use Rattle.pb_manifest.specs.Manifest.{manifest_name}
use Rattle.pb_names.specs.Spelling.{current_name}
use Rattle.pb_crash_tests.proofs.manifest.created.Goals as goal

pub create-requires-clause-absent : goal.create-requires-clause-absent
create-requires-clause-absent g c = λ told. (c.in-Ok.ensures.ok told).seen (manifest_name 1) ∙ c.requires.absent told

pub create-requires-clause-settled : goal.create-requires-clause-settled
create-requires-clause-settled g c = λ told. (c.in-Ok.ensures.ok told).settled current_name
