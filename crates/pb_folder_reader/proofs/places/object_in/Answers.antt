use Rattle.std.proofs.Common.{◌∙◌}
use Rattle.pb_folder_reader.proofs.Objects.{listed}
use Rattle.pb_folder_reader.proofs.places.object_in.Goals as goal

pub returns : goal.returns
returns c = c.bytes_in.ensures ∙ listed c.args.objects.now c.args.name.now
