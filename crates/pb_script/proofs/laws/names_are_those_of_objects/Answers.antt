use Rattle.pb_script.proofs.Names.{name_again, name_from_read}
use Rattle.pb_script.proofs.laws.names_are_those_of_objects.Goals as goal

pub returns : goal.returns
returns c bytes = (name_from_read bytes, name_again bytes)
