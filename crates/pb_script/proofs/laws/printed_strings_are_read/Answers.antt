use Rattle.pb_script.proofs.Again.{string_again}
use Rattle.pb_script.proofs.laws.printed_strings_are_read.Goals as goal

pub returns : goal.returns
returns c = string_again
