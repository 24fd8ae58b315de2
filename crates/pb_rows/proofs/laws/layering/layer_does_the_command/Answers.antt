use Rattle.pb_rows.proofs.CommandLaws.{does_the_command, does_the_commands}
use Rattle.pb_rows.proofs.laws.layering.layer_does_the_command.Goals as goal

pub returns-clause-one : goal.returns-clause-one
returns-clause-one c = does_the_command

pub returns-clause-many : goal.returns-clause-many
returns-clause-many c = does_the_commands
