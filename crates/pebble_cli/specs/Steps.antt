-- The lines that are built.
use Rattle.pb_script.specs.declared.command.Command.TheVariants as command
use Rattle.pb_script.specs.declared.line.Line.{Line}
use Rattle.pb_script.specs.declared.line.Line.TheVariants as line
use Rattle.pebble_cli.specs.Lines.{store_a}
use Rattle.pebble_cli.specs.declared.step.Step.{Step}
use Rattle.pebble_cli.specs.declared.step.Step.TheVariants.{Open, Set, Get}

abbrev pub as_line : Step → Line
as_line Open = line.Open store_a
as_line (Set key value) = line.Whole store_a (command.Set key value)
as_line (Get key) = line.Whole store_a (command.Get key)
