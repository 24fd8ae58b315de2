use Rattle.std.proofs.Common.{List, ap, sym, ◌∙◌}
use Rattle.std.specs.List.{list_all}
use Rattle.pb_script.specs.Script.{Lines}
use Rattle.pb_script.specs.declared.line.Line.{Line}
use Rattle.pebble_cli.specs.Lines.{is_built}
use Rattle.pebble_cli.proofs.FaultLines.{whole_read, whole_built}
use Rattle.pebble_cli.proofs.lines.read_lines.Goals as goal

pub returns-in-None-clause-whole : goal.returns-in-None-clause-whole
returns-in-None-clause-whole c =
    whole_read c.args.script.now c.in_ok-read.read c.in_ok-read.ensures.ok (sym c.fault_of.ensures ∙ c.in-None.is)
    ∙ ap (λ (lines : List Line). Lines lines) (sym c.into_lines.ensures)

pub returns-in-None-clause-built : goal.returns-in-None-clause-built
returns-in-None-clause-built c = ap (list_all is_built) c.into_lines.ensures ∙ whole_built c.in_ok-read.read (sym c.fault_of.ensures ∙ c.in-None.is)
