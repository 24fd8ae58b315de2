use Rattle.std.proofs.Common.{◌≡◌, drop}
use Rattle.pebble_cli.specs.Lines.{first_unbuilt}
use Rattle.pebble_cli.proofs.lines.first_unbuilt.Given as goal

abbrev pub invariant-loop-line : goal.invariant-loop-line
invariant-loop-line l = record {
  counted : l.place ≡ l.line-index;
  built : first_unbuilt l.read.lines ≡ first_unbuilt (drop l.line-index l.read.lines);
}
