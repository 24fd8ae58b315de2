use Rattle.std.proofs.Common.{◌≤◌, ◌^◌, take}
use Rattle.pebble_cli.proofs.SetFacts.{ReadTo}
use Rattle.pebble_cli.proofs.open_log.read_sets.Given as goal

abbrev pub invariant-loop-payload : goal.invariant-loop-payload
invariant-loop-payload l = record {
  read : ReadTo (take l.payload-index l.payloads) l.least l.pairs;
  below : l.least ≤ 2 ^ 62;
}
