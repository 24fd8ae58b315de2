use Rattle.std.proofs.Common.{◌≡◌, ◌++◌, ◌≤◌, ◌-◌, true, length, take}
use Rattle.pebble_cli.proofs.print.write_all.Given as goal

abbrev pub invariant-loop-at : goal.invariant-loop-at
invariant-loop-at g l = record {
  within : l.at ≤ length l.text;
  taken : g.O.Sink.told ≡ true → g.O.Sink.taken l.out ≡ g.O.Sink.taken l.initial.out ++ take l.at l.text;
  calm : g.O.Sink.fault_count l.out ≡ g.O.Sink.fault_count l.initial.out;
}

abbrev pub decreases-loop-at : goal.decreases-loop-at
decreases-loop-at g l = length l.text - l.at
