use Rattle.std.proofs.Common.{◌≡◌, ◌++◌, ◌≤◌, ◌<◌, ◌-◌, true, length, vec_len}
use Rattle.pebble_cli.proofs.script.read_script.Given as goal

abbrev pub invariant-loop-piece : goal.invariant-loop-piece
invariant-loop-piece g l = record {
  piece : 0 < length l.piece;
  short : vec_len l.script ≤ 16777217;
  read : g.I.Source.told ≡ true → l.script.items ++ g.I.Source.left l.source ≡ g.I.Source.left l.initial.source;
  later : g.I.Source.fault_count l.initial.source ≤ g.I.Source.fault_count l.source;
}

abbrev pub decreases-loop-piece : goal.decreases-loop-piece
decreases-loop-piece g l = 16777217 - vec_len l.script
