use Rattle.std.proofs.Common.{◌≡◌, ◌+◌, ◌≤◌, length}
use Rattle.pb_script.specs.Runs.{with_numbers, AreKept}
use Rattle.pb_script.specs.Script.{behind_lines, numbered_from, numbered}
use Rattle.pb_script.specs.Texts.{texts_of}
use Rattle.pb_script.proofs.script.parse_numbered.Given as goal

abbrev pub invariant-loop-rest : goal.invariant-loop-rest
invariant-loop-rest l = record {
  short : l.number + length l.rest ≤ length l.script + 1;
  first : l.block ≤ l.number;
  kept : AreKept l.runs.runs.items l.runs.next (length l.lines.items);
  read : numbered l.script ≡ behind_lines (with_numbers l.runs.runs.items l.lines.items) (numbered_from l.place l.block l.number (texts_of l.rest));
}

abbrev pub decreases-loop-rest : goal.decreases-loop-rest
decreases-loop-rest l = length l.rest
