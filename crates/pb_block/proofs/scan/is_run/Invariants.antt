use Rattle.std.proofs.Common.{◌≡◌, length}
use Rattle.pb_block.specs.Reading.{start_of, checks}
use Rattle.pb_block.proofs.scan.is_run.Given as goal

abbrev pub invariant-loop-scan : goal.invariant-loop-scan
invariant-loop-scan g l =
    checks g.row.R (length l.scan.bytes) l.scan ≡ checks g.row.R (length l.fn.entries) (start_of l.fn.entries l.fn.restarts)

abbrev pub decreases-loop-scan : goal.decreases-loop-scan
decreases-loop-scan g l = length l.scan.bytes
