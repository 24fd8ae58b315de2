use Rattle.std.proofs.Common.{◌≡◌, drop}
use Rattle.pb_version.specs.Version.{size_of}
use Rattle.pb_version.proofs.scans.size_of.Given as goal

abbrev pub invariant-loop-backing : goal.invariant-loop-backing
invariant-loop-backing l = size_of l.backings l.number ≡ size_of (drop l.backing-index l.backings) l.number
