use Rattle.std.proofs.Common.{ap, ◌∙◌}
use Rattle.std.specs.Cmp.Lexicographic.{slice_cmp}
use Rattle.std.specs.FinMap.{get, get-empty}
use Rattle.std.specs.Ordering.{nat_cmp}
use Rattle.pb_mem.specs.Disk.{DiskView}
use Rattle.pb_crash_tests.proofs.Driving.{never_stood}
use Rattle.pb_crash_tests.proofs.disk.new_disk.Goals as goal

pub returns : goal.returns
returns c = λ name.
    never_stood c.new.result.slots name (ap (λ (d : DiskView). get d.slots name) c.new.ensures ∙ get-empty (slice_cmp nat_cmp) name)
