use Rattle.std.proofs.Common.{◌≡◌, ◌-◌, ◌++◌}
use Rattle.pb_mem.specs.Files.{pattern}
use Rattle.pb_mem.proofs.file.pattern_bytes.Given as goal

-- the bytes so far, and those of the places that are left, are the pattern
abbrev pub invariant-loop-place : goal.invariant-loop-place
invariant-loop-place l = l.bytes.items ++ pattern l.pick l.place (l.place-end - l.place) ≡ pattern l.pick l.at l.n
