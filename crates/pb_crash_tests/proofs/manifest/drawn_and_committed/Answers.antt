use Rattle.pb_crash_tests.proofs.Committing.{never_err, still_kept}
use Rattle.pb_crash_tests.proofs.manifest.drawn_and_committed.Goals as goal

pub returns-then-branch : goal.returns-then-branch
returns-then-branch g c = record {
  kept = λ told.
      still_kept c.draw.new.self c.draw.new.version (g.D.Disk.contents c.draw.new.disk) (g.D.Disk.contents c.is_taken.new.disk)
      (c.is_taken.ensures.stays told) (c.in_ok-first.ensures.kept told (never_err _ _));
}

pub commit-requires-clause-kept : goal.commit-requires-clause-kept
commit-requires-clause-kept g c = λ told.
    still_kept c.draw.new.self c.draw.new.version (g.D.Disk.contents c.draw.new.disk) (g.D.Disk.contents c.is_taken.new.disk)
    (c.is_taken.ensures.stays told) (c.in_ok-first.ensures.kept told (never_err _ _))
