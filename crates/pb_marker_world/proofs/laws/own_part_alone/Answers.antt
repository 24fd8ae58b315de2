use Rattle.pb_marker_world.proofs.Steady.{goes_reads, goes_changes}
use Rattle.pb_marker_world.proofs.laws.own_part_alone.Goals as goal

pub returns-clause-reads : goal.returns-clause-reads
returns-clause-reads c = goes_reads

pub returns-clause-changes : goal.returns-clause-changes
returns-clause-changes c = goes_changes
