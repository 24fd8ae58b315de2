use Rattle.pb_version.proofs.MeaningLaws.{map_of-newest_first}
use Rattle.pb_version.proofs.laws.the_newest_table_counts.Goals as goal

pub returns : goal.returns
returns c = map_of-newest_first
