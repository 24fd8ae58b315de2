use Rattle.pb_rows.proofs.LayeringLaws.{applied-over}
use Rattle.pb_rangedel.proofs.laws.over_does_both.Goals as goal

pub returns : goal.returns
returns c = applied-over
