use Rattle.pb_counts.proofs.Used.{same_counts}
use Rattle.pb_counts.proofs.laws.counted_from_scratch.Goals as goal

pub returns : goal.returns
returns c = same_counts c.args.one.now c.args.other.now c.in_form.ensures c.in_form-2.ensures
