use Rattle.pb_synth.proofs.WithinLaws.{prefixes_rise}
use Rattle.pb_synth.proofs.laws.mapped_prefixes_rise.Goals as goal

pub returns : goal.returns
returns c = prefixes_rise
