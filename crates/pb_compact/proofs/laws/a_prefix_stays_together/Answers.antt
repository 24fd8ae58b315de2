use Rattle.std.proofs.lemmas.List.Elements.{All-contains}
use Rattle.pb_compact.specs.Outputs.{outputs_of}
use Rattle.pb_compact.proofs.TogetherLaws.{HasAllOfAPrefix, prefixes_stay}
use Rattle.pb_compact.proofs.laws.a_prefix_stays_together.Goals as goal

pub returns : goal.returns
returns c layer output row other has = All-contains (HasAllOfAPrefix layer) (outputs_of layer) output (prefixes_stay layer) has row other
