use Rattle.std.proofs.Common.{refl}
use Rattle.pb_synth.proofs.WithinLaws.{limits_kept, without_clash, maps_from_limits}
use Rattle.pb_synth.proofs.laws.what_maps_within.Goals as goal

pub returns : goal.returns
returns c = λ view layer mapping of. (
  λ within. (limits_kept view layer within, without_clash view.suffix view layer refl within),
  λ (kept, none). maps_from_limits view layer mapping of kept none,
)
