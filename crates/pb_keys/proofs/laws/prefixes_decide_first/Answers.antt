use Rattle.std.proofs.Common.{refl}
use Rattle.pb_keys.specs.Key.{key_cmp}
use Rattle.pb_keys.proofs.laws.prefixes_decide_first.Goals as goal

pub returns : goal.returns
unfolding key_cmp
returns c = refl
