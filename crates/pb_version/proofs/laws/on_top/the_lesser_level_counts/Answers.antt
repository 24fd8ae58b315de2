use Rattle.std.proofs.Common.{refl}
use Rattle.pb_keys.specs.Key.{key_cmp}
use Rattle.pb_keys.specs.Span.{holds_key}
use Rattle.pb_rows.specs.Verdict.{verdict}
use Rattle.pb_rows.specs.Viewed.{viewed}
use Rattle.pb_version.proofs.laws.on_top.the_lesser_level_counts.Goals as goal

pub returns-clause-first : goal.returns-clause-first
unfolding verdict viewed holds_key key_cmp
returns-clause-first c = refl

pub returns-clause-second : goal.returns-clause-second
unfolding verdict viewed holds_key key_cmp
returns-clause-second c = refl

pub returns-clause-last : goal.returns-clause-last
unfolding verdict viewed holds_key key_cmp
returns-clause-last c = refl
