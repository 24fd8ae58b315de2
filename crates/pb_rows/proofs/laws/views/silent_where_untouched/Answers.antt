use Rattle.pb_rows.proofs.TouchLaws.{silent_untouched}
use Rattle.pb_rows.proofs.laws.views.silent_where_untouched.Goals as goal

pub returns : goal.returns
returns c = silent_untouched
