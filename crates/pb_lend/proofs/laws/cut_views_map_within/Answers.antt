use Rattle.pb_lend.proofs.CutViews.{cut_within, cut_is_span, cut_is_view}
use Rattle.pb_lend.proofs.laws.cut_views_map_within.Goals as goal

pub returns-clause-within : goal.returns-clause-within
returns-clause-within c = cut_within

pub returns-clause-bounds : goal.returns-clause-bounds
returns-clause-bounds c = cut_is_span

pub returns-clause-in_form : goal.returns-clause-in_form
returns-clause-in_form c = cut_is_view
