use Rattle.pb_rows.proofs.ApartLayers.{same_members_say, same_members_in_turn}
use Rattle.pb_rows.proofs.laws.layering.apart_in_any_order.Goals as goal

pub returns-clause-says : goal.returns-clause-says
returns-clause-says c = same_members_say

pub returns-clause-ingested : goal.returns-clause-ingested
returns-clause-ingested c = same_members_in_turn
