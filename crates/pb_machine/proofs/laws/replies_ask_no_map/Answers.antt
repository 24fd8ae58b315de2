use Rattle.pb_machine.proofs.SameReplies.{same_replies, same_downs}
use Rattle.pb_machine.proofs.laws.replies_ask_no_map.Goals as goal

pub returns-clause-replies : goal.returns-clause-replies
returns-clause-replies c = same_replies

pub returns-clause-downs : goal.returns-clause-downs
returns-clause-downs c = same_downs
