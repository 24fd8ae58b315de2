use Rattle.pb_folder_reader.proofs.Lists.{empty_iff}
use Rattle.pb_folder_reader.proofs.standing.are_none.Goals as goal

pub returns : goal.returns
returns c = empty_iff c.args.entries.now c.is_empty.result c.is_empty.ensures
