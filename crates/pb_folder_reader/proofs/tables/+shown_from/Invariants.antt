use Rattle.std.proofs.Common.{◌-◌}
use Rattle.pb_folder_reader.proofs.tables.+shown_from.Given as goal

abbrev pub decreases-shown_from : goal.decreases-shown_from
decreases-shown_from l = 7 - l.level
