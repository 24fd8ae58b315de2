-- The texts that a run prints in place of replies.
use Rattle.std.specs.Prelude.{ℕ, List, ◌++◌, codes}
use Rattle.std.specs.Fmt.{decimal}
use Rattle.pb_reply.specs.Printed.{line}

abbrev pub usage_text : List ℕ
usage_text = line (codes "usage: pebble_cli run | pebble_cli gen N SEED")

abbrev pub too_long_text : List ℕ
too_long_text = line (codes "too long")

-- the number of a line is counted from 1
abbrev pub fault_text : ℕ → List ℕ
fault_text number = line (codes "fault line " ++ decimal number)
