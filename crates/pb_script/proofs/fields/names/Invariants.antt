use Rattle.std.proofs.Common.{◌≡◌, length}
use Rattle.pb_script.specs.Fields.{names_of}
use Rattle.pb_script.specs.Words.{words_of}
use Rattle.pb_script.proofs.Turns.{with_names}
use Rattle.pb_script.proofs.fields.names.Given as goal

abbrev pub invariant-loop-word : goal.invariant-loop-word
invariant-loop-word l = names_of (words_of l.text) ≡ with_names l.names.items (names_of (words_of l.rest))

abbrev pub decreases-loop-word : goal.decreases-loop-word
decreases-loop-word l = length l.rest
