use Rattle.std.proofs.Common.{sym, ◌∙◌}
use Rattle.std.proofs.lemmas.Bool.{false≢true}
use Rattle.pebble_cli.proofs.word.are_names.Goals as goal

pub returns-then-is_name : goal.returns-then-is_name
returns-then-is_name c =
    ((λ is. (c.is_name.ensures.0 c.if-is_name.true, c.is_name-then-is_name.ensures.0 is)), (λ both. c.is_name-then-is_name.ensures.1 both.1))

pub returns-else-is_name : goal.returns-else-is_name
returns-else-is_name c = ((λ is. absurd (false≢true (sym c.if-is_name.false ∙ is))), (λ both. c.is_name.ensures.1 both.0))
