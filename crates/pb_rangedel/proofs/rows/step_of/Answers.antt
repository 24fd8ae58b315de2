use Rattle.std.proofs.Common.{sym, ◌∙◌, subst}
use Rattle.std.specs.Prelude.{option_copied}
use Rattle.pb_rangedel.specs.Merging.{IsNext}
use Rattle.pb_rangedel.proofs.RowMerging.{next_is, skip_is}
use Rattle.pb_rangedel.proofs.rows.step_of.Goals as goal

pub returns-then-is_hidden-clause-step : goal.returns-then-is_hidden-clause-step
returns-then-is_hidden-clause-step c news olds new old rise_new rise_old n o =
    skip_is c.args.dels.now news olds new old (option_copied c.args.older) o (sym c.is_hidden.ensures.answer ∙ c.if-is_hidden.true)

pub returns-clause-step : goal.returns-clause-step
returns-clause-step c news olds new old rise_new rise_old n o =
    subst (λ step. IsNext step c.args.dels.now news olds new old) (sym c.step_at.ensures)
    (next_is c.args.dels.now news olds new old (option_copied c.args.newer) (option_copied c.args.older) rise_new rise_old n o (sym c.is_hidden.ensures.answer ∙ c.if-is_hidden.false))
