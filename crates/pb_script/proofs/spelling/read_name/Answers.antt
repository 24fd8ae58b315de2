use Rattle.std.proofs.Common.{List, ℕ, sym, ap, ◌∙◌}
use Rattle.std.specs.Prelude.{Some}
use Rattle.std.proofs.lemmas.Bool.{cond-true, cond-false}
use Rattle.pb_script.proofs.Names.{test_is}
use Rattle.pb_script.proofs.spelling.read_name.Goals as goal

pub returns-then-not-is_name : goal.returns-then-not-is_name
returns-then-not-is_name c = cond-false _ _ _ (sym (test_is c.is_name.result c.args.word.now c.is_name.ensures) ∙ c.if-not-is_name.true)

pub returns : goal.returns
returns c =
    cond-true _ _ _ (sym (test_is c.is_name.result c.args.word.now c.is_name.ensures) ∙ c.if-not-is_name.false)
    ∙ ap (λ (x : List ℕ). Some x) (sym c.in_ok-new.ensures.ok)
