use Rattle.std.proofs.Common.{List, ℕ, sym, ap, ◌∙◌, rules, arith}
use Rattle.std.specs.Prelude.{Some}
use Rattle.std.proofs.lemmas.Bool.Decides.{nat_tests}
use Rattle.pb_script.proofs.Coded.{string_of-plain}
use Rattle.pb_script.proofs.spelling.read_string.Goals as goal

pub returns-then-are_plain : goal.returns-then-are_plain
returns-then-are_plain c =
    string_of-plain c.args.word.now (first_of (omega arith, grind (arith, nat_tests))) (search rules) (sym c.are_plain.ensures ∙ c.if-are_plain.true)
    ∙ ap (λ (x : List ℕ). Some x) (sym c.in_ok-new-2.ensures.ok)
