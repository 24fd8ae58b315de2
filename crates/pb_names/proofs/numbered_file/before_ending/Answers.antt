use Rattle.std.proofs.Common.{◌≡◌, ◌≢◌, ℕ, List, ◌++◌, Option, Some, None, IfSome, Bor, subst}
use Rattle.std.specs.Option.{MatchOption}
use Rattle.std.proofs.lemmas.Bool.Decides.{Decides-eqb}
use Rattle.std.proofs.lemmas.Slice.Eq.{strip_suffix_is}
use Rattle.pb_names.proofs.numbered_file.before_ending.Goals as goal

some_part : (name end : List ℕ) (found : Option (Bor (List ℕ)))
    → MatchOption found ((front : List ℕ) → name ≢ front ++ end) (λ x. name ≡ x.now ++ end) → IfSome found (λ x. name ≡ x.now ++ end)
some_part name end None told = tt
some_part name end (Some x) told = told

pub returns-clause-some : goal.returns-clause-some
returns-clause-some c =
    subst (λ (e : List ℕ). IfSome c.strip_suffix.result (λ x. c.args.name.now ≡ x.now ++ e)) c.ending_of.ensures
    (some_part c.args.name.now c.ending_of.result.now c.strip_suffix.result
    (strip_suffix_is Decides-eqb c.args.name.now c.ending_of.result.now c.strip_suffix.result c.strip_suffix.ensures.cases))
