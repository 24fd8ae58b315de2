use Rattle.std.proofs.Common.{List, sym, ap, ◌∙◌, subst}
use Rattle.std.specs.Prelude.{ℕ, ◌==◌}
use Rattle.std.specs.List.{list_any}
use Rattle.pb_counts.specs.declared.user.User.{User}
use Rattle.pb_counts.specs.Ascending.{Ascends, FitsAt, StandsAt}
use Rattle.pb_counts.specs.Pairs.{is_before, is_pair}
use Rattle.pb_counts.proofs.Lists.{Ascends-remove, any-remove, any-missing, any-left}
use Rattle.pb_counts.proofs.Orders.{pair_order}
use Rattle.pb_counts.proofs.pairs.remove.Goals as goal

pub returns-in-Ok-clause-ascends : goal.returns-in-Ok-clause-ascends
returns-in-Ok-clause-ascends c =
    let stands : StandsAt c.args.pairs.now.items c.args.pair c.in-Ok.at =
    subst (λ (l : List (User × ℕ)). StandsAt l c.args.pair c.in-Ok.at) c.as_slice.ensures.value c.in-Ok.ensures.stands in
    subst (Ascends is_before) (sym c.remove.ensures.items)
    (Ascends-remove is_before c.args.pairs.now.items c.args.pair c.in-Ok.at c.requires.ascends stands)

pub returns-in-Ok-clause-uses : goal.returns-in-Ok-clause-uses
returns-in-Ok-clause-uses c = λ user backing.
    let stands : StandsAt c.args.pairs.now.items c.args.pair c.in-Ok.at =
    subst (λ (l : List (User × ℕ)). StandsAt l c.args.pair c.in-Ok.at) c.as_slice.ensures.value c.in-Ok.ensures.stands in
    ap (list_any (is_pair (user, backing))) c.remove.ensures.items
    ∙ any-remove is_before is_pair pair_order c.args.pairs.now.items c.args.pair c.in-Ok.at (user, backing) c.requires.ascends stands

pub returns-in-Ok-clause-used : goal.returns-in-Ok-clause-used
returns-in-Ok-clause-used c = λ backing used.
    let stands : StandsAt c.args.pairs.now.items c.args.pair c.in-Ok.at =
    subst (λ (l : List (User × ℕ)). StandsAt l c.args.pair c.in-Ok.at) c.as_slice.ensures.value c.in-Ok.ensures.stands in
    any-left (λ p. p.1 == backing) c.args.pair c.args.pairs.now.items c.in-Ok.at stands
    (sym (ap (list_any (λ p. p.1 == backing)) c.remove.ensures.items) ∙ used)

pub returns-in-Err-clause-uses : goal.returns-in-Err-clause-uses
returns-in-Err-clause-uses c = λ user backing.
    let fits : FitsAt is_before c.args.pairs.now.items c.args.pair c.in-Err.field-0 =
    subst (λ (l : List (User × ℕ)). FitsAt is_before l c.args.pair c.in-Err.field-0) c.as_slice.ensures.value c.in-Err.ensures.fits in
    any-missing is_before is_pair pair_order c.args.pairs.now.items c.args.pair c.in-Err.field-0 (user, backing) fits
