use Rattle.std.proofs.Common.{◌≡◌, List, sym, ap, ◌∙◌, subst}
use Rattle.std.specs.Prelude.{ℕ, ◌==◌}
use Rattle.std.specs.List.{insert, list_any}
use Rattle.std.proofs.lemmas.Bool.{false≢true}
use Rattle.pb_counts.specs.declared.user.User.{User}
use Rattle.pb_counts.specs.Ascending.{Ascends, FitsAt}
use Rattle.pb_counts.specs.Pairs.{is_before, is_pair}
use Rattle.pb_counts.proofs.Lists.{Ascends-insert, any-insert, missing}
use Rattle.pb_counts.proofs.Orders.{pair_order}
use Rattle.pb_counts.proofs.pairs.add.Goals as goal

pub returns-in-Err-clause-ascends : goal.returns-in-Err-clause-ascends
returns-in-Err-clause-ascends c =
    let fits : FitsAt is_before c.args.pairs.now.items c.args.pair c.in-Err.at =
    subst (λ (l : List (User × ℕ)). FitsAt is_before l c.args.pair c.in-Err.at) c.as_slice.ensures.value c.in-Err.ensures.fits in
    let is : c.insert.new.self.items ≡ insert c.args.pairs.now.items c.in-Err.at c.args.pair =
    rw (c.insert.ensures.succeeds c.requires.room) at c.insert.ensures.items in
    subst (Ascends is_before) (sym is) (Ascends-insert is_before c.args.pairs.now.items c.args.pair c.in-Err.at c.requires.ascends fits)

pub returns-in-Err-clause-uses : goal.returns-in-Err-clause-uses
returns-in-Err-clause-uses c = λ user backing.
    let is : c.insert.new.self.items ≡ insert c.args.pairs.now.items c.in-Err.at c.args.pair =
    rw (c.insert.ensures.succeeds c.requires.room) at c.insert.ensures.items in
    ap (list_any (is_pair (user, backing))) is ∙ any-insert (is_pair (user, backing)) c.args.pair c.args.pairs.now.items c.in-Err.at

pub returns-in-Err-clause-used : goal.returns-in-Err-clause-used
returns-in-Err-clause-used c = λ backing.
    let is : c.insert.new.self.items ≡ insert c.args.pairs.now.items c.in-Err.at c.args.pair =
    rw (c.insert.ensures.succeeds c.requires.room) at c.insert.ensures.items in
    ap (list_any (λ p. p.1 == backing)) is ∙ any-insert (λ p. p.1 == backing) c.args.pair c.args.pairs.now.items c.in-Err.at

pub returns-in-Err-clause-stands : goal.returns-in-Err-clause-stands
returns-in-Err-clause-stands c = λ stands.
    let fits : FitsAt is_before c.args.pairs.now.items c.args.pair c.in-Err.at =
    subst (λ (l : List (User × ℕ)). FitsAt is_before l c.args.pair c.in-Err.at) c.as_slice.ensures.value c.in-Err.ensures.fits in
    absurd {A = c.insert.new.self.items ≡ c.args.pairs.now.items}
    (false≢true (sym (missing is_before is_pair pair_order c.args.pairs.now.items c.args.pair c.in-Err.at fits) ∙ stands))
