use Rattle.std.proofs.Common.{◌≡◌, ◌+◌, ◌∷◌, [], ℕ, List, drop, sym, subst}
use Rattle.std.proofs.lemmas.List.{drop_all}
use Rattle.pb_keys.proofs.Lists.{item_first}
use Rattle.pb_catalog.specs.Entered.{entries_of}
use Rattle.pb_payloads.specs.Left.{ChangesTo}
use Rattle.pb_payloads.proofs.CatalogueFolds.{AlikeOn, alike_more, next_change, none_left}
use Rattle.pb_catalog.proofs.read.follow_all.Goals as goal

pub returns-then-not-branch-clause-none : goal.returns-then-not-branch-clause-none
returns-then-not-branch-clause-none c = λ entries says.
    let i = c.loop-payload.payload-index in
    let list = c.args.payloads.now in
    let payload : List ℕ = c.as_slice.result.now in
    let now = entries_of c.loop-payload.entries.entries in
    let first : drop i list ≡ payload ∷ drop (i + 1) list =
    item_first list i c.payload-item.result payload c.loop-payload-test.true c.payload-item.is c.as_slice.ensures in
    let on = subst (λ (l : List (List ℕ)). ChangesTo now l entries) first (c.loop-payload.invariant.back entries says) in
    let next = next_change payload (drop (i + 1) list) now entries on in
    c.in_ok-follow.ensures.no c.if-not-branch.true next.mid next.is

pub loop-payload-preserved : goal.loop-payload-preserved
loop-payload-preserved c =
    let i = c.loop-payload.payload-index in
    let list = c.args.payloads.now in
    let payload : List ℕ = c.as_slice.result.now in
    let now = entries_of c.loop-payload.entries.entries in
    let first : drop i list ≡ payload ∷ drop (i + 1) list =
    item_first list i c.payload-item.result payload c.loop-payload-test.true c.payload-item.is c.as_slice.ensures in
    alike_more [] now (entries_of c.follow.new.entries.entries) list payload (drop (i + 1) list)
    (subst (λ (l : List (List ℕ)). AlikeOn [] now list l) first c.loop-payload.invariant)
    (c.in_ok-follow.ensures.yes c.if-not-branch.false)

pub returns-clause-some : goal.returns-clause-some
returns-clause-some c =
    let list = c.args.payloads.now in
    let now = entries_of c.loop-payload.entries.entries in
    let left : drop c.loop-payload.payload-index list ≡ [] = drop_all c.loop-payload.payload-index list c.loop-payload-test.false in
    c.loop-payload.invariant.all now (subst (λ (l : List (List ℕ)). ChangesTo now l now) (sym left) (none_left now))
