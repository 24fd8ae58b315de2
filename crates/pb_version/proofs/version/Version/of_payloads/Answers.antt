use Rattle.std.proofs.Common.{◌≡◌, ◌+◌, ◌∷◌, [], ℕ, List, drop, sym, subst}
use Rattle.std.proofs.lemmas.List.{drop_all}
use Rattle.pb_keys.proofs.Lists.{item_first, filled}
use Rattle.pb_version.specs.Version.{empty_version}
use Rattle.pb_version.proofs.PayloadFolds.{AlikeOn, FoldsOn, alike_more, next_edit, none_left, on_says, says_on}
use Rattle.pb_version.proofs.version.Version.of_payloads.Goals as goal

pub returns-then-not-branch-clause-none : goal.returns-then-not-branch-clause-none
returns-then-not-branch-clause-none c = λ version says.
    let i = c.loop-payload.payload-index in
    let list = c.args.payloads.now in
    let payload : List ℕ = c.as_slice.result.now in
    let first : drop i list ≡ payload ∷ drop (i + 1) list =
    item_first list i c.payload-item.result payload c.loop-payload-test.true c.payload-item.is c.as_slice.ensures in
    let on = subst (λ (l : List (List ℕ)). FoldsOn c.loop-payload.version l version) first (c.loop-payload.invariant.back version (says_on list version says)) in
    let next = next_edit payload (drop (i + 1) list) c.loop-payload.version version on in
    c.in_ok-follow.ensures.no c.if-not-branch.true next.edit next.in_form next.spelled next.unbroken

pub loop-payload-preserved : goal.loop-payload-preserved
loop-payload-preserved c =
    let i = c.loop-payload.payload-index in
    let list = c.args.payloads.now in
    let payload : List ℕ = c.as_slice.result.now in
    let first : drop i list ≡ payload ∷ drop (i + 1) list =
    item_first list i c.payload-item.result payload c.loop-payload-test.true c.payload-item.is c.as_slice.ensures in
    alike_more empty_version c.loop-payload.version c.follow.new.version list payload (drop (i + 1) list)
    (subst (λ (l : List (List ℕ)). AlikeOn empty_version c.loop-payload.version list l) first c.loop-payload.invariant)
    (c.in_ok-follow.ensures.yes c.if-not-branch.false)

pub returns-clause-some : goal.returns-clause-some
returns-clause-some c =
    let list = c.args.payloads.now in
    let version = c.loop-payload.version in
    let some = filled list c.is_empty.result c.is_empty.ensures c.if-is_empty.false in
    let left : drop c.loop-payload.payload-index list ≡ [] = drop_all c.loop-payload.payload-index list c.loop-payload-test.false in
    on_says list version some (c.loop-payload.invariant.all version (subst (λ (l : List (List ℕ)). FoldsOn version l version) (sym left) (none_left version)))
