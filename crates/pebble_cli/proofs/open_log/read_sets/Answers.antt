use Rattle.std.proofs.Common.{◌≡◌, ◌+◌, ◌++◌, ◌∷◌, [], ℕ, List, take, sym, ap, ◌∙◌, subst, arith, Err}
use Rattle.std.proofs.lemmas.List.{take_all}
use Rattle.std.proofs.lemmas.Grind.{take_at_read}
use Rattle.pebble_cli.specs.Folder.{Replays}
use Rattle.pebble_cli.proofs.SetFacts.{ReadTo, read_more, read_all, next_from}
use Rattle.pebble_cli.proofs.StoreFacts.{refused_same}
use Rattle.pebble_cli.specs.declared.store_error.StoreError.TheVariants.{Damaged}
use Rattle.pebble_cli.proofs.open_log.read_sets.Goals as goal

pub loop-payload-preserved : goal.loop-payload-preserved
loop-payload-preserved c =
    let i = c.loop-payload.payload-index in
    let list = c.args.payloads.now in
    let payload : List ℕ = c.as_slice.result.now in
    let so_far : take (i + 1) list ≡ take i list ++ payload ∷ [] =
    (take_at_read list i c.payload-item.result c.loop-payload-test.true).1 ∙ ap (λ (p : List ℕ). take i list ++ p ∷ []) (sym (c.as_slice.ensures ∙ c.payload-item.is)) in
    record {
      read = subst (λ (l : List (List ℕ)). ReadTo l (c.in-Ok.count + 1) c.read_payload.new.pairs) (sym so_far)
          (read_more (take i list) payload c.loop-payload.least c.in-Ok.count c.loop-payload.pairs c.read_payload.new.pairs c.loop-payload.invariant.read c.in-Ok.ensures.ok);
      below = omega (arith, c.in-Ok.ensures.below);
    }

pub returns-in-Err-clause-damaged : goal.returns-in-Err-clause-damaged
returns-in-Err-clause-damaged c = λ is n m makes.
    let next =
    next_from c.args.payloads.now c.payload-item.result c.loop-payload.payload-index c.loop-payload.least n c.loop-payload.pairs m c.loop-payload-test.true
    c.payload-item.is c.loop-payload.invariant.read makes in
    c.in-Err.ensures.damaged (ap Err (refused_same c.in-Err.refusal Damaged is)) next.set next.is (c.as_slice.ensures ∙ next.spelled) next.above

pub returns-clause-ok : goal.returns-clause-ok
returns-clause-ok c =
    let list = c.args.payloads.now in
    let whole : take c.loop-payload.payload-index list ≡ list = take_all c.loop-payload.payload-index list c.loop-payload-test.false in
    subst (λ (n : ℕ). Replays list n c.loop-payload.pairs) (sym c.saturating_sub.ensures)
    (read_all list c.loop-payload.least c.loop-payload.pairs (subst (λ (l : List (List ℕ)). ReadTo l c.loop-payload.least c.loop-payload.pairs) whole c.loop-payload.invariant.read))
