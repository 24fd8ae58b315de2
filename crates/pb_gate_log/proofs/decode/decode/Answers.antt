use Rattle.std.proofs.Common.{◌≡◌, ℕ, ◌+◌, true, List, ◌∷◌, take, drop, sym, ap, ◌∙◌, subst, arith}
use Rattle.std.proofs.lemmas.List.{take_rest}
use Rattle.pb_bytes.specs.BigEndian.{be32}
use Rattle.pb_gate_log.specs.Payloads.{begins_entry, len_behind}
use Rattle.pb_gate_log.specs.Steps.{StandBefore}
use Rattle.pb_gate_log.proofs.DecodeLemmas.{stand_first, stand_next}
use Rattle.pb_gate_log.proofs.decode.decode.Goals as goal

pub loop-len-init : goal.loop-len-init
loop-len-init c = subst (λ (l : List (List ℕ)). StandBefore 0 l c.args.bytes.now) (sym c.new-payloads.ensures.items) (stand_first c.args.bytes.now)

pub loop-len-preserved : goal.loop-len-preserved
loop-len-preserved c =
    let bytes = c.args.bytes.now in
    let gate = c.loop-len.gate in
    let len = c.in-Some.len in
    let payload = c.in_ok-payload.payload in
    let rest = take_rest bytes gate in
    let begins = subst (λ (l : List ℕ). begins_entry l ≡ true) rest c.in-Some.ensures.some in
    let says = subst (λ (l : List ℕ). len ≡ len_behind l) rest c.in-Some.ensures.len in
    let spelled = subst (λ (l : List ℕ). take 5 l ≡ 1 ∷ be32 len) rest c.in-Some.ensures.spelled in
    let is : payload ≡ take len (drop (gate + 5) bytes) = c.in_ok-payload.ensures.ok ∙ ap (λ n. take n (drop (gate + 5) bytes)) (omega arith) in
    subst (λ (l : List (List ℕ)). StandBefore (gate + (5 + len)) l bytes) (sym c.in_ok-push.ensures.items)
    (stand_next gate len c.loop-len.payloads.items payload bytes c.loop-len.invariant begins says spelled is)
