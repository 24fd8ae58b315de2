use Rattle.std.proofs.Common.{◌≡◌, ◌∙◌, ◌<◌, ◌≤◌, ℕ, List, sym, arith, length, get_or}
use Rattle.std.proofs.lemmas.Bool.{ltb-true, ltb-false}
use Rattle.pb_bytes.proofs.Places.{Reads, reads_more, scale_fits, group_fits, stops_short, stops_at_zero, stops_at_last, stops_past_64_bits, stops_at_64_bits}
use Rattle.pb_bytes.proofs.varint.read_groups.Goals as goal

pub returns-in_err-get : goal.returns-in_err-get
returns-in_err-get c =
    let short = ltb-false _ _ (sym c.in_err-get.ensures.lookup.0) in
    c.from_residual.ensures ∙ sym (stops_short c.args.from.now c.loop-place.value c.loop-place.scale c.loop-place.place c.loop-place.invariant short)

pub returns-then-place-gt0 : goal.returns-then-place-gt0
returns-then-place-gt0 c =
    let within : c.loop-place.place < length c.args.from.now = ltb-true _ _ (sym c.in_ok-get.ensures.lookup.0) in
    let byte = c.in_ok-get.ensures.lookup.4 (omega arith) 0 in
    sym (stops_at_zero c.args.from.now c.loop-place.value c.loop-place.scale c.loop-place.place c.loop-place.invariant
    (omega arith) within (sym byte ∙ sym c.from-group.ensures ∙ c.if-group-eq0.true) c.if-place-gt0.true)

pub returns-then-group-lt128 : goal.returns-then-group-lt128
returns-then-group-lt128 c =
    let within : c.loop-place.place < length c.args.from.now = ltb-true _ _ (sym c.in_ok-get.ensures.lookup.0) in
    let byte = c.in_ok-get.ensures.lookup.4 (omega arith) 0 in
    let reads : Reads c.args.from.now c.loop-place.value c.loop-place.scale c.loop-place.place = c.loop-place.invariant in
    let small = scale_fits c.loop-place.scale c.loop-place.place reads.scaled (omega arith) in
    let product = group_fits c.from-group.result c.loop-place.scale c.if-group-lt128.true in
    stops_at_last c.args.from.now c.loop-place.value c.loop-place.scale c.loop-place.place c.from-group.result reads
    (omega arith) within (c.from-group.ensures ∙ byte) c.if-group-lt128.true (λ later. omega arith) (omega (arith, reads.below))

pub loop-place-preserved : goal.loop-place-preserved
loop-place-preserved c =
    let within : c.loop-place.place < length c.args.from.now = ltb-true _ _ (sym c.in_ok-get.ensures.lookup.0) in
    let byte : c.from-group.result ≡ get_or c.args.from.now c.loop-place.place 0 = c.from-group.ensures ∙ c.in_ok-get.ensures.lookup.4 (omega arith) 0 in
    reads_more c.args.from.now c.loop-place.value c.loop-place.scale c.loop-place.place c.from-group.result c.loop-place.invariant
    (omega arith) within byte c.if-group-lt128.false (omega (arith, c.type_inv.from c.loop-place.place))

pub returns-in_err-last : goal.returns-in_err-last
returns-in_err-last c =
    let short : length c.args.from.now ≤ 9 = ltb-false _ _ (sym c.in_err-last.ensures.lookup.0) in
    c.from_residual-in_err-last.ensures ∙ sym (stops_short c.args.from.now c.loop-place.value c.loop-place.scale c.loop-place.place c.loop-place.invariant (omega arith))

-- nine groups were read
reads_nine : (from : List ℕ) (value scale place : ℕ) → Reads from value scale place → place ≡ 9 → Reads from value scale 9
reads_nine from value scale place reads nine = rw nine at reads

pub returns-then-last-ne1 : goal.returns-then-last-ne1
returns-then-last-ne1 c =
    let reads = reads_nine c.args.from.now c.loop-place.value c.loop-place.scale c.loop-place.place c.loop-place.invariant (omega arith) in
    let within : 9 < length c.args.from.now = ltb-true _ _ (sym c.in_ok-last.ensures.lookup.0) in
    let byte : c.in_ok-last.field-0.now ≡ get_or c.args.from.now 9 0 = c.in_ok-last.ensures.lookup.4 (omega arith) 0 in
    sym (stops_past_64_bits c.args.from.now c.loop-place.value c.loop-place.scale c.in_ok-last.field-0.now reads within byte
    (omega (arith, c.type_inv.from 9)) c.if-last-ne1.true)

pub returns : goal.returns
returns c =
    let reads = reads_nine c.args.from.now c.loop-place.value c.loop-place.scale c.loop-place.place c.loop-place.invariant (omega arith) in
    let within : 9 < length c.args.from.now = ltb-true _ _ (sym c.in_ok-last.ensures.lookup.0) in
    let byte : c.in_ok-last.field-0.now ≡ get_or c.args.from.now 9 0 = c.in_ok-last.ensures.lookup.4 (omega arith) 0 in
    stops_at_64_bits c.args.from.now c.loop-place.value c.loop-place.scale c.in_ok-last.field-0.now reads within byte c.if-last-ne1.false
