use Rattle.std.proofs.Common.{◌≡◌, [], length, ap, ◌∙◌, arith}
use Rattle.pb_bytes.proofs.VarintLemmas.{length-varint}
use Rattle.pb_gate_log.specs.EachLog.{LogPlace}
use Rattle.pb_payloads.specs.Catalogued.{catalogued_spelling}
use Rattle.pb_payloads.specs.Catalogued.Catalogued.{Id}
use Rattle.pb_catalog.specs.Entered.{entries_of}
use Rattle.pb_catalog.proofs.Images.{begins_whole, each_first}
use Rattle.pb_catalog.proofs.catalog.Catalog.create.Goals as goal

pub append_first-requires-clause-short : goal.append_first-requires-clause-short
append_first-requires-clause-short g c =
    let number = length-varint c.args.id in
    let spelled : length c.as_slice.result.now ≡ length (catalogued_spelling (Id c.args.id)) = ap length (c.as_slice.ensures.value ∙ c.in_ok-payload.ensures.ok) in
    omega (arith, spelled, number)

pub returns-in_err-append_first-clause-begins : goal.returns-in_err-append_first-clause-begins
returns-in_err-append_first-clause-begins g c told =
    let same : c.in_ok-log.log.file ≡ c.args.file = ap (λ (l : LogPlace). l.file) c.in_ok-log.ensures.place in
    begins_whole c.args.id c.args.file c.in_ok-log.log c.as_slice.result.now (g.D.Disk.contents c.args.disk.now) (g.D.Disk.contents c.made.new.disk) (g.D.Disk.contents c.append_first.new.disk) _
    same (c.as_slice.ensures.value ∙ c.in_ok-payload.ensures.ok) (c.in_ok-log.ensures.makes told) (c.in_ok-log.ensures.ok told) (c.in_err-append_first.ensures.appends told)

pub returns-clause-kept : goal.returns-clause-kept
returns-clause-kept g c told =
    each_first c.args.id (entries_of c.new-entries.result.entries) c.append_first.new.log c.as_slice.result.now (g.D.Disk.contents c.append_first.new.disk) c.ranges.id.fits
    (ap entries_of c.new-entries.ensures.empty)
    (c.as_slice.ensures.value ∙ c.in_ok-payload.ensures.ok) ((c.in_ok-append_first.ensures.appends told).ok [] (c.in_ok-log.ensures.ok told))

pub returns-clause-begins : goal.returns-clause-begins
returns-clause-begins g c told =
    let same : c.in_ok-log.log.file ≡ c.args.file = ap (λ (l : LogPlace). l.file) c.in_ok-log.ensures.place in
    begins_whole c.args.id c.args.file c.in_ok-log.log c.as_slice.result.now (g.D.Disk.contents c.args.disk.now) (g.D.Disk.contents c.made.new.disk) (g.D.Disk.contents c.append_first.new.disk) _
    same (c.as_slice.ensures.value ∙ c.in_ok-payload.ensures.ok) (c.in_ok-log.ensures.makes told) (c.in_ok-log.ensures.ok told) (c.in_ok-append_first.ensures.appends told)
