use Rattle.std.proofs.Common.{inl, inr, arith}
use Rattle.pb_mem.specs.Files.{FileView}
use Rattle.pb_mem.proofs.FileLemmas.{over_pending}
use Rattle.pb_mem.proofs.file.fill_pending.Goals as goal

pub returns : goal.returns
returns c =
    let file : FileView = record { seen = c.args.bytes.now; durable_len = c.args.durable_len; saved = c.args.saved.now } in
    over_pending c.args.pick file c.fill_range.new.bytes c.fill_saved.new.bytes
    (λ place from to below. c.fill_range.ensures.within place from (omega arith) below)
    (λ place out. c.fill_range.ensures.outside place (elim out [ inl front ↦ inl front | inr behind ↦ inr (omega arith) ]))
    (omega arith) c.fill_saved.ensures
