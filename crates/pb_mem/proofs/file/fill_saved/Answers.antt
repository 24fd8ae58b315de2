use Rattle.std.proofs.Common.{◌≡◌, inl, inr, get_or, sym, subst, arith}
use Rattle.pb_mem.specs.Files.{Saved}
use Rattle.pb_mem.proofs.FileLemmas.{filled_more}
use Rattle.pb_mem.proofs.file.fill_saved.Goals as goal

pub loop-one-preserved : goal.loop-one-preserved
loop-one-preserved c =
    let saved = c.args.saved.now in
    let one : Saved = record { at = c.one.inside.at; bytes = c.one.inside.bytes.items } in
    let stands : one ≡ get_or saved c.loop-one.one-index one = subst (λ (s : Saved). s ≡ get_or saved c.loop-one.one-index s) (sym c.one.view_is) c.one-item.is in
    filled_more c.args.pick saved c.loop-one.one-index one c.args.bytes.now c.loop-one.bytes c.fill_range.new.bytes (omega arith) stands c.loop-one.auto.bytes
    c.loop-one.invariant
    (λ place from to below. c.fill_range.ensures.within place from (omega arith) below)
    (λ place out. c.fill_range.ensures.outside place (elim out [ inl front ↦ inl front | inr behind ↦ inr (omega arith) ]))
