use Rattle.std.proofs.Common.{ℕ, [], subst, ap, sym, ◌∙◌, arith}
use Rattle.pb_keys.specs.Key.{is_before}
use Rattle.pb_block.specs.Reading.{Entry, entry_at, all_behind}
use Rattle.pb_block.proofs.SeekLaws.{StartsRows, held_start, passes}
use Rattle.pb_block.proofs.seek.place_below.Goals as goal

pub split_at-requires : goal.split_at-requires
split_at-requires g c =
    let start = held_start g.row.R c.args.entries.now c.args.restarts.now c.args.restart c.requires.held c.requires.within in
    omega (arith, start.within, c.place_of-place.ensures)

pub returns-then-is_below : goal.returns-then-is_below
returns-then-is_below g c =
    let place = c.place_of-place.result in
    let start = held_start g.row.R c.args.entries.now c.args.restarts.now c.args.restart c.requires.held c.requires.within in
    let here = subst (λ (n : ℕ). StartsRows c.args.entries.now (all_behind [] c.args.entries.now) n) (sym c.place_of-place.ensures) start in
    let read = ap (entry_at 0) (sym c.split_at.ensures.back) ∙ sym c.in_ok-entry.ensures.exact in
    let below = ap (λ (e : Entry). is_before c.args.prefix.now c.args.suffix.now e.unshared) (sym c.entry.view_is)
    ∙ sym c.if-is_below.ensures in
    passes g.row.R c.args.entries.now c.args.restarts.now c.args.prefix.now c.args.suffix.now _ place c.in_ok-entry.entry c.requires.held
    here read below
