use Rattle.std.proofs.Common.{◌≡◌, refl, List, ℕ, ◌<◌, ◌^◌, length, sym, ap, subst, ◌∙◌, arith}
use Rattle.pb_table.specs.Spells.{Spells}
use Rattle.pb_table.proofs.FormatLemmas.{parts_1, table_spelling-1}
use Rattle.pb_table.proofs.TableLemmas.{written_1, spells_1}
use Rattle.pb_table.proofs.table.write_format_1.Goals as goal

pub returns-clause-ok : goal.returns-clause-ok
returns-clause-ok c =
    rw (c.in_ok-bytes.ensures.ok, c.in_ok-put_rows.ensures.ok, c.in_ok-put_spans.ensures.ok, c.in_ok-push.ensures.items, c.new-out.ensures.items)
    (written_1 c.args.layer.now c.dels.result.now c.rows.result.now c.dels.ensures.value c.rows.ensures.value)

pub returns-clause-spells : goal.returns-clause-spells
returns-clause-spells c =
    let is = returns-clause-ok c ∙ table_spelling-1 c.args.layer.now in
    let as_long : length c.in_ok-bytes.bytes ≡ length c.put_rows.new.out.items = ap length c.in_ok-bytes.ensures.ok in
    let size : length c.in_ok-bytes.bytes < 2 ^ 64 = omega (arith, as_long, c.put_rows.new.out.small, c.put_rows.new.out.ok) in
    subst (λ (l : List ℕ). Spells l c.args.layer.now) (sym is)
    (spells_1 (parts_1 c.args.layer.now) c.args.layer.now (record { in_form = c.rows.ensures.in_form; filled = c.requires.filled })
    (omega (arith, size, ap length is)) refl)
