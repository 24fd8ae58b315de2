use Rattle.std.proofs.Common.{◌≡◌, ℕ, List, get_or, sym, subst, arith}
use Rattle.std.specs.Prelude.{IfOk, IfSome, IfNone}
use Rattle.pb_rows.specs.Layer.{KeyLayer}
use Rattle.pb_table.specs.Spells.{Spells}
use Rattle.pb_table.proofs.ItemLemmas.{mark_first}
use Rattle.pb_table.proofs.TableLemmas.{is_read_ok}
use Rattle.pb_table.proofs.table.read_table.Goals as goal

pub returns-in-1-clause-exact : goal.returns-in-1-clause-exact
returns-in-1-clause-exact c =
    let first : get_or c.args.bytes.now 0 0 ≡ 1 = omega arith in
    let whole = mark_first 1 c.args.bytes.now c.in-1.len_at_least first in
    is_read_ok c.args.bytes.now c.read_format_1.result
    (subst (λ (bytes : List ℕ). IfOk c.read_format_1.result (λ read. IfSome read (λ layer. Spells bytes layer))) (sym whole) c.read_format_1.ensures.found)
    (subst (λ (bytes : List ℕ). IfOk c.read_format_1.result (λ read. IfNone read ((layer : KeyLayer) → Spells bytes layer → ⊥))) (sym whole) c.read_format_1.ensures.none)
