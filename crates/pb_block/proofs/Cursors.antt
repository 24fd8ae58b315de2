-- A cursor goes on: what it has read is the first of the rows that were to come.
use Rattle.std.proofs.Common.{◌≡◌, ℕ, false, List, [], length, Some, None, sym, ap, ◌∙◌}
use Rattle.pb_block.specs.declared.cursor.Standing.{Standing}
use Rattle.pb_block.specs.declared.cursor.Standing.TheVariants.{Apart, At, Before}
use Rattle.pb_block.specs.Blocks.{BlockRow}
use Rattle.pb_block.specs.Reading.{Entry, key_behind, entry_at, all_behind}
use Rattle.pb_block.specs.Cursors.{CursorView, cursor_at, is_before_row, advanced, before_rows}
use Rattle.pb_block.proofs.Checks.{rows-none, rows-first}

left_is : (standing : Standing) (row : BlockRow) (rows : List BlockRow) (view : CursorView) → is_before_row standing ≡ false
    → cursor_at standing row rows ≡ view → view.left ≡ rows
left_is Apart row rows view other is = ap (λ (v : CursorView). v.left) (sym is)
left_is At row rows view other is = ap (λ (v : CursorView). v.left) (sym is)
left_is Before row rows view other is = absurd cc

pub advance_none : (standing : Standing) (row : BlockRow) (key rest : List ℕ) (len : ℕ) (view : CursorView) → is_before_row standing ≡ false
    → cursor_at standing row (all_behind key rest) ≡ view
    → len ≡ length key → None ≡ entry_at len rest → before_rows (all_behind key rest) ≡ advanced view.left
advance_none standing row key rest len view other is is_len none =
    let nothing : all_behind key rest ≡ [] = rows-none key rest (ap (λ (n : ℕ). entry_at n rest) (sym is_len) ∙ sym none) in
    ap before_rows nothing ∙ ap advanced (sym (left_is standing row (all_behind key rest) view other is ∙ nothing))

pub advance_some : (standing : Standing) (row : BlockRow) (key rest new behind : List ℕ) (entry same : Entry) (len : ℕ) (view : CursorView)
    → is_before_row standing ≡ false
    → cursor_at standing row (all_behind key rest) ≡ view → len ≡ length key → Some (entry, behind) ≡ entry_at len rest → same ≡ entry
    → new ≡ key_behind key same
    → ◌≡◌ {A = CursorView} (record { at = Some (record { key = new; value = same.value }); left = all_behind new behind })
    (advanced view.left)
advance_some standing row key rest new behind entry same len view other is is_len some is_same is_new =
    let read : entry_at (length key) rest ≡ Some (same, behind) = ap (λ (n : ℕ). entry_at n rest) (sym is_len) ∙ sym some
    ∙ ap (λ (e : Entry). Some (e, behind)) (sym is_same) in
    let first = rows-first key rest same behind read in
    (λ i. record { at = Some (record { key = is_new i; value = same.value }); left = all_behind (is_new i) behind })
    ∙ ap advanced (sym (left_is standing row (all_behind key rest) view other is ∙ first))
