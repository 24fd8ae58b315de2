-- The worked block, from its row to its bytes.
use Rattle.std.proofs.Common.{◌≡◌, [], ◌∷◌, Some, refl, arith}
use Rattle.std.specs.Prelude.{IfSome}
use Rattle.std.proofs.lemmas.List.Elements.{All-nil, All-cons}
use Rattle.pb_bytes.specs.BigEndian.{be32}
use Rattle.pb_bytes.specs.Varint.{varint, groups}
use Rattle.pb_keys.specs.Key.{IsKey}
use Rattle.pb_keys.specs.Value.{IsValue}
use Rattle.pb_block.specs.Blocks.{BlockRow, entry_spelling, entries_from, restarts_from, block_spelling, IsBlock}

row : BlockRow
row = record { key = 97 ∷ []; value = Some (49 ∷ []) }

spelled : block_spelling 16 (row ∷ []) ≡ 0 ∷ 1 ∷ 2 ∷ 97 ∷ 49 ∷ 0 ∷ 0 ∷ 0 ∷ 0 ∷ 0 ∷ 0 ∷ 0 ∷ 1 ∷ []
unfolding row entries_from entry_spelling restarts_from be32 varint groups
spelled = refl

is_block : IsBlock 16 (row ∷ [])
unfolding row entries_from
is_block = record {
  some = omega arith;
  keys = All-cons (λ r. IsKey r.key) row [] (record { some = omega arith; within = omega arith; begins = λ is. absurd (omega arith) })
      (All-nil (λ r. IsKey r.key));
  rise = tt;
  values = All-cons (λ r. IfSome r.value IsValue) row [] (omega arith) (All-nil (λ r. IfSome r.value IsValue));
  room = omega arith;
}
