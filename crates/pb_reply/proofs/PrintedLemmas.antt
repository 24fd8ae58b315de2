-- A line of `levels`, part by part.
use Rattle.std.proofs.Common.{◌≡◌, ℕ, List, [], ◌++◌, append_assoc}
use Rattle.std.specs.Prelude.{codes}
use Rattle.std.specs.Fmt.{decimal}
use Rattle.pb_reply.specs.LevelRow.{LevelRow}
use Rattle.pb_reply.specs.Printed.{kind_word, table_line}
use Rattle.pb_keys.specs.Printed.{word}

pub parts-table_line : (table : LevelRow) (lo hi kind : List ℕ) → lo ≡ table.lo → hi ≡ table.hi → kind ≡ kind_word table.is_virtual
    → codes "L" ++ (decimal table.level ++ (codes " " ++ (decimal table.number ++ (codes " " ++ (word lo ++ (codes " " ++ (word hi
    ++ (codes " " ++ (kind ++ (codes " " ++ (decimal table.backing ++ (codes "\n" ++ [])))))))))))) ≡ table_line table
parts-table_line table lo hi kind same_lo same_hi same_kind = rw (same_lo, same_hi, same_kind) (simp append_assoc)
