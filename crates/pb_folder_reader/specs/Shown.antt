-- Rows with keys of their own.
use Rattle.std.specs.Prelude.{Bool, ◌&&◌, not, true, List, [], ◌∷◌, nat_eq}
use Rattle.std.specs.List.{list_any}
use Rattle.std.specs.Cmp.Lexicographic.{pointwise}
use Rattle.pb_rows.specs.Layer.{KeyRow}

-- no two rows have one key
abbrev pub are_own_keys : List KeyRow → Bool
are_own_keys [] = true
are_own_keys (row ∷ rows) = not (list_any (λ other. pointwise nat_eq other.key row.key) rows) && are_own_keys rows
