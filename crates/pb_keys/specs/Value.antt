-- Values.
use Rattle.std.specs.Prelude.{ℕ, ◌≤◌, List, length, Bool, nat_le}

-- at most 65,536 bytes
abbrev pub IsValue : List ℕ → Type 0
IsValue bytes = length bytes ≤ 65536

abbrev pub is_value : List ℕ → Bool
is_value bytes = nat_le (length bytes) 65536
