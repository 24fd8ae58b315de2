-- How a number and a string of bytes are spelled.
use Rattle.std.specs.Prelude.{ℕ, zero, suc, ◌+◌, ◌/◌, ◌%◌, List, [], ◌∷◌, ◌++◌, length, nat_lt, if◌then◌else◌}

-- the groups of seven bits of a number, the lowest first, and at most so many;
-- 128 stands on each but the last
unfoldable pub groups : ℕ → ℕ → List ℕ
groups zero value = []
groups (suc more) value =
    if nat_lt value 128 then value ∷ [] else (128 + value % 128) ∷ groups more (value / 128)

-- unsigned LEB128 in its shortest form, of a number below 2 ^ 64: 300 is 172 2
unfoldable pub varint : ℕ → List ℕ
varint value = groups 10 value

-- the length as a varint, and that many bytes
unfoldable pub field : List ℕ → List ℕ
field bytes = varint (length bytes) ++ bytes
