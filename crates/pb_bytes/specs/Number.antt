-- The numbers that stand for tables, ranks, sizes and counts.
use Rattle.std.specs.Prelude.{ℕ, ◌<◌, ◌^◌}

abbrev pub IsNumber : ℕ → Type 0
IsNumber n = n < 2 ^ 62
