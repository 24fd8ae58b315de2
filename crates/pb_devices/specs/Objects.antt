-- The objects of a bucket, by name.
use Rattle.std.specs.Prelude.{ℕ, Bool, List, filter, count_by, nat_eq}
use Rattle.std.specs.Ordering.{nat_cmp}
use Rattle.std.specs.Cmp.Lexicographic.{slice_cmp}
use Rattle.std.specs.List.{starts_with}
use Rattle.std.specs.FinMap.{FinMap, keys}

-- the bytes of each object under its name
abbrev pub Objects : Type 0
Objects = FinMap (slice_cmp nat_cmp) (List ℕ)

abbrev pub begins_with : List ℕ → List ℕ → Bool
begins_with prefix name = starts_with nat_eq name prefix

-- the names that begin with a prefix, ascending
abbrev pub names_with : List ℕ → Objects → List (List ℕ)
names_with prefix objects = filter (begins_with prefix) (keys objects)

-- how many names begin with a prefix
abbrev pub count_with : List ℕ → Objects → ℕ
count_with prefix objects = count_by (begins_with prefix) (keys objects)
