-- A map from texts, by the bytes of its keys.
use Rattle.std.specs.Prelude.{ℕ, List, map}
use Rattle.std.specs.declared.string.String.{String}
use Rattle.std.specs.String.{string_bytes}
use Rattle.std.specs.Ordering.{nat_cmp}
use Rattle.std.specs.Cmp.Lexicographic.{slice_cmp}
use Rattle.std.specs.FinMap.{FinMap, from_entries}

-- each entry as the bytes of its key, and what its value shows
abbrev pub named : {X Y Z : Type 0} → (X → Z) → List (String Y × X) → List (List ℕ × Z)
named shown entries = map (λ e. (string_bytes e.0, shown e.1)) entries

abbrev pub by_name : {X Y Z : Type 0} → (X → Z) → List (String Y × X) → FinMap (slice_cmp nat_cmp) Z
by_name shown entries = from_entries (named shown entries)
