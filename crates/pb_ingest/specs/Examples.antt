-- Versions that the laws compute with: each table has 8 bytes, and its rank is its number.
use Rattle.std.specs.Prelude.{ℕ, List, [], ◌∷◌}
use Rattle.pb_edit.specs.Edit.{PhysicalItem}
use Rattle.pb_keys.specs.Order.{end_above}
use Rattle.pb_keys.specs.Span.{span_of}
use Rattle.pb_version.specs.Version.{TableView, VersionView}
use Rattle.pb_version.specs.Examples.{table_from}
use Rattle.pb_ingest.specs.Planned.{WrittenTable}

abbrev pub a : List ℕ
a = 97 ∷ []

abbrev pub b : List ℕ
b = 98 ∷ []

abbrev pub c : List ℕ
c = 99 ∷ []

abbrev pub d : List ℕ
d = 100 ∷ []

abbrev pub m : List ℕ
m = 109 ∷ []

abbrev pub n : List ℕ
n = 110 ∷ []

abbrev pub x : List ℕ
x = 120 ∷ []

abbrev pub z : List ℕ
z = 122 ∷ []

-- a table, alone on its level
abbrev pub table : List ℕ → List ℕ → List TableView
table lo hi = table_from lo hi 4 4 ∷ []

-- from b to right above it
abbrev pub at_b : List TableView
at_b = table b (end_above b)

-- with tables on the levels 0, 1, 3, 5 and 6
abbrev pub store : List TableView → List TableView → List TableView → List TableView → List TableView → VersionView
store first second fourth sixth last = record {
  levels = first ∷ second ∷ [] ∷ fourth ∷ [] ∷ sixth ∷ last ∷ [];
  backings = [];
  five = record { accepted = 2; next = 64; log = 5; flushed = 2; format = 1 };
}

abbrev pub written : ℕ → List ℕ → List ℕ → ℕ → WrittenTable
written number lo hi level = record { number = number; size = 8; hull = span_of lo hi; level = level }

abbrev pub item : ℕ → ℕ → List ℕ → List ℕ → PhysicalItem
item level number lo hi = record { level = level; number = number; rank = number; size = 8; lo = lo; hi = hi }

-- of tables that were written for the levels 6, 6, 3 and 6, where the second lies over a table of level 6
abbrev pub items : List PhysicalItem
items = item 3 7 x z ∷ item 5 8 a c ∷ item 6 6 m n ∷ item 6 9 c d ∷ []
