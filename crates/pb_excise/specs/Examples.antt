-- Versions that the laws compute with: spans are of single letters, and each table has 8 bytes.
use Rattle.std.specs.Prelude.{ℕ, List, [], ◌∷◌, true, false}
use Rattle.pb_edit.specs.Edit.{CreatedItem}
use Rattle.pb_keys.specs.Span.{span_of}
use Rattle.pb_rows.specs.Viewed.{plain_view}
use Rattle.pb_version.specs.Version.{TableView, VersionView}

abbrev pub a : List ℕ
a = 97 ∷ []

abbrev pub b : List ℕ
b = 98 ∷ []

abbrev pub c : List ℕ
c = 99 ∷ []

abbrev pub d : List ℕ
d = 100 ∷ []

abbrev pub e : List ℕ
e = 101 ∷ []

abbrev pub z : List ℕ
z = 122 ∷ []

-- the end right above a letter, a letter twice, and a letter with z
abbrev pub above : List ℕ → List ℕ
above [] = 0 ∷ []
above (letter ∷ rest) = letter ∷ above rest

abbrev pub aa : List ℕ
aa = 97 ∷ 97 ∷ []

abbrev pub bb : List ℕ
bb = 98 ∷ 98 ∷ []

abbrev pub cc : List ℕ
cc = 99 ∷ 99 ∷ []

abbrev pub dz : List ℕ
dz = 100 ∷ 122 ∷ []

-- a physical table whose rank is its number
abbrev pub whole : ℕ → List ℕ → List ℕ → TableView
whole number lo hi = record {
  number = number;
  rank = number;
  backing = number;
  size = 8;
  view = plain_view (span_of lo hi);
  is_virtual = false;
}

-- a virtual table over a table of that number and rank
abbrev pub part : ℕ → ℕ → List ℕ → List ℕ → TableView
part number backing lo hi = record {
  number = number;
  rank = backing;
  backing = backing;
  size = 8;
  view = plain_view (span_of lo hi);
  is_virtual = true;
}

abbrev pub backing : ℕ → CreatedItem
backing number = record { number = number; size = 8 }

-- with tables on the levels 0, 1 and 6
abbrev pub store : List TableView → List TableView → List TableView → List CreatedItem → VersionView
store first second last backings = record {
  levels = first ∷ second ∷ [] ∷ [] ∷ [] ∷ [] ∷ last ∷ [];
  backings = backings;
  five = record { accepted = 2; next = 64; log = 5; flushed = 2; format = 1 };
}

-- after a flush of the table 4
abbrev pub flushed : VersionView
flushed = store (whole 4 a (above e) ∷ []) [] [] []
