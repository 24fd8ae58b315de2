-- A lender that the laws compute with: the span is c to f, ends are single letters, and backings from 10 on are remote.
use Rattle.std.specs.Prelude.{ℕ, List, [], ◌∷◌, Bool, ◌==◌, nat_le, false, Some, if◌then◌else◌}
use Rattle.pb_keys.specs.Map.{Map}
use Rattle.pb_keys.specs.Span.{KeySpan, span_of}
use Rattle.pb_keys.specs.View.{KeyView}
use Rattle.pb_rows.specs.ChangingLayers.{row_of}
use Rattle.pb_rows.specs.Layer.{KeyLayer, layer_of}
use Rattle.pb_rows.specs.Viewed.{plain_view}
use Rattle.pb_version.specs.Version.{TableView, VersionView}
use Rattle.pb_lend.specs.Lent.{lent_tables, upper_of, bundle_map}

abbrev pub b : List ℕ
b = 98 ∷ []

abbrev pub c : List ℕ
c = 99 ∷ []

abbrev pub d : List ℕ
d = 100 ∷ []

abbrev pub e : List ℕ
e = 101 ∷ []

abbrev pub f : List ℕ
f = 102 ∷ []

abbrev pub g : List ℕ
g = 103 ∷ []

-- what is lent
abbrev pub span : KeySpan
span = span_of c f

abbrev pub in_bucket : ℕ → Bool
in_bucket backing = nat_le 10 backing

-- the table of this number, seen so
abbrev pub seen_as : ℕ → KeyView → TableView
seen_as number view = record { number = number; rank = number; backing = number; size = 8; view = view; is_virtual = false }

abbrev pub table : ℕ → List ℕ → List ℕ → TableView
table number lo hi = seen_as number (plain_view (span_of lo hi))

-- with tables on the levels 5 and 6
abbrev pub lender : List TableView → List TableView → VersionView
lender fifth sixth = record {
  levels = [] ∷ [] ∷ [] ∷ [] ∷ [] ∷ fifth ∷ sixth ∷ [];
  backings = [];
  five = record { accepted = 2; next = 64; log = 5; flushed = 2; format = 1 };
}

-- a key behind the prefix `t/`, and a view that puts this prefix before every key
abbrev pub behind_t : List ℕ → List ℕ
behind_t key = 116 ∷ 47 ∷ key

abbrev pub prefixed : List ℕ → List ℕ → KeyView
prefixed lo hi = record { bounds = span_of lo hi; prefix = 116 ∷ 47 ∷ []; suffix = [] }

-- ---- layers

-- c and d, with a byte each
abbrev pub two_rows : KeyLayer
two_rows = layer_of [] (row_of c (Some (1 ∷ [])) ∷ row_of d (Some (2 ∷ [])) ∷ [])

-- from d up to e deleted
abbrev pub deletes_d : KeyLayer
deletes_d = layer_of (span_of d e ∷ []) []

abbrev pub nothing : KeyLayer
nothing = layer_of [] []

-- the rows behind the table 16, and the deletion behind all others
abbrev pub behind : ℕ → KeyLayer
behind backing = if backing == 16 then two_rows else deletes_d

-- what a bundle of this lender stands for, with a memtable of this layer
abbrev pub lent_map : KeyLayer → VersionView → ℕ → Map
lent_map newest v from = bundle_map (upper_of newest v from behind span) (lent_tables v from span) behind
