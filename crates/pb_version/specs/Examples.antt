-- Edits that the laws compute with.
use Rattle.std.specs.Prelude.{ℕ, List, [], ◌∷◌, replicate, Option, Some, None, false, true}
use Rattle.pb_edit.specs.Edit.{VersionEdit, PhysicalItem}
use Rattle.pb_keys.specs.Span.{span_of}
use Rattle.pb_rows.specs.ChangingLayers.{row_of}
use Rattle.pb_rows.specs.Layer.{KeyLayer, layer_of}
use Rattle.pb_rows.specs.Viewed.{plain_view}
use Rattle.pb_version.specs.Version.{TableView, VersionView}

-- an edit of the five numbers and new physical tables alone
abbrev pub with_physical : Option ℕ → Option ℕ → Option ℕ → Option ℕ → Option ℕ → List PhysicalItem → VersionEdit
with_physical accepted next log flushed format physical = record {
  accepted = accepted;
  next = next;
  log = log;
  flushed = flushed;
  format = format;
  deleted = [];
  physical = physical;
  virtuals = [];
  created = [];
  removed = [];
}

-- of a new store
abbrev pub first_edit : VersionEdit
first_edit = with_physical (Some 0) (Some 64) (Some 3) (Some 0) (Some 1) []

abbrev pub edit_without_format : VersionEdit
edit_without_format = with_physical (Some 0) (Some 64) (Some 3) (Some 0) None []

abbrev pub new_store : VersionView
new_store = record {
  levels = replicate 7 [];
  backings = [];
  five = record { accepted = 0; next = 64; log = 3; flushed = 0; format = 1 };
}

-- of a flush at count 2: the table 4 of 8 bytes with the keys from a up to b, and the log 5
abbrev pub first_flush : VersionEdit
first_flush =
    with_physical (Some 2) None (Some 5) (Some 2) None
    ((record { level = 0; number = 4; rank = 4; size = 8; lo = 97 ∷ []; hi = 98 ∷ [] }) ∷ [])

abbrev pub flushed_table : TableView
flushed_table = record {
  number = 4;
  rank = 4;
  backing = 4;
  size = 8;
  view = plain_view (span_of (97 ∷ []) (98 ∷ []));
  is_virtual = false;
}

abbrev pub flushed_store : VersionView
flushed_store = record {
  levels = (flushed_table ∷ []) ∷ replicate 6 [];
  backings = [];
  five = record { accepted = 2; next = 64; log = 5; flushed = 2; format = 1 };
}

-- of an excise that leaves the keys from a up to a!: the table 4 becomes a backing, which the table 6 shows
abbrev pub carve_edit : VersionEdit
carve_edit = record (with_physical (Some 3) None None None None []) {
  deleted = (record { level = 0; number = 4 }) ∷ [];
  virtuals = (record { level = 0; number = 6; rank = 4; backing = 4; lo = 97 ∷ []; hi = 97 ∷ 33 ∷ []; prefix = []; suffix = [] }) ∷ [];
  created = (record { number = 4; size = 8 }) ∷ [];
}

abbrev pub carved_store : VersionView
carved_store = record {
  levels = ((record {
    number = 6;
    rank = 4;
    backing = 4;
    size = 8;
    view = plain_view (span_of (97 ∷ []) (97 ∷ 33 ∷ []));
    is_virtual = true;
  }) ∷ []) ∷ replicate 6 [];
  backings = (record { number = 4; size = 8 }) ∷ [];
  five = record { accepted = 3; next = 64; log = 5; flushed = 2; format = 1 };
}

-- tables of one span on the levels 0, 1 and 6, each of which sets the key a to its own number
abbrev pub table_from : List ℕ → List ℕ → ℕ → ℕ → TableView
table_from lo hi number rank = record {
  number = number;
  rank = rank;
  backing = number;
  size = 8;
  view = plain_view (span_of lo hi);
  is_virtual = false;
}

abbrev pub stacked : List TableView → List TableView → VersionView
stacked first second = record {
  levels = first ∷ second ∷ [] ∷ [] ∷ [] ∷ [] ∷ (table_from (97 ∷ []) (98 ∷ []) 4 4 ∷ []) ∷ [];
  backings = [];
  five = record { accepted = 2; next = 64; log = 5; flushed = 2; format = 1 };
}

abbrev pub sets_its_number : ℕ → KeyLayer
sets_its_number number = layer_of [] (row_of (97 ∷ []) (Some (number ∷ [])) ∷ [])
