-- All that has a name, and what the names tell.
use Rattle.std.specs.Prelude.{◌≡◌, ◌≢◌, ℕ, ◌<◌, ◌^◌, ◌↔◌, List, codes, IsTrue, nat_eq}
use Rattle.std.specs.List.{starts_with}
use Rattle.pb_names.specs.Grammar.{IsName}
use Rattle.pb_names.specs.Identity.{Identity, IsObject, IsStore}
use Rattle.pb_names.specs.Spelling.{current_name, external_name, file_name, marker_name, marker_prefix, object_name}
use Rattle.pb_names.specs.declared.file_kind.FileKind.{FileKind}

pub data Named : Type 0 where
  current : Named
  file : FileKind → ℕ → Named
  object : Identity → Named
  marker : Identity → ℕ → ℕ → Named
  external : List ℕ → Named

-- how it is spelled
abbrev pub spelling : Named → List ℕ
spelling current = current_name
spelling (file kind number) = file_name kind number
spelling (object id) = object_name id
spelling (marker id store number) = marker_name id store number
spelling (external name) = external_name name

-- its numbers and names are those that the makers take
abbrev pub IsNamed : Named → Type 0
IsNamed current = Unit {0}
IsNamed (file kind number) = number < 2 ^ 64
IsNamed (object id) = IsObject id
IsNamed (marker id store number) = IsObject id × IsStore store × (number < 2 ^ 62)
IsNamed (external name) = IsName name

abbrev pub IsMarkerOf : Identity → Named → Type 0
IsMarkerOf id current = ⊥
IsMarkerOf id (file kind number) = ⊥
IsMarkerOf id (object other) = ⊥
IsMarkerOf id (marker other store number) = other ≡ id
IsMarkerOf id (external name) = ⊥

abbrev pub IsShared : Named → Type 0
IsShared current = ⊥
IsShared (file kind number) = ⊥
IsShared (object id) = Unit {0}
IsShared (marker id store number) = Unit {0}
IsShared (external name) = ⊥

-- one name, one thing
abbrev pub NamesAreApart : Type 0
NamesAreApart = (one other : Named) → IsNamed one → IsNamed other → spelling one ≡ spelling other → one ≡ other

-- an object's marker prefix begins the names of its own markers, and no other name
abbrev pub PrefixTellsMarkers : Type 0
PrefixTellsMarkers = (id : Identity) (one : Named) → IsObject id → IsNamed one
    → IsTrue (starts_with nat_eq (spelling one) (marker_prefix id)) ↔ IsMarkerOf id one

-- each object has a marker prefix of its own, which is itself no name
abbrev pub PrefixesAreApart : Type 0
PrefixesAreApart = (id other : Identity) → IsObject id → IsObject other → marker_prefix id ≡ marker_prefix other → id ≡ other

abbrev pub PrefixIsNoName : Type 0
PrefixIsNoName = (id : Identity) (one : Named) → IsObject id → IsNamed one → spelling one ≢ marker_prefix id

-- `obj/` begins the names of shared objects and of markers, and no other name
abbrev pub PrefixTellsShared : Type 0
PrefixTellsShared = (one : Named) → IsNamed one → IsTrue (starts_with nat_eq (spelling one) (codes "obj/")) ↔ IsShared one
