-- What the names of a bucket show: which objects and which markers are present.
use Rattle.std.specs.Prelude.{◌≡◌, ℕ, Bool, true, ◌&&◌, List, codes}
use Rattle.std.specs.FinMap.{contains_key}
use Rattle.pb_devices.specs.Objects.{Objects, begins_with}
use Rattle.pb_names.specs.Identity.{IsMarkerNumber, IsObject, IsStore}
use Rattle.pb_names.specs.Named.{IsNamed, Named, spelling}
use Rattle.pb_names.specs.Ranges.{is_marker_number, is_object, is_store}
use Rattle.pb_names.specs.Spelling.{marker_name, object_name}
use Rattle.pb_marker_world.specs.Machine.{Marker, Names}

-- a marker that a store of the family can have put for an object of the family
pub record IsMarker (m : Marker) : Type 0 where
  pub object : IsObject m.object
  pub store : IsStore m.store
  pub number : IsMarkerNumber m.number

abbrev pub is_marker : Marker → Bool
is_marker m = is_object m.object && (is_store m.store && is_marker_number m.number)

-- how the marker is spelled
abbrev pub name_of : Marker → List ℕ
name_of m = marker_name m.object m.store m.number

-- an object or a marker in range is present where the bucket has its name
abbrev pub shown_names : Objects → Names
shown_names objects =
    record {
      objects = λ o. is_object o && contains_key objects (object_name o);
      markers = λ m. is_marker m && contains_key objects (name_of m);
    }

-- it begins as the names of shared objects and of markers do
abbrev pub is_shared_name : List ℕ → Bool
is_shared_name name = begins_with (codes "obj/") name

-- it is the name of something
pub record IsInForm (name : List ℕ) : Type 0 where
  pub one : Named
  pub named : IsNamed one
  pub spelled : name ≡ spelling one

-- nothing but shared objects and markers stands under `obj/`
abbrev pub NamesInForm : Objects → Type 0
NamesInForm objects = (name : List ℕ) → contains_key objects name ≡ true → is_shared_name name ≡ true → IsInForm name
