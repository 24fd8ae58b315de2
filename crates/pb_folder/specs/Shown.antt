-- What the folders of a family and its bucket show of the marker world, before any store is open.
use Rattle.std.specs.Prelude.{◌≡◌, ℕ, ◌==◌, Bool, true, false, ◌⊎◌, List, [], Option, Some, None, nat_lt, if◌then◌else◌, All, IsSome}
use Rattle.std.specs.List.{find, list_any}
use Rattle.std.specs.FinMap.{contains_key, get}
use Rattle.std.specs.Option.{option_map, option_and_then}
use Rattle.pb_devices.specs.Contents.{Folder}
use Rattle.pb_devices.specs.Objects.{Objects}
use Rattle.pb_keys.specs.Map.{Map}
use Rattle.pb_names.specs.Identity.{Identity, IsStore}
use Rattle.pb_names.specs.Ranges.{is_store}
use Rattle.pb_payloads.specs.Catalogued.{Standing}
use Rattle.pb_payloads.specs.Catalogued.Standing.{Shared, External}
use Rattle.pb_payloads.specs.Catalogue.{Entries, is_of}
use Rattle.pb_gate_log.specs.NewFolder.{IsNew}
use Rattle.pb_gate_log.specs.Payloads.{HasList}
use Rattle.pb_version.specs.Stored.{stored_in}
use Rattle.pb_marker_world.specs.declared.stages.Stage.TheVariants.{Held, Loose}
use Rattle.pb_marker_world.specs.Machine.{Entry, Part, World}
use Rattle.pb_marker_world.specs.Bucket.{is_shared_name, shown_names, NamesInForm}
use Rattle.pb_marker_world.specs.Sound.{IsSound}
use Rattle.pb_folder.specs.Held.{named_objects}
use Rattle.pb_folder.specs.Said.{Said, Says}
use Rattle.pb_folder.specs.StandsFor.{StandsFor}

-- what a folder says, none where it is that of a new store
abbrev pub Words : Type 0
Words = Option Said

abbrev pub Shows : Folder → ℕ → Words → Type 0
Shows folder id None = IsNew folder
Shows folder id (Some said) = Says folder id said

-- the version has bytes under the number
abbrev pub is_named : Said → ℕ → Bool
is_named said number = list_any (λ item. item.number == number) (stored_in said.version)

abbrev pub shared_as : Standing → Option Identity
shared_as (Shared object) = Some object
shared_as (External name) = None

-- the shared object that the standing entry of the number gives, if it gives one
abbrev pub shared_of : Entries → ℕ → Option Identity
shared_of entries number = option_and_then (λ entry. shared_as entry.1) (find (is_of number) entries)

-- Held where the version names the number, else Loose; no lender is kept over a run
abbrev pub closed_entry : Said → ℕ → Identity → Entry
closed_entry said number object =
    record { object = object; lender = None; stage = if is_named said number then Held else Loose }

-- the part of a closed store: a number is used below the next one to be drawn
abbrev pub closed_part : ℕ → Words → Part
closed_part opening None = record { opening = opening; used = λ _. false; entries = λ _. None }
closed_part opening (Some said) =
    record {
      opening = opening;
      used = λ number. nat_lt number said.version.five.next;
      entries = λ number. option_map (closed_entry said number) (shared_of said.entries number);
    }

-- the words of each store, none where the number is no store's
abbrev pub words_of : (ℕ → Words) → ℕ → Words
words_of words store = if is_store store then words store else None

-- the world in which each store says its words and has opened once, beside a bucket, and no handle is given
abbrev pub closed_world : (ℕ → Words) → Objects → World
closed_world words objects =
    record { parts = λ store. closed_part 1 (words_of words store); names = shown_names objects; lendings = [] }

-- one of the folders shows these words
pub record IsShown (images : Folder → Type 0) (id : ℕ) (words : Words) : Type 0 where
  pub folder : Folder
  pub image : images folder
  pub shows : Shows folder id words

pub record StandsForSome (folder : Folder) (objects : Objects) (id : ℕ) : Type 0 where
  pub count : ℕ
  pub pairs : Map
  pub stands : StandsFor folder objects id count pairs

-- no name of the bucket begins as those of shared objects and markers do
abbrev pub HasNoShared : Objects → Type 0
HasNoShared objects = (name : List ℕ) → contains_key objects name ≡ true → is_shared_name name ≡ false

-- what a program may begin with: by store number the images of its folder, and a bucket
pub record IsGood (images : ℕ → Folder → Type 0) (objects : Objects) : Type 0 where
  -- nothing but shared objects and markers stands under `obj/`
  pub names : NamesInForm objects
  -- each image stands for some count and map
  pub each : (store : ℕ) → IsStore store → (folder : Folder) → images store folder → StandsForSome folder objects store
  -- whichever image of each folder is taken, the world shown is sound
  pub sound : (words : ℕ → Words) → ((store : ℕ) → IsStore store → IsShown (images store) store (words store))
      → IsSound (closed_world words objects)

-- two files with the same bytes, or with one list of payloads
pub record HaveOneList (one other : Option (List ℕ)) : Type 0 where
  pub list : List (List ℕ)
  pub first : HasList list one
  pub second : HasList list other

abbrev pub KeepsPayloadsOf : Folder → Folder → Type 0
KeepsPayloadsOf one other = (name : List ℕ) → (other name ≡ one name) ⊎ HaveOneList (one name) (other name)

-- the objects that the words name
abbrev pub named_by : Words → List (List ℕ)
named_by None = []
named_by (Some said) = named_objects said.entries said.version

-- each object that the words name, and that is in the one bucket, has the same bytes in the other
abbrev pub StaysNamed : Words → Objects → Objects → Type 0
StaysNamed words one other = All (λ name. IsSome (get one name) → get other name ≡ get one name) (named_by words)
