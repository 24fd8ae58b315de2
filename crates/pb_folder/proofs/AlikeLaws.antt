-- What the words of a folder name decides what it stands for.
use Rattle.std.proofs.Common.{◌≡◌, ℕ, List, [], ◌∷◌, Option, Some, None, refl, sym, subst, inl, inr}
use Rattle.std.specs.FinMap.{get}
use Rattle.std.specs.List.{All, cons_option, filter_map}
use Rattle.std.specs.Option.{option_and_then}
use Rattle.std.specs.Prelude.{IsSomeAnd}
use Rattle.std.proofs.lemmas.List.Elements.{All-head, All-tail, All-nil, All-cons}
use Rattle.pb_devices.specs.Contents.{Folder}
use Rattle.pb_devices.specs.Objects.{Objects}
use Rattle.pb_edit.specs.Edit.{CreatedItem}
use Rattle.pb_gate_log.specs.NewFolder.{IsNew}
use Rattle.pb_gate_log.specs.Payloads.{HasList, HasPayloads, payloads}
use Rattle.pb_keys.specs.Map.{Map}
use Rattle.pb_names.specs.Spelling.{current_name, file_name}
use Rattle.pb_names.specs.declared.file_kind.FileKind.TheVariants.{Manifest, Catalogue, Log, Table}
use Rattle.pb_payloads.specs.Catalogue.{Entries, SaysCatalogue, with_id}
use Rattle.pb_payloads.specs.Current.{SaysCurrent}
use Rattle.pb_payloads.specs.Log.{SaysLog, waiting_in}
use Rattle.pb_payloads.specs.Places.{in_place, object_bytes, object_of}
use Rattle.pb_rows.specs.Layer.{KeyLayer}
use Rattle.pb_version.specs.SaysVersion.{SaysVersion}
use Rattle.pb_version.specs.Stored.{stored_in}
use Rattle.pb_version.specs.Version.{VersionView}
use Rattle.pb_folder.specs.Alike.{Alike, AlikeObjects, KeepsList, SameTable}
use Rattle.pb_folder.specs.Held.{Holds, HoldsVersion, IsLocal, IsStored, IsTableOf}
use Rattle.pb_folder.specs.Said.{Said, Says}
use Rattle.pb_folder.specs.StandsFor.{StandsFor}
use Rattle.pb_folder.proofs.Lists.{All-both}

-- ---- another folder

listed : (file : Option (List ℕ)) (list : List (List ℕ)) (AreSuch : List (List ℕ) → Type 0) → HasList list file → AreSuch list
    → IsSomeAnd file (λ bytes. AreSuch (payloads bytes))
listed None list AreSuch is such = absurd is
listed (Some bytes) list AreSuch is such = subst AreSuch (sym is) such

-- a file that has the same list has the same payloads
has_carried : (one other : Option (List ℕ)) (AreSuch : List (List ℕ) → Type 0) → IsSomeAnd one (λ bytes. AreSuch (payloads bytes))
    → ((list : List (List ℕ)) → HasList list one → HasList list other) → IsSomeAnd other (λ bytes. AreSuch (payloads bytes))
has_carried None other AreSuch has keeps = absurd has
has_carried (Some bytes) other AreSuch has keeps = listed other (payloads bytes) AreSuch (keeps (payloads bytes) refl) has

module _ (one other : Folder) where
  carried : (name : List ℕ) (AreSuch : List (List ℕ) → Type 0) → KeepsList one other name → HasPayloads one name AreSuch → HasPayloads other name AreSuch
  carried name AreSuch keeps has = has_carried (one name) (other name) AreSuch has keeps

  -- the words are said wherever the four logs that they name have their lists
  pub words_carried : (id : ℕ) (said : Said) → KeepsList one other current_name → KeepsList one other (file_name Manifest said.pointer.manifest)
      → KeepsList one other (file_name Catalogue said.pointer.catalogue) → KeepsList one other (file_name Log said.version.five.log)
      → Says one id said → Says other id said
  words_carried id said current manifest catalogue log says = record {
    current = carried current_name (λ list. SaysCurrent list said.pointer) current says.current;
    manifest = carried (file_name Manifest said.pointer.manifest) (λ list. SaysVersion list said.version) manifest says.manifest;
    catalogue = carried (file_name Catalogue said.pointer.catalogue) (λ list. SaysCatalogue list (with_id id said.entries)) catalogue says.catalogue;
    log = carried (file_name Log said.version.five.log) (λ list. SaysLog said.version.five.flushed list said.log) log says.log;
    reserved = says.reserved;
    entered = says.entered;
    bare = says.bare;
    waits = says.waits;
  }

  module _ (id : ℕ) (said : Said) (alike : Alike said one other) where
    says_carried : Says one id said → Says other id said
    says_carried says = words_carried id said alike.current alike.manifest alike.catalogue alike.log says

    module _ (objects : Objects) (layers : ℕ → KeyLayer) where
      version_carried : HoldsVersion one objects said.entries said.version layers → HoldsVersion other objects said.entries said.version layers
      version_carried holds = record {
        stored =
            All-both (IsStored one objects said.entries layers) (λ item. SameTable one other item.number) (IsStored other objects said.entries layers)
            (λ item is same.
            subst (λ (file : Option (List ℕ)).
            IsSomeAnd (in_place (object_of said.entries item.number) file (object_bytes objects said.entries item.number)) (IsTableOf item.size (layers item.number)))
            (sym same) is)
            (stored_in said.version) holds.stored alike.stored;
        mapped = holds.mapped;
      }

      holds_carried : Holds one objects said layers → Holds other objects said layers
      holds_carried holds = record {
        tables = version_carried holds.tables;
        waiting =
            All-both (IsLocal one layers) (λ table. SameTable one other table.number) (IsLocal other layers)
            (λ table is same. subst (λ (file : Option (List ℕ)). IsSomeAnd file (IsTableOf table.size (layers table.number))) (sym same) is)
            (waiting_in said.log) holds.waiting alike.waiting;
      }

-- whatever else lies in the folder
pub named_files : (one other : Folder) (objects : Objects) (id n : ℕ) (m : Map) → StandsFor one objects id n m
    → ((said : Said) → Says one id said → Alike said one other) → (IsNew one → IsNew other) → StandsFor other objects id n m
named_files one other objects id n m (inl new) alike same = inl (same new.0, new.1, new.2)
named_files one other objects id n m (inr means) alike same =
    let is = alike means.said means.says in
    inr (
    record {
      said = means.said;
      layers = means.layers;
      says = says_carried one other id means.said is means.says;
      holds = holds_carried one other id means.said is objects means.layers means.holds;
      count = means.count;
      pairs = means.pairs;
    }
    )

-- ---- another bucket

module _ (one other : Objects) where
  found_alike : (name : Option (List ℕ)) (rest : List (List ℕ)) → All (λ name. get other name ≡ get one name) (cons_option name rest)
      → (option_and_then (get other) name ≡ option_and_then (get one) name) × All (λ name. get other name ≡ get one name) rest
  found_alike None rest same = (refl, same)
  found_alike (Some name) rest same = (
    All-head (λ name. get other name ≡ get one name) name rest same,
    All-tail (λ name. get other name ≡ get one name) name rest same,
  )

  items_alike : (entries : Entries) (items : List CreatedItem)
      → All (λ name. get other name ≡ get one name) (filter_map (λ item. object_of entries item.number) items)
      → All (λ item. object_bytes other entries item.number ≡ object_bytes one entries item.number) items
  items_alike entries [] same = All-nil _
  items_alike entries (item ∷ items) same =
      let split = found_alike (object_of entries item.number) (filter_map (λ item. object_of entries item.number) items) same in
      All-cons (λ item. object_bytes other entries item.number ≡ object_bytes one entries item.number) item items split.0
      (items_alike entries items split.1)

  pub held_beside : (folder : Folder) (entries : Entries) (version : VersionView) (layers : ℕ → KeyLayer) → AlikeObjects entries version one other
      → HoldsVersion folder one entries version layers → HoldsVersion folder other entries version layers
  held_beside folder entries version layers same holds = record {
    stored =
        All-both (IsStored folder one entries layers) (λ item. object_bytes other entries item.number ≡ object_bytes one entries item.number)
        (IsStored folder other entries layers)
        (λ item is alike.
        subst (λ (object : Option (List ℕ)).
        IsSomeAnd (in_place (object_of entries item.number) (folder (file_name Table item.number)) object) (IsTableOf item.size (layers item.number)))
        (sym alike) is)
        (stored_in version) holds.stored (items_alike entries (stored_in version) same);
    mapped = holds.mapped;
  }

  pub stands_beside : (folder : Folder) (id n : ℕ) (m : Map) → ((said : Said) → Says folder id said → AlikeObjects said.entries said.version one other)
      → StandsFor folder one id n m → StandsFor folder other id n m
  stands_beside folder id n m same (inl new) = inl new
  stands_beside folder id n m same (inr means) = inr (
      record {
        said = means.said;
        layers = means.layers;
        says = means.says;
        holds = record {
          tables = held_beside folder means.said.entries means.said.version means.layers (same means.said means.says) means.holds.tables;
          waiting = means.holds.waiting;
        };
        count = means.count;
        pairs = means.pairs;
      }
      )

  -- without entries no object is named
  none_named : (items : List CreatedItem) → All (λ name. get other name ≡ get one name) (filter_map (λ item. object_of [] item.number) items)
  none_named [] = All-nil _
  none_named (item ∷ items) = none_named items

  pub held_bare : (folder : Folder) (version : VersionView) (layers : ℕ → KeyLayer) → HoldsVersion folder one [] version layers
      → HoldsVersion folder other [] version layers
  held_bare folder version layers holds = held_beside folder [] version layers (none_named (stored_in version)) holds

  pub stands_bare : (folder : Folder) (id n : ℕ) (m : Map) → StandsFor folder one id n m → StandsFor folder other id n m
  stands_bare folder id n m stands =
      stands_beside folder id n m
      (λ said says. subst (λ (entries : Entries). AlikeObjects entries said.version one other) (sym says.bare) (none_named (stored_in said.version)))
      stands
