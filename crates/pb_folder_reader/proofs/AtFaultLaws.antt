-- Where a file is at fault, the folder stands for nothing.
use Rattle.std.proofs.Common.{◌≡◌, ℕ, ◌<◌, List, [], Option, None, map, sym, ap, ◌∙◌, subst, arith, inl, inr}
use Rattle.std.specs.List.{All}
use Rattle.std.specs.Prelude.{IsSomeAnd}
use Rattle.pb_devices.specs.Contents.{Folder}
use Rattle.pb_devices.specs.Objects.{Objects}
use Rattle.pb_edit.specs.Edit.{CreatedItem}
use Rattle.pb_folder.specs.Held.{HoldsVersion, IsMapped}
use Rattle.pb_folder.specs.Said.{Said, Says}
use Rattle.pb_folder.specs.StandsFor.{StandsFor}
use Rattle.pb_folder.proofs.Lists as part
use Rattle.pb_folder.proofs.Lists.{All-of_map}
use Rattle.pb_folder_reader.specs.AtFault.{AreTablesAtFault, IsAtFault, IsCatalogueAtFault, IsKeptAtFault, IsManifestAtFault, IsSaidAtFault, IsShownAtFault}
use Rattle.pb_folder_reader.specs.AtFault.IsAtFault.{OfPointer, OfWords, OfTables, OfStanding}
use Rattle.pb_folder_reader.specs.AtFault.IsSaidAtFault.{OfManifest, OfOwnNumber, OfCatalogue, OfEntry, OfLog}
use Rattle.pb_folder_reader.specs.Tables.{HasTable}
use Rattle.pb_folder_reader.proofs.Lists.{All_at}
use Rattle.pb_folder_reader.proofs.Reading.{catalogue_says, entries_are, log_says, manifest_says, one_named, one_read, version_is}
use Rattle.pb_gate_log.specs.Payloads.{payloads, payloads_in}
use Rattle.pb_gate_log.proofs.FilePayloads.{such_in}
use Rattle.pb_keys.specs.Map.{Map}
use Rattle.pb_names.specs.Spelling.{current_name}
use Rattle.pb_payloads.specs.Catalogue.{Entries}
use Rattle.pb_payloads.specs.Current.{Pointer, SaysCurrent}
use Rattle.pb_payloads.specs.Places.{bytes_of}
use Rattle.pb_payloads.proofs.CurrentLaws.{no_pointer}
use Rattle.pb_rows.specs.Layer.{KeyLayer}
use Rattle.pb_version.specs.Stored.{backing_of}
use Rattle.pb_version.specs.Version.{TableView, VersionView, all_tables}

absent : (file : Option (List ℕ)) (P : List ℕ → Type 0) → file ≡ None → IsSomeAnd file P → ⊥
absent file P none has = subst (λ (f : Option (List ℕ)). IsSomeAnd f P) none has

-- ---- the words

module _ (folder : Folder) (id : ℕ) (pointer : Pointer) (said : Said) (at : said.pointer ≡ pointer) (says : Says folder id said) (file : List ℕ) where
  manifest_none : IsManifestAtFault folder pointer.manifest file → ⊥
  manifest_none (inl lacks) = absent _ _ lacks.1 (manifest_says folder id said pointer at says)
  manifest_none (inr none) = none.1 said.version (manifest_says folder id said pointer at says)

  catalogue_none : IsCatalogueAtFault folder pointer.catalogue id file → ⊥
  catalogue_none (inl lacks) = absent _ _ lacks.1 (catalogue_says folder id said pointer at says)
  catalogue_none (inr none) = none.1 said.entries (catalogue_says folder id said pointer at says)

  said_none : IsSaidAtFault folder id pointer file → ⊥
  said_none (OfManifest is) = manifest_none is
  said_none (OfOwnNumber version read high same) =
      let is = version_is folder id said pointer at says version read in
      let reserved = says.reserved in
      absurd (omega (arith, ap (λ (v : VersionView). v.five.next) is, ap (λ (p : Pointer). p.manifest) at))
  said_none (OfCatalogue is) = catalogue_none is
  said_none (OfEntry version entries read has high same) =
      let is = version_is folder id said pointer at says version read in
      let are = entries_are folder id said pointer at says entries has in
      let below = subst (λ (v : VersionView). All (λ entry. entry.0 < v.five.next) said.entries) is says.entered in
      high (subst (All (λ entry. entry.0 < version.five.next)) are below)
  said_none (OfLog version read is) = is.1 said.log (log_says folder id said pointer at says version read)

-- ---- the tables

module _ (folder : Folder) (objects : Objects) (entries : Entries) (layers : ℕ → KeyLayer) (file : List ℕ) where
  shown_none : (tables : List TableView) → All (HasTable (bytes_of folder objects entries) layers) (map backing_of tables) → All (IsMapped layers) tables
      → IsShownAtFault folder objects entries tables file → ⊥
  shown_none tables has mapped (table, (i, within, is), inl none) =
      none.1 (layers table.backing)
      (All_at (λ t. HasTable (bytes_of folder objects entries) layers (backing_of t)) tables i table within is
      (All-of_map (HasTable (bytes_of folder objects entries) layers) backing_of tables has))
  shown_none tables has mapped (table, (i, within, is), inr none) =
      none.1 (layers table.backing)
      (All_at (λ t. HasTable (bytes_of folder objects entries) layers (backing_of t)) tables i table within is
      (All-of_map (HasTable (bytes_of folder objects entries) layers) backing_of tables has))
      (All_at (IsMapped layers) tables i table within is mapped)

  kept_none : (backings : List CreatedItem) → All (HasTable (bytes_of folder objects entries) layers) backings → IsKeptAtFault folder objects entries backings file → ⊥
  kept_none backings has (backing, (i, within, is), none) =
      none.1 (layers backing.number) (All_at (HasTable (bytes_of folder objects entries) layers) backings i backing within is has)

  tables_none : (version : VersionView) → HoldsVersion folder objects entries version layers → AreTablesAtFault folder objects entries version file → ⊥
  tables_none version holds (inl shown) =
      shown_none (all_tables version)
      (part.All-front (HasTable (bytes_of folder objects entries) layers) (map backing_of (all_tables version)) version.backings holds.stored) holds.mapped shown
  tables_none version holds (inr kept) =
      kept_none version.backings
      (part.All-back (HasTable (bytes_of folder objects entries) layers) (map backing_of (all_tables version)) version.backings holds.stored) kept

-- ---- the folder

new_none : (file : Option (List ℕ)) (pointer : Pointer) → payloads_in file ≡ [] → IsSomeAnd file (λ bytes. SaysCurrent (payloads bytes) pointer) → ⊥
new_none file pointer new says =
    no_pointer pointer
    (subst (λ (list : List (List ℕ)). SaysCurrent list pointer) new (such_in file (λ list. SaysCurrent list pointer) says))

pub at_fault_none : (folder : Folder) (objects : Objects) (id : ℕ) (file : List ℕ) → IsAtFault folder objects id file → (n : ℕ) (m : Map)
    → StandsFor folder objects id n m → ⊥
at_fault_none folder objects id file (OfPointer old none same) n m (inl new) = old new.0
at_fault_none folder objects id file (OfPointer old none same) n m (inr means) = none means.said.pointer means.says.current
at_fault_none folder objects id file (OfWords pointer current is) n m (inl new) = new_none (folder current_name) pointer new.0 current
at_fault_none folder objects id file (OfWords pointer current is) n m (inr means) =
    said_none folder id pointer means.said (one_named folder means.said.pointer pointer means.says.current current) means.says file is
at_fault_none folder objects id file (OfTables said read is) n m (inl new) = new_none (folder current_name) said.pointer new.0 read.current
at_fault_none folder objects id file (OfTables said read is) n m (inr means) =
    let same = one_read folder id means.said said means.says read in
    tables_none folder objects said.entries means.layers file said.version
    (subst (λ (s : Said). HoldsVersion folder objects s.entries s.version means.layers) same means.holds.tables) is
at_fault_none folder objects id file (OfStanding said read some same) n m (inl new) = new_none (folder current_name) said.pointer new.0 read.current
at_fault_none folder objects id file (OfStanding said read some same) n m (inr means) =
    some (sym (ap (λ (s : Said). s.entries) (one_read folder id means.said said means.says read)) ∙ means.says.bare)
