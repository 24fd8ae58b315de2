-- What each call leaves of a catalogue's file, and of all others.
use Rattle.std.specs.Prelude.{◌≡◌, ◌⊎◌, ℕ, List, [], ◌∷◌, Option, Result, OnOk}
use Rattle.pb_devices.specs.BeforeOrAfter.{IsBeforeOrAfter}
use Rattle.pb_devices.specs.Contents.{Contents, MayLeave, KeepsOthers}
use Rattle.pb_gate_log.specs.Payloads.{HasList}
use Rattle.pb_payloads.specs.Catalogue.{Entries}
use Rattle.pb_payloads.specs.Catalogued.{catalogued_spelling}
use Rattle.pb_payloads.specs.Catalogued.Catalogued.{Id}
use Rattle.pb_catalog.specs.Catalog.{CatalogView, EachCatalogue, HasCatalogue}

-- the catalogue of this store in this file
pub record IsOf (id : ℕ) (file : List ℕ) (catalog : CatalogView) : Type 0 where
  pub id_is : catalog.id ≡ id
  pub file_is : catalog.log.file ≡ file

-- a catalogue is made, whether that succeeds or fails: each image was one before, or is a log with no payload, or with the
-- id's alone
pub record Begins (id : ℕ) (file : List ℕ) (old new : Contents) : Type 0 where
  pub crash : (image : Option (List ℕ)) → MayLeave new file image
      → MayLeave old file image ⊎ IsBeforeOrAfter (λ list. HasList list image) [] (catalogued_spelling (Id id) ∷ [])
  pub others : KeepsOthers old new file

-- the entries become others, or they don't: each image has those before or those after
pub record Changes (catalog catalog' : CatalogView) (after : Entries) (old new : Contents) {T E : Type 0} (result : Result T E) : Type 0 where
  pub kept : OnOk result (EachCatalogue catalog' new)
  pub crash : (image : Option (List ℕ)) → MayLeave new catalog.log.file image
      → IsBeforeOrAfter (λ entries. HasCatalogue catalog.id entries image) catalog.entries after
  pub others : KeepsOthers old new catalog.log.file
