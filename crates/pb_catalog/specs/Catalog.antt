-- A catalogue on a disk.
use Rattle.std.specs.Prelude.{ℕ, List, Option, All, IsSomeAnd}
use Rattle.pb_devices.specs.Contents.{Contents}
use Rattle.pb_gate_log.specs.EachLog.{LogPlace, EachLog}
use Rattle.pb_gate_log.specs.Payloads.{payloads}
use Rattle.pb_names.specs.Identity.{IsStore}
use Rattle.pb_payloads.specs.Catalogue.{Entries, SaysCatalogue, with_id}
use Rattle.pb_payloads.specs.Catalogued.{Standing, IsCatalogued}
use Rattle.pb_payloads.specs.Catalogued.Catalogued.{Entered}

-- the store's id, the entries in the order in which they were entered, and the log that has them
pub record CatalogView : Type 0 where
  pub id : ℕ
  pub entries : Entries
  pub log : LogPlace

-- a payload can enter this
abbrev pub IsEntered : ℕ × Standing → Type 0
IsEntered entry = IsCatalogued (Entered entry.0 entry.1)

-- what holds of every open catalogue
pub record IsCatalog (catalog : CatalogView) : Type 0 where
  pub store : IsStore catalog.id
  pub in_form : All IsEntered catalog.entries

-- reads and each image of the file say this id and these entries
pub record EachCatalogue (catalog : CatalogView) (disk : Contents) : Type 0 where
  pub payloads : List (List ℕ)
  pub log : EachLog catalog.log payloads disk
  pub says : SaysCatalogue payloads (with_id catalog.id catalog.entries)

-- a file that says this id and these entries
abbrev pub HasCatalogue : ℕ → Entries → Option (List ℕ) → Type 0
HasCatalogue id entries file = IsSomeAnd file (λ bytes. SaysCatalogue (payloads bytes) (with_id id entries))
