-- Tables of a version, as a look-up passes them.
use Rattle.std.specs.Prelude.{◌≡◌, ℕ, List, true, All, Contains}
use Rattle.pb_devices.specs.Contents.{Folder}
use Rattle.pb_devices.specs.Objects.{Objects}
use Rattle.pb_edit.specs.Edit.{CreatedItem}
use Rattle.pb_folder.specs.Held.{IsStored}
use Rattle.pb_keys.specs.Span.{holds_key}
use Rattle.pb_keys.specs.View.{IsView}
use Rattle.pb_payloads.specs.Catalogue.{Entries}
use Rattle.pb_rows.specs.Layer.{KeyLayer}
use Rattle.pb_rows.specs.Viewed.{plain_view}
use Rattle.pb_version.specs.Stored.{backing_of}
use Rattle.pb_version.specs.Version.{TableView}

-- its view is in form, and bounds alone
abbrev pub IsByBounds : TableView → Type 0
IsByBounds t = IsView t.view × (t.view ≡ plain_view t.view.bounds)

-- by number, these are the layers behind the tables
abbrev pub AreStored : Folder → Objects → Entries → (ℕ → KeyLayer) → List TableView → Type 0
AreStored folder objects entries layers tables = All (λ t. IsStored folder objects entries layers (backing_of t)) tables

-- the bounds of one of the tables hold the key, and what is behind it is so
pub record HasTable (Is : CreatedItem → Type 0) (key : List ℕ) (tables : List TableView) : Type 0 where
  pub table : TableView
  pub stands : Contains tables table
  pub holds : holds_key table.view.bounds key ≡ true
  pub behind : Is (backing_of table)
