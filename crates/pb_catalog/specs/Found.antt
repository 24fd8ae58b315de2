-- What an opening finds in the payloads of a file.
use Rattle.std.specs.Prelude.{◌≡◌, ◌≢◌, ℕ, List, Some, slice_get}
use Rattle.pb_payloads.specs.Catalogue.{Entries, SaysCatalogue, with_id}
use Rattle.pb_payloads.specs.Catalogued.{IsCatalogued, catalogued_spelling}
use Rattle.pb_payloads.specs.Catalogued.Catalogued.{Id}

-- they begin with the id of another store, whatever stands behind it
pub record IsOfAnother (id other : ℕ) (payloads : List (List ℕ)) : Type 0 where
  pub first : slice_get payloads 0 ≡ Some (catalogued_spelling (Id other))
  pub in_form : IsCatalogued (Id other)
  pub apart : other ≢ id

-- they begin with no other id, and say no catalogue with this one
pub record IsDamaged (id : ℕ) (payloads : List (List ℕ)) : Type 0 where
  pub own : (entries : Entries) → SaysCatalogue payloads (with_id id entries) → ⊥
  pub another : (other : ℕ) → IsOfAnother id other payloads → ⊥
