-- What the payloads of a catalogue that are left make of the entries that stand.
use Rattle.std.specs.Prelude.{◌≡◌, ℕ, List, Some, All, map}
use Rattle.pb_payloads.specs.Catalogue.{Entries, entries_after, entries_from}
use Rattle.pb_payloads.specs.Catalogued.{Catalogued, IsCatalogued, catalogued_spelling}

-- the payload is allowed where the old entries stand, and makes the new ones of them
pub record IsChange (payload : List ℕ) (old new : Entries) : Type 0 where
  pub catalogued : Catalogued
  pub in_form : IsCatalogued catalogued
  pub spelled : payload ≡ catalogued_spelling catalogued
  pub after : entries_after old catalogued ≡ Some new

-- all of these are, one after the other
pub record ChangesTo (old : Entries) (payloads : List (List ℕ)) (new : Entries) : Type 0 where
  pub said : List Catalogued
  pub spelled : payloads ≡ map catalogued_spelling said
  pub in_form : All IsCatalogued said
  pub folds : entries_from old said ≡ Some new
