-- Tables with their bytes, and what they show.
use Rattle.std.specs.Prelude.{◌≡◌, ℕ, List, [], ◌∷◌, Option, All, IsSomeAnd, map}
use Rattle.pb_edit.specs.Edit.{CreatedItem}
use Rattle.pb_folder.specs.Held.{IsMapped, IsTableOf}
use Rattle.pb_rows.specs.Layer.{KeyLayer}
use Rattle.pb_rows.specs.Viewed.{MapsWithin, viewed}
use Rattle.pb_version.specs.Version.{TableView, VersionView, all_tables}
use Rattle.pb_version.specs.Meaning.{layer_of_table}
use Rattle.pb_version.specs.Stored.{stored_in}

-- the bytes of each number, if it has some
abbrev pub Places : Type 0
Places = ℕ → Option (List ℕ)

-- those of the number have this size, and spell the layer
abbrev pub IsBehind : Places → ℕ → ℕ → KeyLayer → Type 0
IsBehind places number size layer = IsSomeAnd (places number) (IsTableOf size layer)

abbrev pub HasTable : Places → (ℕ → KeyLayer) → CreatedItem → Type 0
HasTable places layers item = IsBehind places item.number item.size (layers item.number)

-- whichever layer it spells
abbrev pub HasSome : Places → CreatedItem → Type 0
HasSome places item = (layer : KeyLayer) × IsBehind places item.number item.size layer

-- what the table shows of the layer behind it
pub record Shows (places : Places) (table : TableView) (shown : KeyLayer) : Type 0 where
  pub layer : KeyLayer
  pub behind : IsBehind places table.backing table.size layer
  pub mapped : MapsWithin table.view layer
  pub is : shown ≡ viewed table.view layer

abbrev pub AllShow : Places → List TableView → List KeyLayer → Type 0
AllShow places [] [] = Unit {0}
AllShow places [] (layer ∷ layers) = ⊥
AllShow places (table ∷ tables) [] = ⊥
AllShow places (table ∷ tables) (layer ∷ layers) = Shows places table layer × AllShow places tables layers

-- by number, there are the layers of all that a version stores, and this is what its tables show of them
pub record ShowsAll (places : Places) (version : VersionView) (shown : List KeyLayer) : Type 0 where
  pub layers : ℕ → KeyLayer
  pub stored : All (HasTable places layers) (stored_in version)
  pub mapped : All (IsMapped layers) (all_tables version)
  pub is : shown ≡ map (layer_of_table layers) (all_tables version)
