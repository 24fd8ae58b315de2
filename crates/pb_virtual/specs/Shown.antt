-- What a table shows through its view.
use Rattle.std.specs.Prelude.{◌≡◌, ℕ, List}
use Rattle.pb_keys.specs.View.{KeyView}
use Rattle.pb_rows.specs.Layer.{KeyLayer}
use Rattle.pb_rows.specs.Viewed.{viewed, MapsWithin}
use Rattle.pb_table.specs.Spells.{Spells}

-- the bytes are the table of a layer that keeps its limits through the view
pub record IsViewable (view : KeyView) (bytes : List ℕ) (behind : KeyLayer) : Type 0 where
  pub spelled : Spells bytes behind
  pub within : MapsWithin view behind

-- the layer is what the view shows of such a layer
pub record IsShown (view : KeyView) (bytes : List ℕ) (layer : KeyLayer) : Type 0 where
  pub behind : KeyLayer
  pub viewable : IsViewable view bytes behind
  pub same : layer ≡ viewed view behind
