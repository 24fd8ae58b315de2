-- Where the objects of a store stand, and how far each has come.
use Rattle.std.specs.Prelude.{◌≡◌, ℕ, ◌==◌, Bool, List, [], ◌∷◌, map, if◌then◌else◌}
use Rattle.std.specs.List.{flat_map, list_any}
use Rattle.pb_catalog.specs.Catalog.{CatalogView}
use Rattle.pb_marker_world.specs.declared.stages.Stage.{Stage}
use Rattle.pb_marker_world.specs.declared.stages.Stage.TheVariants.{Held, Loose}
use Rattle.pb_payloads.specs.Catalogue.{Entries}
use Rattle.pb_payloads.specs.Catalogued.{Standing}
use Rattle.pb_payloads.specs.Catalogued.Standing.{Shared, External}
use Rattle.pb_version.specs.Stored.{stored_in}
use Rattle.pb_version.specs.Version.{VersionView}

-- the catalogue, the stage of each shared entry, in the entries' order, and the numbers whose calls of the bucket are under
-- way
pub record ProviderView : Type 0 where
  pub catalogue : CatalogView
  pub stages : List (ℕ × Stage)
  pub begun : List ℕ

-- the version has bytes under the number
abbrev pub is_stored : VersionView → ℕ → Bool
is_stored version number = list_any (λ item. item.number == number) (stored_in version)

-- a shared entry's, and none of an external one
abbrev pub of_shared : {X : Type 0} → Standing → X → List X
of_shared (Shared object) x = x ∷ []
of_shared (External name) x = []

-- of the shared entries, in their order
abbrev pub shared_numbers : Entries → List ℕ
shared_numbers entries = flat_map (λ entry. of_shared entry.1 entry.0) entries

abbrev pub stage_of : VersionView → ℕ → Stage
stage_of version number = if is_stored version number then Held else Loose

-- Held where the version stores the number, else Loose
abbrev pub stages_of : VersionView → Entries → List (ℕ × Stage)
stages_of version entries = flat_map (λ entry. of_shared entry.1 (entry.0, stage_of version entry.0)) entries

-- what holds of every provider: each shared entry has a stage, and nothing else has one
abbrev pub IsProvider : ProviderView → Type 0
IsProvider provider = map (λ staged. staged.0) provider.stages ≡ shared_numbers provider.catalogue.entries
