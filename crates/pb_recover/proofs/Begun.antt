-- A new store that is made of a new folder, or begun, stands for no command, as that folder does.
use Rattle.std.proofs.Common.{◌≡◌, ℕ, [], Some, None, inl, inr, refl}
use Rattle.std.specs.Prelude.{◌↔◌, ◌⊎◌}
use Rattle.std.specs.FinMap.{empty}
use Rattle.std.proofs.lemmas.List.Elements.{All-nil}
use Rattle.pb_devices.specs.Contents.{Folder}
use Rattle.pb_devices.specs.Objects.{Objects}
use Rattle.pb_keys.specs.Map.{Map}
use Rattle.pb_gate_log.specs.NewFolder.{IsNew}
use Rattle.pb_rows.specs.Layer.{layer_of}
use Rattle.pb_version.specs.Meaning.{map_of}
use Rattle.pb_folder.specs.Said.{Says}
use Rattle.pb_folder.specs.Shown.{Words, Shows}
use Rattle.pb_folder.specs.StandsFor.{StandsFor}
use Rattle.pb_folder.proofs.OneMeaning.{new_says_nothing, one_meaning}
use Rattle.pb_recover.specs.First.{first_said}
use Rattle.pb_recover.specs.Reopened.{IsBegun}
use Rattle.pb_recover.specs.Standing.{StillShows}

-- a new folder, and that of a new store, stand for no command and no pair
stands_first : (folder : Folder) (objects : Objects) (id n : ℕ) (m : Map) → IsNew folder ⊎ Says folder id first_said → n ≡ 0 → m ≡ empty
    → StandsFor folder objects id n m
unfolding map_of
stands_first folder objects id n m (inl new) none bare = inl (new, none, bare)
stands_first folder objects id n m (inr says) none bare = inr (
    record {
      said = first_said;
      layers = λ number. layer_of [] [];
      says = says;
      holds = record { tables = record { stored = All-nil _; mapped = All-nil _ }; waiting = All-nil _ };
      count = none;
      pairs = bare;
    }
    )

-- and for nothing else
stands_once : (folder : Folder) (objects : Objects) (id n : ℕ) (m : Map) → IsNew folder ⊎ Says folder id first_said
    → StandsFor folder objects id n m → (n ≡ 0) × (m ≡ empty)
stands_once folder objects id n m made stands =
    one_meaning folder objects id id n 0 m empty stands (stands_first folder objects id 0 empty made refl refl)

module _ (id : ℕ) (before now : Folder) (begun : IsBegun id before now) where
  pub begun_stands : (objects : Objects) (n : ℕ) (m : Map) → StandsFor before objects id n m ↔ StandsFor now objects id n m
  begun_stands objects n m = (
    λ stands.
        let is = stands_once before objects id n m (inl begun.new) stands in
        stands_first now objects id n m begun.made is.0 is.1,
    λ stands.
        let is = stands_once now objects id n m begun.made stands in
        stands_first before objects id n m (inl begun.new) is.0 is.1,
  )

  still : IsNew now ⊎ Says now id first_said → StillShows id before now None
  still (inl new) = inl new
  still (inr says) = inr (begun.new, says)

  pub begun_shows : (words : Words) → Shows before id words → StillShows id before now words
  begun_shows None shows = still begun.made
  begun_shows (Some said) shows = absurd (new_says_nothing before id said begun.new shows)
