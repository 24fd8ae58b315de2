-- What the images of a disk stand for, and that others stand for the same and show the same.
use Rattle.std.specs.Prelude.{◌↔◌, ◌⊎◌, ℕ, Some}
use Rattle.pb_devices.specs.Contents.{Contents, Folder, IsImage}
use Rattle.pb_devices.specs.Objects.{Objects}
use Rattle.pb_keys.specs.Map.{Map}
use Rattle.pb_gate_log.specs.NewFolder.{IsNew}
use Rattle.pb_folder.specs.Shown.{Words, Shows}
use Rattle.pb_folder.specs.StandsFor.{StandsFor}
use Rattle.pb_recover.specs.First.{first_said}

-- each image stands for this count and this map
abbrev pub AllStand : Contents → Objects → ℕ → ℕ → Map → Type 0
AllStand disk objects id n m = (folder : Folder) → IsImage disk folder → StandsFor folder objects id n m

-- one of the images stands for what the folder stands for, beside any bucket
pub record StoodBefore (id : ℕ) (images : Folder → Type 0) (now : Folder) : Type 0 where
  pub folder : Folder
  pub image : images folder
  pub same : (objects : Objects) (n : ℕ) (m : Map) → StandsFor folder objects id n m ↔ StandsFor now objects id n m

-- each image now stands for what one of those before stood for
abbrev pub SameStanding : ℕ → Contents → Contents → Type 0
SameStanding id old new = (folder : Folder) → IsImage new folder → StoodBefore id (IsImage old) folder

-- the words are shown now, or those of a new store in place of a new folder's
abbrev pub StillShows : ℕ → Folder → Folder → Words → Type 0
StillShows id before now words = Shows now id words ⊎ (IsNew before × Shows now id (Some first_said))

-- one of the images showed nothing but what the folder shows
pub record ShownBefore (id : ℕ) (images : Folder → Type 0) (now : Folder) : Type 0 where
  pub folder : Folder
  pub image : images folder
  pub same : (words : Words) → Shows folder id words → StillShows id folder now words

-- each image now shows what one of those before showed
abbrev pub SameWords : ℕ → Contents → Contents → Type 0
SameWords id old new = (folder : Folder) → IsImage new folder → ShownBefore id (IsImage old) folder
