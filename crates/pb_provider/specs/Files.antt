-- A file between its creation and a barrier.
use Rattle.std.specs.Prelude.{◌≡◌, ◌⊎◌, ℕ, List, Option, Some}
use Rattle.pb_devices.specs.Contents.{Contents, MayLeave}

-- reads give these bytes, and a power cut leaves them or what it might have left before
pub record IsWhole (name bytes : List ℕ) (old new : Contents) : Type 0 where
  pub seen : new.seen name ≡ Some bytes
  pub left : (image : Option (List ℕ)) → MayLeave new name image → MayLeave old name image ⊎ (image ≡ Some bytes)
