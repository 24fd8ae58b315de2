-- The images of a name: which stay, and a slot to see it on.
use Rattle.std.specs.Prelude.{ℕ, ◌⊎◌, List, [], ◌∷◌, Option, Some, None}
use Rattle.pb_devices.specs.Contents.{Contents, MayLeave}
use Rattle.pb_mem.specs.Files.{written}
use Rattle.pb_mem.specs.Slots.{SlotView, file_of, earlier_of, IsImageOf, IsImageOfAny, with_file, created, removed}

-- what a power cut might have left of a name, it may leave still
abbrev pub KeepsImages : Contents → Contents → List ℕ → Type 0
KeepsImages old new name = (image : Option (List ℕ)) → MayLeave old name image → MayLeave new name image

-- what a power cut may leave of a name with this slot
abbrev pub MayLeaveOf : Option SlotView → Option (List ℕ) → Type 0
MayLeaveOf slot image = IsImageOfAny (earlier_of slot) image ⊎ IsImageOf (file_of slot) image

-- two bytes
abbrev pub two_bytes : List ℕ
two_bytes = 97 ∷ 98 ∷ []

-- a file that was made, written, removed and made again
abbrev pub made_twice : SlotView
made_twice = created (Some (removed (with_file (λ file. written file 0 two_bytes) (Some (created None)))))
