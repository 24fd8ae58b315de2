-- A folder as the list of its files, and a bucket as the list of its objects.
use Rattle.std.specs.Prelude.{ℕ, List, [], ◌∷◌, Some, None, if◌then◌else◌, nat_eq}
use Rattle.std.specs.Cmp.Lexicographic.{pointwise}
use Rattle.std.specs.FinMap.{empty, insert}
use Rattle.pb_devices.specs.Contents.{Folder}
use Rattle.pb_devices.specs.Objects.{Objects}

-- names, and the bytes of each
abbrev pub Files : Type 0
Files = List (List ℕ × List ℕ)

-- of the first file of the name
abbrev pub folder_of : Files → Folder
folder_of [] name = None
folder_of (file ∷ files) name = if pointwise nat_eq file.0 name then Some file.1 else folder_of files name

-- a bucket as the list of its objects, the first of a name counting
abbrev pub objects_of : Files → Objects
objects_of [] = empty
objects_of (file ∷ files) = insert (objects_of files) file.0 file.1
