-- How files, shared objects, markers and external objects are spelled.
use Rattle.std.specs.Prelude.{ℕ, List, ◌++◌, codes}
use Rattle.std.specs.Fmt.{decimal}
use Rattle.pb_names.specs.Identity.{Identity}
use Rattle.pb_names.specs.declared.file_kind.FileKind.{FileKind}
use Rattle.pb_names.specs.declared.file_kind.FileKind.TheVariants.{Manifest, Catalogue, Log, Table}

-- the ending of a numbered file, by what it keeps
abbrev pub ending : FileKind → List ℕ
ending Manifest = codes ".man"
ending Catalogue = codes ".cat"
ending Log = codes ".log"
ending Table = codes ".tbl"

-- a numbered file of a folder
unfoldable pub file_name : FileKind → ℕ → List ℕ
file_name kind number = decimal number ++ ending kind

-- the file that names the manifest and the catalogue
unfoldable pub current_name : List ℕ
current_name = codes "CURRENT"

-- a shared object
unfoldable pub object_name : Identity → List ℕ
object_name object = codes "obj/" ++ decimal object.creator ++ codes "/" ++ decimal object.number

-- what the name of each marker of the object begins with, and no other name
unfoldable pub marker_prefix : Identity → List ℕ
marker_prefix object = object_name object ++ codes ".ref."

-- the marker of the object for a store, with the number that this store has for it
unfoldable pub marker_name : Identity → ℕ → ℕ → List ℕ
marker_name object store number = marker_prefix object ++ decimal store ++ codes "." ++ decimal number

-- an external object, by the name that a command gives
unfoldable pub external_name : List ℕ → List ℕ
external_name name = codes "x/" ++ name
