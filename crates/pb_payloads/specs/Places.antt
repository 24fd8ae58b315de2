-- Where the bytes of a number stand: in its local file, or in the object that the catalogue's entry names.
use Rattle.std.specs.Prelude.{ℕ, List, Option, Some, None, option_map, option_and_then}
use Rattle.std.specs.List.{find}
use Rattle.std.specs.FinMap.{get}
use Rattle.pb_devices.specs.Contents.{Folder}
use Rattle.pb_devices.specs.Objects.{Objects}
use Rattle.pb_names.specs.Spelling.{external_name, file_name, object_name}
use Rattle.pb_names.specs.declared.file_kind.FileKind.TheVariants.{Table}
use Rattle.pb_payloads.specs.Catalogued.{Standing}
use Rattle.pb_payloads.specs.Catalogued.Standing.{Shared, External}
use Rattle.pb_payloads.specs.Catalogue.{Entries, is_of}

-- the name of the object
abbrev pub standing_name : Standing → List ℕ
standing_name (Shared object) = object_name object
standing_name (External name) = external_name name

-- the name of the object that the entries give for a number, if they give one
abbrev pub object_of : Entries → ℕ → Option (List ℕ)
object_of entries number = option_map (λ entry. standing_name entry.1) (find (is_of number) entries)

-- the bytes of the number's object, if it is there
abbrev pub object_bytes : Objects → Entries → ℕ → Option (List ℕ)
object_bytes objects entries number = option_and_then (get objects) (object_of entries number)

-- the name that an entry gives decides: without one the bytes of the file, with one those of the object, and only where
-- there is no file
abbrev pub in_place : Option (List ℕ) → Option (List ℕ) → Option (List ℕ) → Option (List ℕ)
in_place None file object = file
in_place (Some name) None object = object
in_place (Some name) (Some bytes) object = None

abbrev pub bytes_of : Folder → Objects → Entries → ℕ → Option (List ℕ)
bytes_of folder objects entries number =
    in_place (object_of entries number) (folder (file_name Table number)) (object_bytes objects entries number)
