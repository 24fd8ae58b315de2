-- What a catalogue keeps of the objects behind numbers, and how it is spelled.
use Rattle.std.specs.Prelude.{ℕ, ◌<◌, ◌^◌, ◌==◌, ◌||◌, Bool, IsTrue, List, ◌∷◌, ◌++◌}
use Rattle.pb_bytes.specs.Varint.{varint, field}
use Rattle.pb_names.specs.Grammar.{IsName}
use Rattle.pb_names.specs.Identity.{Identity, IsObject}

-- the object behind a number: a shared one, or an external one by its name
pub data Standing : Type 0 where
  Shared : (object : Identity) → Standing
  External : (name : List ℕ) → Standing

-- the id of the store; an object entered under a number; a number whose entry is dropped
pub data Catalogued : Type 0 where
  Id : (id : ℕ) → Catalogued
  Entered : (number : ℕ) (standing : Standing) → Catalogued
  Dropped : (number : ℕ) → Catalogued

abbrev pub kind_of : Catalogued → ℕ
kind_of (Id id) = 1
kind_of (Entered number (Shared object)) = 2
kind_of (Entered number (External name)) = 3
kind_of (Dropped number) = 4

-- the kinds that a catalogue has: ids, shared objects and what is dropped; the others are refused
abbrev pub is_kind : ℕ → Bool
is_kind kind = kind == 1 || kind == 2 || kind == 4

abbrev pub content_of : Catalogued → List ℕ
content_of (Id id) = varint id
content_of (Entered number (Shared object)) = varint number ++ varint object.creator ++ varint object.number
content_of (Entered number (External name)) = varint number ++ field name
content_of (Dropped number) = varint number

-- a payload: the kind and the content
abbrev pub catalogued_spelling : Catalogued → List ℕ
catalogued_spelling catalogued = kind_of catalogued ∷ content_of catalogued

-- an id is any number that has a varint
abbrev pub IsContent : Catalogued → Type 0
IsContent (Id id) = id < 2 ^ 64
IsContent (Entered number (Shared object)) = (number < 2 ^ 62) × IsObject object
IsContent (Entered number (External name)) = (number < 2 ^ 62) × IsName name
IsContent (Dropped number) = number < 2 ^ 62

-- the grammar of a payload
pub record IsCatalogued (catalogued : Catalogued) : Type 0 where
  pub kind : IsTrue (is_kind (kind_of catalogued))
  pub content : IsContent catalogued
