-- Tests of names and numbers, for definitions that compute.
use Rattle.std.specs.Prelude.{ℕ, ◌^◌, ◌↔◌, IsTrue, Bool, ◌&&◌, ◌||◌, ◌==◌, nat_le, nat_lt, List, length}
use Rattle.std.specs.List.{list_all}
use Rattle.pb_names.specs.Grammar.{IsName}
use Rattle.pb_names.specs.Identity.{Identity, IsMarkerNumber, IsObject, IsStore}

-- a store of the family, A to H
abbrev pub is_store : ℕ → Bool
is_store store = nat_le 1 store && nat_le store 8

-- an object that a store of the family can have made
abbrev pub is_object : Identity → Bool
is_object object = is_store object.creator && nat_lt object.number (2 ^ 62)

-- a number that a store has for an object, as a marker's name tells it
abbrev pub is_marker_number : ℕ → Bool
is_marker_number number = nat_lt number (2 ^ 62)

-- `a` to `z`, `0` to `9`, `_` and `-`
abbrev pub is_name_byte : ℕ → Bool
is_name_byte byte = (nat_le 97 byte && nat_le byte 122) || (nat_le 48 byte && nat_le byte 57) || byte == 95 || byte == 45

-- 1 to 48 of these bytes
abbrev pub is_name : List ℕ → Bool
is_name word = nat_le 1 (length word) && nat_le (length word) 48 && list_all is_name_byte word

-- each test tells what it is named for
abbrev pub TestsTellStores : Type 0
TestsTellStores = (store : ℕ) → IsTrue (is_store store) ↔ IsStore store

abbrev pub TestsTellObjects : Type 0
TestsTellObjects = (object : Identity) → IsTrue (is_object object) ↔ IsObject object

abbrev pub TestsTellMarkerNumbers : Type 0
TestsTellMarkerNumbers = (number : ℕ) → IsTrue (is_marker_number number) ↔ IsMarkerNumber number

abbrev pub TestsTellNames : Type 0
TestsTellNames = (word : List ℕ) → IsTrue (is_name word) ↔ IsName word
