-- The tests of ranges tell what they are named for.
use Rattle.std.proofs.Common.{◌≡◌, ℕ, ◌≤◌, ◌^◌, Bool, true, ◌&&◌, List, length, arith}
use Rattle.std.specs.Prelude.{nat_le, nat_lt}
use Rattle.std.proofs.lemmas.Bool.Decides.{nat_tests}
use Rattle.std.proofs.lemmas.List.Sums.{AllPass-from_list_all, list_all-from_AllPass}
use Rattle.std.proofs.lemmas.Bool.{and_parts, and_from, ltb-true, lt-ltb}
use Rattle.pb_names.specs.Grammar.{IsName, IsNameByte}
use Rattle.pb_names.specs.Identity.{Identity, IsObject, IsStore}
use Rattle.pb_names.specs.Ranges.{is_store, is_object, is_name_byte, is_name, TestsTellStores, TestsTellObjects, TestsTellMarkerNumbers, TestsTellNames}

store_is : (store : ℕ) → is_store store ≡ true → IsStore store
store_is store is = grind (arith, nat_tests)

is_store_of : (store : ℕ) → IsStore store → is_store store ≡ true
is_store_of store store_is = grind (arith, nat_tests)

pub tests_tell_stores : TestsTellStores
tests_tell_stores store = (store_is store, is_store_of store)

pub tests_tell_marker_numbers : TestsTellMarkerNumbers
tests_tell_marker_numbers number = (ltb-true number _, lt-ltb number _)

pub object_is : (object : Identity) → is_object object ≡ true → IsObject object
object_is object is =
    let parts = and_parts (is_store object.creator) (nat_lt object.number (2 ^ 62)) is in
    record { creator = store_is object.creator parts.0; number = ltb-true object.number (2 ^ 62) parts.1 }

pub tests_tell_objects : TestsTellObjects
tests_tell_objects object = (
  object_is object,
  (λ is. and_from _ _ (is_store_of object.creator is.creator) (lt-ltb object.number (2 ^ 62) is.number)),
)

byte_is : (byte : ℕ) → is_name_byte byte ≡ true → IsNameByte byte
byte_is byte is = grind (arith, nat_tests)

is_byte_of : (byte : ℕ) → IsNameByte byte → is_name_byte byte ≡ true
is_byte_of byte byte_is = grind (arith, nat_tests)

length_is : (len : ℕ) (bytes : Bool) → (nat_le 1 len && nat_le len 48 && bytes) ≡ true → (1 ≤ len) × (len ≤ 48) × (bytes ≡ true)
length_is len bytes is = grind (arith, nat_tests)

is_length_of : (len : ℕ) (bytes : Bool) → 1 ≤ len → len ≤ 48 → bytes ≡ true → (nat_le 1 len && nat_le len 48 && bytes) ≡ true
is_length_of len bytes some short is = grind (arith, nat_tests)

pub name_is : (word : List ℕ) → is_name word ≡ true → IsName word
name_is word is =
    let parts = length_is (length word) _ is in
    record { not_empty = parts.0; short = parts.1; bytes = λ k d h. byte_is _ (AllPass-from_list_all is_name_byte word parts.2 k d h) }

pub is_name_of : (word : List ℕ) → IsName word → is_name word ≡ true
is_name_of word name =
    is_length_of (length word) _ name.not_empty name.short
    (list_all-from_AllPass is_name_byte word (λ k d h. is_byte_of _ (name.bytes k d h)))

pub tests_tell_names : TestsTellNames
tests_tell_names word = (name_is word, is_name_of word)
