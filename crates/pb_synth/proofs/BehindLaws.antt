-- Which keys a view maps to a key whose prefix is the view's followed by a rest.
use Rattle.std.proofs.Common.{◌≡◌, ◌≢◌, ℕ, ◌+◌, ◌≤◌, List, [], ◌∷◌, ◌++◌, Bool, true, false, length, refl, sym, ap, ◌∙◌, arith, length-append}
use Rattle.std.specs.Prelude.{◌==◌}
use Rattle.std.proofs.lemmas.Bool.Decides.{nat_tests}
use Rattle.std.proofs.lemmas.List.{append_cancel_left, append_assoc}
use Rattle.pb_keys.specs.Key.{IsKey, suffix_start, prefix_of, suffix_of}
use Rattle.pb_keys.specs.KeyLaws.{parts_of_key, same_parts}
use Rattle.pb_keys.specs.View.{KeyView, IsMapping}
use Rattle.pb_keys.proofs.KeyFacts.{length-prefix_of, prefix_begins}
use Rattle.pb_rows.specs.Viewed.{mapped_key}
use Rattle.pb_rows.proofs.MappedLaws.{prefix_of-behind, suffix_of-behind, prefix_of-mapped_key, own_suffix, given_suffix}
use Rattle.pb_synth.specs.KeyParts.{IsMapped}
use Rattle.pb_synth.proofs.MappedForms.{key_of_prefix}

-- the rest of the key's prefix behind the view's
pub record HasRest (view : KeyView) (key rest : List ℕ) : Type 0 where
  pub mapping : IsMapping view
  pub whole : prefix_of key ≡ view.prefix ++ rest

pub stripped : (view : KeyView) (key rest front own : List ℕ) → IsMapping view → own ≡ prefix_of key → front ≡ view.prefix → own ≡ front ++ rest → HasRest view key rest
stripped view key rest front own mapping own_is front_is whole = record { mapping = mapping; whole = sym own_is ∙ whole ∙ ap (λ p. p ++ rest) front_is }

no_bytes : (bytes : List ℕ) → length bytes ≡ 0 → bytes ≡ []
no_bytes [] none = refl
no_bytes (b ∷ bs) none = absurd (omega arith)

-- what `is_empty` answers of bytes that are these
pub empty : (bytes these : List ℕ) (test : Bool) → test ≡ (length bytes == 0) → test ≡ true → bytes ≡ these → these ≡ []
empty bytes these test is passes same = let none : length bytes ≡ 0 = grind (arith, nat_tests) in sym same ∙ no_bytes bytes none

pub not_empty : (bytes these : List ℕ) (test : Bool) → test ≡ (length bytes == 0) → test ≡ false → bytes ≡ these → these ≡ [] → ⊥
not_empty bytes these test is fails same none = let zero : length bytes ≡ 0 = ap length (same ∙ none) in grind (arith, nat_tests)

pub some_bytes : (bytes : List ℕ) (test : Bool) → test ≡ (length bytes == 0) → test ≡ false → 1 ≤ length bytes
some_bytes bytes test is fails = grind (arith, nat_tests)

-- a key that maps to it has this rest as its prefix
pub prefix_behind : (view : KeyView) (key rest k : List ℕ) → HasRest view key rest → mapped_key view k ≡ key → prefix_of k ≡ rest
prefix_behind view key rest k has maps =
    append_cancel_left view.prefix (prefix_of k) rest (sym (prefix_of-mapped_key view k has.mapping) ∙ ap prefix_of maps ∙ has.whole)

-- and, where the view has no suffix, its suffix
pub suffix_behind : (view : KeyView) (key k : List ℕ) → IsMapping view → view.suffix ≡ [] → mapped_key view k ≡ key → suffix_of k ≡ suffix_of key
suffix_behind view key k mapping none maps = sym (own_suffix view k mapping none) ∙ ap suffix_of maps

-- where the view has a suffix, that is the key's
pub suffix_given : (view : KeyView) (key k : List ℕ) → IsMapping view → (view.suffix ≡ [] → ⊥) → mapped_key view k ≡ key → suffix_of key ≡ view.suffix
suffix_given view key k mapping some maps = sym (ap suffix_of maps) ∙ given_suffix view k mapping some

pub maps_own : (view : KeyView) (key rest k : List ℕ) → HasRest view key rest → view.suffix ≡ [] → prefix_of k ≡ rest → suffix_of k ≡ suffix_of key → mapped_key view k ≡ key
maps_own view key rest k has none prefix suffix =
    same_parts (mapped_key view k) key
    (prefix_of-mapped_key view k has.mapping ∙ ap (λ p. view.prefix ++ p) prefix ∙ sym has.whole)
    (own_suffix view k has.mapping none ∙ suffix)

pub maps_given : (view : KeyView) (key rest k : List ℕ) → HasRest view key rest → (view.suffix ≡ [] → ⊥) → suffix_of key ≡ view.suffix → prefix_of k ≡ rest → mapped_key view k ≡ key
maps_given view key rest k has some suffix prefix =
    same_parts (mapped_key view k) key
    (prefix_of-mapped_key view k has.mapping ∙ ap (λ p. view.prefix ++ p) prefix ∙ sym has.whole)
    (given_suffix view k has.mapping some ∙ sym suffix)

-- ---- the rest with the key's suffix is a key with these parts

rest_whole : (view : KeyView) (key rest : List ℕ) → HasRest view key rest → view.prefix ++ (rest ++ suffix_of key) ≡ key
rest_whole view key rest has = sym (append_assoc view.prefix rest (suffix_of key)) ∙ ap (λ p. p ++ suffix_of key) (sym has.whole) ∙ parts_of_key key

rest_prefix : (view : KeyView) (key rest : List ℕ) → HasRest view key rest → prefix_of (rest ++ suffix_of key) ≡ rest
rest_prefix view key rest has =
    append_cancel_left view.prefix (prefix_of (rest ++ suffix_of key)) rest
    (sym (prefix_of-behind view.prefix (rest ++ suffix_of key) has.mapping.prefix.plain) ∙ ap prefix_of (rest_whole view key rest has) ∙ has.whole)

rest_suffix : (view : KeyView) (key rest : List ℕ) → HasRest view key rest → suffix_of (rest ++ suffix_of key) ≡ suffix_of key
rest_suffix view key rest has =
    sym (suffix_of-behind view.prefix (rest ++ suffix_of key) has.mapping.prefix.plain) ∙ ap suffix_of (rest_whole view key rest has)

rest_is_key : (view : KeyView) (key rest : List ℕ) → HasRest view key rest → IsKey key → 1 ≤ length rest → IsKey (rest ++ suffix_of key)
rest_is_key view key rest has is some =
    let own = rest ++ suffix_of key in
    let whole : length view.prefix + length own ≡ length key = sym (length-append view.prefix own) ∙ ap length (rest_whole view key rest has) in
    let within : length key ≤ 1024 = is.within in
    let start : length rest ≡ suffix_start own = ap length (sym (rest_prefix view key rest has)) ∙ length-prefix_of own in
    key_of_prefix own (omega arith) (omega arith)

pub mapped_own : (view : KeyView) (key rest : List ℕ) → HasRest view key rest → IsKey key → 1 ≤ length rest → view.suffix ≡ [] → IsMapped view key
mapped_own view key rest has is some none = record {
  from = rest ++ suffix_of key;
  in_form = rest_is_key view key rest has is some;
  is = maps_own view key rest (rest ++ suffix_of key) has none (rest_prefix view key rest has) (rest_suffix view key rest has);
}

pub mapped_given : (view : KeyView) (key rest : List ℕ) → HasRest view key rest → IsKey key → 1 ≤ length rest → (view.suffix ≡ [] → ⊥) → suffix_of key ≡ view.suffix → IsMapped view key
mapped_given view key rest has is some given suffix = record {
  from = rest ++ suffix_of key;
  in_form = rest_is_key view key rest has is some;
  is = maps_given view key rest (rest ++ suffix_of key) has given suffix (rest_prefix view key rest has);
}

-- ---- what no key maps to

pub none_begins : (view : KeyView) (key : List ℕ) → IsMapping view → ((rest : List ℕ) → prefix_of key ≢ view.prefix ++ rest) → IsMapped view key → ⊥
none_begins view key mapping other mapped = other (prefix_of mapped.from) (ap prefix_of (sym mapped.is) ∙ prefix_of-mapped_key view mapped.from mapping)

-- the view's prefix itself
pub none_before : (view : KeyView) (key rest : List ℕ) → HasRest view key rest → rest ≡ [] → IsMapped view key → ⊥
none_before view key rest has empty mapped =
    let begins : 1 ≤ suffix_start mapped.from = prefix_begins mapped.from mapped.in_form in
    let start : length (prefix_of mapped.from) ≡ suffix_start mapped.from = length-prefix_of mapped.from in
    let own : length (prefix_of mapped.from) ≡ 0 = ap length (prefix_behind view key rest mapped.from has mapped.is ∙ empty) in
    absurd (omega arith)
