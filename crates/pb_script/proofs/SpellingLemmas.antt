-- Each spelling of a byte string is read, and nothing else.
use Rattle.std.proofs.Common.{◌≡◌, ℕ, ◌<◌, ◌==◌, Bool, true, false, cond, List, [], ◌∷◌, ◌++◌, map, length, Option, Some, None, refl, sym, ap, ap₂, ◌∙◌, subst, arith, inl, inr, ◌⊎◌}
use Rattle.std.specs.Prelude.{codes}
use Rattle.std.specs.List.{flat_map}
use Rattle.std.specs.Str.{bytes_eq}
use Rattle.std.proofs.lemmas.Bool.{cases_Bool, cond-true, cond-false, and_left}
use Rattle.std.proofs.lemmas.Bool.Decides.{nat_tests}
use Rattle.std.proofs.lemmas.Slice.Eq.{bytes_eq-Decides}
use Rattle.pb_keys.specs.Printed.{is_plain}
use Rattle.pb_script.specs.Strings.{plain, hex_pair, with_byte, bytes_of, string_of, ByteSpelling, Itself, Coded, spelled_byte, meant_byte, Spells}
use Rattle.pb_script.proofs.Coded.{first_plain}

heads : (one two : Option ℕ) (ones twos : List (Option ℕ)) → one ∷ ones ≡ two ∷ twos → (one ≡ two) × (ones ≡ twos)
heads one two ones twos is = (cc, cc)

test_of : (test : Bool) (byte other : ℕ) → cond test (Some byte) None ≡ Some other → (test ≡ true) × (byte ≡ other)
test_of true byte other is = (refl, cc)
test_of false byte other is = cc

not_37 : (byte : ℕ) → is_plain byte ≡ true → (byte == 37) ≡ false
not_37 byte itself = grind (arith, nat_tests)

bytes_read : (spellings : List ByteSpelling) (bytes : List ℕ) → map meant_byte spellings ≡ map (λ byte. Some byte) bytes
    → bytes_of (flat_map spelled_byte spellings) ≡ Some bytes
unfolding bytes_of
bytes_read [] [] are = refl
bytes_read [] (byte ∷ bytes) are = cc
bytes_read (spelling ∷ spellings) [] are = cc
bytes_read (Itself byte ∷ spellings) (first ∷ bytes) are =
    let parts = heads (plain byte) (Some first) _ _ are in
    let itself = test_of (is_plain byte) byte first parts.0 in
    first_plain (byte ∷ flat_map spelled_byte spellings) (omega arith) itself.0
    ∙ ap₂ (λ (b : ℕ) (read : Option (List ℕ)). with_byte (Some b) read) itself.1 (bytes_read spellings bytes parts.1)
bytes_read (Coded high low ∷ spellings) (first ∷ bytes) are =
    let parts = heads (hex_pair high low) (Some first) _ _ are in
    ap₂ with_byte parts.0 (bytes_read spellings bytes parts.1)

one_word : (spellings : List ByteSpelling) (bytes : List ℕ) → 0 < length bytes → map meant_byte spellings ≡ map (λ byte. Some byte) bytes
    → string_of (flat_map spelled_byte spellings) ≡ Some bytes
unfolding string_of
one_word [] [] some are = absurd (omega (arith, some))
one_word [] (byte ∷ bytes) some are = cc
one_word (Itself byte ∷ spellings) [] some are = absurd (omega (arith, some))
one_word (Itself byte ∷ spellings) (first ∷ bytes) some are =
    let itself = test_of (is_plain byte) byte first (heads (plain byte) (Some first) _ _ are).0 in
    cond-false (bytes_eq (byte ∷ flat_map spelled_byte spellings) (codes "%")) (Some []) _ (and_left _ _ (not_37 byte itself.0))
    ∙ bytes_read (Itself byte ∷ spellings) (first ∷ bytes) are
one_word (Coded high low ∷ spellings) [] some are = absurd (omega (arith, some))
one_word (Coded high low ∷ spellings) (first ∷ bytes) some are = bytes_read (Coded high low ∷ spellings) (first ∷ bytes) are

pub spelling_read : (word bytes : List ℕ) → 0 < length bytes → Spells word bytes → string_of word ≡ Some bytes
spelling_read word bytes some spells = ap string_of spells.1 ∙ one_word spells.0 bytes some spells.2

pub percent_read : string_of (codes "%") ≡ Some []
unfolding string_of
percent_read = refl

-- ---- nothing else

parts_of : (first : Option ℕ) (others : Option (List ℕ)) (bytes : List ℕ) → with_byte first others ≡ Some bytes
    → (byte : ℕ) × (rest : List ℕ) × (first ≡ Some byte) × (others ≡ Some rest) × (bytes ≡ byte ∷ rest)
parts_of None others bytes is = cc
parts_of (Some byte) None bytes is = cc
parts_of (Some byte) (Some rest) bytes is = (byte, rest, refl, refl, cc)

with_first : (spelling : ByteSpelling) (word bytes rest : List ℕ) (byte : ℕ) → meant_byte spelling ≡ Some byte → Spells word rest
    → bytes ≡ byte ∷ rest → Spells (spelled_byte spelling ++ word) bytes
with_first spelling word bytes rest byte means spells is = (
  spelling ∷ spells.0,
  ap (λ (w : List ℕ). spelled_byte spelling ++ w) spells.1,
  ap₂ (λ (one : Option ℕ) (others : List (Option ℕ)). one ∷ others) means spells.2 ∙ ap (map (λ byte. Some byte)) (sym is),
)

same_list : (one two : List ℕ) → ◌≡◌ {A = Option (List ℕ)} (Some one) (Some two) → one ≡ two
same_list one two is = cc

percent : (byte : ℕ) → (byte == 37) ≡ true → byte ≡ 37
percent byte is = grind (arith, nat_tests)

no_spelling : (byte : ℕ) (word : List ℕ) (spellings : List ByteSpelling) → byte ∷ word ≡ flat_map spelled_byte spellings
    → map meant_byte spellings ≡ [] → ⊥
no_spelling byte word [] is none = cc
no_spelling byte word (spelling ∷ spellings) is none = cc

same_bytes : (one two : List ℕ) → bytes_eq one two ≡ true → one ≡ two
same_bytes one two is = (bytes_eq-Decides one two).0 is

none_spelled : (bytes : List ℕ) → ◌≡◌ {A = Option (List ℕ)} (Some []) (Some bytes) → Spells [] bytes
none_spelled bytes is = ([], refl, ap (map (λ byte. Some byte)) (same_list [] bytes is))

read_spells : (word bytes : List ℕ) → bytes_of word ≡ Some bytes → Spells word bytes
unfolding bytes_of
read_spells [] bytes is = none_spelled bytes is
read_spells (byte ∷ []) bytes is =
    let p = parts_of (plain byte) (Some []) bytes is in
    with_first (Itself byte) [] bytes p.1 p.0 p.2 (none_spelled p.1 p.3) p.4
read_spells (byte ∷ next ∷ []) bytes is =
    let p = parts_of (plain byte) (with_byte (plain next) (Some [])) bytes is in
    let q = parts_of (plain next) (Some []) p.1 p.3 in
    with_first (Itself byte) (next ∷ []) bytes p.1 p.0 p.2 (with_first (Itself next) [] p.1 q.1 q.0 q.2 (none_spelled q.1 q.3) q.4) p.4
read_spells (byte ∷ high ∷ low ∷ rest) bytes is =
    elim (cases_Bool (byte == 37)) [
      | inl coded ↦
          let p = parts_of (hex_pair high low) (bytes_of rest) bytes (sym (cond-true (byte == 37) _ _ coded) ∙ is) in
          subst (λ (b : ℕ). Spells (b ∷ high ∷ low ∷ rest) bytes) (sym (percent byte coded))
          (with_first (Coded high low) rest bytes p.1 p.0 p.2 (read_spells rest p.1 p.3) p.4)
      | inr itself ↦
          let p = parts_of (plain byte) (bytes_of (high ∷ low ∷ rest)) bytes (sym (cond-false (byte == 37) _ _ itself) ∙ is) in
          with_first (Itself byte) (high ∷ low ∷ rest) bytes p.1 p.0 p.2 (read_spells (high ∷ low ∷ rest) p.1 p.3) p.4
    ]

some_spelled : (byte : ℕ) (word bytes : List ℕ) → Spells (byte ∷ word) bytes → 0 < length bytes
some_spelled byte word [] spells = absurd (no_spelling byte word spells.0 spells.1 spells.2)
some_spelled byte word (first ∷ bytes) spells = omega arith

pub only_spellings : (word bytes : List ℕ) → string_of word ≡ Some bytes
    → ((word ≡ codes "%") × (bytes ≡ [])) ⊎ ((0 < length bytes) × Spells word bytes)
unfolding string_of
only_spellings [] bytes is = cc
only_spellings (byte ∷ word) bytes is =
    elim (cases_Bool (bytes_eq (byte ∷ word) (codes "%"))) [
      | inl percent ↦ inl (same_bytes (byte ∷ word) (codes "%") percent, sym (same_list [] bytes (sym (cond-true _ _ _ percent) ∙ is)))
      | inr other ↦ let spells = read_spells (byte ∷ word) bytes (sym (cond-false _ _ _ other) ∙ is) in inr
          (some_spelled byte word bytes spells, spells)
    ]
