-- What a printed word says, and which bytes it has.
use Rattle.std.proofs.Common.{◌≡◌, ℕ, ◌+◌, ◌*◌, ◌/◌, ◌%◌, ◌<◌, ◌≤◌, Bool, true, false, cond, ◌&&◌, nat_le, nat_lt, List, [], ◌∷◌, ◌++◌, length, Option, Some, None, refl, sym, ap, ◌∙◌, arith, inl, inr}
use Rattle.std.specs.Prelude.{IfSome, codes, ◌==◌}
use Rattle.std.specs.Char.{digit_value, digit_char}
use Rattle.std.specs.List.{AllByRecursion, flat_map, list_all}
use Rattle.std.specs.Str.{bytes_eq}
use Rattle.std.proofs.lemmas.Bool.{cases_Bool, cond-true, cond-false, and_left}
use Rattle.std.proofs.lemmas.Bool.Decides.{nat_tests}
use Rattle.std.proofs.lemmas.List.Folds.{list_all-append}
use Rattle.std.proofs.lemmas.List.Sums.{list_all-from_AllPass}
use Rattle.std.proofs.lemmas.Str.{digit_value-digit_char}
use Rattle.pb_names.specs.Grammar.{IsName, IsNameByte}
use Rattle.pb_names.specs.Identity.{IsStore}
use Rattle.pb_keys.specs.Printed.{is_plain, printed_byte, word}
use Rattle.pb_script.specs.Answers.{◌>>=◌}
use Rattle.pb_script.specs.Words.{is_graphic}
use Rattle.pb_script.specs.Strings.{hex_pair, with_byte, bytes_of, string_of, store_of, level_of}
use Rattle.pb_script.specs.Fields.{word_at, string_at, name_at, store_at, level_at, pair_at, labelled_at, names_of, some_names_of}
use Rattle.pb_script.specs.Form.{IsString, AreTables}
use Rattle.pb_script.specs.Spelling.{letter, digit, labelled}
use Rattle.pb_script.proofs.Coded.{first_coded, first_plain}
use Rattle.pb_script.proofs.Names.{name_again}

abbrev pub is_word : List ℕ → Bool
is_word bytes = nat_lt 0 (length bytes) && list_all is_graphic bytes

abbrev pub IsWord : List ℕ → Type 0
IsWord bytes = is_word bytes ≡ true

pair_values : (x y h l byte : ℕ) → x ≡ h → y ≡ l → h < 16 → l < 16 → 16 * h + l ≡ byte → cond (nat_lt x 16 && nat_lt y 16) (Some (16 * x + y)) None ≡ Some byte
pair_values x y h l byte one two high low sum = cond-true (nat_lt x 16 && nat_lt y 16) _ _ (grind (arith, nat_tests)) ∙ ap (λ (b : ℕ). Some b) (omega arith)

hex_again : (byte : ℕ) → byte < 256 → hex_pair (digit_char (byte / 16)) (digit_char (byte % 16)) ≡ Some byte
hex_again byte small =
    pair_values (digit_value (digit_char (byte / 16))) (digit_value (digit_char (byte % 16))) (byte / 16) (byte % 16) byte
    (digit_value-digit_char (byte / 16) (omega arith)) (digit_value-digit_char (byte % 16) (omega arith)) (omega arith) (omega arith) (omega arith)

bytes_again : (bytes : List ℕ) → IsString bytes → bytes_of (flat_map printed_byte bytes) ≡ Some bytes
unfolding bytes_of
bytes_again [] small = refl
bytes_again (byte ∷ bytes) small =
    let again = bytes_again bytes small.1 in
    let rest = flat_map printed_byte bytes in
    elim (cases_Bool (is_plain byte)) [
      | inl itself ↦ ap (λ (front : List ℕ). bytes_of (front ++ rest)) (cond-true _ _ _ itself) ∙ first_plain (byte ∷ rest) (omega arith) itself ∙ ap (with_byte (Some byte)) again
      | inr other ↦
          ap (λ (front : List ℕ). bytes_of (front ++ rest)) (cond-false _ _ _ other)
          ∙ first_coded (37 ∷ digit_char (byte / 16) ∷ digit_char (byte % 16) ∷ rest) (omega arith) refl
          ∙ ap (λ (b : Option ℕ). with_byte b (bytes_of rest)) (hex_again byte small.0)
          ∙ ap (with_byte (Some byte)) again
    ]

not_37 : (byte : ℕ) → is_plain byte ≡ true → (byte == 37) ≡ false
not_37 byte itself = grind (arith, nat_tests)

pub string_again : (bytes : List ℕ) → IsString bytes → string_of (word bytes) ≡ Some bytes
unfolding string_of
string_again [] small = refl
string_again (byte ∷ bytes) small =
    let again = bytes_again (byte ∷ bytes) small in
    let rest = flat_map printed_byte bytes in
    elim (cases_Bool (is_plain byte)) [
      | inl itself ↦
          let front = ap (λ (f : List ℕ). f ++ rest) (cond-true (is_plain byte) (byte ∷ []) (37 ∷ digit_char (byte / 16) ∷ digit_char (byte % 16) ∷ []) itself) in
          ap string_of front ∙ cond-false (bytes_eq (byte ∷ rest) (codes "%")) (Some []) (bytes_of (byte ∷ rest)) (and_left _ _ (not_37 byte itself)) ∙ ap bytes_of (sym front) ∙ again
      | inr other ↦
          let front = ap (λ (f : List ℕ). f ++ rest) (cond-false (is_plain byte) (byte ∷ []) (37 ∷ digit_char (byte / 16) ∷ digit_char (byte % 16) ∷ []) other) in
          ap string_of front ∙ ap bytes_of (sym front) ∙ again
    ]

graphic_plain : (byte : ℕ) → is_plain byte ≡ true → is_graphic byte ≡ true
graphic_plain byte itself = grind (arith, nat_tests)

graphic_digit : (d : ℕ) → d < 16 → is_graphic (digit_char d) ≡ true
graphic_digit d small = grind (arith, nat_tests)

three_graphic : (one two : Bool) → one ≡ true → two ≡ true → (true && (one && (two && true))) ≡ true
three_graphic one two is also = rw (is, also) refl

printed_graphic : (byte : ℕ) → byte < 256 → list_all is_graphic (printed_byte byte) ≡ true
printed_graphic byte small =
    elim (cases_Bool (is_plain byte)) [
      | inl itself ↦ ap (list_all is_graphic) (cond-true _ _ _ itself) ∙ rw (graphic_plain byte itself) refl
      | inr other ↦ ap (list_all is_graphic) (cond-false _ _ _ other) ∙ three_graphic _ _ (graphic_digit (byte / 16) (omega arith)) (graphic_digit (byte % 16) (omega arith))
    ]

all_graphic : (bytes : List ℕ) → IsString bytes → list_all is_graphic (flat_map printed_byte bytes) ≡ true
all_graphic [] small = refl
all_graphic (byte ∷ bytes) small =
    list_all-append is_graphic (printed_byte byte) (flat_map printed_byte bytes) ∙ rw (printed_graphic byte small.0, all_graphic bytes small.1) refl

pub some_length : (byte : ℕ) (rest : List ℕ) → nat_lt 0 (length (byte ∷ rest)) ≡ true
some_length byte rest = grind (arith, nat_tests)

printed_some : (byte : ℕ) (rest : List ℕ) → nat_lt 0 (length (printed_byte byte ++ rest)) ≡ true
printed_some byte rest =
    elim (cases_Bool (is_plain byte)) [
      | inl itself ↦ ap (λ (f : List ℕ). nat_lt 0 (length (f ++ rest))) (cond-true (is_plain byte) (byte ∷ []) (37 ∷ digit_char (byte / 16) ∷ digit_char (byte % 16) ∷ []) itself) ∙ some_length byte rest
      | inr other ↦ ap (λ (f : List ℕ). nat_lt 0 (length (f ++ rest))) (cond-false (is_plain byte) (byte ∷ []) (37 ∷ digit_char (byte / 16) ∷ digit_char (byte % 16) ∷ []) other) ∙ some_length 37 (digit_char (byte / 16) ∷ digit_char (byte % 16) ∷ rest)
    ]

two_true : (one two : Bool) → one ≡ true → two ≡ true → (one && two) ≡ true
two_true one two is also = rw (is, also) refl

pub word_is : (bytes : List ℕ) → IsString bytes → IsWord (word bytes)
word_is [] small = refl
word_is (byte ∷ bytes) small = two_true _ _ (printed_some byte (flat_map printed_byte bytes)) (all_graphic (byte ∷ bytes) small)

graphic_name : (byte : ℕ) → IsNameByte byte → is_graphic byte ≡ true
graphic_name byte is = grind (arith, nat_tests)

pub name_is_word : (name : List ℕ) → IsName name → IsWord name
name_is_word name is = two_true _ _ (let some = is.not_empty in grind (arith, nat_tests)) (list_all-from_AllPass is_graphic name (λ k d h. graphic_name _ (is.bytes k d h)))

graphic_letter : (store : ℕ) → IsStore store → is_graphic (64 + store) ≡ true
graphic_letter store is = grind (arith, nat_tests)

pub letter_is_word : (store : ℕ) → IsStore store → IsWord (letter store)
letter_is_word store is = rw (graphic_letter store is) refl

graphic_level : (level : ℕ) → level ≤ 5 → is_graphic (48 + level) ≡ true
graphic_level level is = grind (arith, nat_tests)

pub digit_is_word : (level : ℕ) → level ≤ 5 → IsWord (digit level)
digit_is_word level is = rw (graphic_level level is) refl

pub word_at-again : (first : List ℕ) (words : List (List ℕ)) → word_at (first ∷ words) ≡ Some (first, words)
unfolding word_at
word_at-again first words = refl

pub string_at-again : (bytes : List ℕ) (words : List (List ℕ)) → IsString bytes → string_at (word bytes ∷ words) ≡ Some (bytes, words)
unfolding string_at word_at
string_at-again bytes words is = ap (λ (s : Option (List ℕ)). s >>= λ string. Some (string, words)) (string_again bytes is)

pub pair_at-again : (one two : List ℕ) (words : List (List ℕ)) → IsString one → IsString two → pair_at (word one ∷ word two ∷ words) ≡ Some ((one, two), words)
unfolding pair_at
pair_at-again one two words is also = rw (string_at-again one (word two ∷ words) is, string_at-again two words also) refl

pub name_at-again : (name : List ℕ) (words : List (List ℕ)) → IsName name → name_at (name ∷ words) ≡ Some (name, words)
unfolding name_at word_at
name_at-again name words is = ap (λ (n : Option (List ℕ)). n >>= λ name. Some (name, words)) (name_again name is)

store_test : (store : ℕ) → IsStore store → (nat_le 65 (64 + store) && nat_le (64 + store) 72) ≡ true
store_test store is = grind (arith, nat_tests)

pub store_again : (store : ℕ) → IsStore store → store_of (letter store) ≡ Some store
store_again store is = cond-true _ _ _ (store_test store is) ∙ ap (λ (s : ℕ). Some s) (omega arith)

pub store_at-again : (store : ℕ) (words : List (List ℕ)) → IsStore store → store_at (letter store ∷ words) ≡ Some (store, words)
unfolding store_at word_at
store_at-again store words is = ap (λ (s : Option ℕ). s >>= λ store. Some (store, words)) (store_again store is)

level_test : (level : ℕ) → level ≤ 5 → (nat_le 48 (48 + level) && nat_le (48 + level) 53) ≡ true
level_test level is = grind (arith, nat_tests)

level_again : (level : ℕ) → level ≤ 5 → level_of (digit level) ≡ Some level
level_again level is = cond-true _ _ _ (level_test level is) ∙ ap (λ (s : ℕ). Some s) (omega arith)

pub level_at-again : (level : ℕ) (words : List (List ℕ)) → level ≤ 5 → level_at (digit level ∷ words) ≡ Some (level, words)
unfolding level_at word_at
level_at-again level words is = ap (λ (s : Option ℕ). s >>= λ level. Some (level, words)) (level_again level is)

pub names_again : (names : List (List ℕ)) → AllByRecursion IsName names → names_of names ≡ Some names
unfolding names_of
names_again [] are = refl
names_again (name ∷ names) are = rw (name_again name are.0, names_again names are.1) refl

pub some_names_again : (names : List (List ℕ)) → AreTables names → some_names_of names ≡ Some names
unfolding some_names_of
some_names_again names are = rw (names_again names are.1) (cond-false (length names == 0) _ _ (let some = are.0 in grind (arith, nat_tests)))

-- the prefix is there or not, and the suffix
pub both_labels : (prefix suffix : Option (List ℕ)) → IfSome prefix IsString → IfSome suffix IsString
    → (labelled_at (codes "prefix=") (labelled (codes "prefix=") prefix ++ labelled (codes "suffix=") suffix) ≡ Some (prefix, labelled (codes "suffix=") suffix))
unfolding labelled_at
both_labels None None is also = refl
both_labels None (Some suffix) is also = refl
both_labels (Some prefix) suffix is also = ap (λ (s : Option (List ℕ)). s >>= λ string. Some (Some string, labelled (codes "suffix=") suffix)) (string_again prefix is)

pub last_label : (suffix : Option (List ℕ)) → IfSome suffix IsString → labelled_at (codes "suffix=") (labelled (codes "suffix=") suffix) ≡ Some (suffix, [])
unfolding labelled_at
last_label None is = refl
last_label (Some suffix) is = ap (λ (s : Option (List ℕ)). s >>= λ string. Some (Some string, [])) (string_again suffix is)
