-- The words and the texts of what is printed.
use Rattle.std.proofs.Common.{◌≡◌, ℕ, ◌-◌, Bool, true, false, ◌&&◌, nat_le, nat_lt, List, [], ◌∷◌, ◌++◌, length, refl, ap, ◌∙◌, arith, All, append_assoc}
use Rattle.std.specs.Prelude.{◌==◌, not}
use Rattle.std.specs.Io.BufRead.{ends_with_byte}
use Rattle.std.specs.List.{AllByRecursion, list_all}
use Rattle.std.proofs.lemmas.Bool.{cond-true, cond-false, and_right, and_parts, not-true, or_from}
use Rattle.std.proofs.lemmas.Bool.Decides.{nat_tests}
use Rattle.std.proofs.lemmas.List.Folds.{list_all-append}
use Rattle.std.proofs.lemmas.List.Splits.{slice_split_at, slice_split_none}
use Rattle.std.proofs.lemmas.List.Sums.{AllPass-from_list_all}
use Rattle.pb_script.specs.Texts.{texts_of}
use Rattle.pb_script.specs.Words.{is_graphic, has_bytes, words_of, begins_with_hash, has_no_word, is_skipped}
use Rattle.pb_script.specs.Spelling.{spelled_words, with_end}
use Rattle.pb_script.proofs.Again.{IsWord}
use Rattle.pb_script.proofs.Parts.{words_cut, words_whole, texts_cut}

abbrev pub AreWords : List (List ℕ) → Type 0
AreWords words = AllByRecursion IsWord words

graphic_no_space : (byte : ℕ) → is_graphic byte ≡ true → (byte == 32) ≡ false
graphic_no_space byte is = grind (arith, nat_tests)

no_space : (bytes : List ℕ) → IsWord bytes → All (λ byte. (byte == 32) ≡ false) bytes
no_space bytes is k d h = graphic_no_space _ (AllPass-from_list_all is_graphic bytes (and_parts _ _ is).1 k d h)

some_has_bytes : (len : ℕ) → nat_lt 0 len ≡ true → not (len == 0) ≡ true
some_has_bytes len is = grind (arith, nat_tests)

word_has_bytes : (bytes : List ℕ) → IsWord bytes → has_bytes bytes ≡ true
word_has_bytes bytes is = some_has_bytes (length bytes) (and_parts _ _ is).0

pub words_again : (words : List (List ℕ)) → AreWords words → words_of (spelled_words words) ≡ words
words_again [] are = refl
words_again (word ∷ []) are =
    words_whole word (slice_split_none (λ byte. byte == 32) word (no_space word are.0)) ∙ cond-true _ _ _ (word_has_bytes word are.0)
words_again (word ∷ next ∷ words) are =
    words_cut (word ++ 32 ∷ spelled_words (next ∷ words)) word (spelled_words (next ∷ words)) (slice_split_at (λ byte. byte == 32) word 32 (spelled_words (next ∷ words)) (no_space word are.0) refl)
    ∙ cond-true _ _ _ (word_has_bytes word are.0)
    ∙ ap (λ (ws : List (List ℕ)). word ∷ ws) (words_again (next ∷ words) are.1)

-- a byte of a printed line
abbrev is_printable : ℕ → Bool
is_printable byte = nat_le 32 byte && nat_le byte 126

graphic_printable : (byte : ℕ) → is_graphic byte ≡ true → is_printable byte ≡ true
graphic_printable byte is = grind (arith, nat_tests)

all_printable : (bytes : List ℕ) → list_all is_graphic bytes ≡ true → list_all is_printable bytes ≡ true
all_printable [] are = refl
all_printable (byte ∷ bytes) are = let parts = and_parts (is_graphic byte) (list_all is_graphic bytes) are in rw (graphic_printable byte parts.0, all_printable bytes parts.1) refl

printable : (words : List (List ℕ)) → AreWords words → list_all is_printable (spelled_words words) ≡ true
printable [] are = refl
printable (word ∷ []) are = all_printable word (and_parts _ _ are.0).1
printable (word ∷ next ∷ words) are =
    list_all-append is_printable word (32 ∷ spelled_words (next ∷ words)) ∙ rw (all_printable word (and_parts (nat_lt 0 (length word)) (list_all is_graphic word) are.0).1, printable (next ∷ words) are.1) refl

printable_no_end : (byte : ℕ) → is_printable byte ≡ true → (byte == 10) ≡ false
printable_no_end byte is = grind (arith, nat_tests)

printable_no_return : (byte : ℕ) → is_printable byte ≡ true → (byte == 13) ≡ false
printable_no_return byte is = grind (arith, nat_tests)

no_return : (bytes : List ℕ) → list_all is_printable bytes ≡ true → ends_with_byte 13 bytes ≡ false
no_return [] are = refl
no_return (byte ∷ bytes) are =
    and_right (nat_lt 0 (length (byte ∷ bytes))) _ (printable_no_return _ (AllPass-from_list_all is_printable (byte ∷ bytes) are (length (byte ∷ bytes) - 1) 0 (omega arith)))

no_end : (bytes : List ℕ) → list_all is_printable bytes ≡ true → All (λ byte. (byte == 10) ≡ false) bytes
no_end bytes are k d h = printable_no_end _ (AllPass-from_list_all is_printable bytes are k d h)

pub texts_again : (words : List (List ℕ)) (rest : List ℕ) → AreWords words → texts_of (with_end (spelled_words words) ++ rest) ≡ spelled_words words ∷ texts_of rest
texts_again words rest are =
    let text = spelled_words words in
    let regrouped : with_end text ++ rest ≡ text ++ 10 ∷ rest = append_assoc text (10 ∷ []) rest in
    ap texts_of regrouped
    ∙ texts_cut (text ++ 10 ∷ rest) text rest (slice_split_at (λ byte. byte == 10) text 10 rest (no_end text (printable words are)) refl)
    ∙ ap (λ (t : List ℕ). t ∷ texts_of rest) (cond-false _ _ _ (no_return text (printable words are)))

-- a printed line begins as its first word does
hash_first : (word : List ℕ) (words : List (List ℕ)) → IsWord word → begins_with_hash (spelled_words (word ∷ words)) ≡ begins_with_hash word
hash_first [] words is = absurd (let e : ◌≡◌ {A = Bool} false true = is in cc)
hash_first (byte ∷ bytes) [] is = refl
hash_first (byte ∷ bytes) (next ∷ words) is = refl

-- the first of these words does not begin with `#`
abbrev pub begins_otherwise : List (List ℕ) → Bool
begins_otherwise [] = false
begins_otherwise (word ∷ words) = not (begins_with_hash word)

-- so the line is not skipped
pub not_skipped : (words : List (List ℕ)) → AreWords words → begins_otherwise words ≡ true → is_skipped (spelled_words words) ≡ false
not_skipped [] are other = absurd (let e : ◌≡◌ {A = Bool} false true = other in cc)
not_skipped (word ∷ words) are other = or_from _ _ (hash_first word words are.0 ∙ not-true _ other) (ap has_no_word (words_again (word ∷ words) are))
