-- However many spaces part words, they are the words.
use Rattle.std.proofs.Common.{◌≡◌, ℕ, zero, suc, ◌<◌, ◌==◌, true, false, List, [], ◌∷◌, ◌++◌, map, length, All, refl, ap, ◌∙◌, append-nil, arith}
use Rattle.std.specs.List.{AllByRecursion}
use Rattle.std.proofs.lemmas.Bool.{cond-true}
use Rattle.std.proofs.lemmas.Bool.Decides.{nat_tests}
use Rattle.std.proofs.lemmas.List.Splits.{slice_split_at, slice_split_none}
use Rattle.pb_script.specs.Words.{has_bytes, words_of}
use Rattle.pb_script.specs.Spaced.{spaces, spaced_words, spaced, IsSolid}
use Rattle.pb_script.proofs.Parts.{words_cut, words_whole}

spaces_skipped : (count : ℕ) (text : List ℕ) → words_of (spaces count ++ text) ≡ words_of text
spaces_skipped zero text = refl
spaces_skipped (suc count) text = spaces_skipped count text

no_words : (count : ℕ) → words_of (spaces count) ≡ []
no_words zero = refl
no_words (suc count) = no_words count

each_byte : (word : List ℕ) → AllByRecursion (λ byte. (byte == 32) ≡ false) word → All (λ byte. (byte == 32) ≡ false) word
each_byte [] each k d h = absurd (omega (arith, h))
each_byte (byte ∷ word) each zero d h = each.0
each_byte (byte ∷ word) each (suc k) d h = each_byte word each.1 k d (omega (arith, h))

some_bytes : (word : List ℕ) → 0 < length word → has_bytes word ≡ true
some_bytes [] some = absurd (omega (arith, some))
some_bytes (byte ∷ word) some = grind (arith, nat_tests)

word_first : (word rest : List ℕ) → IsSolid word → words_of (word ++ 32 ∷ rest) ≡ word ∷ words_of rest
word_first word rest is =
    words_cut (word ++ 32 ∷ rest) word rest (slice_split_at (λ byte. byte == 32) word 32 rest (each_byte word is.1) refl)
    ∙ cond-true _ _ _ (some_bytes word is.0)

word_alone : (word : List ℕ) → IsSolid word → words_of word ≡ word ∷ []
word_alone word is = words_whole word (slice_split_none (λ byte. byte == 32) word (each_byte word is.1))
    ∙ cond-true _ _ _ (some_bytes word is.0)

word_last : (word : List ℕ) (count : ℕ) → IsSolid word → words_of (word ++ spaces count) ≡ word ∷ []
word_last word zero is = ap words_of (append-nil word) ∙ word_alone word is
word_last word (suc count) is = word_first word (spaces count) is ∙ ap (λ (words : List (List ℕ)). word ∷ words) (no_words count)

words_are : (words : List (List ℕ × ℕ)) → AllByRecursion (λ word. IsSolid word.0) words
    → words_of (spaced_words words) ≡ map (λ word. word.0) words
words_are [] are = refl
words_are (word ∷ []) are = word_last word.0 word.1 are.0
words_are (word ∷ next ∷ words) are =
    word_first word.0 (spaces word.1 ++ spaced_words (next ∷ words)) are.0
    ∙ ap (λ (ws : List (List ℕ)). word.0 ∷ ws) (spaces_skipped word.1 (spaced_words (next ∷ words)) ∙ words_are (next ∷ words) are.1)

pub spaced_are : (front : ℕ) (words : List (List ℕ × ℕ)) → AllByRecursion (λ word. IsSolid word.0) words
    → words_of (spaced front words) ≡ map (λ word. word.0) words
spaced_are front words are = spaces_skipped front (spaced_words words) ∙ words_are words are
