-- Words that say something have no byte off 0x21 to 0x7E.
use Rattle.std.proofs.Common.{◌≡◌, ℕ, ◌==◌, Bool, true, cond, ◌&&◌, nat_le, nat_lt, List, [], ◌∷◌, length, take, drop, Option, Some, None, refl, sym, ap, ◌∙◌, subst, arith, inl, inr}
use Rattle.std.specs.Prelude.{IfSome, codes}
use Rattle.std.specs.Char.{digit_value}
use Rattle.std.specs.List.{AllByRecursion, list_all}
use Rattle.std.specs.Str.{bytes_eq}
use Rattle.std.proofs.lemmas.Bool.{cases_Bool, cond-true, cond-false, and_parts}
use Rattle.std.proofs.lemmas.Bool.Decides.{nat_tests}
use Rattle.std.proofs.Math.ListN.{take-append-drop}
use Rattle.std.proofs.lemmas.List.Folds.{list_all-append}
use Rattle.std.proofs.lemmas.Slice.Eq.{bytes_eq-Decides}
use Rattle.pb_keys.specs.Printed.{is_plain}
use Rattle.pb_names.specs.Ranges.{is_name}
use Rattle.pb_names.proofs.RangeLemmas.{name_is}
use Rattle.pb_script.specs.Answers.{◌>>◌}
use Rattle.pb_script.specs.Words.{is_graphic}
use Rattle.pb_script.specs.Strings.{hex_pair, plain, with_byte, bytes_of, string_of, name_of, store_of, level_of}
use Rattle.pb_script.specs.Fields.{Field, word_at, string_at, name_at, store_at, level_at, pair_at, behind, at_end, labelled_at, names_of, some_names_of}
use Rattle.pb_script.proofs.Again.{name_is_word}
use Rattle.pb_script.proofs.Formed.{bind_if, cond_if, test_if}

abbrev pub IsGraphic : List ℕ → Type 0
IsGraphic word = list_all is_graphic word ≡ true

abbrev pub AreGraphic : List (List ℕ) → Type 0
AreGraphic words = AllByRecursion IsGraphic words

-- ---- one word

pub two_true : (one two : Bool) → one ≡ true → two ≡ true → (one && two) ≡ true
two_true one two is also = rw (is, also) refl

plain_graphic : (byte : ℕ) → is_plain byte ≡ true → is_graphic byte ≡ true
plain_graphic byte is = grind (arith, nat_tests)

digit_graphic : (byte : ℕ) → nat_lt (digit_value byte) 16 ≡ true → is_graphic byte ≡ true
digit_graphic byte is = grind (arith, nat_tests)

percent_graphic : (byte : ℕ) → (byte == 37) ≡ true → is_graphic byte ≡ true
percent_graphic byte is = grind (arith, nat_tests)

imply_if : {A : Type 0} (P Q : Type 0) (o : Option A) → IfSome o (λ x. P) → (P → Q) → IfSome o (λ x. Q)
imply_if P Q None is next = tt
imply_if P Q (Some x) is next = next is

with_if : (P Q : Type 0) (first : Option ℕ) (others : Option (List ℕ)) → IfSome first (λ x. P) → IfSome others (λ x. Q)
    → IfSome (with_byte first others) (λ x. P × Q)
with_if P Q None others one more = tt
with_if P Q (Some byte) None one more = tt
with_if P Q (Some byte) (Some bytes) one more = (one, more)

plain_if : (byte : ℕ) → IfSome (plain byte) (λ x. is_graphic byte ≡ true)
plain_if byte = test_if (λ x. is_graphic byte ≡ true) (is_plain byte) byte (plain_graphic byte)

digits_if : (high low : ℕ) → IfSome (hex_pair high low) (λ x. (is_graphic high ≡ true) × (is_graphic low ≡ true))
digits_if high low =
    test_if (λ x. (is_graphic high ≡ true) × (is_graphic low ≡ true)) (nat_lt (digit_value high) 16 && nat_lt (digit_value low) 16) _
    (λ is. let parts = and_parts (nat_lt (digit_value high) 16) (nat_lt (digit_value low) 16) is in
    (digit_graphic high parts.0, digit_graphic low parts.1))

bytes_graphic : (word : List ℕ) → IfSome (bytes_of word) (λ x. IsGraphic word)
unfolding bytes_of
bytes_graphic [] = refl
bytes_graphic (byte ∷ []) = imply_if _ (IsGraphic (byte ∷ [])) _
    (with_if (is_graphic byte ≡ true) (IsGraphic []) (plain byte) (Some []) (plain_if byte) refl) (λ p. two_true _ _ p.0 p.1)
bytes_graphic (byte ∷ next ∷ []) =
    imply_if _ (IsGraphic (byte ∷ next ∷ [])) _
    (with_if (is_graphic byte ≡ true) ((is_graphic next ≡ true) × IsGraphic []) (plain byte) (with_byte (plain next) (Some []))
    (plain_if byte) (with_if (is_graphic next ≡ true) (IsGraphic []) (plain next) (Some []) (plain_if next) refl))
    (λ p. two_true _ _ p.0 (two_true _ _ p.1.0 p.1.1))
bytes_graphic (byte ∷ high ∷ low ∷ rest) =
    elim (cases_Bool (byte == 37)) [
      | inl coded ↦
          subst (λ (o : Option (List ℕ)). IfSome o (λ x. IsGraphic (byte ∷ high ∷ low ∷ rest))) (sym (cond-true (byte == 37) _ _ coded))
          (imply_if _ (IsGraphic (byte ∷ high ∷ low ∷ rest)) _
          (with_if ((is_graphic high ≡ true) × (is_graphic low ≡ true)) (IsGraphic rest) (hex_pair high low) (bytes_of rest)
          (digits_if high low) (bytes_graphic rest))
          (λ p. two_true _ _ (percent_graphic byte coded) (two_true _ _ p.0.0 (two_true _ _ p.0.1 p.1))))
      | inr itself ↦
          subst (λ (o : Option (List ℕ)). IfSome o (λ x. IsGraphic (byte ∷ high ∷ low ∷ rest))) (sym (cond-false (byte == 37) _ _ itself))
          (imply_if _ (IsGraphic (byte ∷ high ∷ low ∷ rest)) _
          (with_if (is_graphic byte ≡ true) (IsGraphic (high ∷ low ∷ rest)) (plain byte) (bytes_of (high ∷ low ∷ rest)) (plain_if byte)
          (bytes_graphic (high ∷ low ∷ rest)))
          (λ p. two_true _ _ p.0 p.1))
    ]

pub same_word : (one two : List ℕ) → IsGraphic two → bytes_eq one two ≡ true → IsGraphic one
same_word one two graphic is = subst IsGraphic (sym ((bytes_eq-Decides one two).0 is)) graphic

pub string_graphic : (word : List ℕ) → IfSome (string_of word) (λ x. IsGraphic word)
unfolding string_of
string_graphic [] = tt
string_graphic (byte ∷ bytes) =
    elim (cases_Bool (bytes_eq (byte ∷ bytes) (codes "%"))) [
      | inl percent ↦ subst (λ (o : Option (List ℕ)). IfSome o (λ x. IsGraphic (byte ∷ bytes))) (sym (cond-true _ _ _ percent))
          (same_word (byte ∷ bytes) (codes "%") refl percent)
      | inr other ↦ subst (λ (o : Option (List ℕ)). IfSome o (λ x. IsGraphic (byte ∷ bytes))) (sym (cond-false _ _ _ other))
          (bytes_graphic (byte ∷ bytes))
    ]

pub name_graphic : (word : List ℕ) → IfSome (name_of word) (λ x. IsGraphic word)
name_graphic word = test_if (λ x. IsGraphic word) (is_name word) word
    (λ is. (and_parts (nat_lt 0 (length word)) (list_all is_graphic word) (name_is_word word (name_is word is))).1)

letter_graphic : (byte : ℕ) → (nat_le 65 byte && nat_le byte 72) ≡ true → is_graphic byte ≡ true
letter_graphic byte is = grind (arith, nat_tests)

pub store_graphic : (word : List ℕ) → IfSome (store_of word) (λ x. IsGraphic word)
store_graphic [] = tt
store_graphic (byte ∷ []) = test_if (λ x. IsGraphic (byte ∷ [])) _ _ (λ is. two_true _ _ (letter_graphic byte is) refl)
store_graphic (byte ∷ next ∷ bytes) = tt

level_graphic_byte : (byte : ℕ) → (nat_le 48 byte && nat_le byte 53) ≡ true → is_graphic byte ≡ true
level_graphic_byte byte is = grind (arith, nat_tests)

pub level_graphic : (word : List ℕ) → IfSome (level_of word) (λ x. IsGraphic word)
level_graphic [] = tt
level_graphic (byte ∷ []) = test_if (λ x. IsGraphic (byte ∷ [])) _ _ (λ is. two_true _ _ (level_graphic_byte byte is) refl)
level_graphic (byte ∷ next ∷ bytes) = tt

-- ---- fields: where the words behind a field are graphic, so are all

pub string_field : (words : List (List ℕ)) → IfSome (string_at words) (λ x. AreGraphic x.1 → AreGraphic words)
unfolding string_at word_at
string_field [] = tt
string_field (word ∷ words) = bind_if (λ x. IsGraphic word) _ (string_of word) _ (string_graphic word) (λ s p more. (p, more))

pub name_field : (words : List (List ℕ)) → IfSome (name_at words) (λ x. AreGraphic x.1 → AreGraphic words)
unfolding name_at word_at
name_field [] = tt
name_field (word ∷ words) = bind_if (λ x. IsGraphic word) _ (name_of word) _ (name_graphic word) (λ s p more. (p, more))

pub store_field : (words : List (List ℕ)) → IfSome (store_at words) (λ x. AreGraphic x.1 → AreGraphic words)
unfolding store_at word_at
store_field [] = tt
store_field (word ∷ words) = bind_if (λ x. IsGraphic word) _ (store_of word) _ (store_graphic word) (λ s p more. (p, more))

pub level_field : (words : List (List ℕ)) → IfSome (level_at words) (λ x. AreGraphic x.1 → AreGraphic words)
unfolding level_at word_at
level_field [] = tt
level_field (word ∷ words) = bind_if (λ x. IsGraphic word) _ (level_of word) _ (level_graphic word) (λ s p more. (p, more))

pub pair_field : (words : List (List ℕ)) → IfSome (pair_at words) (λ x. AreGraphic x.1 → AreGraphic words)
unfolding pair_at
pair_field words =
    bind_if (λ x. AreGraphic x.1 → AreGraphic words) _ (string_at words) _ (string_field words) (λ a p.
    bind_if (λ x. AreGraphic x.1 → AreGraphic a.1) _ (string_at a.1) _ (string_field a.1) (λ b q more. p (q more)))

pub keyword_field : (keyword : List ℕ) → IsGraphic keyword → (words : List (List ℕ))
    → IfSome (behind keyword words) (λ rest. AreGraphic rest → AreGraphic words)
unfolding behind word_at
keyword_field keyword graphic [] = tt
keyword_field keyword graphic (word ∷ words) =
    test_if (λ rest. AreGraphic rest → AreGraphic (word ∷ words)) (bytes_eq word keyword) words
    (λ is more. (same_word word keyword graphic is, more))

two_parts : (count : ℕ) (word : List ℕ) → IsGraphic (take count word) → IsGraphic (drop count word) → IsGraphic word
two_parts count word front back =
    ap (list_all is_graphic) (sym (take-append-drop count word)) ∙ list_all-append is_graphic (take count word) (drop count word)
    ∙ two_true _ _ front back

pub labelled_field : (label : List ℕ) → IsGraphic label → (words : List (List ℕ))
    → IfSome (labelled_at label words) (λ x. AreGraphic x.1 → AreGraphic words)
unfolding labelled_at
labelled_field label graphic [] = λ more. more
labelled_field label graphic (word ∷ words) =
    elim (cases_Bool (bytes_eq (take (length label) word) label)) [
      | inl is ↦
          subst (λ (o : Option (Field (Option (List ℕ)))). IfSome o (λ x. AreGraphic x.1 → AreGraphic (word ∷ words)))
          (sym (cond-true _ _ _ is))
          (bind_if (λ x. IsGraphic (drop (length label) word)) _ (string_of (drop (length label) word)) _
          (string_graphic (drop (length label) word))
          (λ s p more. (two_parts (length label) word (same_word (take (length label) word) label graphic is) p, more)))
      | inr other ↦ subst (λ (o : Option (Field (Option (List ℕ)))). IfSome o (λ x. AreGraphic x.1 → AreGraphic (word ∷ words)))
          (sym (cond-false _ _ _ other)) (λ more. more)
    ]

names_graphic : (words : List (List ℕ)) → IfSome (names_of words) (λ x. AreGraphic words)
unfolding names_of
names_graphic [] = tt
names_graphic (word ∷ words) =
    bind_if (λ x. IsGraphic word) _ (name_of word) _ (name_graphic word)
    (λ n p. bind_if (λ x. AreGraphic words) _ (names_of words) _ (names_graphic words) (λ ns q. (p, q)))

pub some_names_graphic : (words : List (List ℕ)) → IfSome (some_names_of words) (λ x. AreGraphic words)
unfolding some_names_of
some_names_graphic words = bind_if (λ x. AreGraphic words) _ (names_of words) _ (names_graphic words)
    (λ ns p. cond_if (λ x. AreGraphic words) (length ns == 0) None (Some ns) tt p)

-- the end of the words
pub end_if : {A : Type 0} (P : Type 0) (rest : List (List ℕ)) (x : A) → (AreGraphic rest → P) → IfSome (at_end rest >> Some x) (λ y. P)
unfolding at_end
end_if P [] x is = is tt
end_if P (word ∷ rest) x is = tt

-- a keyword first, and then what it asks for
pub keyword_first : {A : Type 0} (P : Type 0) (name keyword : List ℕ) → IsGraphic keyword → (x y : Option A) → IfSome x (λ z. P)
    → IfSome y (λ z. IsGraphic name × P) → IfSome (cond (bytes_eq name keyword) x y) (λ z. IsGraphic name × P)
keyword_first P name keyword graphic x y one other =
    elim (cases_Bool (bytes_eq name keyword)) [
      | inl is ↦ subst (λ o. IfSome o (λ z. IsGraphic name × P)) (sym (cond-true _ _ _ is))
          (imply_if P (IsGraphic name × P) x one (λ p. (same_word name keyword graphic is, p)))
      | inr differs ↦ subst (λ o. IfSome o (λ z. IsGraphic name × P)) (sym (cond-false _ _ _ differs)) other
    ]
