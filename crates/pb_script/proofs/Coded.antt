-- A word that spells its bytes one by one.
use Rattle.std.proofs.Common.{◌≡◌, ℕ, ◌-◌, take, inl, inr, ◌⊎◌, ◌<◌, ◌≤◌, true, false, ◌==◌, List, [], ◌∷◌, ◌++◌, length, get_or, drop, Option, Some, None, refl, sym, ap, ◌∙◌, append_assoc, arith, eq-eqb}
use Rattle.std.specs.List.{list_all}
use Rattle.std.specs.Str.{bytes_eq}
use Rattle.std.specs.Prelude.{codes}
use Rattle.std.proofs.lemmas.Bool.{cond-true, cond-false, and_parts}
use Rattle.std.proofs.lemmas.List.{append-nil, length-drop}
use Rattle.std.proofs.Math.Seq.{take-length}
use Rattle.std.proofs.lemmas.Bool.Decides.{nat_tests}
use Rattle.pb_keys.specs.Printed.{is_plain}
use Rattle.pb_script.specs.Answers.{Fails}
use Rattle.pb_script.specs.declared.fault.WordFault.{WordFault}
use Rattle.pb_script.specs.declared.fault.WordFault.TheVariants.{OffGrammar, NoMemory}
use Rattle.pb_script.specs.Strings.{plain, hex_pair, with_byte, bytes_of, string_of}

-- these bytes, before those that are still read
abbrev pub with_bytes : List ℕ → Option (List ℕ) → Option (List ℕ)
with_bytes front None = None
with_bytes front (Some bytes) = Some (front ++ bytes)

pub with_bytes-push : (front : List ℕ) (byte : ℕ) (read : Option (List ℕ)) → with_bytes front (with_byte (Some byte) read) ≡ with_bytes (front ++ byte ∷ []) read
with_bytes-push front byte None = refl
with_bytes-push front byte (Some bytes) = ap (λ (x : List ℕ). Some x) (sym (append_assoc front (byte ∷ []) bytes))

pub plain_is : (byte : ℕ) → is_plain byte ≡ true → plain byte ≡ Some byte
plain_is byte passes = cond-true _ _ _ passes

pub plain_none : (byte : ℕ) → is_plain byte ≡ false → plain byte ≡ None
plain_none byte fails = cond-false _ _ _ fails

plain_37 : (byte : ℕ) → is_plain byte ≡ true → (byte == 37) ≡ false
plain_37 byte passes = grind (arith, nat_tests)

pub first_coded : (text : List ℕ) → 3 ≤ length text → get_or text 0 0 ≡ 37 → bytes_of text ≡ with_byte (hex_pair (get_or text 1 0) (get_or text 2 0)) (bytes_of (drop 3 text))
unfolding bytes_of
first_coded [] long is = absurd (omega arith)
first_coded (byte ∷ []) long is = absurd (omega arith)
first_coded (byte ∷ next ∷ []) long is = absurd (omega arith)
first_coded (byte ∷ high ∷ low ∷ rest) long is = cond-true _ _ _ (eq-eqb byte 37 is)

pub first_plain : (text : List ℕ) → 0 < length text → is_plain (get_or text 0 0) ≡ true → bytes_of text ≡ with_byte (Some (get_or text 0 0)) (bytes_of (drop 1 text))
unfolding bytes_of
first_plain [] some passes = absurd (omega arith)
first_plain (byte ∷ []) some passes = rw (plain_is byte passes) refl
first_plain (byte ∷ next ∷ []) some passes = rw (plain_is byte passes) refl
first_plain (byte ∷ high ∷ low ∷ rest) some passes = cond-false _ _ _ (plain_37 byte passes) ∙ rw (plain_is byte passes) refl

pub first_off : (text : List ℕ) → 0 < length text → is_plain (get_or text 0 0) ≡ false → (get_or text 0 0 ≡ 37 → length text < 3) → bytes_of text ≡ None
unfolding bytes_of
first_off [] some fails short = absurd (omega arith)
first_off (byte ∷ []) some fails short = rw (plain_none byte fails) refl
first_off (byte ∷ next ∷ []) some fails short = rw (plain_none byte fails) refl
first_off (byte ∷ high ∷ low ∷ rest) some fails short =
    cond-false (byte == 37) _ _ (grind (arith, nat_tests)) ∙ rw (plain_none byte fails) refl

-- plain bytes alone spell themselves
plain_word : (word : List ℕ) → list_all is_plain word ≡ true → bytes_of word ≡ Some word
unfolding bytes_of
plain_word [] passes = refl
plain_word (byte ∷ bytes) passes =
    let parts = and_parts (is_plain byte) (list_all is_plain bytes) passes in
    first_plain (byte ∷ bytes) (omega arith) parts.0 ∙ ap (with_byte (Some byte)) (plain_word bytes parts.1)

pub string_of-plain : (word : List ℕ) → 0 < length word → bytes_eq word (codes "%") ≡ false → list_all is_plain word ≡ true → string_of word ≡ Some word
unfolding string_of
string_of-plain [] some other passes = absurd (omega arith)
string_of-plain (byte ∷ bytes) some other passes = cond-false _ _ _ other ∙ plain_word (byte ∷ bytes) passes

pub coded_whole : (word front : List ℕ) → bytes_of word ≡ with_bytes front (bytes_of []) → bytes_of word ≡ Some front
unfolding bytes_of
coded_whole word front is = is ∙ ap (λ (x : List ℕ). Some x) (append-nil front)

pub coded_ok : (text : List ℕ) (byte : ℕ) → 3 ≤ length text → get_or text 0 0 ≡ 37 → hex_pair (get_or text 1 0) (get_or text 2 0) ≡ Some byte
    → (bytes_of text ≡ with_byte (Some byte) (bytes_of (take (length text - 3) (drop 3 text)))) × (length (take (length text - 3) (drop 3 text)) < length text)
coded_ok text byte long is pair =
    let rest : take (length text - 3) (drop 3 text) ≡ drop 3 text =
    ap (λ (k : ℕ). take k (drop 3 text)) (sym (length-drop 3 text)) ∙ take-length (drop 3 text) in
    rw rest (first_coded text long is ∙ ap (λ (p : Option ℕ). with_byte p (bytes_of (drop 3 text))) pair, omega (arith, length-drop 3 text))

pub plain_ok : (text : List ℕ) → 0 < length text → is_plain (get_or text 0 0) ≡ true
    → (bytes_of text ≡ with_byte (Some (get_or text 0 0)) (bytes_of (take (length text - 1) (drop 1 text)))) × (length (take (length text - 1) (drop 1 text)) < length text)
plain_ok text some passes =
    let rest : take (length text - 1) (drop 1 text) ≡ drop 1 text =
    ap (λ (k : ℕ). take k (drop 1 text)) (sym (length-drop 1 text)) ∙ take-length (drop 1 text) in
    rw rest (first_plain text some passes, omega (arith, length-drop 1 text))

pub coded_err : (fault : WordFault) (text : List ℕ) → 3 ≤ length text → get_or text 0 0 ≡ 37 → Fails fault (hex_pair (get_or text 1 0) (get_or text 2 0)) → Fails fault (bytes_of text)
coded_err OffGrammar text long is none = first_coded text long is ∙ ap (λ (p : Option ℕ). with_byte p (bytes_of (drop 3 text))) none
coded_err NoMemory text long is none = tt

pub off_err : (text : List ℕ) → 0 < length text → is_plain (get_or text 0 0) ≡ false → ((get_or text 0 0 ≡ 37) × (length text < 3)) ⊎ (get_or text 0 0 ≡ 37 → ⊥) → bytes_of text ≡ None
off_err text some fails short = first_off text some fails (λ is. elim short [ inl p ↦ p.1 | inr other ↦ absurd (other is) ])
