-- What stands before and behind a byte of a text, as the parts that the byte cuts.
use Rattle.std.proofs.Common.{◌≡◌, inl, inr, ℕ, ◌<◌, ◌+◌, Bool, nat_lt, ◌==◌, List, [], ◌∷◌, length, take, drop, Option, Some, None, position, refl, sym, ap, ◌∙◌, subst, arith}
use Rattle.std.specs.Io.BufRead.{strip_last}
use Rattle.std.specs.List.{slice_split, position_or_len, filter}
use Rattle.std.proofs.lemmas.Bool.{cases_Bool, cond-true, cond-false, ltb-true, ltb-false}
use Rattle.std.proofs.lemmas.List.Splits.{slice_split_first, slice_split_none, length-slice_split}
use Rattle.std.proofs.lemmas.List.Sums.{fails_before_first}
use Rattle.pb_script.specs.Texts.{lines_of_parts, texts_of}
use Rattle.pb_script.specs.Words.{has_bytes, words_of, with_part}

pub cut_found : (p : ℕ → Bool) (xs : List ℕ) (place : ℕ) → position p xs ≡ Some place → (place < length xs) × (slice_split p xs ≡ take place xs ∷ slice_split p (drop (place + 1) xs))
cut_found p xs place is =
    elim (cases_Bool (nat_lt (position_or_len p xs) (length xs))) [
      | inl below ↦
          let same : position_or_len p xs ≡ place = let e : ◌≡◌ {A = Option ℕ} (Some (position_or_len p xs)) (Some place) = sym (cond-true _ _ _ below) ∙ is in cc in
          (subst (λ n. n < length xs) same (ltb-true _ _ below), subst (λ n. slice_split p xs ≡ take n xs ∷ slice_split p (drop (n + 1) xs)) same (slice_split_first p xs 0 (ltb-true _ _ below)))
      | inr above ↦ let e : ◌≡◌ {A = Option ℕ} None (Some place) = sym (cond-false _ _ _ above) ∙ is in cc
    ]

pub cut_missing : (p : ℕ → Bool) (xs : List ℕ) → position p xs ≡ None → slice_split p xs ≡ xs ∷ []
cut_missing p xs is =
    elim (cases_Bool (nat_lt (position_or_len p xs) (length xs))) [
      | inl below ↦ let e : ◌≡◌ {A = Option ℕ} None (Some (position_or_len p xs)) = sym is ∙ cond-true _ _ _ below in cc
      | inr above ↦ slice_split_none p xs (λ k d h. fails_before_first p xs k d (omega (arith, ltb-false _ _ above, h)))
    ]

behind_end : (front : List ℕ) (parts : List (List ℕ)) → 0 < length parts → lines_of_parts (front ∷ parts) ≡ strip_last 13 front ∷ lines_of_parts parts
behind_end front [] some = absurd (omega arith)
behind_end front (part ∷ parts) some = refl

-- the first line of a script ends at the first LF
pub texts_cut : (script front back : List ℕ) → slice_split (λ byte. byte == 10) script ≡ front ∷ slice_split (λ byte. byte == 10) back → texts_of script ≡ strip_last 13 front ∷ texts_of back
texts_cut script front back is = ap lines_of_parts is ∙ behind_end front (slice_split (λ byte. byte == 10) back) (omega (arith, length-slice_split (λ byte. byte == 10) back))

-- the first part of a text ends at the first space
pub words_cut : (text front back : List ℕ) → slice_split (λ byte. byte == 32) text ≡ front ∷ slice_split (λ byte. byte == 32) back → words_of text ≡ with_part front (words_of back)
words_cut text front back is = ap (filter has_bytes) is

pub words_whole : (text : List ℕ) → slice_split (λ byte. byte == 32) text ≡ text ∷ [] → words_of text ≡ with_part text (words_of [])
words_whole text is = ap (filter has_bytes) is
