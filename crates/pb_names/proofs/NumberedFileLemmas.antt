-- A numbered file's name has one number and one kind.
use Rattle.std.proofs.Common.{◌≡◌, ℕ, zero, suc, ◌<◌, ◌^◌, List, ◌++◌, length, take, drop, get_or, Option, Some, None, Result, Ok, Err, refl, sym, ap, subst, ◌∙◌, arith, length-append}
use Rattle.std.specs.Fmt.{decimal}
use Rattle.std.specs.Int.{IsInRange}
use Rattle.std.specs.Option.{SomeIff}
use Rattle.std.specs.Result.{OkIff, result_ok}
use Rattle.std.specs.Str.{IsUtf8}
use Rattle.std.specs.Str.Parse.{digits_value, ParsesUnsigned}
use Rattle.std.proofs.lemmas.Fmt.{decimal-digits_value, decimal_digit, decimal_is_IsNumeral, decimal_nonempty, digits_decimal, first_decimal}
use Rattle.std.proofs.lemmas.Grind.{get_or_default_zero}
use Rattle.std.proofs.lemmas.List.{take_at, drop_at}
use Rattle.std.proofs.lemmas.Str.{IsUtf8-from_ascii}
use Rattle.std.proofs.lemmas.Str.Ascii.{IsAscii-from_all}
use Rattle.std.proofs.lemmas.Str.Parse.{IsNumeralModel, numerals_by_value, parse_digits, tells_by_index}
use Rattle.pb_names.proofs.Makers.{ending_injective}
use Rattle.pb_names.proofs.SpellingLemmas.{length-ending}
use Rattle.pb_names.specs.NumberedFile.{FilesAreNumbered, IsNumberedFile, IsShortestNumeral, KindsAreApart}
use Rattle.pb_names.specs.Spelling.{ending, file_name}
use Rattle.pb_names.specs.declared.file_kind.FileKind.{FileKind}

abbrev AreDigits : List ℕ → Type 0
AreDigits digits = (i : ℕ) → i < length digits → IsInRange 48 57 (get_or digits i 0)

own : IsNumeralModel AreDigits (digits_value 10)
own = numerals_by_value AreDigits tells_by_index

are_digits : (digits : List ℕ) → IsShortestNumeral digits → AreDigits digits
are_digits digits numeral i inside = numeral.all i 0 inside

pub numeral_utf8 : (digits : List ℕ) → IsShortestNumeral digits → IsUtf8 digits
numeral_utf8 digits numeral = IsUtf8-from_ascii digits (IsAscii-from_all digits (λ k d h. let small = numeral.all k d h in omega (arith, small)))

-- `parse` gives the number of such digits, where it is below 2^64
parsed : {E : Type 0} (digits : List ℕ) (read : Result ℕ E) (found : Option ℕ) → IsShortestNumeral digits → found ≡ result_ok read
    → OkIff read ((0 < length digits) × (digits_value 10 digits < 2 ^ 64)) (digits_value 10 digits)
    → SomeIff found (digits_value 10 digits < 2 ^ 64) (digits_value 10 digits)
parsed digits (Ok n) found numeral is told =
    subst (λ f. SomeIff f (digits_value 10 digits < 2 ^ 64) (digits_value 10 digits)) (sym is) (told.0.1, told.1)
parsed digits (Err error) found numeral is told =
    let some = numeral.not_empty in
    subst (λ f. SomeIff f (digits_value 10 digits < 2 ^ 64) (digits_value 10 digits)) (sym is) (λ fits. told (omega arith, fits))

pub numeral_parsed : {E : Type 0} (digits text : List ℕ) (read : Result ℕ E) (found : Option ℕ) → IsShortestNumeral digits → text ≡ digits
    → ParsesUnsigned 64 10 text read → found ≡ result_ok read → SomeIff found (digits_value 10 digits < 2 ^ 64) (digits_value 10 digits)
numeral_parsed digits text read found numeral same parses is =
    parsed digits read found numeral is
    (parse_digits own 64 digits read (subst (λ t. ParsesUnsigned 64 10 t read) same parses) (are_digits digits numeral))

-- the last four bytes are the ending
pub parts_same : (digits others : List ℕ) (kind other : FileKind) → digits ++ ending kind ≡ others ++ ending other → (digits ≡ others) × (kind ≡ other)
parts_same digits others kind other e =
    let sized : length digits ≡ length others =
    omega (arith, ap length e, length-append digits (ending kind), length-append others (ending other), length-ending kind, length-ending other) in (
      sym (take_at digits (ending kind) (length digits) refl) ∙ ap (take (length digits)) e ∙ take_at others (ending other) (length digits) (sym sized),
      ending_injective kind other
          (sym (drop_at digits (ending kind) (length digits) refl) ∙ ap (drop (length digits)) e ∙ drop_at others (ending other) (length digits) (sym sized)),
    )

-- digits that are no such numeral begin no numbered file's name
pub not_numbered : (digits name : List ℕ) (kind : FileKind) → name ≡ digits ++ ending kind → (IsShortestNumeral digits → ⊥) → IsNumberedFile name → ⊥
not_numbered digits name kind is bad numbered =
    let file = numbered.is in
    bad (subst IsShortestNumeral (sym (parts_same digits file.digits kind numbered.kind (sym is ∙ file.whole)).0) file.numeral)

pub number_read : (digits name : List ℕ) (kind : FileKind) (found : Option ℕ) → IsShortestNumeral digits → name ≡ digits ++ ending kind
    → SomeIff found (digits_value 10 digits < 2 ^ 64) (digits_value 10 digits)
    → (n : ℕ) → found ≡ Some n → (n < 2 ^ 64) × (name ≡ file_name kind n)
unfolding file_name
number_read digits name kind found numeral is told n some =
    let value = subst (λ f. SomeIff f (digits_value 10 digits < 2 ^ 64) (digits_value 10 digits)) some told in
    let spelled : decimal (digits_value 10 digits) ≡ digits =
    decimal-digits_value own digits (are_digits digits numeral) (let some = numeral.not_empty in omega arith) numeral.shortest value.0 in (
      subst (λ m. m < 2 ^ 64) (sym value.1) value.0,
      is ∙ ap (λ l. l ++ ending kind) (sym spelled ∙ ap decimal (sym value.1)),
    )

some_value : (found : Option ℕ) (value : ℕ) → SomeIff found (value < 2 ^ 64) value → value < 2 ^ 64 → found ≡ Some value
some_value None value told fits = absurd (told fits)
some_value (Some n) value told fits = ap Some told.1

pub number_spelled : (digits name : List ℕ) (kind : FileKind) (found : Option ℕ) → name ≡ digits ++ ending kind
    → SomeIff found (digits_value 10 digits < 2 ^ 64) (digits_value 10 digits)
    → (n : ℕ) → n < 2 ^ 64 → name ≡ file_name kind n → found ≡ Some n
unfolding file_name
number_spelled digits name kind found is told n fits spelled =
    let same : digits ≡ decimal n = (parts_same digits (decimal n) kind kind (sym is ∙ spelled)).0 in
    let value : digits_value 10 digits ≡ n = ap (digits_value 10) same ∙ (decimal_is_IsNumeral n fits).1 in
    some_value found (digits_value 10 digits) told (subst (λ m. m < 2 ^ 64) (sym value) fits) ∙ ap Some value

pub kinds_are_apart : KindsAreApart
kinds_are_apart one other name is other_is = (parts_same is.digits other_is.digits one other (sym is.whole ∙ other_is.whole)).1

first_is_zero : (n : ℕ) → n < 2 ^ 64 → get_or (decimal n) 0 0 ≡ 48 → n ≡ 0
first_is_zero zero fits is = refl
first_is_zero (suc n) fits is = omega (arith, first_decimal (suc n) (omega arith) fits, is)

decimal_numeral : (n : ℕ) → n < 2 ^ 64 → IsShortestNumeral (decimal n)
decimal_numeral n fits = record {
  not_empty = omega (arith, decimal_nonempty n fits);
  all = λ k d inside. subst (IsInRange 48 57) (sym (get_or_default_zero (decimal n) k d inside)) (digits_decimal own n fits k inside);
  shortest = λ is.
      let none : n ≡ 0 = first_is_zero n fits is in
      ap (λ m. length (decimal m)) none ∙ ap length (decimal_digit 0 (omega arith));
}

pub files_are_numbered : FilesAreNumbered
unfolding file_name
files_are_numbered kind number fits = record { digits = decimal number; numeral = decimal_numeral number fits; whole = refl }
