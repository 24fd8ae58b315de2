-- Where a number ends in a name: at the first byte that is no digit.
use Rattle.std.proofs.Common.{◌≡◌, ℕ, ◌≤◌, ◌<◌, ◌^◌, List, [], ◌∷◌, ◌++◌, length, get_or, arith, refl, sym, ap}
use Rattle.std.specs.Char.{digit_value}
use Rattle.std.specs.Fmt.{decimal}
use Rattle.std.specs.Str.Parse.{AllDigits}
use Rattle.std.proofs.lemmas.Bool.Decides.{nat_tests}
use Rattle.std.proofs.lemmas.Fmt.{decimal_is_IsNumeral, decimal_injective}

-- empty, or begun by a byte that is no digit
abbrev pub NoDigitAhead : List ℕ → Type 0
NoDigitAhead [] = Unit {0}
NoDigitAhead (b ∷ bs) = 10 ≤ digit_value b

at_most_nine : (b : ℕ) → digit_value b < 10 → b ≤ 57
at_most_nine b small = grind (arith, nat_tests)

no_digit : (d b : ℕ) (ds bs : List ℕ) → digit_value d < 10 → 10 ≤ digit_value b → d ∷ ds ≡ b ∷ bs → ⊥
no_digit d b ds bs is is_not e =
    let same : d ≡ b = cc in
    let apart : digit_value d ≡ digit_value b = ap digit_value same in
    omega (arith, is, is_not, apart)

split_digits : (ds es x y : List ℕ) → AllDigits 10 ds → AllDigits 10 es → NoDigitAhead x → NoDigitAhead y
    → ds ++ x ≡ es ++ y → (ds ≡ es) × (x ≡ y)
split_digits [] [] x y all_ds all_es x_ends y_ends e = (refl, e)
split_digits [] (d ∷ es) [] y all_ds all_es x_ends y_ends e = absurd (cc)
split_digits [] (d ∷ es) (b ∷ x) y all_ds all_es x_ends y_ends e = absurd (no_digit d b (es ++ y) x all_es.0 x_ends (sym e))
split_digits (d ∷ ds) [] x [] all_ds all_es x_ends y_ends e = absurd (cc)
split_digits (d ∷ ds) [] x (b ∷ y) all_ds all_es x_ends y_ends e = absurd (no_digit d b (ds ++ x) y all_ds.0 y_ends e)
split_digits (d ∷ ds) (c ∷ es) x y all_ds all_es x_ends y_ends e =
    let first : d ≡ c = cc in
    let more : ds ++ x ≡ es ++ y = cc in
    let rest = split_digits ds es x y all_ds.1 all_es.1 x_ends y_ends more in
    (cc (first, rest.0), rest.1)

pub decimal-append_injective : (m n : ℕ) (x y : List ℕ) → m < 2 ^ 64 → n < 2 ^ 64 → NoDigitAhead x → NoDigitAhead y
    → decimal m ++ x ≡ decimal n ++ y → (m ≡ n) × (x ≡ y)
decimal-append_injective m n x y m_fits n_fits x_ends y_ends e =
    let parts = split_digits (decimal m) (decimal n) x y (decimal_is_IsNumeral m m_fits).0.1 (decimal_is_IsNumeral n n_fits).0.1 x_ends y_ends e in
    (decimal_injective m n m_fits n_fits parts.0, parts.1)

-- a number's first byte is a digit
first_of_digits : (ds x : List ℕ) → 0 < length ds → AllDigits 10 ds → get_or (ds ++ x) 0 0 ≤ 57
first_of_digits [] x filled all = omega arith
first_of_digits (d ∷ ds) x filled all = at_most_nine d all.0

pub first_digit : (n : ℕ) (x : List ℕ) → n < 2 ^ 64 → get_or (decimal n ++ x) 0 0 ≤ 57
first_digit n x fits =
    let numeral = decimal_is_IsNumeral n fits in
    first_of_digits (decimal n) x numeral.0.0 numeral.0.1
