-- What a growth at a list's end leaves where it broke off.
use Rattle.std.proofs.Common.{◌≡◌, ℕ, List, ◌++◌, length, take, arith, refl, sym, ap, ◌∙◌, length-append}
use Rattle.std.proofs.lemmas.List.{take_at, take-take}

-- what begins with a longer front begins with the front of that
pub front_before : (old text front new : List ℕ) → front ≡ old ++ text → take (length front) new ≡ front → take (length old) new ≡ old
front_before old text front new longer begins =
    sym (take-take (length old) (length front) new (omega (arith, ap length longer, length-append old text)))
    ∙ ap (take (length old)) (begins ∙ longer) ∙ take_at old text (length old) refl
