-- A line whose first word is one byte is no other than a store's command.
use Rattle.std.proofs.Common.{◌≡◌, ℕ, Bool, true, false, cond, ◌&&◌, List, [], ◌∷◌, Some, refl, ◌∙◌}
use Rattle.std.specs.Prelude.{◌==◌}
use Rattle.pb_script.specs.Strings.{store_of}
use Rattle.pb_script.specs.Lines.{whole_named, family_line, line_named}

other : {A : Type 0} (b : Bool) (x y : A) → cond (b && false) x y ≡ y
other true x y = refl
other false x y = refl

-- a keyword has more bytes
pub byte_line : (byte : ℕ) (words : List (List ℕ)) → line_named (byte ∷ []) words ≡ whole_named (byte ∷ []) words
unfolding line_named family_line
byte_line byte words =
    other (byte == 111) _ _ ∙ other (byte == 99) _ _ ∙ other (byte == 115) _ _ ∙ other (byte == 116) _ _ ∙ other (byte == 108) _ _ ∙ other (byte == 115) _ _
    ∙ other (byte == 116) _ _ ∙ other (byte == 101) _ _ ∙ other (byte == 100) _ _ ∙ other (byte == 103) _ _ ∙ other (byte == 117) _ _ ∙ other (byte == 111) _ _ ∙ other (byte == 99) _ _

pub letter_line : (letter : List ℕ) (words : List (List ℕ)) (store : ℕ) → store_of letter ≡ Some store → line_named letter words ≡ whole_named letter words
letter_line [] words store is = cc
letter_line (byte ∷ []) words store is = byte_line byte words
letter_line (byte ∷ next ∷ bytes) words store is = cc
