-- What a text says that is a store's `set`.
use Rattle.std.proofs.Common.{◌≡◌, ℕ, true, List, [], ◌∷◌, Option, Some, None, refl, ap, ◌∙◌}
use Rattle.std.specs.Prelude.{codes}
use Rattle.std.specs.Str.{bytes_eq}
use Rattle.std.proofs.lemmas.Bool.{cond-true}
use Rattle.pb_script.specs.Answers.{◌>>=◌}
use Rattle.pb_script.specs.Words.{words_of}
use Rattle.pb_script.specs.Strings.{string_of, store_of}
use Rattle.pb_script.specs.Fields.{word_at, string_at, pair_at, at_end}
use Rattle.pb_script.specs.Commands.{set_of, command_named, command_of}
use Rattle.pb_script.specs.Lines.{whole_named, line_named, line_of, set_line}
use Rattle.pb_script.specs.declared.command.Command.{Command}
use Rattle.pb_script.specs.declared.line.Line.TheVariants.{Whole}
use Rattle.pb_script.proofs.Letters.{letter_line}

by_strings : (store : ℕ) (key value : List ℕ) (k v : Option (List ℕ)) → string_of key ≡ k → string_of value ≡ v
    → (set_of (key ∷ value ∷ []) >>= λ (command : Command). Some (Whole store command)) ≡ set_line store key value
unfolding set_of pair_at string_at word_at at_end set_line
by_strings store key value None v one two = rw one refl
by_strings store key value (Some k) None one two = rw (one, two) refl
by_strings store key value (Some k) (Some v) one two = rw (one, two) refl

set_command : (name key value : List ℕ) → bytes_eq name (codes "set") ≡ true → command_of (name ∷ key ∷ value ∷ []) ≡ set_of (key ∷ value ∷ [])
unfolding command_of command_named word_at
set_command name key value is = cond-true _ _ _ is

whole_set : (letter name key value : List ℕ) (store : ℕ) → store_of letter ≡ Some store → bytes_eq name (codes "set") ≡ true
    → whole_named letter (name ∷ key ∷ value ∷ []) ≡ set_line store key value
unfolding whole_named
whole_set letter name key value store is named =
    ap (λ (s : Option ℕ). s >>= λ (n : ℕ). command_of (name ∷ key ∷ value ∷ []) >>= λ (c : Command). Some (Whole n c)) is
    ∙ ap (λ (c : Option Command). c >>= λ (command : Command). Some (Whole store command)) (set_command name key value named)
    ∙ by_strings store key value (string_of key) (string_of value) refl refl

pub set_said : (text letter name key value : List ℕ) (store : ℕ) → words_of text ≡ letter ∷ name ∷ key ∷ value ∷ [] → store_of letter ≡ Some store → bytes_eq name (codes "set") ≡ true
    → line_of text ≡ set_line store key value
unfolding line_of word_at
set_said text letter name key value store words is named =
    ap (λ (ws : List (List ℕ)). word_at ws >>= λ (first : List ℕ × List (List ℕ)). line_named first.0 first.1) words
    ∙ letter_line letter (name ∷ key ∷ value ∷ []) store is
    ∙ whole_set letter name key value store is named
