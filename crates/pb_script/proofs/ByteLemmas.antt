-- A byte off the grammar makes a fault of its line.
use Rattle.std.proofs.Common.{◌≡◌, ℕ, ◌==◌, Bool, true, false, ◌&&◌, ◌||◌, List, [], ◌∷◌, ◌++◌, Option, Some, None, refl, sym, ap, ◌∙◌, subst, arith, inl, inr}
use Rattle.std.specs.Prelude.{IfSome, codes}
use Rattle.std.specs.List.{filter, list_all, slice_split, onto_first}
use Rattle.std.proofs.lemmas.Bool.{cases_Bool, cond-true, cond-false, and_parts, or_right}
use Rattle.std.proofs.lemmas.Bool.Decides.{nat_tests}
use Rattle.pb_script.specs.Answers.{◌>>=◌}
use Rattle.pb_script.specs.Words.{is_graphic, is_of_lines, has_bytes, words_of, begins_with_hash, has_no_word, is_skipped}
use Rattle.pb_script.specs.Lines.{line_of}
use Rattle.pb_script.specs.TableLines.{table_line_of, is_end, are_end}
use Rattle.pb_script.specs.Script.{said, step, after_line}
use Rattle.pb_script.specs.declared.line.Line.{Line}
use Rattle.pb_script.specs.declared.table_line.TableLine.{TableLine}
use Rattle.pb_script.specs.declared.script.Place.{Place}
use Rattle.pb_script.specs.declared.script.Place.TheVariants.{Between, Within}
use Rattle.pb_script.proofs.GraphicWords.{AreGraphic, two_true, same_word}
use Rattle.pb_script.proofs.GraphicLines.{line_graphic, table_line_graphic}

-- ---- from words to the text

some_bytes : (byte : ℕ) (part : List ℕ) → has_bytes (byte ∷ part) ≡ true
some_bytes byte part = grind (arith, nat_tests)

each_part : (parts : List (List ℕ)) → AreGraphic (filter has_bytes parts) → AreGraphic parts
each_part [] are = tt
each_part ([] ∷ parts) are = (refl, each_part parts are)
each_part ((byte ∷ part) ∷ parts) are = let all = subst AreGraphic (cond-true (has_bytes (byte ∷ part)) _ _ (some_bytes byte part)) are in
    (all.0, each_part parts all.1)

space_is : (byte : ℕ) (more : Bool) → (byte == 32) ≡ true → more ≡ true → (is_of_lines byte && more) ≡ true
space_is byte more is also = two_true (is_of_lines byte) more (ap (λ (b : Bool). b || is_graphic byte) is) also

graphic_is : (byte : ℕ) → is_graphic byte ≡ true → is_of_lines byte ≡ true
graphic_is byte is = or_right (byte == 32) (is_graphic byte) is

first_part : (byte : ℕ) (parts : List (List ℕ)) → AreGraphic (onto_first byte parts) → (is_graphic byte ≡ true) × AreGraphic parts
first_part byte [] are = ((and_parts (is_graphic byte) true are.0).0, tt)
first_part byte (part ∷ parts) are = let two = and_parts (is_graphic byte) (list_all is_graphic part) are.0 in (two.0, (two.1, are.1))

text_of_lines : (text : List ℕ) → AreGraphic (slice_split (λ byte. byte == 32) text) → list_all is_of_lines text ≡ true
text_of_lines [] are = refl
text_of_lines (byte ∷ text) are =
    elim (cases_Bool (byte == 32)) [
      | inl space ↦ space_is byte (list_all is_of_lines text) space
          (text_of_lines text (subst AreGraphic (cond-true (byte == 32) _ _ space) are).1)
      | inr other ↦
          let parts = first_part byte (slice_split (λ b. b == 32) text) (subst AreGraphic (cond-false (byte == 32) _ _ other) are) in
          two_true (is_of_lines byte) (list_all is_of_lines text) (graphic_is byte parts.0) (text_of_lines text parts.1)
    ]

words_of_lines : (text : List ℕ) → AreGraphic (words_of text) → list_all is_of_lines text ≡ true
words_of_lines text are = text_of_lines text (each_part (slice_split (λ byte. byte == 32) text) are)

-- ---- what says something

none_graphic : (words : List (List ℕ)) → has_no_word words ≡ true → AreGraphic words
none_graphic [] is = tt
none_graphic (word ∷ words) is = cc

end_graphic : (words : List (List ℕ)) → are_end words ≡ true → AreGraphic words
end_graphic [] is = cc
end_graphic (word ∷ []) is = (same_word word (codes "end") refl is, tt)
end_graphic (word ∷ next ∷ words) is = cc

clash : (text : List ℕ) → list_all is_of_lines text ≡ false → AreGraphic (words_of text) → ⊥
clash text off are = let e : ◌≡◌ {A = Bool} true false = sym (words_of_lines text are) ∙ off in absurd cc

none_said : {A : Type 0} (P : Type 0) (read : Option A) → IfSome read (λ x. P) → (P → ⊥) → read ≡ None
none_said P None is never = refl
none_said P (Some x) is never = absurd (never is)

no_end : (text : List ℕ) → list_all is_of_lines text ≡ false → is_end text ≡ false
unfolding is_end
no_end text off =
    elim (cases_Bool (are_end (words_of text))) [
      | inl is ↦ absurd (clash text off (end_graphic (words_of text) is))
      | inr other ↦ other
    ]

no_skip : (text : List ℕ) → begins_with_hash text ≡ false → list_all is_of_lines text ≡ false → is_skipped text ≡ false
no_skip text other off =
    ap (λ (b : Bool). b || has_no_word (words_of text)) other
    ∙ elim (cases_Bool (has_no_word (words_of text))) [
      | inl none ↦ absurd (clash text off (none_graphic (words_of text) none))
      | inr some ↦ some
    ]

none_there : (place : Place) (text : List ℕ) → list_all is_of_lines text ≡ false → said place text ≡ None
unfolding said
none_there Between text off =
    ap (λ (read : Option Line). read >>= λ (line : Line). Some (after_line line))
    (none_said (AreGraphic (words_of text)) (line_of text) (line_graphic text) (clash text off))
none_there (Within table lines) text off =
    cond-false (is_end text) _ _ (no_end text off)
    ∙ ap (λ (read : Option TableLine). read >>= λ (line : TableLine). Some (Within table (lines ++ line ∷ []), None))
    (none_said (AreGraphic (words_of text)) (table_line_of text) (table_line_graphic text) (clash text off))

pub byte_off : (place : Place) (text : List ℕ) → begins_with_hash text ≡ false → list_all is_of_lines text ≡ false → step place text ≡ None
unfolding step
byte_off place text other off = cond-false (is_skipped text) _ _ (no_skip text other off) ∙ none_there place text off
