use Rattle.std.proofs.Common.{rules, List, ℕ, ◌∷◌, ap, ◌∙◌}
use Rattle.pb_script.proofs.SetLines.{set_said}
use Rattle.pb_script.proofs.sets.set_words.Goals as goal

pub returns-in-None : goal.returns-in-None
returns-in-None c =
    let with : List ℕ → List (List ℕ) → List (List ℕ) = λ word words. word ∷ words in
    set_said c.args.text.now c.in_ok-letter.letter.now c.in_ok-name.name.now c.in_ok-key.key.now c.in_ok-value.value.now c.in-Ok.store
    (c.in_ok-letter.ensures.words
    ∙ ap (with c.in_ok-letter.letter.now) (c.in_ok-name.ensures.words
    ∙ ap (with c.in_ok-name.name.now) (c.in_ok-key.ensures.words
    ∙ ap (with c.in_ok-key.key.now) (c.in_ok-value.ensures.words
    ∙ ap (with c.in_ok-value.value.now) c.in-None.ensures.words))))
    c.in-Ok.ensures (search rules)
