-- A step, as the next of the lines that are left.
use Rattle.std.proofs.Common.{◌≡◌, ℕ, suc, ◌+◌, ◌<◌, List, ◌∷◌, length, get_or, drop, drop-cons, sym, ap, ◌∙◌, arith}
use Rattle.pb_script.specs.declared.line.Line.{Line}
use Rattle.pebble_cli.specs.Steps.{as_line}
use Rattle.pebble_cli.specs.declared.step.Step.{Step}

pub next_line : (lines : List Line) (place : ℕ) (line : Line) (step : Step) → place < length lines → line ≡ get_or lines place line
    → as_line step ≡ line
    → drop place lines ≡ as_line step ∷ drop (place + 1) lines
next_line lines place line step within item is =
    drop-cons lines place line within ∙ ap (λ (l : Line). l ∷ drop (suc place) lines) (sym item ∙ sym is)
    ∙ ap (λ (n : ℕ). as_line step ∷ drop n lines) (let e : suc place ≡ place + 1 = omega arith in e)
