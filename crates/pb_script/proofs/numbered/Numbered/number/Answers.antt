use Rattle.std.proofs.Common.{◌≡◌, ◌<◌, ◌^◌, ℕ, List, Some, length, map, slice_get, sym, ap, ◌∙◌, subst, arith}
use Rattle.pb_script.specs.Runs.{number_at, with_numbers}
use Rattle.pb_script.specs.Script.{NumberedRead}
use Rattle.pb_script.specs.declared.line.Line.{Line}
use Rattle.pb_script.specs.declared.runs.Run.{Run}
use Rattle.pb_script.proofs.KeptNumbers.{line_at, length-with_numbers}
use Rattle.pb_script.proofs.numbered.Numbered.number.Goals as goal

within : (runs : List Run) (lines : List Line) (all : List (ℕ × Line)) (place : ℕ) → with_numbers runs lines ≡ all → place < length all → place < length lines
within runs lines all place same h = let e : length (with_numbers runs lines) ≡ length all = ap length same in omega (arith, h, e, length-with_numbers runs lines)

pub number_at-requires-clause-small : goal.number_at-requires-clause-small
number_at-requires-clause-small c =
    subst (λ (runs : List Run). number_at runs c.args.place < 2 ^ 64) (sym c.as_slice.ensures.value) (c.self.invariant.small c.args.place (within _ _ _ c.args.place (ap (λ (read : NumberedRead). read.lines) c.self.view_is) c.requires))

pub returns : goal.returns
returns c =
    ap (λ (read : NumberedRead). slice_get (map (λ (line : ℕ × Line). line.0) read.lines) c.args.place) (sym c.self.view_is)
    ∙ line_at c.self.inside.runs.items c.self.inside.lines.items c.args.place (within _ _ _ c.args.place (ap (λ (read : NumberedRead). read.lines) c.self.view_is) c.requires)
    ∙ ap (λ (runs : List Run). Some (number_at runs c.args.place)) (sym c.as_slice.ensures.value)
    ∙ ap (λ (n : ℕ). Some n) (sym c.number_at.ensures)
