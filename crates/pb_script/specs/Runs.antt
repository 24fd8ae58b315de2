-- How the numbers of lines are kept: by runs, in which they follow one another.
use Rattle.std.specs.Prelude.{◌≡◌, ℕ, ◌+◌, ◌-◌, ◌<◌, ◌≤◌, ◌^◌, nat_le, if◌then◌else◌, List, [], ◌∷◌}
use Rattle.pb_script.specs.declared.line.Line.{Line}
use Rattle.pb_script.specs.declared.runs.Run.{Run}

abbrev pub number_by : ℕ → ℕ → Run → ℕ
number_by place number run = if nat_le run.place place then run.number + (place - run.place) else number

-- by the last run that begins at this place or before it
abbrev pub number_from : ℕ → List Run → ℕ → ℕ
number_from number [] place = number
number_from number (run ∷ runs) place = number_from (number_by place number run) runs place

-- the number of the line at a place, counted from 0. The first run begins there with 1
abbrev pub number_at : List Run → ℕ → ℕ
number_at runs place = number_from (place + 1) runs place

abbrev pub numbers_from : ℕ → List Run → List Line → List (ℕ × Line)
numbers_from place runs [] = []
numbers_from place runs (line ∷ lines) = (number_at runs place, line) ∷ numbers_from (place + 1) runs lines

abbrev pub with_numbers : List Run → List Line → List (ℕ × Line)
with_numbers runs lines = numbers_from 0 runs lines

-- runs begin at ascending places, from one on and below another
abbrev pub Ascend : ℕ → List Run → ℕ → Type 0
Ascend from [] end = from ≤ end
Ascend from (run ∷ runs) end = (from ≤ run.place) × Ascend (run.place + 1) runs end

-- runs of so many lines
pub record AreRuns (runs : List Run) (count : ℕ) : Type 0 where
  pub ascend : Ascend 0 runs count
  pub small : (place : ℕ) → place < count → number_at runs place < 2 ^ 64

-- and the number of the line that would follow
pub record AreKept (runs : List Run) (next count : ℕ) : Type 0 where
  pub runs_are : AreRuns runs count
  pub next_is : next ≡ number_at runs count
