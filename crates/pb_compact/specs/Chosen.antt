-- What a compaction chooses of a version, and when what it chose still fits one.
use Rattle.std.specs.Prelude.{◌≡◌, ℕ, ◌+◌, ◌<◌, ◌⊎◌, List, ◌++◌, map, filter, drop, Bool, true, false, ◌&&◌, ◌==◌, if◌then◌else◌, Option, Some, None, All, Contains}
use Rattle.std.specs.List.{list_any}
use Rattle.pb_keys.specs.Span.{KeySpan, overlap}
use Rattle.pb_rows.specs.Hull.{hull_of_spans}
use Rattle.pb_version.specs.Version.{TableView, VersionView, tables_of_level, flattened}
use Rattle.pb_version.specs.Edited.{comes_before}
use Rattle.pb_version.specs.Rules.{each_pair}

-- the inputs, each with its level, the newest first
pub record Chosen : Type 0 where
  pub level : ℕ
  pub inputs : List (ℕ × TableView)
  pub keeps_deletions : Bool

-- whether the table's bounds overlap the span, if there is one
abbrev pub meets : Option KeySpan → TableView → Bool
meets None t = false
meets (Some span) t = overlap t.view.bounds span

abbrev pub hull_of_tables : List TableView → Option KeySpan
hull_of_tables ts = hull_of_spans (map (λ t. t.view.bounds) ts)

-- those of the level that overlap the span; of level 0 all, where one does
abbrev pub firsts_of : VersionView → ℕ → KeySpan → List TableView
firsts_of v level span =
    if level == 0 && list_any (meets (Some span)) (tables_of_level v level)
    then tables_of_level v level
    else filter (meets (Some span)) (tables_of_level v level)

-- those of the next level that overlap the hull of the first ones
abbrev pub seconds_of : VersionView → ℕ → KeySpan → List TableView
seconds_of v level span = filter (meets (hull_of_tables (firsts_of v level span))) (tables_of_level v (level + 1))

-- the tables of the levels below this one
abbrev pub tables_below : VersionView → ℕ → List TableView
tables_below v level = flattened (drop (level + 1) v.levels)

abbrev pub at_level : ℕ → List TableView → List (ℕ × TableView)
at_level level ts = map (λ t. (level, t)) ts

-- deletions are kept exactly where a table below the next level overlaps the hull of all inputs
abbrev pub chosen_of : VersionView → ℕ → KeySpan → Chosen
chosen_of v level span = record {
  level = level;
  inputs = at_level level (firsts_of v level span) ++ at_level (level + 1) (seconds_of v level span);
  keeps_deletions = list_any (meets (hull_of_tables (firsts_of v level span ++ seconds_of v level span))) (tables_below v (level + 1));
}

-- ---- what has to hold of it at the install, beside the judging

-- each input stands in the version on its level
abbrev pub StandIn : VersionView → Chosen → Type 0
StandIn v chosen = All (λ input. Contains (tables_of_level v input.0) input.1) chosen.inputs

-- the inputs are tables of the level and then of the next, each in the order of its level
pub record AreInTurn (chosen : Chosen) : Type 0 where
  pub firsts : List TableView
  pub seconds : List TableView
  pub inputs : chosen.inputs ≡ at_level chosen.level firsts ++ at_level (chosen.level + 1) seconds
  pub first_order : each_pair (comes_before chosen.level) firsts ≡ true
  pub second_order : each_pair (comes_before (chosen.level + 1)) seconds ≡ true

abbrev pub IsInput : Chosen → ℕ → TableView → Type 0
IsInput chosen level t = Contains chosen.inputs (level, t)

-- the table overlaps no input
abbrev pub IsBesideAll : Chosen → TableView → Type 0
IsBesideAll chosen t = All (λ input. overlap t.view.bounds input.1.view.bounds ≡ false) chosen.inputs

-- the table has a greater rank than each input of level 0
abbrev pub IsNewerThanAll : Chosen → TableView → Type 0
IsNewerThanAll chosen t = All (λ input. input.0 ≡ 0 → input.1.rank < t.rank) chosen.inputs

-- each input stands in the version on its level; where deletions aren't kept, no other table of the next level or deeper overlaps
-- one; and where the level is 0, every other table of it is newer than the inputs
pub record Fits (v : VersionView) (chosen : Chosen) : Type 0 where
  pub in_turn : AreInTurn chosen
  pub stand : StandIn v chosen
  pub clear : chosen.keeps_deletions ≡ false → (level : ℕ) → chosen.level < level →
      All (λ t. IsInput chosen level t ⊎ IsBesideAll chosen t) (tables_of_level v level)
  pub newest : chosen.level ≡ 0 → All (λ t. IsInput chosen 0 t ⊎ IsNewerThanAll chosen t) (tables_of_level v 0)
