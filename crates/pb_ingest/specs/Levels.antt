-- At which level a table may come on top: as deep as none above it, nor any of that level, overlaps it.
use Rattle.std.specs.Prelude.{◌≡◌, ℕ, ◌+◌, ◌-◌, List, [], ◌∷◌, Bool, if◌then◌else◌, Option, Some, None, All, Contains}
use Rattle.std.specs.List.{list_any}
use Rattle.pb_keys.specs.Span.{KeySpan, overlap}
use Rattle.pb_span_cases.specs.Remainder.{remains}
use Rattle.pb_version.specs.Version.{TableView, VersionView, tables_of_level}

-- what stays of these bounds beside the cut, and without a cut all of them
abbrev pub rests_of : Option KeySpan → KeySpan → List KeySpan
rests_of None bounds = bounds ∷ []
rests_of (Some cut) bounds = remains bounds cut

-- whether what stays of the table overlaps the hull
abbrev pub meets : Option KeySpan → KeySpan → TableView → Bool
meets cut hull t = list_any (λ rest. overlap rest hull) (rests_of cut t.view.bounds)

-- how many levels, from the first on, have no table that does, up to the first level that has one
abbrev pub free_levels : Option KeySpan → KeySpan → List (List TableView) → ℕ
free_levels cut hull [] = 0
free_levels cut hull (tables ∷ deeper) = if list_any (meets cut hull) tables then 0 else 1 + free_levels cut hull deeper

-- the last of the free levels, 0 where there is none
abbrev pub level_without : VersionView → Option KeySpan → KeySpan → ℕ
level_without v cut hull = free_levels cut hull v.levels - 1

abbrev pub level_of : VersionView → KeySpan → ℕ
level_of v hull = level_without v None hull

-- the table is what stays of one of these, of its rank
pub record IsRest (cut : Option KeySpan) (tables : List TableView) (t : TableView) : Type 0 where
  pub table : TableView
  pub stood : Contains tables table
  pub rank : t.rank ≡ table.rank
  pub bounds : Contains (rests_of cut table.view.bounds) t.view.bounds

-- each table of the new version is what stays of one of the old, on its level
pub record HasRests (cut : Option KeySpan) (old new : VersionView) : Type 0 where
  pub each : (level : ℕ) → All (IsRest cut (tables_of_level old level)) (tables_of_level new level)
