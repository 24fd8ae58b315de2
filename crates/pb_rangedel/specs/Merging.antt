-- The merge of newer rows and older rows, step by step.
use Rattle.std.specs.Prelude.{◌≡◌, ℕ, ◌+◌, ◌<◌, List, [], ◌∷◌, length, drop, slice_index_or, Option, Some, None, Bool, false}
use Rattle.std.specs.FinMap.Entries.{by_order}
use Rattle.pb_keys.specs.Key.{key_cmp}
use Rattle.pb_keys.specs.Span.{KeySpan}
use Rattle.pb_rangedel.specs.declared.rows.Step.{Step}
use Rattle.pb_rangedel.specs.declared.rows.Step.TheVariants.{Newer, Older, Skip}
use Rattle.pb_rows.specs.Layer.{KeyRow}
use Rattle.pb_rows.specs.Over.{rows_over, uncovered}
use Rattle.pb_rows.specs.Verdict.{is_covered}

-- what is still to be written at these places of both lists
abbrev pub rest_of : List KeySpan → List KeyRow → List KeyRow → ℕ → ℕ → List KeyRow
rest_of dels newer older new old = rows_over (drop new newer) (uncovered dels (drop old older))

-- the next row is the newer one, the older one, or the older one is left out
abbrev pub IsStep : Step → List KeySpan → List KeyRow → List KeyRow → ℕ → ℕ → Type 0
IsStep Newer dels newer older new old =
    (new < length newer) × ((d : KeyRow) → rest_of dels newer older new old ≡ slice_index_or newer new d ∷ rest_of dels newer older (new + 1) old)
IsStep Older dels newer older new old =
    (old < length older) × ((d : KeyRow) → rest_of dels newer older new old ≡ slice_index_or older old d ∷ rest_of dels newer older new (old + 1))
IsStep Skip dels newer older new old =
    (old < length older) × (rest_of dels newer older new old ≡ rest_of dels newer older new (old + 1))

-- no row is left to be written, or this is the step
abbrev pub IsNext : Option Step → List KeySpan → List KeyRow → List KeyRow → ℕ → ℕ → Type 0
IsNext None dels newer older new old = rest_of dels newer older new old ≡ []
IsNext (Some step) dels newer older new old = IsStep step dels newer older new old

-- whether one of the spans holds the key of a row that is there
abbrev pub hides_row : List KeySpan → Option KeyRow → Bool
hides_row dels None = false
hides_row dels (Some row) = is_covered dels row.key

-- the step where these rows come next, and no span holds the older one's key
abbrev pub step_for : Option KeyRow → Option KeyRow → Option Step
step_for None None = None
step_for (Some newer) None = Some Newer
step_for None (Some older) = Some Older
step_for (Some newer) (Some older) = Some (by_order (key_cmp newer.key older.key) Newer Skip Older)
