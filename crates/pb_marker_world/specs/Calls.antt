-- Which steps are calls of the bucket, and which name each of them changes.
use Rattle.std.specs.Prelude.{◌≡◌, ℕ, Bool, true, false, ◌==◌, Option, None, List, [], ◌∷◌}
use Rattle.std.specs.List.{filter}
use Rattle.std.specs.Option.{option_map}
use Rattle.pb_names.specs.Spelling.{object_name}
use Rattle.pb_marker_world.specs.Machine.{Local, own_marker}
use Rattle.pb_marker_world.specs.Steps.{Step}
use Rattle.pb_marker_world.specs.Steps.Step.{PutsObject, PutsMarker, Checks, DeletesMarker, Counts, DeletesObject, Crashes}
use Rattle.pb_marker_world.specs.Bucket.{name_of}

-- a put, a look, a count or a delete; all other steps are the store's own
abbrev pub is_bucket_step : Step → Bool
is_bucket_step (PutsObject n) = true
is_bucket_step (PutsMarker n) = true
is_bucket_step (Checks n) = true
is_bucket_step (DeletesMarker n) = true
is_bucket_step (Counts n) = true
is_bucket_step (DeletesObject n) = true
is_bucket_step _ = false

abbrev pub bucket_steps : List Step → List Step
bucket_steps steps = filter is_bucket_step steps

-- the name of the object of the store's entry under the number
abbrev pub object_name_at : Local → ℕ → Option (List ℕ)
object_name_at l number = option_map (λ e. object_name e.object) (l.part.entries number)

-- the name of the store's own marker under the number
abbrev pub marker_name_at : ℕ → Local → ℕ → Option (List ℕ)
marker_name_at store l number = option_map (λ e. name_of (own_marker store number e)) (l.part.entries number)

-- the one name that the step puts or deletes, by the entry as it is before the step
abbrev pub touched_name : ℕ → Local → Step → Option (List ℕ)
touched_name store l (PutsObject n) = object_name_at l n
touched_name store l (PutsMarker n) = marker_name_at store l n
touched_name store l (DeletesMarker n) = marker_name_at store l n
touched_name store l (DeletesObject n) = object_name_at l n
touched_name store l _ = None

-- the step puts the object of the store's entry under the number
abbrev pub puts_object : ℕ → Step → Bool
puts_object number (PutsObject n) = n == number
puts_object number _ = false

-- the step puts the store's own marker under the number
abbrev pub puts_marker : ℕ → Step → Bool
puts_marker number (PutsMarker n) = n == number
puts_marker number _ = false

abbrev pub is_crash : Step → Bool
is_crash (Crashes kept) = true
is_crash _ = false

-- no step stands behind a crash
abbrev pub CrashIsLast : List Step → Type 0
CrashIsLast [] = Unit {0}
CrashIsLast (step ∷ []) = Unit {0}
CrashIsLast (step ∷ next ∷ steps) = (is_crash step ≡ false) × CrashIsLast (next ∷ steps)
