-- What an event does to the lists, and what it answers.
use Rattle.std.specs.Prelude.{◌≡◌, ℕ, ◌-◌, ◌<◌, ◌^◌, Bool, true, false, ◌==◌, Option, Some, None, Result, Ok, Err, List, [], ◌∷◌, ◌++◌, if◌then◌else◌, length, map, slice_get}
use Rattle.std.specs.List.{list_any, list_all, filter_map}
use Rattle.std.specs.Option.{option_map, option_and_then}
use Rattle.pb_marker_world.specs.declared.events.Event.{Event}
use Rattle.pb_marker_world.specs.declared.events.Event.TheVariants.{Spend, Intend, PutObject, PutMarker, Check, DeleteMarker, Count, DeleteObject, Drop, Lend, DropHandle, Crash}
use Rattle.pb_marker_world.specs.declared.events.Lender.{Lender}
use Rattle.pb_marker_world.specs.declared.events.Outcome.{Outcome}
use Rattle.pb_marker_world.specs.declared.events.Outcome.TheVariants.{Done, Entry as NewEntry, Handle, Present, Any}
use Rattle.pb_marker_world.specs.declared.events.WorldError.{WorldError}
use Rattle.pb_marker_world.specs.declared.events.WorldError.TheVariants.{NotNow, NoMemory}
use Rattle.pb_marker_world.specs.declared.records.Place.{Place}
use Rattle.pb_marker_world.specs.Machine.{Marker, Entry, Lending, Local, local_of, same_identity}
use Rattle.pb_marker_world.specs.Steps.{Step, Happens, Goes}
use Rattle.pb_marker_world.specs.Steps.Step.{Spends, Intends, PutsObject, PutsMarker, Checks, DeletesMarker, Counts, DeletesObject, Drops, Lends, DropsHandle, Crashes}
use Rattle.pb_marker_world.specs.Book.{Book, entry_in, opening_in, has_marker, world_of}

-- the store and the step of an entry's event
abbrev pub step_at : Book → ℕ → (ℕ → Step) → Option (ℕ × Step)
step_at b at step = option_map (λ p. (p.store, step p.number)) (slice_get b.places at)

-- the marker that the handle lends there
abbrev pub lent_in : List Lending → Lender → Option Marker
lent_in given l = option_and_then (λ g. slice_get g.markers l.place) (slice_get given l.handle)

abbrev pub is_of_store : ℕ → Option Place → Bool
is_of_store store None = false
is_of_store store (Some p) = p.store == store

-- the place is there, and is the store's
abbrev pub is_of : List Place → ℕ → ℕ → Bool
is_of places store at = is_of_store store (slice_get places at)

abbrev pub number_at : List Place → ℕ → Option ℕ
number_at places at = option_map (λ p. p.number) (slice_get places at)

-- the step of the store over these places, if all are the store's
abbrev pub step_over : Book → ℕ → List ℕ → (List ℕ → Step) → Option (ℕ × Step)
step_over b store places step =
    if list_all (is_of b.places store) places then Some (store, step (filter_map (number_at b.places) places)) else None

-- whose step the event is, and which; none where it names what isn't there
abbrev pub step_of : Book → Event → Option (ℕ × Step)
step_of b (Spend store number) = Some (store, Spends number)
step_of b (Intend store number object None) = Some (store, Intends number object None)
step_of b (Intend store number object (Some l)) = option_map (λ m. (store, Intends number object (Some m))) (lent_in b.given l)
step_of b (PutObject at) = step_at b at PutsObject
step_of b (PutMarker at) = step_at b at PutsMarker
step_of b (Check at) = step_at b at Checks
step_of b (DeleteMarker at) = step_at b at DeletesMarker
step_of b (Count at) = step_at b at Counts
step_of b (DeleteObject at) = step_at b at DeletesObject
step_of b (Drop at) = step_at b at Drops
step_of b (Lend store entries) = step_over b store entries Lends
step_of b (DropHandle h) = option_map (λ g. (g.store, DropsHandle h)) (slice_get b.given h)
step_of b (Crash store kept) = step_over b store kept Crashes

-- a crash finds an opening number that can rise
abbrev pub HasRoom : Book → Event → Type 0
HasRoom b (Crash store kept) = opening_in b.openings store < 2 ^ 64 - 1
HasRoom b _ = Unit {0}

-- a step is wanted, and may happen
pub record IsPossible (b : Book) (wanted : Option (ℕ × Step)) (Room : Type 0) : Type 0 where
  pub store : ℕ
  pub step : Step
  pub asked : wanted ≡ Some (store, step)
  pub after : Local
  pub happens : Happens store (local_of (world_of b) store) step after
  pub room : Room

-- the event's condition holds
abbrev pub MayHappen : Book → Event → Type 0
MayHappen b event = IsPossible b (step_of b event) (HasRoom b event)

-- the entry at a place
abbrev pub placed_in : List Place → ℕ → Option Entry
placed_in places at = option_and_then (λ p. entry_in places p.store p.number) (slice_get places at)

-- the marker of the lender is among these
abbrev pub lender_in : List Marker → Option Marker → Bool
lender_in markers None = false
lender_in markers (Some m) = has_marker markers m

abbrev pub lender_found : Book → Option Entry → Bool
lender_found b None = false
lender_found b (Some e) = lender_in b.markers e.lender

abbrev pub marker_found : Book → Option Entry → Bool
marker_found b None = false
marker_found b (Some e) = list_any (λ m. same_identity m.object e.object) b.markers

-- what the event answers
abbrev pub outcome_of : Book → Event → Outcome
outcome_of b (Intend store number object lender) = NewEntry (length b.places)
outcome_of b (Check at) = Present (lender_found b (placed_in b.places at))
outcome_of b (Count at) = Any (marker_found b (placed_in b.places at))
outcome_of b (Lend store entries) = Handle (length b.given)
outcome_of b _ = Done

-- the store and the number of each place
abbrev pub places_of : List Place → List (ℕ × ℕ)
places_of places = map (λ p. (p.store, p.number)) places

-- the place that the event makes
abbrev pub made_by : Event → List (ℕ × ℕ)
made_by (Intend store number object lender) = (store, number) ∷ []
made_by _ = []

-- the event has happened: the world has made its step, the answer is the event's, and each place is that of the same entry
pub record IsDone (old : Book) (event : Event) (outcome : Outcome) (new : Book) : Type 0 where
  pub store : ℕ
  pub step : Step
  pub asked : step_of old event ≡ Some (store, step)
  pub went : Goes (world_of old) store step (world_of new)
  pub room : HasRoom old event
  pub answered : outcome ≡ outcome_of old event
  pub same_places : places_of new.places ≡ places_of old.places ++ made_by event

-- the event notes something more, so it may find no memory
abbrev pub takes_memory : Event → Bool
takes_memory (Spend store number) = true
takes_memory (Intend store number object lender) = true
takes_memory (PutObject at) = true
takes_memory (PutMarker at) = true
takes_memory (Lend store entries) = true
takes_memory (Crash store kept) = true
takes_memory _ = false

-- the event may not happen now, and nothing has changed
pub record IsRefused (old : Book) (event : Event) (new : Book) : Type 0 where
  pub same : new ≡ old
  pub never : MayHappen old event → ⊥

-- there was no memory for it, and nothing has changed
pub record IsShort (old : Book) (event : Event) (new : Book) : Type 0 where
  pub same : new ≡ old
  pub takes : takes_memory event ≡ true

-- what comes of an event: it happens, or nothing changes
abbrev pub Meets : Book → Event → Result Outcome WorldError → Book → Type 0
Meets old event (Ok outcome) new = IsDone old event outcome new
Meets old event (Err NotNow) new = IsRefused old event new
Meets old event (Err NoMemory) new = IsShort old event new
