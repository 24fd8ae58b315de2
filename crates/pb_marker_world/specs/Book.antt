-- The world as lists, by which a program keeps it.
use Rattle.std.specs.Prelude.{ℕ, Bool, ◌&&◌, ◌||◌, ◌==◌, not, Option, None, List, [], ◌∷◌, if◌then◌else◌}
use Rattle.std.specs.List.{list_any}
use Rattle.std.specs.Option.{option_map}
use Rattle.pb_names.specs.Identity.{Identity}
use Rattle.pb_marker_world.specs.declared.stages.Stage.TheVariants.{Loose}
use Rattle.pb_marker_world.specs.declared.records.Place.{Place}
use Rattle.pb_marker_world.specs.declared.records.Spent.{Spent}
use Rattle.pb_marker_world.specs.declared.records.Opening.{Opening}
use Rattle.pb_marker_world.specs.Machine.{Marker, Entry, Part, Lending, World, same_identity, same_marker}
use Rattle.pb_marker_world.specs.Steps.{settled}

-- the entries in the order in which they were made, with those dropped as empty places; the numbers used otherwise; the stores
-- that were opened again; what is present; and the handles in the order in which they were given
pub record Book : Type 0 where
  pub places : List Place
  pub spent : List Spent
  pub openings : List Opening
  pub objects : List Identity
  pub markers : List Marker
  pub given : List Lending

abbrev pub is_place : ℕ → ℕ → Place → Bool
is_place store number p = (p.store == store) && (p.number == number)

abbrev pub is_spent_as : ℕ → ℕ → Spent → Bool
is_spent_as store number p = (p.store == store) && (p.number == number)

-- what stands at the first place of the store and the number
abbrev pub entry_in : List Place → ℕ → ℕ → Option Entry
entry_in [] store number = None
entry_in (p ∷ ps) store number = if is_place store number p then p.entry else entry_in ps store number

-- how often the store was opened again
abbrev pub opening_in : List Opening → ℕ → ℕ
opening_in [] store = 0
opening_in (o ∷ os) store = if o.store == store then o.opening else opening_in os store

-- a place or a number spent
abbrev pub is_used_in : List Place → List Spent → ℕ → ℕ → Bool
is_used_in places spent store number = list_any (is_spent_as store number) spent || list_any (is_place store number) places

abbrev pub part_of : Book → ℕ → Part
part_of b store =
    record {
      opening = opening_in b.openings store;
      used = λ number. is_used_in b.places b.spent store number;
      entries = λ number. entry_in b.places store number;
    }

abbrev pub has_object : List Identity → Identity → Bool
has_object objects o = list_any (λ x. same_identity x o) objects

abbrev pub has_marker : List Marker → Marker → Bool
has_marker markers m = list_any (λ x. same_marker x m) markers

-- the world that the lists stand for
abbrev pub world_of : Book → World
world_of b =
    record {
      parts = part_of b;
      names = record { objects = has_object b.objects; markers = has_marker b.markers };
      lendings = b.given;
    }

-- the place with this entry, if it is that of the store and the number
abbrev pub written : ℕ → ℕ → Option Entry → Place → Place
written store number entry p =
    if is_place store number p then record { store = p.store; number = p.number; entry = entry } else p

-- the place with its entry Loose, if it is the store's and its number isn't kept
abbrev pub loosened : ℕ → List ℕ → Place → Place
loosened store kept p =
    if p.store == store && not (list_any (λ n. n == p.number) kept)
    then record { store = p.store; number = p.number; entry = option_map (λ e. settled e Loose) p.entry }
    else p

-- the store's opening number as it is now
abbrev pub reopened : ℕ → ℕ → Opening → Opening
reopened store opening o = if o.store == store then record { store = o.store; opening = opening } else o
