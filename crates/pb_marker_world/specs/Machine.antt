-- What stores that share one bucket have and see.
use Rattle.std.specs.Prelude.{ℕ, Bool, false, not, ◌&&◌, ◌||◌, ◌==◌, Option, None, List, [], if◌then◌else◌}
use Rattle.pb_names.specs.Identity.{Identity}
use Rattle.pb_marker_world.specs.declared.stages.Stage.{Stage}

-- the name by which a store shows that it uses an object, under one of the store's own numbers
pub record Marker : Type 0 where
  pub object : Identity
  pub store : ℕ
  pub number : ℕ

-- what a store has under a number: the object, the lender's marker until it is checked, and how far it has come
pub record Entry : Type 0 where
  pub object : Identity
  pub lender : Option Marker
  pub stage : Stage

-- what is a store's own: how often it was opened, the numbers that it has used, and its entries by number
pub record Part : Type 0 where
  pub opening : ℕ
  pub used : ℕ → Bool
  pub entries : ℕ → Option Entry

-- the bucket: which objects and which markers are present
pub record Names : Type 0 where
  pub objects : Identity → Bool
  pub markers : Marker → Bool

-- a handle that a store gave in one of its openings, with the markers that it lends
pub record Lending : Type 0 where
  pub store : ℕ
  pub opening : ℕ
  pub markers : List Marker
  pub is_open : Bool

-- all that a step of one store reads and changes
pub record Local : Type 0 where
  pub part : Part
  pub names : Names
  pub lendings : List Lending

-- all stores, their bucket, and the handles in the order in which they were given
pub record World : Type 0 where
  pub parts : ℕ → Part
  pub names : Names
  pub lendings : List Lending

-- what the store sees of the world
abbrev pub local_of : World → ℕ → Local
local_of w store = record { part = w.parts store; names = w.names; lendings = w.lendings }

-- the world after the store has changed what it sees
abbrev pub with_local : World → ℕ → Local → World
with_local w store l =
    record { parts = λ s. if s == store then l.part else w.parts s; names = l.names; lendings = l.lendings }

-- the entry of the store under the number
abbrev pub entry_at : World → ℕ → ℕ → Option Entry
entry_at w store number = (w.parts store).entries number

-- nothing was ever opened, used, put or lent
abbrev pub empty_world : World
empty_world =
    record {
      parts = λ _. record { opening = 0; used = λ _. false; entries = λ _. None };
      names = record { objects = λ _. false; markers = λ _. false };
      lendings = [];
    }

-- the object that the store makes under the number
abbrev pub identity : ℕ → ℕ → Identity
identity store number = record { creator = store; number = number }

-- the marker that the store puts for the entry under the number
abbrev pub own_marker : ℕ → ℕ → Entry → Marker
own_marker store number e = record { object = e.object; store = store; number = number }

abbrev pub same_identity : Identity → Identity → Bool
same_identity a b = (a.creator == b.creator) && (a.number == b.number)

abbrev pub same_marker : Marker → Marker → Bool
same_marker a b = same_identity a.object b.object && ((a.store == b.store) && (a.number == b.number))

abbrev pub with_object : Names → Identity → Names
with_object names o = record names { objects = λ q. same_identity q o || names.objects q }

abbrev pub without_object : Names → Identity → Names
without_object names o = record names { objects = λ q. not (same_identity q o) && names.objects q }

abbrev pub with_marker : Names → Marker → Names
with_marker names m = record names { markers = λ q. same_marker q m || names.markers q }

abbrev pub without_marker : Names → Marker → Names
without_marker names m = record names { markers = λ q. not (same_marker q m) && names.markers q }
