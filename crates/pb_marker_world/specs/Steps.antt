-- The twelve steps of a store: when each may happen, and what it leaves.
use Rattle.std.specs.Prelude.{◌≡◌, ℕ, ◌+◌, Bool, true, false, ◌&&◌, ◌||◌, ◌==◌, ◌⊎◌, Option, Some, None, List, [], ◌∷◌, ◌++◌, if◌then◌else◌, slice_get, slice_set}
use Rattle.std.specs.List.{list_any, list_all, filter_map}
use Rattle.std.specs.Option.{option_map}
use Rattle.pb_names.specs.Identity.{Identity}
use Rattle.pb_marker_world.specs.declared.stages.Stage.{Stage}
use Rattle.pb_marker_world.specs.declared.stages.Stage.TheVariants.{Intended, Put, Marked, Held, Loose, Bare, Counted, Ended}
use Rattle.pb_marker_world.specs.Machine.{Marker, Entry, Part, Names, Lending, Local, World, local_of, with_local, identity, own_marker, same_marker, with_object, without_object, with_marker, without_marker}

-- a step of a store; each names the store's entry by its number, and a handle by its place among the handles given
pub data Step : Type 0 where
  Spends : ℕ → Step
  Intends : ℕ → Identity → Option Marker → Step
  PutsObject : ℕ → Step
  PutsMarker : ℕ → Step
  Checks : ℕ → Step
  DeletesMarker : ℕ → Step
  Counts : ℕ → Step
  DeletesObject : ℕ → Step
  Drops : ℕ → Step
  Lends : List ℕ → Step
  DropsHandle : ℕ → Step
  Crashes : List ℕ → Step

-- under the number stands this entry, so far come
pub record IsAt (l : Local) (number : ℕ) (e : Entry) (stage : Stage) : Type 0 where
  pub stands : l.part.entries number ≡ Some e
  pub come : e.stage ≡ stage

-- a marker of the object stands in a handle given, open or dropped
pub record IsOffered (lendings : List Lending) (m : Marker) : Type 0 where
  pub handle : ℕ
  pub given : Lending
  pub place : ℕ
  pub there : slice_get lendings handle ≡ Some given
  pub lends : slice_get given.markers place ≡ Some m

-- and it is a marker of this object
pub record OffersObject (lendings : List Lending) (m : Marker) (o : Identity) : Type 0 where
  pub offered : IsOffered lendings m
  pub same : m.object ≡ o

-- what a store may intend: an object of its own under that number, or one that a handle offers
abbrev pub MayIntend : ℕ → Local → ℕ → Identity → Option Marker → Type 0
MayIntend store l number o None = o ≡ identity store number
MayIntend store l number o (Some m) = OffersObject l.lendings m o

-- the handle was given in this opening of the store, is open, and lends the marker
abbrev pub protects : ℕ → ℕ → Marker → Lending → Bool
protects store opening m g =
    g.is_open && ((g.store == store) && ((g.opening == opening) && list_any (λ x. same_marker x m) g.markers))

-- the marker of the lender is present
abbrev pub lender_stands : Names → Option Marker → Bool
lender_stands names None = false
lender_stands names (Some m) = names.markers m

-- some marker of the object is present
pub record IsMarked (names : Names) (o : Identity) : Type 0 where
  pub marker : Marker
  pub same : marker.object ≡ o
  pub present : names.markers marker ≡ true

abbrev pub is_held_stage : Stage → Bool
is_held_stage Held = true
is_held_stage _ = false

abbrev pub is_held_entry : Option Entry → Bool
is_held_entry None = false
is_held_entry (Some e) = is_held_stage e.stage

abbrev pub is_held : Part → ℕ → Bool
is_held part number = is_held_entry (part.entries number)

abbrev pub marker_at : ℕ → Part → ℕ → Option Marker
marker_at store part number = option_map (own_marker store number) (part.entries number)

-- an entry that has come so far, with its lender as before
abbrev pub at_stage : Entry → Stage → Entry
at_stage e stage = record { object = e.object; lender = e.lender; stage = stage }

-- an entry that has come so far, and has no lender any more
abbrev pub settled : Entry → Stage → Entry
settled e stage = record { object = e.object; lender = None; stage = stage }

abbrev pub with_entry : Part → ℕ → Option Entry → Part
with_entry part number o =
    record { opening = part.opening; used = part.used; entries = λ k. if k == number then o else part.entries k }

abbrev pub with_used : Part → ℕ → Part
with_used part number =
    record { opening = part.opening; used = λ k. (k == number) || part.used k; entries = part.entries }

-- only the part has changed
abbrev pub with_part : Local → Part → Local
with_part l part = record { part = part; names = l.names; lendings = l.lendings }

-- only the handles have changed
abbrev pub with_lendings : Local → List Lending → Local
with_lendings l lendings = record { part = l.part; names = l.names; lendings = lendings }

-- the entry under the number and the names have changed
abbrev pub moved : Local → ℕ → Entry → Names → Local
moved l number e names = record { part = with_entry l.part number (Some e); names = names; lendings = l.lendings }

-- an open handle of this opening over these numbers
abbrev pub handle_over : ℕ → Part → List ℕ → Lending
handle_over store part numbers =
    record { store = store; opening = part.opening; markers = filter_map (marker_at store part) numbers; is_open = true }

abbrev pub dropped : Lending → Lending
dropped g = record { store = g.store; opening = g.opening; markers = g.markers; is_open = false }

-- the entries that are kept stay, and all others are loose
abbrev pub crashed : Part → List ℕ → Part
crashed part kept =
    record {
      opening = part.opening + 1;
      used = part.used;
      entries = λ k. if list_any (λ n. n == k) kept then part.entries k else option_map (λ e. settled e Loose) (part.entries k);
    }

-- a new entry, which nothing has been done for yet
abbrev pub new_entry : Identity → Option Marker → Entry
new_entry o lender = record { object = o; lender = lender; stage = Intended }

-- ---- each step: what has to hold before it, and what it leaves

pub record SpendHappens (l : Local) (number : ℕ) (after : Local) : Type 0 where
  pub unused : l.part.used number ≡ false
  pub left : after ≡ with_part l (with_used l.part number)

pub record IntendHappens (store : ℕ) (l : Local) (number : ℕ) (o : Identity) (lender : Option Marker) (after : Local) : Type 0 where
  pub unused : l.part.used number ≡ false
  pub may : MayIntend store l number o lender
  pub left : after ≡ with_part l (with_entry (with_used l.part number) number (Some (new_entry o lender)))

pub record PutObjectHappens (l : Local) (number : ℕ) (after : Local) : Type 0 where
  pub entry : Entry
  pub at : IsAt l number entry Intended
  pub no_lender : entry.lender ≡ None
  pub left : after ≡ moved l number (at_stage entry Put) (with_object l.names entry.object)

-- the marker of an object of its own is put
pub record HeldByPut (store : ℕ) (l : Local) (number : ℕ) (e : Entry) (after : Local) : Type 0 where
  pub at : IsAt l number e Put
  pub left : after ≡ moved l number (at_stage e Held) (with_marker l.names (own_marker store number e))

-- the marker of a lent object is put
pub record MarkedByPut (store : ℕ) (l : Local) (number : ℕ) (e : Entry) (after : Local) : Type 0 where
  pub at : IsAt l number e Intended
  pub lender : Marker
  pub lent : e.lender ≡ Some lender
  pub left : after ≡ moved l number (at_stage e Marked) (with_marker l.names (own_marker store number e))

pub record PutMarkerHappens (store : ℕ) (l : Local) (number : ℕ) (after : Local) : Type 0 where
  pub entry : Entry
  pub how : HeldByPut store l number entry after ⊎ MarkedByPut store l number entry after

pub record CheckHappens (l : Local) (number : ℕ) (after : Local) : Type 0 where
  pub entry : Entry
  pub at : IsAt l number entry Marked
  pub left : after ≡ moved l number (settled entry (if lender_stands l.names entry.lender then Held else Loose)) l.names

pub record DeleteMarkerHappens (store : ℕ) (l : Local) (number : ℕ) (after : Local) : Type 0 where
  pub entry : Entry
  pub at : IsAt l number entry Held ⊎ IsAt l number entry Loose
  pub unprotected : list_any (protects store l.part.opening (own_marker store number entry)) l.lendings ≡ false
  pub left : after ≡ moved l number (at_stage entry Bare) (without_marker l.names (own_marker store number entry))

pub record NoneCounted (l : Local) (number : ℕ) (e : Entry) (after : Local) : Type 0 where
  pub none : IsMarked l.names e.object → ⊥
  pub left : after ≡ moved l number (at_stage e Counted) l.names

pub record SomeCounted (l : Local) (number : ℕ) (e : Entry) (after : Local) : Type 0 where
  pub some : IsMarked l.names e.object
  pub left : after ≡ moved l number (at_stage e Ended) l.names

pub record CountHappens (l : Local) (number : ℕ) (after : Local) : Type 0 where
  pub entry : Entry
  pub at : IsAt l number entry Bare
  pub how : NoneCounted l number entry after ⊎ SomeCounted l number entry after

pub record DeleteObjectHappens (l : Local) (number : ℕ) (after : Local) : Type 0 where
  pub entry : Entry
  pub at : IsAt l number entry Counted
  pub left : after ≡ moved l number (at_stage entry Ended) (without_object l.names entry.object)

pub record DropHappens (l : Local) (number : ℕ) (after : Local) : Type 0 where
  pub entry : Entry
  pub at : IsAt l number entry Ended
  pub left : after ≡ with_part l (with_entry l.part number None)

pub record LendHappens (store : ℕ) (l : Local) (numbers : List ℕ) (after : Local) : Type 0 where
  pub held : list_all (is_held l.part) numbers ≡ true
  pub left : after ≡ with_lendings l (l.lendings ++ handle_over store l.part numbers ∷ [])

pub record DropHandleHappens (l : Local) (handle : ℕ) (after : Local) : Type 0 where
  pub given : Lending
  pub there : slice_get l.lendings handle ≡ Some given
  pub was_open : given.is_open ≡ true
  pub left : after ≡ with_lendings l (slice_set l.lendings handle (dropped given))

pub record CrashHappens (l : Local) (kept : List ℕ) (after : Local) : Type 0 where
  pub held : list_all (is_held l.part) kept ≡ true
  pub left : after ≡ with_part l (crashed l.part kept)

-- the step may happen to what the store sees, and leaves this
abbrev pub Happens : ℕ → Local → Step → Local → Type 0
Happens store l (Spends n) after = SpendHappens l n after
Happens store l (Intends n o lender) after = IntendHappens store l n o lender after
Happens store l (PutsObject n) after = PutObjectHappens l n after
Happens store l (PutsMarker n) after = PutMarkerHappens store l n after
Happens store l (Checks n) after = CheckHappens l n after
Happens store l (DeletesMarker n) after = DeleteMarkerHappens store l n after
Happens store l (Counts n) after = CountHappens l n after
Happens store l (DeletesObject n) after = DeleteObjectHappens l n after
Happens store l (Drops n) after = DropHappens l n after
Happens store l (Lends numbers) after = LendHappens store l numbers after
Happens store l (DropsHandle h) after = DropHandleHappens l h after
Happens store l (Crashes kept) after = CrashHappens l kept after

-- ---- lists of steps

-- a first step happens, and the rest goes on from what it leaves
pub record HappensFirst (store : ℕ) (l : Local) (step : Step) (GoesOn : Local → Type 0) : Type 0 where
  pub between : Local
  pub first : Happens store l step between
  pub rest : GoesOn between

-- one store's steps lead from what it sees to this
abbrev pub Reaches : ℕ → Local → List Step → Local → Type 0
Reaches store l [] after = after ≡ l
Reaches store l (step ∷ steps) after = HappensFirst store l step (λ between. Reaches store between steps after)

-- a list of steps leads so far, and more steps lead on from there
pub record ReachesThrough (store : ℕ) (l : Local) (steps more : List Step) (after : Local) : Type 0 where
  pub between : Local
  pub first : Reaches store l steps between
  pub rest : Reaches store between more after

-- a step of the store leads from one world to the other
pub record Goes (w : World) (store : ℕ) (step : Step) (v : World) : Type 0 where
  pub after : Local
  pub happens : Happens store (local_of w store) step after
  pub left : v ≡ with_local w store after

pub record GoesFirst (w : World) (store : ℕ) (step : Step) (RunsOn : World → Type 0) : Type 0 where
  pub between : World
  pub first : Goes w store step between
  pub rest : RunsOn between

-- steps of any stores, in this order, lead from one world to the other
abbrev pub Runs : World → List (ℕ × Step) → World → Type 0
Runs w [] v = v ≡ w
Runs w (step ∷ steps) v = GoesFirst w step.0 step.1 (λ between. Runs between steps v)
