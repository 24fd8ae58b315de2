-- What the family knows around a store and the store doesn't, and the part of the marker world that the store shows with it.
use Rattle.std.specs.Prelude.{◌≡◌, ℕ, ◌+◌, ◌==◌, Bool, true, false, not, ◌&&◌, IsTrue, nat_lt, List, [], map, Option, Some, None, is_none, if◌then◌else◌, All, slice_get}
use Rattle.std.specs.List.{find, list_any}
use Rattle.std.specs.Option.{option_map, unwrap_or}
use Rattle.pb_counts.specs.Counts.{CountsView}
use Rattle.pb_counts.specs.declared.user.User.{User}
use Rattle.pb_counts.specs.declared.user.User.TheVariants as user
use Rattle.pb_folder.specs.Shown.{Words, closed_part, shared_of}
use Rattle.pb_marker_world.specs.declared.stages.Stage.{Stage}
use Rattle.pb_marker_world.specs.declared.stages.Stage.TheVariants.{Intended, Marked, Loose}
use Rattle.pb_marker_world.specs.Bucket.{IsMarker, name_of}
use Rattle.pb_marker_world.specs.Machine.{Entry, Lending, Marker, Part, identity, same_identity}
use Rattle.pb_marker_world.specs.Steps.{IsOffered}
use Rattle.pb_names.specs.Identity.{Identity}
use Rattle.pb_store.specs.View.{StoreView, id_of, offers_of, unintended_in}

pub record Around : Type 0 where
  -- how often the store was opened
  pub opening : ℕ
  -- the handles given so far, of all stores
  pub lendings : List Lending
  -- the markers of the handle that the started receive keeps, as numbers
  pub lent : List Marker

abbrev pub is_handle : User → Bool
is_handle (user.Handle number) = true
is_handle other = false

-- some handle uses the backing
abbrev pub is_lent : CountsView → ℕ → Bool
is_lent counts backing = list_any (λ pair. is_handle pair.0 && pair.1 == backing) counts.pairs

-- the marker stands in a handle given, and is one that a store of the family can have put
pub record IsOfferedInForm (lendings : List Lending) (m : Marker) : Type 0 where
  pub offered : IsOffered lendings m
  pub in_form : IsMarker m

pub record IsAround (store : StoreView) (a : Around) : Type 0 where
  -- an open handle of this opening lists only numbers that some handle uses
  pub users : (h k : ℕ) (g : Lending) (m : Marker) → slice_get a.lendings h ≡ Some g → slice_get g.markers k ≡ Some m
      → g.is_open ≡ true → g.store ≡ id_of store → g.opening ≡ a.opening → IsTrue (is_lent store.object_users m.number)
  -- what the started receive has of its handle by name is this by numbers
  pub same : map (λ m. (name_of m, m.object)) a.lent ≡ offers_of store.fg
  pub offered : All (IsOfferedInForm a.lendings) a.lent

-- once the receive has ended, its handle is nobody's
abbrev pub around_after : StoreView → Around → Around
around_after new a = record a { lent = if is_none new.fg then [] else a.lent }

-- ---- the part that a store shows

-- below the number that is drawn next, and not drawn for a shared object that is in no entry yet
abbrev pub is_used : StoreView → ℕ → Bool
is_used store number = nat_lt number store.files.manifest.next && not (list_any (λ n. n == number) (unintended_in store))

-- the stage that stands first under the number; each shared entry has one
abbrev pub stage_in : List (ℕ × Stage) → ℕ → Stage
stage_in stages number = unwrap_or (option_map (λ staged. staged.1) (find (λ staged. staged.0 == number) stages)) Loose

-- Intended or Marked: the lender's marker is still to be checked
abbrev pub awaits_check : Stage → Bool
awaits_check Intended = true
awaits_check Marked = true
awaits_check stage = false

-- the first of these of the object
abbrev pub lender_in : List Marker → Identity → Option Marker
lender_in lent object = find (λ m. same_identity m.object object) lent

-- what a store makes is its own object under that very number, and has no lender
abbrev pub shown_lender : StoreView → Around → ℕ → Identity → Option Marker
shown_lender store a number object =
    if awaits_check (stage_in store.files.provider.stages number) && not (same_identity object (identity (id_of store) number))
    then lender_in a.lent object else None

abbrev pub entry_of : StoreView → Around → ℕ → Identity → Entry
entry_of store a number object = record {
  object = object;
  lender = shown_lender store a number object;
  stage = stage_in store.files.provider.stages number;
}

-- none where no shared entry has the number
abbrev pub shown_entry : StoreView → Around → ℕ → Option Entry
shown_entry store a number = option_map (entry_of store a number) (shared_of store.files.provider.catalogue.entries number)

abbrev pub shown_part : StoreView → Around → Part
shown_part store a = record {
  opening = a.opening;
  used = is_used store;
  entries = shown_entry store a;
}

-- after a call: a store that fell is closed, shows what its folder says, and counts one opening more
abbrev pub part_after : StoreView → Around → Words → Part
part_after store a words = if store.is_down then closed_part (a.opening + 1) words else shown_part store a
