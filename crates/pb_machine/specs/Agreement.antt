-- What the folder of a store may stand for, by the history of its commands, and the form that every state keeps.
use Rattle.std.specs.Prelude.{◌≡◌, ℕ, ◌+◌, ◌<◌, ◌≤◌, ◌^◌, Bool, true, false, not, ◌==◌, MatchBool, List, ◌++◌, filter, flat_map, length, map, Option, Some, None, IfSome, IsSomeAnd, option_and_then, option_to_list}
use Rattle.std.specs.List.{AllByRecursion, list_any}
use Rattle.pb_devices.specs.BeforeOrAfter.{IsBeforeOrAfter}
use Rattle.pb_keys.specs.Map.{Map}
use Rattle.pb_marker_world.specs.Machine.{Lending}
use Rattle.pb_rows.specs.Changing.{Changing, changed}
use Rattle.pb_script.specs.declared.command.Command.{Command}
use Rattle.pb_script.specs.declared.command.Command.TheVariants as command
use Rattle.pb_script.specs.declared.line.Line.{Line}
use Rattle.pb_script.specs.declared.line.Line.TheVariants as line
use Rattle.pb_machine.specs.Named.{Named}
use Rattle.pb_machine.specs.Family.{FamilyState, HandleState, History, PinState, StoreState, Started, Keeps, Closed, Down, is_open}
use Rattle.pb_machine.specs.Replies.{changed_by}
use Rattle.pb_machine.specs.Trail.{store_numbers}

-- ---- agreement

-- the accepted commands made this count and map
abbrev pub IsAccepted : History → ℕ → Map → Type 0
IsAccepted history count map = (count ≡ history.count) × (map ≡ history.map)

-- these and the pending one made them
abbrev pub IsWithPending : History → ℕ → Map → Type 0
IsWithPending history count map = IsSomeAnd history.pending (λ change. IsAccepted (changed_by (Some change) history) count map)

-- where nothing is pending there is one history
abbrev pub IsHistory : History → ℕ → Map → Type 0
IsHistory history count map = IsBeforeOrAfter (λ (h : History). IsAccepted h count map) history (changed_by history.pending history)

-- what the folder of a store that isn't open may stand for: the history, and before that began what an image stood for
abbrev pub IsKept : (ℕ → Map → Type 0) → History → ℕ → Map → Type 0
IsKept MayStandFor history count map = MatchBool history.has_begun (IsHistory history count map) (MayStandFor count map)

-- what the folder of a store may stand for: while it is open, exactly the accepted commands
abbrev pub IsHeld : (ℕ → ℕ → Map → Type 0) → FamilyState → ℕ → ℕ → Map → Type 0
IsHeld MayStandFor family store count map =
    MatchBool (is_open (family.stores store)) (IsAccepted (family.stores store).history count map)
    (IsKept (MayStandFor store) (family.stores store).history count map)

-- ---- handles, as the marker world has them

abbrev pub lending_of : Bool → HandleState → Lending
lending_of is_open handle = record { store = handle.lender; opening = handle.opening; markers = handle.markers; is_open = is_open }

abbrev pub has_id : ℕ → Named HandleState → Bool
has_id id handles = list_any (λ handle. handle.1.id == id) handles

-- what a started receive takes
abbrev pub handle_in : StoreState → List HandleState
handle_in store = option_to_list (option_and_then (λ (s : Started). s.handle) store.fg)

abbrev pub taken_handles : FamilyState → List HandleState
taken_handles family = flat_map (λ number. handle_in (family.stores number)) store_numbers

-- the handles of the table are open; those that only a started receive keeps are dropped
abbrev pub shown_lendings : FamilyState → List Lending
shown_lendings family =
    map (λ handle. lending_of true handle.1) family.handles
    ++ map (lending_of false) (filter (λ handle. not (has_id handle.id family.handles)) (taken_handles family))

-- ---- the form of a state

abbrev pub IsHandle : FamilyState → HandleState → Type 0
IsHandle family handle = handle.opening ≤ (family.stores handle.lender).opening

-- of an open store's present opening
pub record IsPin (family : FamilyState) (pin : PinState) : Type 0 where
  pub there : is_open (family.stores pin.store) ≡ true
  pub opening_is : pin.opening ≡ (family.stores pin.store).opening

abbrev pub is_compaction : Command → Bool
is_compaction (command.Compact level lo hi) = true
is_compaction command = false

-- the commands that may change their store's map
abbrev pub is_changing : Command → Bool
is_changing (command.Set key value) = true
is_changing (command.Del key) = true
is_changing (command.DelRange lo hi) = true
is_changing (command.Ingest tables) = true
is_changing (command.Excise lo hi) = true
is_changing (command.IngestExcise words) = true
is_changing (command.External words) = true
is_changing (command.Receive handle) = true
is_changing command = false

-- other started commands have no effect
abbrev pub IsStarted : Started → Type 0
IsStarted started = is_changing started.command ≡ false → started.effect ≡ Keeps

pub record IsStoreState (store : StoreState) : Type 0 where
  pub lanes : is_open store ≡ false → (store.fg ≡ None) × (store.bg ≡ None)
  pub front : IfSome store.fg IsStarted
  pub behind : IfSome store.bg IsStarted
  pub compacts : IfSome store.bg (λ (s : Started). is_compaction s.command ≡ true)
  pub few : store.history.count < 2 ^ 62

pub record IsFamily (family : FamilyState) : Type 0 where
  pub each_store : (store : ℕ) → IsStoreState (family.stores store)
  pub each_handle : AllByRecursion (λ handle. IsHandle family handle.1) family.handles
  pub each_pin : AllByRecursion (λ pin. IsPin family pin.1) family.pins
  pub few_handles : length family.handles ≤ 16
  pub few_pins : length family.pins ≤ 64

-- ---- what lines leave of a store

pub record SameHistory (old new : StoreState) : Type 0 where
  pub begun : new.history.has_begun ≡ old.history.has_begun
  pub count : new.history.count ≡ old.history.count
  pub map : new.history.map ≡ old.history.map

pub record HasFallen (change : Option Changing) (new : StoreState) : Type 0 where
  pub phase : new.phase ≡ Down
  pub pending : new.history.pending ≡ change
  pub lanes : (new.fg ≡ None) × (new.bg ≡ None)

pub record IsStopped (old new : StoreState) : Type 0 where
  pub phase : new.phase ≡ Closed
  pub history : new.history ≡ old.history
  pub lanes : (new.fg ≡ None) × (new.bg ≡ None)

-- an `open` of this store
abbrev pub opens : Line → ℕ → Bool
opens (line.Open number) store = store == number
opens line store = false

-- a history that has begun, with these changes accepted since
pub record IsFold (old : History) (changes : List Changing) (new : History) : Type 0 where
  pub begun : new.has_begun ≡ true
  pub count_is : new.count ≡ old.count + length changes
  pub map_is : new.map ≡ changed old.map changes

-- a store that isn't open stays so, with its history
pub record IsShutAs (old new : StoreState) : Type 0 where
  pub shut_too : is_open new ≡ false
  pub same : SameHistory old new

abbrev pub StaysShut : StoreState → StoreState → Type 0
StaysShut old new = is_open old ≡ false → IsShutAs old new
