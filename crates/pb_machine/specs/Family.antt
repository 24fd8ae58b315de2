-- The state of the family: its stores, and what stands beside them under a name.
use Rattle.std.specs.Prelude.{ℕ, ◌==◌, Bool, true, false, if◌then◌else◌, List, [], Option, None}
use Rattle.pb_keys.specs.Map.{Map}
use Rattle.pb_keys.specs.Span.{KeySpan}
use Rattle.pb_keys.specs.View.{KeyView}
use Rattle.pb_marker_world.specs.Machine.{Marker}
use Rattle.pb_rows.specs.Changing.{Changing}
use Rattle.pb_rows.specs.Layer.{KeyLayer}
use Rattle.pb_script.specs.declared.command.Command.{Command}
use Rattle.pb_script.specs.declared.line.Lane.{Lane}
use Rattle.pb_script.specs.declared.line.Lane.TheVariants.{Fg, Bg}
use Rattle.pb_machine.specs.Named.{Named}

pub data Phase : Type 0 where
  Closed : Phase
  Open : Phase
  -- it was open, and a fault ended that
  Down : Phase

-- what a command does to its store's map
pub data Effect : Type 0 where
  Keeps : Effect
  Makes : (change : Changing) → Effect
  -- an external's, whose layer the line tells that ends it
  Views : (view : KeyView) → Effect

-- a part of a store's map that was lent
pub record HandleState : Type 0 where
  -- handles are numbered in the order in which they were given
  pub id : ℕ
  pub lender : ℕ
  -- of the lender
  pub opening : ℕ
  pub span : KeySpan
  -- the lender's map within the span, as it was
  pub submap : Map
  -- of the lender's objects
  pub markers : List Marker

-- a command that turns carry on
pub record Started : Type 0 where
  pub command : Command
  -- as it was when the command was started
  pub effect : Effect
  -- what a receive takes, as it was then
  pub handle : Option HandleState
  -- the lender's marker that a receive's check didn't find
  pub absent : Option Marker

pub record PinState : Type 0 where
  pub store : ℕ
  pub opening : ℕ
  -- the store's map, as it was
  pub map : Map

-- the changing commands that a store accepted
pub record History : Type 0 where
  -- the store was opened in this run
  pub has_begun : Bool
  -- how many commands were accepted
  pub count : ℕ
  -- what they made; before the first opening what that will find
  pub map : Map
  -- the command that met a fault: it may have been accepted
  pub pending : Option Changing

pub record StoreState : Type 0 where
  pub phase : Phase
  -- how often it was opened in this run
  pub opening : ℕ
  pub history : History
  -- the started command in each lane
  pub fg : Option Started
  pub bg : Option Started

-- stores by their numbers, 1 for A to 8 for H
pub record FamilyState : Type 0 where
  pub stores : ℕ → StoreState
  pub tables : Named KeyLayer
  pub handles : Named HandleState
  pub pins : Named PinState
  -- how many handles were given
  pub given : ℕ

abbrev pub is_phase_open : Phase → Bool
is_phase_open Closed = false
is_phase_open Open = true
is_phase_open Down = false

abbrev pub is_phase_down : Phase → Bool
is_phase_down Closed = false
is_phase_down Open = false
is_phase_down Down = true

abbrev pub is_open : StoreState → Bool
is_open store = is_phase_open store.phase

abbrev pub is_down : StoreState → Bool
is_down store = is_phase_down store.phase

abbrev pub in_lane : StoreState → Lane → Option Started
in_lane store Fg = store.fg
in_lane store Bg = store.bg

abbrev pub with_lane : StoreState → Lane → Option Started → StoreState
with_lane store Fg started = record store { fg = started }
with_lane store Bg started = record store { bg = started }

abbrev pub with_store : FamilyState → ℕ → StoreState → FamilyState
with_store family number store = record family { stores = λ n. if n == number then store else family.stores n }

-- a store before its first `open`, with the map that this will find
abbrev pub unopened : Map → StoreState
unopened map =
    record {
      phase =
          Closed;
      opening = 0;
      history = record { has_begun = false; count = 0; map = map; pending = None };
      fg = None;
      bg = None;
    }

-- the family before the first line of a script
abbrev pub start : (ℕ → Map) → FamilyState
start maps = record { stores = λ number. unopened (maps number); tables = []; handles = []; pins = []; given = 0 }
