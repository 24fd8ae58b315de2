-- The family's state after a line.
use Rattle.std.specs.Prelude.{ℕ, ◌+◌, ◌-◌, ◌==◌, Bool, true, false, not, ◌&&◌, if◌then◌else◌, List, filter, get_or, Option, Some, None, option_map}
use Rattle.std.specs.Option.{option_or}
use Rattle.pb_keys.specs.Map.{Map, cut}
use Rattle.pb_keys.specs.Span.{span_of}
use Rattle.pb_rows.specs.Changing.{Changing, after}
use Rattle.pb_reply.specs.declared.refusal.Refusal.{Refusal}
use Rattle.pb_script.specs.declared.command.Command.{Command}
use Rattle.pb_script.specs.declared.command.Command.TheVariants as command
use Rattle.pb_script.specs.declared.command.Lend.{Lend as LendWords}
use Rattle.pb_script.specs.declared.line.Lane.{Lane}
use Rattle.pb_script.specs.declared.line.Lane.TheVariants.{Fg}
use Rattle.pb_script.specs.declared.line.Line.{Line}
use Rattle.pb_script.specs.declared.line.Line.TheVariants as line
use Rattle.pb_machine.specs.Named.{Named, named, put, without}
use Rattle.pb_machine.specs.Family.{FamilyState, HandleState, History, PinState, StoreState, Started, Closed, Open, Down, in_lane, is_open, with_lane, with_store}
use Rattle.pb_machine.specs.Effects.{change_of, effect_of, handle_of, lane_of}
use Rattle.pb_machine.specs.Blocks.{BlockRead, Makes, Bad, block_of}
use Rattle.pb_machine.specs.Replies.{changed_by, refusal_to}
use Rattle.pb_machine.specs.Ran.{Ran}

-- ---- the store that a line names

-- of a pin's line the pin's
abbrev pub store_named : FamilyState → Line → Option ℕ
store_named family (line.Open store) = Some store
store_named family (line.Close store) = Some store
store_named family (line.Stop store) = Some store
store_named family (line.Turn store lane) = Some store
store_named family (line.Levels store) = Some store
store_named family (line.Whole store command) = Some store
store_named family (line.Start store command) = Some store
store_named family (line.Table table lines) = None
store_named family (line.Export table name) = None
store_named family (line.DropHandle handle) = None
store_named family (line.GetAt pin key) = option_map (λ (p : PinState). p.store) (named family.pins pin)
store_named family (line.Unpin pin) = option_map (λ (p : PinState). p.store) (named family.pins pin)
store_named family line.Objects = None
store_named family line.Calls = None

-- whether the mark says of the store that it is Down
abbrev pub is_told_down : Ran → ℕ → Bool
is_told_down ran store = get_or ran.mark.down (store - 1) false

-- it was open, and is Down by the mark
abbrev pub has_fallen : FamilyState → Ran → ℕ → Bool
has_fallen family ran store = is_open (family.stores store) && is_told_down ran store

-- ---- openings

-- the map that an opening finds with this count: another than the history's has the pending command
abbrev pub map_with : Option Changing → Map → Map
map_with None map = map
map_with (Some change) map = after map change

abbrev pub found_map : History → ℕ → Map
found_map history count =
    if not history.has_begun then history.map else if count == history.count then history.map else map_with history.pending history.map

abbrev pub found_history : History → ℕ → History
found_history history count = record { has_begun = true; count = count; map = found_map history count; pending = None }

abbrev pub opened : StoreState → ℕ → StoreState
opened store count = record store { phase = Open; opening = store.opening + 1; history = found_history store.history count }

-- ---- ends

-- in memory there is nothing left of it: a pending command stays pending
abbrev pub closed : StoreState → StoreState
closed store = record store { phase = Closed; fg = None; bg = None }

-- a fault ended it: this command may have been accepted
abbrev pub fallen : Option Changing → StoreState → StoreState
fallen pending store = record store { phase = Down; history = record store.history { pending = pending }; fg = None; bg = None }

abbrev pub other_pins : ℕ → Named PinState → Named PinState
other_pins store pins = filter (λ pin. not (pin.1.store == store)) pins

-- the store in this state, and without its pins
abbrev pub ended : FamilyState → ℕ → StoreState → FamilyState
ended family number store = record (with_store family number store) { pins = other_pins number family.pins }

-- ---- accepted lines

abbrev pub changed_store : Option Changing → StoreState → StoreState
changed_store change store = record store { history = changed_by change store.history }

-- a handle of the store's present opening, with what its map has within the span
abbrev pub handle_by : FamilyState → ℕ → LendWords → Ran → HandleState
handle_by family number words ran =
    record {
      id = family.given;
      lender = number;
      opening = (family.stores number).opening;
      span = span_of words.lo words.hi;
      submap = cut (family.stores number).history.map (span_of words.lo words.hi);
      markers = ran.lent;
    }

abbrev pub lent_by : FamilyState → ℕ → LendWords → Ran → FamilyState
lent_by family number words ran =
    record family { handles = put family.handles words.handle (handle_by family number words ran); given = family.given + 1 }

-- a pin of the store's present opening, with its map
abbrev pub pin_by : FamilyState → ℕ → PinState
pin_by family number = record { store = number; opening = (family.stores number).opening; map = (family.stores number).history.map }

abbrev pub pinned_by : FamilyState → ℕ → List ℕ → FamilyState
pinned_by family number pin = record family { pins = put family.pins pin (pin_by family number) }

-- what a command leaves beside its store's history
abbrev pub beside : FamilyState → ℕ → Command → Ran → FamilyState
beside family number (command.Lend words) ran = lent_by family number words ran
beside family number (command.Pin pin) ran = pinned_by family number pin
beside family number command ran = family

abbrev pub whole_after : FamilyState → ℕ → Command → Ran → FamilyState
whole_after family number command ran =
    with_store (beside family number command ran) number (changed_store (change_of (effect_of family command) ran) (family.stores number))

-- the command stands in its lane, resolved
abbrev pub started_by : FamilyState → Command → Started
started_by family command =
    record { command = command; effect = effect_of family command; handle = handle_of family command; absent = None }

abbrev pub start_after : FamilyState → ℕ → Command → FamilyState
start_after family number command =
    with_store family number (with_lane (family.stores number) (lane_of command) (Some (started_by family command)))

-- a command that goes on, with the marker that was absent at its check
abbrev pub going_on : Ran → Started → Started
going_on ran started = record started { absent = option_or started.absent ran.absent }

abbrev pub effect_in : Option Started → Ran → Option Changing
effect_in None ran = None
effect_in (Some started) ran = change_of started.effect ran

-- a turn's command goes on, or has its effect and leaves the lane
abbrev pub turned : StoreState → Lane → Ran → StoreState
turned store lane ran =
    if ran.mark.more then with_lane store lane (option_map (going_on ran) (in_lane store lane))
    else with_lane (changed_store (effect_in (in_lane store lane) ran) store) lane None

abbrev pub with_table : FamilyState → List ℕ → BlockRead → FamilyState
with_table family table (Makes layer) = record family { tables = put family.tables table layer }
with_table family table (Bad at) = family

abbrev pub accepted : FamilyState → Line → Ran → FamilyState
accepted family (line.Open number) ran = with_store family number (opened (family.stores number) ran.mark.count)
accepted family (line.Close number) ran = ended family number (closed (family.stores number))
accepted family (line.Stop number) ran = ended family number (closed (family.stores number))
accepted family (line.Turn number lane) ran = with_store family number (turned (family.stores number) lane ran)
accepted family (line.Levels number) ran = family
accepted family (line.Whole number command) ran = whole_after family number command ran
accepted family (line.Start number command) ran = start_after family number command
accepted family (line.Table table lines) ran = with_table family table (block_of lines)
accepted family (line.Export table name) ran = family
accepted family (line.DropHandle handle) ran = record family { handles = without family.handles handle }
accepted family (line.GetAt pin key) ran = family
accepted family (line.Unpin pin) ran = record family { pins = without family.pins pin }
accepted family line.Objects ran = family
accepted family line.Calls ran = family

-- ---- refused lines

-- the change that a line which made its store fall may have made: its own, or that of lane fg's command where the line is its turn
abbrev pub pending_by : FamilyState → Line → Ran → Option Changing
pending_by family (line.Whole number command) ran = change_of (effect_of family command) ran
pending_by family (line.Turn number Fg) ran = effect_in (family.stores number).fg ran
pending_by family line ran = None

abbrev pub fallen_at : FamilyState → Line → Ran → Option ℕ → FamilyState
fallen_at family line ran None = family
fallen_at family line ran (Some number) = ended family number (fallen (pending_by family line ran) (family.stores number))

-- a store that wasn't open is closed
abbrev pub left_closed : StoreState → StoreState
left_closed store = if is_open store then store else record store { phase = Closed }

-- where no store has fallen. A turn that is refused leaves its lane empty; a store that isn't open has empty lanes
abbrev pub withstood : FamilyState → Line → FamilyState
withstood family (line.Open number) = with_store family number (left_closed (family.stores number))
withstood family (line.Turn number lane) = with_store family number (with_lane (family.stores number) lane None)
withstood family line = family

abbrev pub has_fallen_at : FamilyState → Ran → Option ℕ → Bool
has_fallen_at family ran None = false
has_fallen_at family ran (Some number) = has_fallen family ran number

abbrev pub refused : FamilyState → Line → Ran → FamilyState
refused family line ran =
    if has_fallen_at family ran (store_named family line) then fallen_at family line ran
    (store_named family line) else withstood family line

abbrev pub after_judged : Option Refusal → FamilyState → Line → Ran → FamilyState
after_judged None family line ran = accepted family line ran
after_judged (Some refusal) family line ran = refused family line ran

abbrev pub line_after : FamilyState → Line → Ran → FamilyState
line_after family line ran = after_judged (refusal_to family line ran) family line ran
