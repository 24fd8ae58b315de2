-- A line does without the maps what it does with them, but for the maps.
use Rattle.std.proofs.Common.{◌≡◌, ℕ, ◌+◌, Bool, true, false, List, Option, Some, None, if◌then◌else◌, option_map, refl, sym, ap, ◌∙◌}
use Rattle.std.specs.Option.{option_or}
use Rattle.pb_rows.specs.Changing.{Changing}
use Rattle.pb_reply.specs.declared.refusal.Refusal.{Refusal}
use Rattle.pb_script.specs.declared.command.Command.{Command}
use Rattle.pb_script.specs.declared.command.Command.TheVariants as command
use Rattle.pb_script.specs.declared.line.Lane.{Lane}
use Rattle.pb_script.specs.declared.line.Lane.TheVariants.{Fg, Bg}
use Rattle.pb_script.specs.declared.line.Line.{Line}
use Rattle.pb_script.specs.declared.line.Line.TheVariants as line
use Rattle.pb_machine.specs.Named.{named, put, without}
use Rattle.pb_machine.specs.Family.{Effect, Keeps, Makes, Views, FamilyState, HandleState, History, PinState, StoreState, Started, Closed, in_lane, is_open, with_lane, with_store}
use Rattle.pb_machine.specs.Effects.{change_of, effect_of, handle_of, lane_of}
use Rattle.pb_machine.specs.Blocks.{BlockRead, Makes as MakesLayer, Bad, block_of}
use Rattle.pb_machine.specs.After.{accepted, after_judged, changed_store, closed, effect_in, ended, fallen, fallen_at, going_on, has_fallen_at, handle_by, line_after, opened, other_pins, pending_by, pin_by, refused, started_by, store_named, whole_after, with_table, withstood}
use Rattle.pb_machine.specs.Replies.{changed_by, refusal_to}
use Rattle.pb_machine.specs.Ran.{Ran}
use Rattle.pb_machine.proofs.Blanks.{blank, blank_change, blank_effect, blank_handle, blank_history, blank_pairs, blank_pin, blank_started, blank_store, blank_twice, change_twice, effect_twice, history_twice, lane_twice, named_blank, option_twice, pairs_twice, pending_twice, pins_blank, put_blank, put_store_blank, started_twice, store_twice, without_blank}
use Rattle.pb_machine.proofs.BlankReplies.{effect_blank, refusal_blank}

-- the same family, but for its maps
abbrev Alike : FamilyState → FamilyState → Type 0
Alike one other = blank one ≡ blank other

abbrev StoresAlike : StoreState → StoreState → Type 0
StoresAlike one other = blank_store one ≡ blank_store other

-- a store put into the family without maps, and into the family
put_alike : (family : FamilyState) (number : ℕ) (one other : StoreState) → StoresAlike one other
    → Alike (with_store (blank family) number one) (with_store family number other)
put_alike family number one other same =
    put_store_blank (blank family) number one
    ∙ (λ i. with_store (blank_twice family i) number (same i))
    ∙ sym (put_store_blank family number other)

ended_alike : (family : FamilyState) (number : ℕ) (one other : StoreState) → StoresAlike one other
    → Alike (ended (blank family) number one) (ended family number other)
ended_alike family number one other same i =
    record (put_alike family number one other same i) {
      pins =
          (ap (blank_pairs blank_pin) (pins_blank number family.pins) ∙ pairs_twice blank_pin (λ p. refl) (other_pins number family.pins)) i;
    }

-- ---- stores

opened_alike : (s : StoreState) (count : ℕ) → StoresAlike (opened (blank_store s) count) (opened s count)
opened_alike s count i = record (blank_store (opened s count)) { fg = lane_twice s.fg i; bg = lane_twice s.bg i }

closed_alike : (s : StoreState) → StoresAlike (closed (blank_store s)) (closed s)
closed_alike s i = record (blank_store (closed s)) { history = history_twice s.history i }

fallen_alike : (s : StoreState) (one other : Option Changing) → option_map blank_change one ≡ option_map blank_change other
    → StoresAlike (fallen one (blank_store s)) (fallen other s)
fallen_alike s one other same i =
    record (blank_store (fallen other s)) { history = record (blank_history s.history) { pending = same i } }

by_layer : (change : Option Changing) (h : History)
    → blank_history (changed_by change (blank_history h)) ≡ blank_history (changed_by change h)
by_layer None h = history_twice h
by_layer (Some change) h = λ i. record (blank_history (changed_by (Some change) h)) { pending = pending_twice h.pending i }

history_alike : (effect : Effect) (h : History) (ran : Ran)
    → blank_history (changed_by (change_of (blank_effect effect) ran) (blank_history h)) ≡ blank_history
    (changed_by (change_of effect ran) h)
history_alike Keeps h ran = history_twice h
history_alike (Makes change) h ran = λ i. record (blank_history (changed_by (Some change) h)) { pending = pending_twice h.pending i }
history_alike (Views view) h ran = by_layer (change_of (Views view) ran) h

changed_alike : (s : StoreState) (effect : Effect) (ran : Ran)
    → StoresAlike (changed_store (change_of (blank_effect effect) ran) (blank_store s)) (changed_store (change_of effect ran) s)
changed_alike s effect ran i =
    record (blank_store (changed_store (change_of effect ran) s)) {
      history = history_alike effect s.history ran i;
      fg = lane_twice s.fg i;
      bg = lane_twice s.bg i;
    }

effect_in_alike : (s : StoreState) (started : Option Started) (ran : Ran)
    → blank_history (changed_by (effect_in (option_map blank_started started) ran) (blank_history s.history))
    ≡ blank_history (changed_by (effect_in started ran) s.history)
effect_in_alike s None ran = history_twice s.history
effect_in_alike s (Some started) ran = history_alike started.effect s.history ran

going_one : (started : Started) (ran : Ran)
    → ◌≡◌ {A = Option Started} (Some (blank_started (going_on ran (blank_started started)))) (Some (blank_started (going_on ran started)))
going_one started ran i = Some (record (started_twice started i) { absent = option_or started.absent ran.absent })

going_alike : (started : Option Started) (ran : Ran)
    → option_map blank_started (option_map (going_on ran) (option_map blank_started started))
    ≡ option_map blank_started (option_map (going_on ran) started)
going_alike None ran = refl
going_alike (Some started) ran = going_one started ran

turned_alike : (more : Bool) (s : StoreState) (lane : Lane) (ran : Ran)
    → StoresAlike
    (if more then with_lane (blank_store s) lane (option_map (going_on ran) (in_lane (blank_store s) lane))
    else with_lane (changed_store (effect_in (in_lane (blank_store s) lane) ran) (blank_store s)) lane None)
    (if more then with_lane s lane (option_map (going_on ran) (in_lane s lane))
    else with_lane (changed_store (effect_in (in_lane s lane) ran) s) lane None)
turned_alike true s Fg ran i =
    record (blank_store s) { history = history_twice s.history i; fg = going_alike s.fg ran i; bg = lane_twice s.bg i }
turned_alike true s Bg ran i =
    record (blank_store s) { history = history_twice s.history i; fg = lane_twice s.fg i; bg = going_alike s.bg ran i }
turned_alike false s Fg ran i =
    record (blank_store s) { history = effect_in_alike s s.fg ran i; fg = None; bg = lane_twice s.bg i }
turned_alike false s Bg ran i =
    record (blank_store s) { history = effect_in_alike s s.bg ran i; fg = lane_twice s.fg i; bg = None }

emptied_alike : (s : StoreState) (lane : Lane) → StoresAlike (with_lane (blank_store s) lane None) (with_lane s lane None)
emptied_alike s Fg i = record (blank_store s) { history = history_twice s.history i; fg = None; bg = lane_twice s.bg i }
emptied_alike s Bg i = record (blank_store s) { history = history_twice s.history i; fg = lane_twice s.fg i; bg = None }

left_alike : (b : Bool) (s : StoreState)
    → StoresAlike (if b then blank_store s else record (blank_store s) { phase = Closed }) (if b then s else record s { phase = Closed })
left_alike true s = store_twice s
left_alike false s = λ i.
    record (blank_store s) { phase = Closed; history = history_twice s.history i; fg = lane_twice s.fg i; bg = lane_twice s.bg i }

-- ---- accepted lines

handle_alike : (family : FamilyState) (command : Command)
    → option_map blank_handle (handle_of (blank family) command) ≡ option_map blank_handle (handle_of family command)
handle_alike family (command.Receive handle) =
    ap (option_map blank_handle) (named_blank blank_handle family.handles handle)
    ∙ option_twice blank_handle (λ h. refl) (named family.handles handle)
handle_alike family command = refl

started_alike : (family : FamilyState) (command : Command)
    → blank_started (started_by (blank family) command) ≡ blank_started (started_by family command)
started_alike family command i =
    record {
      command = command;
      effect = (ap blank_effect (effect_blank family command) ∙ effect_twice (effect_of family command)) i;
      handle = handle_alike family command i;
      absent = None;
    }

start_alike : (family : FamilyState) (s : StoreState) (command : Command) (lane : Lane)
    → StoresAlike (with_lane (blank_store s) lane (Some (started_by (blank family) command)))
    (with_lane s lane (Some (started_by family command)))
start_alike family s command Fg i =
    record (blank_store s) { history = history_twice s.history i; fg = Some (started_alike family command i); bg = lane_twice s.bg i }
start_alike family s command Bg i =
    record (blank_store s) { history = history_twice s.history i; fg = lane_twice s.fg i; bg = Some (started_alike family command i) }

-- a store put beside other handles and pins
whole_store_alike : (family : FamilyState) (number : ℕ) (command : Command) (ran : Ran)
    → StoresAlike (changed_store (change_of (effect_of (blank family) command) ran) (blank_store (family.stores number)))
    (changed_store (change_of (effect_of family command) ran) (family.stores number))
whole_store_alike family number command ran =
    ap (λ (effect : Effect). blank_store (changed_store (change_of effect ran) (blank_store (family.stores number))))
    (effect_blank family command)
    ∙ changed_alike (family.stores number) (effect_of family command) ran

handles_alike : (family : FamilyState) (name : List ℕ) (handle other : HandleState) → blank_handle handle ≡ blank_handle other
    → blank_pairs blank_handle (put (blank_pairs blank_handle family.handles) name handle)
    ≡ blank_pairs blank_handle (put family.handles name other)
handles_alike family name handle other same =
    sym (put_blank blank_handle (blank_pairs blank_handle family.handles) name handle)
    ∙ (λ i. put (pairs_twice blank_handle (λ h. refl) family.handles i) name (same i))
    ∙ put_blank blank_handle family.handles name other

pins_alike : (family : FamilyState) (name : List ℕ) (pin other : PinState) → blank_pin pin ≡ blank_pin other
    → blank_pairs blank_pin (put (blank_pairs blank_pin family.pins) name pin) ≡ blank_pairs blank_pin (put family.pins name other)
pins_alike family name pin other same =
    sym (put_blank blank_pin (blank_pairs blank_pin family.pins) name pin)
    ∙ (λ i. put (pairs_twice blank_pin (λ p. refl) family.pins i) name (same i))
    ∙ put_blank blank_pin family.pins name other

whole_put : (family : FamilyState) (number : ℕ) (command : Command) (ran : Ran)
    → Alike
    (with_store (blank family) number (changed_store (change_of (effect_of (blank family) command) ran) (blank_store (family.stores number))))
    (with_store family number (changed_store (change_of (effect_of family command) ran) (family.stores number)))
whole_put family number command ran = put_alike family number _ _ (whole_store_alike family number command ran)

whole_alike : (family : FamilyState) (number : ℕ) (command : Command) (ran : Ran)
    → Alike (whole_after (blank family) number command ran) (whole_after family number command ran)
whole_alike family number (command.Lend words) ran = λ i.
    record (whole_put family number (command.Lend words) ran i) {
      handles = handles_alike family words.handle (handle_by (blank family) number words ran) (handle_by family number words ran) refl i;
      given = family.given + 1;
    }
whole_alike family number (command.Pin pin) ran = λ i.
    record (whole_put family number (command.Pin pin) ran i) {
      pins = pins_alike family pin (pin_by (blank family) number) (pin_by family number) refl i;
    }
whole_alike family number command ran = whole_put family number command ran

table_alike : (family : FamilyState) (table : List ℕ) (read : BlockRead)
    → Alike (with_table (blank family) table read) (with_table family table read)
table_alike family table (MakesLayer layer) = λ i. record (blank_twice family i) { tables = put family.tables table layer }
table_alike family table (Bad at) = blank_twice family

accepted_alike : (family : FamilyState) (line : Line) (ran : Ran) → Alike (accepted (blank family) line ran) (accepted family line ran)
accepted_alike family (line.Open number) ran = put_alike family number _ _ (opened_alike (family.stores number) ran.mark.count)
accepted_alike family (line.Close number) ran = ended_alike family number _ _ (closed_alike (family.stores number))
accepted_alike family (line.Stop number) ran = ended_alike family number _ _ (closed_alike (family.stores number))
accepted_alike family (line.Turn number lane) ran = put_alike family number _ _ (turned_alike ran.mark.more (family.stores number) lane ran)
accepted_alike family (line.Whole number command) ran = whole_alike family number command ran
accepted_alike family (line.Start number command) ran =
    put_alike family number _ _ (start_alike family (family.stores number) command (lane_of command))
accepted_alike family (line.Table table lines) ran = table_alike family table (block_of lines)
accepted_alike family (line.DropHandle handle) ran = λ i.
    record (blank_twice family i) {
      handles = (ap (blank_pairs blank_handle) (without_blank blank_handle family.handles handle)
          ∙ pairs_twice blank_handle (λ h. refl) (without family.handles handle)) i;
    }
accepted_alike family (line.Unpin pin) ran = λ i.
    record (blank_twice family i) {
      pins = (ap (blank_pairs blank_pin) (without_blank blank_pin family.pins pin)
          ∙ pairs_twice blank_pin (λ p. refl) (without family.pins pin)) i;
    }
accepted_alike family line ran = blank_twice family

-- ---- refused lines

of_pin : (pin : Option PinState)
    → option_map (λ (p : PinState). p.store) (option_map blank_pin pin) ≡ option_map (λ (p : PinState). p.store) pin
of_pin None = refl
of_pin (Some pin) = refl

named_alike : (family : FamilyState) (pin : List ℕ)
    → option_map (λ (p : PinState). p.store) (named (blank family).pins pin) ≡ option_map (λ (p : PinState). p.store)
    (named family.pins pin)
named_alike family pin =
    ap (option_map (λ (p : PinState). p.store)) (named_blank blank_pin family.pins pin) ∙ of_pin (named family.pins pin)

store_alike : (family : FamilyState) (line : Line) → store_named (blank family) line ≡ store_named family line
store_alike family (line.GetAt pin key) = named_alike family pin
store_alike family (line.Unpin pin) = named_alike family pin
store_alike family line = refl

change_alike : (effect : Effect) (ran : Ran)
    → option_map blank_change (change_of (blank_effect effect) ran) ≡ option_map blank_change (change_of effect ran)
change_alike Keeps ran = refl
change_alike (Makes change) ran = ap (λ (c : Changing). Some c) (change_twice change)
change_alike (Views view) ran = refl

in_lane_alike : (started : Option Started) (ran : Ran)
    → option_map blank_change (effect_in (option_map blank_started started) ran) ≡ option_map blank_change (effect_in started ran)
in_lane_alike None ran = refl
in_lane_alike (Some started) ran = change_alike started.effect ran

pending_alike : (family : FamilyState) (line : Line) (ran : Ran)
    → option_map blank_change (pending_by (blank family) line ran) ≡ option_map blank_change (pending_by family line ran)
pending_alike family (line.Whole number command) ran =
    ap (λ (effect : Effect). option_map blank_change (change_of effect ran)) (effect_blank family command)
    ∙ change_alike (effect_of family command) ran
pending_alike family (line.Turn number Fg) ran = in_lane_alike (family.stores number).fg ran
pending_alike family (line.Turn number Bg) ran = refl
pending_alike family line ran = refl

fallen_at_alike : (family : FamilyState) (line : Line) (ran : Ran) (found : Option ℕ)
    → Alike (fallen_at (blank family) line ran found) (fallen_at family line ran found)
fallen_at_alike family line ran None = blank_twice family
fallen_at_alike family line ran (Some number) =
    ended_alike family number _ _ (fallen_alike (family.stores number) (pending_by (blank family) line ran) (pending_by family line ran)
    (pending_alike family line ran))

withstood_alike : (family : FamilyState) (line : Line) → Alike (withstood (blank family) line) (withstood family line)
withstood_alike family (line.Open number) = put_alike family number _ _ (left_alike (is_open (family.stores number)) (family.stores number))
withstood_alike family (line.Turn number lane) = put_alike family number _ _ (emptied_alike (family.stores number) lane)
withstood_alike family line = blank_twice family

fell_alike : (family : FamilyState) (ran : Ran) (found : Option ℕ) → has_fallen_at (blank family) ran found ≡ has_fallen_at family ran found
fell_alike family ran None = refl
fell_alike family ran (Some number) = refl

either_alike : (b : Bool) (one two other more : FamilyState) → Alike one other → Alike two more
    → Alike (if b then one else two) (if b then other else more)
either_alike true one two other more first second = first
either_alike false one two other more first second = second

refused_alike : (family : FamilyState) (line : Line) (ran : Ran) → Alike (refused (blank family) line ran) (refused family line ran)
refused_alike family line ran =
    let found = store_named family line in
    ap
    (λ (at : Option ℕ). blank (if has_fallen_at (blank family) ran at then fallen_at (blank family) line ran at else withstood (blank family) line))
    (store_alike family line)
    ∙ ap (λ (b : Bool). blank (if b then fallen_at (blank family) line ran found else withstood (blank family) line))
    (fell_alike family ran found)
    ∙ either_alike (has_fallen_at family ran found) _ _ _ _ (fallen_at_alike family line ran found) (withstood_alike family line)

judged_alike : (judged : Option Refusal) (family : FamilyState) (line : Line) (ran : Ran)
    → Alike (after_judged judged (blank family) line ran) (after_judged judged family line ran)
judged_alike None family line ran = accepted_alike family line ran
judged_alike (Some refusal) family line ran = refused_alike family line ran

pub after_blank : (family : FamilyState) (line : Line) (ran : Ran)
    → blank (line_after (blank family) line ran) ≡ blank (line_after family line ran)
after_blank family line ran =
    ap (λ (judged : Option Refusal). blank (after_judged judged (blank family) line ran)) (refusal_blank family line ran)
    ∙ judged_alike (refusal_to family line ran) family line ran
