-- What is refused and replied doesn't ask the maps.
use Rattle.std.proofs.Common.{◌≡◌, ℕ, Bool, nat_le, List, [], ◌∷◌, Option, Some, None, is_none, is_some, if◌then◌else◌, option_map, refl, ap, ◌∙◌}
use Rattle.std.specs.Option.{option_or}
use Rattle.pb_rows.specs.Changing.{Changing}
use Rattle.pb_reply.specs.declared.refusal.Refusal.{Refusal}
use Rattle.pb_reply.specs.declared.refusal.Refusal.TheVariants.{Busy, Idle, NameTaken, NoHandle, NoMemory, NoPin, TooMany}
use Rattle.pb_reply.specs.declared.reply.Reply.{Reply}
use Rattle.pb_reply.specs.declared.reply.Reply.TheVariants as reply
use Rattle.pb_script.specs.declared.command.Command.{Command}
use Rattle.pb_script.specs.declared.command.Command.TheVariants as command
use Rattle.pb_script.specs.declared.line.Lane.{Lane}
use Rattle.pb_script.specs.declared.line.Lane.TheVariants.{Fg, Bg}
use Rattle.pb_script.specs.declared.line.Line.{Line}
use Rattle.pb_script.specs.declared.line.Line.TheVariants as line
use Rattle.pb_machine.specs.Named.{Named, named}
use Rattle.pb_machine.specs.Family.{Effect, Keeps, Makes, Views, FamilyState, HandleState, History, StoreState, Started, in_lane}
use Rattle.pb_machine.specs.Effects.{change_of, effect_of, lane_of, received}
use Rattle.pb_machine.specs.Causes.{bad_key, bad_span, busy, causes_of, first_some, idle, line_causes, no_handle, no_pin, not_open, taken, too_many, when}
use Rattle.pb_machine.specs.Replies.{changed_by, command_reply, is_no_memory, last_turn_reply, own_reply, refusal_to, reply_or, reply_to}
use Rattle.pb_machine.specs.Ran.{Ran}
use Rattle.pb_machine.proofs.Blanks.{blank, blank_effect, blank_handle, blank_history, blank_pairs, blank_pin, blank_started, blank_store, lane_blank, length_blank, named_blank, none_blank, some_blank}

-- ---- causes

busy_blank : (s : StoreState) (lane : Lane) → busy (blank_store s) lane ≡ busy s lane
busy_blank s Fg = ap (λ (b : Bool). when b Busy) (some_blank blank_started s.fg)
busy_blank s Bg = ap (λ (b : Bool). when b Busy) (some_blank blank_started s.bg)

idle_blank : (s : StoreState) (lane : Lane) → idle (blank_store s) lane ≡ idle s lane
idle_blank s Fg = ap (λ (b : Bool). when b Idle) (none_blank blank_started s.fg)
idle_blank s Bg = refl

taken_blank : {X : Type 0} (f : X → X) (pairs : Named X) (name : List ℕ) → taken (blank_pairs f pairs) name ≡ taken pairs name
taken_blank f pairs name = ap (λ (b : Bool). when b NameTaken) (ap is_some (named_blank f pairs name) ∙ some_blank f (named pairs name))

many_blank : {X : Type 0} (f : X → X) (limit : ℕ) (pairs : Named X) → too_many limit (blank_pairs f pairs) ≡ too_many limit pairs
many_blank f limit pairs = ap (λ (n : ℕ). when (nat_le limit n) (TooMany limit)) (length_blank f pairs)

handle_blank : (family : FamilyState) (handle : List ℕ) → no_handle (blank family) handle ≡ no_handle family handle
handle_blank family handle =
    ap (λ (b : Bool). when b NoHandle)
    (ap is_none (named_blank blank_handle family.handles handle) ∙ none_blank blank_handle (named family.handles handle))

pin_blank : (family : FamilyState) (pin : List ℕ) → no_pin (blank family) pin ≡ no_pin family pin
pin_blank family pin =
    ap (λ (b : Bool). when b NoPin) (ap is_none (named_blank blank_pin family.pins pin) ∙ none_blank blank_pin (named family.pins pin))

causes_blank : (family : FamilyState) (s : StoreState) (command : Command)
    → causes_of (blank family) (blank_store s) command ≡ causes_of family s command
causes_blank family s (command.Lend words) = λ i.
    bad_span words.lo words.hi ∷ taken_blank blank_handle family.handles words.handle i ∷ many_blank blank_handle 16 family.handles i ∷ []
causes_blank family s (command.Receive handle) = λ i. handle_blank family handle i ∷ []
causes_blank family s (command.Pin pin) = λ i. taken_blank blank_pin family.pins pin i ∷ many_blank blank_pin 64 family.pins i ∷ []
causes_blank family s command = refl

line_causes_blank : (family : FamilyState) (line : Line) → line_causes (blank family) line ≡ line_causes family line
line_causes_blank family (line.Close number) = λ i.
    not_open (family.stores number) ∷ busy_blank (family.stores number) Fg i ∷ busy_blank (family.stores number) Bg i ∷ []
line_causes_blank family (line.Turn number lane) = λ i. not_open (family.stores number) ∷ idle_blank (family.stores number) lane i ∷ []
line_causes_blank family (line.Whole number command) = λ i.
    not_open (family.stores number) ∷ busy_blank (family.stores number) (lane_of command) i ∷ causes_blank family
    (family.stores number) command i
line_causes_blank family (line.Start number command) = λ i.
    not_open (family.stores number) ∷ busy_blank (family.stores number) (lane_of command) i ∷ causes_blank family
    (family.stores number) command i
line_causes_blank family (line.DropHandle handle) = λ i. handle_blank family handle i ∷ []
line_causes_blank family (line.GetAt pin key) = λ i. bad_key key ∷ pin_blank family pin i ∷ []
line_causes_blank family (line.Unpin pin) = λ i. pin_blank family pin i ∷ []
line_causes_blank family line = refl

pub refusal_blank : (family : FamilyState) (line : Line) (ran : Ran) → refusal_to (blank family) line ran ≡ refusal_to family line ran
refusal_blank family line ran =
    ap (λ (causes : List (Option Refusal)). if is_no_memory ran.refused then Some NoMemory else option_or (first_some causes) ran.refused)
    (line_causes_blank family line)

-- ---- replies

received_blank : (handle : Option HandleState) → received (option_map blank_handle handle) ≡ blank_effect (received handle)
received_blank None = refl
received_blank (Some handle) = refl

pub effect_blank : (family : FamilyState) (command : Command) → effect_of (blank family) command ≡ blank_effect (effect_of family command)
effect_blank family (command.Receive handle) =
    ap received (named_blank blank_handle family.handles handle) ∙ received_blank (named family.handles handle)
effect_blank family command = refl

count_same : (change : Option Changing) (h : History) → (changed_by change (blank_history h)).count ≡ (changed_by change h).count
count_same None h = refl
count_same (Some change) h = refl

pub count_blank : (effect : Effect) (h : History) (ran : Ran)
    → (changed_by (change_of (blank_effect effect) ran) (blank_history h)).count ≡ (changed_by (change_of effect ran) h).count
count_blank Keeps h ran = refl
count_blank (Makes change) h ran = refl
count_blank (Views view) h ran = count_same (change_of (Views view) ran) h

command_blank : (s : StoreState) (command : Command) (effect : Effect) (ran : Ran)
    → command_reply (blank_store s) command (blank_effect effect) ran ≡ command_reply s command effect ran
command_blank s (command.Get key) effect ran = refl
command_blank s (command.Scan lo hi) effect ran = refl
command_blank s command.Flush effect ran = refl
command_blank s (command.Compact level lo hi) effect ran = refl
command_blank s command.Release effect ran = refl
command_blank s (command.Lend words) effect ran = refl
command_blank s (command.Pin pin) effect ran = refl
command_blank s command effect ran = ap (λ (n : ℕ). reply.Accepted n) (count_blank effect s.history ran)

turn_blank : (s : StoreState) (started : Option Started) (ran : Ran)
    → last_turn_reply (blank_store s) (option_map blank_started started) ran ≡ last_turn_reply s started ran
turn_blank s None ran = refl
turn_blank s (Some started) ran = command_blank s started.command started.effect ran

own_blank : (family : FamilyState) (line : Line) (ran : Ran) → own_reply (blank family) line ran ≡ own_reply family line ran
own_blank family (line.Turn number lane) ran =
    ap (λ (r : Reply). if ran.mark.more then reply.Working else r)
    (ap (λ (started : Option Started). last_turn_reply (blank_store (family.stores number)) started ran) (lane_blank (family.stores number) lane)
    ∙ turn_blank (family.stores number) (in_lane (family.stores number) lane) ran)
own_blank family (line.Whole number command) ran =
    ap (λ (effect : Effect). command_reply (blank_store (family.stores number)) command effect ran) (effect_blank family command)
    ∙ command_blank (family.stores number) command (effect_of family command) ran
own_blank family line ran = refl

pub reply_blank : (family : FamilyState) (line : Line) (ran : Ran) → reply_to (blank family) line ran ≡ reply_to family line ran
reply_blank family line ran = λ i. reply_or (refusal_blank family line ran i) (own_blank family line ran i)
