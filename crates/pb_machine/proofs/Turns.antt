-- A started command, in its last turn, does what the whole command does.
use Rattle.std.proofs.Common.{◌≡◌, ℕ, ◌==◌, Bool, true, false, ◌&&◌, not, [], ◌∷◌, Option, Some, None, if◌then◌else◌, refl, sym, ap, ◌∙◌, subst}
use Rattle.std.specs.Option.{option_or}
use Rattle.std.proofs.lemmas.Bool.{cond-false, eqb-true}
use Rattle.pb_rows.specs.Changing.{Changing}
use Rattle.pb_reply.specs.declared.refusal.Refusal.{Refusal}
use Rattle.pb_reply.specs.declared.refusal.Refusal.TheVariants.{NoMemory, NotOpen}
use Rattle.pb_reply.specs.declared.reply.Reply.TheVariants as reply
use Rattle.pb_script.specs.Commands.{is_started}
use Rattle.pb_script.specs.declared.command.Command.{Command}
use Rattle.pb_script.specs.declared.command.Command.TheVariants as command
use Rattle.pb_script.specs.declared.line.Lane.{Lane}
use Rattle.pb_script.specs.declared.line.Lane.TheVariants.{Fg, Bg}
use Rattle.pb_script.specs.declared.line.Line.TheVariants as line
use Rattle.pb_machine.specs.Family.{Effect, FamilyState, History, StoreState, Started, in_lane, is_open, with_lane, with_store}
use Rattle.pb_machine.specs.Effects.{change_of, effect_of, lane_of}
use Rattle.pb_machine.specs.Causes.{first_cause, first_some, idle, not_open, when}
use Rattle.pb_machine.specs.After.{accepted, after_judged, beside, changed_store, effect_in, ended, fallen, is_told_down, line_after, other_pins, pending_by, refused, start_after, started_by, turned, whole_after}
use Rattle.pb_machine.specs.Replies.{changed_by, command_reply, is_no_memory, last_turn_reply, own_reply, refusal_to, reply_or, reply_to}
use Rattle.pb_machine.specs.Ran.{Ran}
use Rattle.pb_machine.proofs.Causes.{command_finds, no_cause}
use Rattle.pb_machine.proofs.Stores.{put_there}

-- ---- a store that is put twice

twice : (b : Bool) (first second old : StoreState) → (if b then second else (if b then first else old)) ≡ (if b then second else old)
twice true first second old = refl
twice false first second old = refl

put_again : (family : FamilyState) (number : ℕ) (first second : StoreState)
    → with_store (with_store family number first) number second ≡ with_store family number second
put_again family number first second i = record family { stores = λ n. twice (n == number) first second (family.stores n) i }

back_at : (family : FamilyState) (number n : ℕ) (first new : StoreState) (b : Bool) → (n == number) ≡ b → new ≡ family.stores number
    → (if b then new else (if b then first else family.stores n)) ≡ family.stores n
back_at family number n first new true is same = same ∙ ap family.stores (sym (eqb-true n number is))
back_at family number n first new false is same = refl

put_back : (family : FamilyState) (number : ℕ) (first new : StoreState) → new ≡ family.stores number
    → with_store (with_store family number first) number new ≡ family
put_back family number first new same i =
    record family { stores = λ n. back_at family number n first new (n == number) refl same i }

lane_back : (s : StoreState) (lane : Lane) (started : Option Started) → in_lane s lane ≡ None
    → with_lane (with_lane s lane started) lane None ≡ s
lane_back s Fg started free i = record s { fg = sym free i }
lane_back s Bg started free i = record s { bg = sym free i }

changed_back : (s : StoreState) (lane : Lane) (started : Option Started) (change : Option Changing) → in_lane s lane ≡ None
    → with_lane (changed_store change (with_lane s lane started)) lane None ≡ changed_store change s
changed_back s Fg started change free i = record (changed_store change s) { fg = sym free i }
changed_back s Bg started change free i = record (changed_store change s) { bg = sym free i }

fallen_back : (s : StoreState) (lane : Lane) (started : Option Started) (change : Option Changing)
    → fallen change (with_lane s lane started) ≡ fallen change s
fallen_back s Fg started change = refl
fallen_back s Bg started change = refl

-- ---- the state with the started command

abbrev begun : FamilyState → ℕ → Command → FamilyState
begun family number command = start_after family number command

abbrev begun_store : FamilyState → ℕ → Command → StoreState
begun_store family number command = with_lane (family.stores number) (lane_of command) (Some (started_by family command))

begun_there : (family : FamilyState) (number : ℕ) (command : Command)
    → (begun family number command).stores number ≡ begun_store family number command
begun_there family number command = put_there family number (begun_store family number command)

turn_free : (s : StoreState) (lane : Lane) (started : Started) → is_open s ≡ true
    → first_some (not_open (with_lane s lane (Some started)) ∷ idle (with_lane s lane (Some started)) lane ∷ []) ≡ None
turn_free s Fg started now = ap (λ (b : Bool). option_or (when (not b) NotOpen) None) now
turn_free s Bg started now = ap (λ (b : Bool). option_or (when (not b) NotOpen) None) now

same_refusal : (family : FamilyState) (number : ℕ) (command : Command) (ran : Ran) → first_cause family (line.Whole number command) ≡ None
    → refusal_to (begun family number command) (line.Turn number (lane_of command)) ran ≡ refusal_to family (line.Whole number command) ran
same_refusal family number command ran none =
    let lane = lane_of command in
    let finds = command_finds family number command none in
    ap (λ (cause : Option Refusal). if is_no_memory ran.refused then Some NoMemory else option_or cause ran.refused)
    (ap (λ (s : StoreState). first_some (not_open s ∷ idle s lane ∷ [])) (begun_there family number command)
    ∙ turn_free (family.stores number) lane (started_by family command) finds.open_there ∙ sym none)

-- ---- replies

same_reply : (s t : StoreState) (command : Command) (effect : Effect) (ran : Ran) → s.history ≡ t.history
    → command_reply s command effect ran ≡ command_reply t command effect ran
same_reply s t (command.Get key) effect ran same = refl
same_reply s t (command.Scan lo hi) effect ran same = refl
same_reply s t command.Flush effect ran same = refl
same_reply s t (command.Compact level lo hi) effect ran same = refl
same_reply s t command.Release effect ran same = refl
same_reply s t (command.Lend words) effect ran same = refl
same_reply s t (command.Pin pin) effect ran same = refl
same_reply s t command effect ran same = ap (λ (h : History). reply.Accepted (changed_by (change_of effect ran) h).count) same

last_reply : (s : StoreState) (lane : Lane) (started : Started) (ran : Ran)
    → last_turn_reply (with_lane s lane (Some started)) (in_lane (with_lane s lane (Some started)) lane) ran
    ≡ command_reply s started.command started.effect ran
last_reply s Fg started ran = same_reply (with_lane s Fg (Some started)) s started.command started.effect ran refl
last_reply s Bg started ran = same_reply (with_lane s Bg (Some started)) s started.command started.effect ran refl

same_own : (family : FamilyState) (number : ℕ) (command : Command) (ran : Ran) → ran.mark.more ≡ false
    → own_reply (begun family number command) (line.Turn number (lane_of command)) ran ≡ own_reply family (line.Whole number command) ran
same_own family number command ran last =
    let lane = lane_of command in
    cond-false ran.mark.more reply.Working _ last
    ∙ ap (λ (s : StoreState). last_turn_reply s (in_lane s lane) ran) (begun_there family number command)
    ∙ last_reply (family.stores number) lane (started_by family command) ran

-- ---- states

turned_last : (s : StoreState) (lane : Lane) (started : Started) (ran : Ran) → ran.mark.more ≡ false → in_lane s lane ≡ None
    → turned (with_lane s lane (Some started)) lane ran ≡ changed_store (change_of started.effect ran) s
turned_last s Fg started ran last free =
    cond-false ran.mark.more _ _ last ∙ changed_back s Fg (Some started) (change_of started.effect ran) free
turned_last s Bg started ran last free =
    cond-false ran.mark.more _ _ last ∙ changed_back s Bg (Some started) (change_of started.effect ran) free

beside_none : (family : FamilyState) (number : ℕ) (command : Command) (ran : Ran) → is_started command ≡ true
    → beside family number command ran ≡ family
beside_none family number (command.Lend words) ran may = cc
beside_none family number (command.Pin pin) ran may = cc
beside_none family number command ran may = refl

accepted_same : (family : FamilyState) (number : ℕ) (command : Command) (ran : Ran) → is_started command ≡ true → ran.mark.more ≡ false
    → in_lane (family.stores number) (lane_of command) ≡ None
    → accepted (begun family number command) (line.Turn number (lane_of command)) ran ≡ whole_after family number command ran
accepted_same family number command ran may last free =
    let lane = lane_of command in
    let s = family.stores number in
    let new = changed_store (change_of (effect_of family command) ran) s in
    ap (λ (t : StoreState). with_store (begun family number command) number (turned t lane ran)) (begun_there family number command)
    ∙ ap (λ (t : StoreState). with_store (begun family number command) number t)
    (turned_last s lane (started_by family command) ran last free)
    ∙ put_again family number (begun_store family number command) new
    ∙ ap (λ (base : FamilyState). with_store base number new) (sym (beside_none family number command ran may))

open_back : (s : StoreState) (lane : Lane) (started : Option Started) → is_open (with_lane s lane started) ≡ is_open s
open_back s Fg started = refl
open_back s Bg started = refl

pending_same : (family : FamilyState) (number : ℕ) (command : Command) (ran : Ran) → is_started command ≡ true
    → pending_by (begun family number command) (line.Turn number (lane_of command)) ran ≡ change_of (effect_of family command) ran
pending_same family number (command.Compact level lo hi) ran may = refl
pending_same family number command.Release ran may = refl
pending_same family number command ran may = ap (λ (s : StoreState). effect_in s.fg ran) (begun_there family number command)

refused_same : (family : FamilyState) (number : ℕ) (command : Command) (ran : Ran) → is_started command ≡ true
    → in_lane (family.stores number) (lane_of command) ≡ None
    → refused (begun family number command) (line.Turn number (lane_of command)) ran ≡ refused family (line.Whole number command) ran
refused_same family number command ran may free =
    let lane = lane_of command in
    let s = family.stores number in
    let first = begun_store family number command in
    let change = change_of (effect_of family command) ran in
    let there = begun_there family number command in
    let fell : (is_open ((begun family number command).stores number) && is_told_down ran number) ≡ (is_open s && is_told_down ran number) =
    ap (λ (b : Bool). b && is_told_down ran number) (ap is_open there ∙ open_back s lane (Some (started_by family command))) in
    let fallen_is : fallen (pending_by (begun family number command) (line.Turn number lane) ran)
    ((begun family number command).stores number)
    ≡ fallen change s =
    ap (λ (p : Option Changing). fallen p ((begun family number command).stores number)) (pending_same family number command ran may)
    ∙ ap (fallen change) there ∙ fallen_back s lane (Some (started_by family command)) change in
    let down : ended (begun family number command) number
    (fallen (pending_by (begun family number command) (line.Turn number lane) ran) ((begun family number command).stores number))
    ≡ ended family number (fallen change s) =
    ap (λ (t : StoreState). ended (begun family number command) number t) fallen_is
    ∙ (λ i. record (put_again family number first (fallen change s) i) { pins = other_pins number family.pins }) in
    let back : with_store (begun family number command) number
    (with_lane ((begun family number command).stores number) lane None) ≡ family =
    ap (λ (t : StoreState). with_store (begun family number command) number (with_lane t lane None)) there
    ∙ put_back family number first (with_lane first lane None) (lane_back s lane (Some (started_by family command)) free) in
    λ i. if fell i then down i else back i

judged_same : (judged : Option Refusal) (family : FamilyState) (number : ℕ) (command : Command) (ran : Ran) → is_started command ≡ true
    → ran.mark.more ≡ false → in_lane (family.stores number) (lane_of command) ≡ None
    → after_judged judged (begun family number command) (line.Turn number (lane_of command)) ran
    ≡ after_judged judged family (line.Whole number command) ran
judged_same None family number command ran may last free = accepted_same family number command ran may last free
judged_same (Some refusal) family number command ran may last free = refused_same family number command ran may free

abbrev pub EndsAsWhole : FamilyState → FamilyState → ℕ → Command → Ran → Type 0
EndsAsWhole going family number command ran =
    (reply_to going (line.Turn number (lane_of command)) ran ≡ reply_to family (line.Whole number command) ran)
    × (line_after going (line.Turn number (lane_of command)) ran ≡ line_after family (line.Whole number command) ran)

ends_as_whole : (family : FamilyState) (number : ℕ) (command : Command) (ran : Ran) → is_started command ≡ true
    → first_cause family (line.Whole number command) ≡ None → ran.mark.more ≡ false
    → EndsAsWhole (begun family number command) family number command ran
ends_as_whole family number command ran may none last =
    let lane = lane_of command in
    let refusal = same_refusal family number command ran none in
    let free = (command_finds family number command none).lane_free in (
      (λ i. reply_or (refusal i) (same_own family number command ran last i)),
      ap (λ (judged : Option Refusal). after_judged judged (begun family number command) (line.Turn number lane) ran) refusal
          ∙ judged_same (refusal_to family (line.Whole number command) ran) family number command ran may last free,
    )

pub turn_ends : (family : FamilyState) (number : ℕ) (command : Command) (first ran : Ran) → is_started command ≡ true
    → refusal_to family (line.Start number command) first ≡ None → ran.mark.more ≡ false
    → EndsAsWhole (line_after family (line.Start number command) first) family number command ran
turn_ends family number command first ran may taken last =
    subst
    (λ (judged : Option Refusal). EndsAsWhole (after_judged judged family (line.Start number command) first) family number command ran)
    (sym taken)
    (ends_as_whole family number command ran may (no_cause family (line.Start number command) first taken) last)

pub turn_reply : (family : FamilyState) (number : ℕ) (command : Command) (first ran : Ran) → is_started command ≡ true
    → refusal_to family (line.Start number command) first ≡ None → ran.mark.more ≡ false
    → reply_to (line_after family (line.Start number command) first) (line.Turn number (lane_of command)) ran
    ≡ reply_to family (line.Whole number command) ran
turn_reply family number command first ran may taken last = (turn_ends family number command first ran may taken last).0

pub turn_after : (family : FamilyState) (number : ℕ) (command : Command) (first ran : Ran) → is_started command ≡ true
    → refusal_to family (line.Start number command) first ≡ None → ran.mark.more ≡ false
    → line_after (line_after family (line.Start number command) first) (line.Turn number (lane_of command)) ran
    ≡ line_after family (line.Whole number command) ran
turn_after family number command first ran may taken last = (turn_ends family number command first ran may taken last).1
