-- What an accepted line tells of the state.
use Rattle.std.proofs.Common.{◌≡◌, ℕ, Bool, true, false, not, nat_le, List, [], ◌∷◌, length, Option, Some, None, is_none, is_some, if◌then◌else◌, refl}
use Rattle.std.specs.Option.{option_or}
use Rattle.pb_reply.specs.declared.refusal.Refusal.{Refusal}
use Rattle.pb_reply.specs.declared.refusal.Refusal.TheVariants.{AlreadyOpen, Busy, NotOpen, TooMany}
use Rattle.pb_script.specs.declared.command.Command.{Command}
use Rattle.pb_script.specs.declared.command.Command.TheVariants as command
use Rattle.pb_script.specs.declared.command.Lend.{Lend}
use Rattle.pb_script.specs.declared.line.Lane.{Lane}
use Rattle.pb_script.specs.declared.line.Lane.TheVariants.{Fg, Bg}
use Rattle.pb_script.specs.declared.line.Line.{Line}
use Rattle.pb_script.specs.declared.line.Line.TheVariants as line
use Rattle.pb_machine.specs.Family.{FamilyState, StoreState, in_lane, is_open}
use Rattle.pb_machine.specs.Effects.{lane_of}
use Rattle.pb_machine.specs.Causes.{bad_span, busy, causes_of, command_causes, first_cause, first_some, idle, not_open, taken, too_many, when}
use Rattle.pb_machine.specs.Replies.{is_no_memory, refusal_to}
use Rattle.pb_machine.specs.Ran.{Ran}

no_first : (one other : Option Refusal) → option_or one other ≡ None → (one ≡ None) × (other ≡ None)
no_first None other is = (refl, is)
no_first (Some refusal) other is = cc

none_judged : (b : Bool) (refusal : Refusal) (cause met : Option Refusal) → (if b then Some refusal else option_or cause met) ≡ None
    → cause ≡ None
none_judged true refusal cause met is = cc
none_judged false refusal cause met is = (no_first cause met is).0

pub no_cause : (family : FamilyState) (line : Line) (ran : Ran) → refusal_to family line ran ≡ None → first_cause family line ≡ None
no_cause family line ran is = none_judged (is_no_memory ran.refused) _ (first_cause family line) ran.refused is

pub first_none : (cause : Option Refusal) (causes : List (Option Refusal)) → first_some (cause ∷ causes) ≡ None
    → (cause ≡ None) × (first_some causes ≡ None)
first_none cause causes is = no_first cause (first_some causes) is

pub not_when : (test : Bool) (refusal : Refusal) → when test refusal ≡ None → test ≡ false
not_when true refusal is = cc
not_when false refusal is = refl

pub of_not : (b : Bool) → not b ≡ false → b ≡ true
of_not true is = refl
of_not false is = cc

pub none_is : {A : Type 0} (x : Option A) → is_some x ≡ false → x ≡ None
none_is None is = refl
none_is (Some y) is = cc

pub some_is : {A : Type 0} (x : Option A) → is_none x ≡ false → is_some x ≡ true
some_is None is = cc
some_is (Some y) is = refl

-- a command's line that is accepted finds the store open, and its lane empty
pub record Finds (family : FamilyState) (number : ℕ) (command : Command) : Type 0 where
  pub open_there : is_open (family.stores number) ≡ true
  pub lane_free : in_lane (family.stores number) (lane_of command) ≡ None
  pub others : first_some (causes_of family (family.stores number) command) ≡ None

pub command_finds : (family : FamilyState) (number : ℕ) (command : Command) → first_some (command_causes family number command) ≡ None
    → Finds family number command
command_finds family number command is =
    let s = family.stores number in
    let lane = lane_of command in
    let causes = causes_of family s command in
    let one = first_none (not_open s) (busy s lane ∷ causes) is in
    let two = first_none (busy s lane) causes one.1 in
    record {
      open_there = of_not (is_open s) (not_when (not (is_open s)) NotOpen one.0);
      lane_free = none_is (in_lane s lane) (not_when (is_some (in_lane s lane)) Busy two.0);
      others = two.1;
    }

pub open_finds : (family : FamilyState) (number : ℕ) → first_cause family (line.Open number) ≡ None → is_open (family.stores number) ≡ false
open_finds family number is =
    not_when (is_open (family.stores number)) AlreadyOpen (first_none (when (is_open (family.stores number)) AlreadyOpen) [] is).0

pub close_finds : (family : FamilyState) (number : ℕ) → first_cause family (line.Close number) ≡ None
    → is_open (family.stores number) ≡ true
close_finds family number is =
    let s = family.stores number in
    of_not (is_open s) (not_when (not (is_open s)) NotOpen (first_none (not_open s) (busy s Fg ∷ busy s Bg ∷ []) is).0)

pub turn_finds : (family : FamilyState) (number : ℕ) (lane : Lane) → first_cause family (line.Turn number lane) ≡ None
    → is_open (family.stores number) ≡ true
turn_finds family number lane is =
    let s = family.stores number in
    of_not (is_open s) (not_when (not (is_open s)) NotOpen (first_none (not_open s) (idle s lane ∷ []) is).0)

pub lend_finds : (family : FamilyState) (s : StoreState) (words : Lend) → first_some (causes_of family s (command.Lend words)) ≡ None
    → nat_le 16 (length family.handles) ≡ false
lend_finds family s words is =
    let many = too_many 16 family.handles in
    let name = taken family.handles words.handle in
    let one = first_none (bad_span words.lo words.hi) (name ∷ many ∷ []) is in
    let two = first_none name (many ∷ []) one.1 in
    not_when (nat_le 16 (length family.handles)) (TooMany 16) (first_none many [] two.1).0

pub pin_finds : (family : FamilyState) (s : StoreState) (pin : List ℕ) → first_some (causes_of family s (command.Pin pin)) ≡ None
    → nat_le 64 (length family.pins) ≡ false
pin_finds family s pin is =
    let many = too_many 64 family.pins in
    let one = first_none (taken family.pins pin) (many ∷ []) is in
    not_when (nat_le 64 (length family.pins)) (TooMany 64) (first_none many [] one.1).0
