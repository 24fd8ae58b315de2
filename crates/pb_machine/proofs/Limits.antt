-- At most 16 handles and 64 pins stand.
use Rattle.std.proofs.Common.{◌≡◌, ℕ, ◌+◌, ◌<◌, ◌≤◌, Bool, true, false, List, length, Option, Some, None, if◌then◌else◌, nat_le, refl, arith}
use Rattle.std.proofs.lemmas.Bool.Decides.{nat_tests}
use Rattle.pb_reply.specs.declared.refusal.Refusal.{Refusal}
use Rattle.pb_script.specs.declared.command.Command.{Command}
use Rattle.pb_script.specs.declared.command.Command.TheVariants as command
use Rattle.pb_script.specs.declared.line.Line.{Line}
use Rattle.pb_script.specs.declared.line.Line.TheVariants as line
use Rattle.pb_machine.specs.Family.{FamilyState}
use Rattle.pb_machine.specs.Blocks.{BlockRead, Makes, Bad, block_of}
use Rattle.pb_machine.specs.Causes.{causes_of, first_cause, first_some}
use Rattle.pb_machine.specs.After.{accepted, after_judged, beside, fallen_at, has_fallen_at, line_after, other_pins, store_named, with_table, withstood}
use Rattle.pb_machine.specs.Replies.{refusal_to}
use Rattle.pb_machine.specs.Ran.{Ran}
use Rattle.pb_machine.proofs.Causes.{command_finds, lend_finds, pin_finds}
use Rattle.pb_machine.proofs.Names.{length-put, length-filter_short}

pub record AreFew (family : FamilyState) : Type 0 where
  pub handles : length family.handles ≤ 16
  pub pins : length family.pins ≤ 64

room_left : (limit count : ℕ) → nat_le limit count ≡ false → count < limit
room_left limit count is = grind (arith, nat_tests)

one_more : (count more limit : ℕ) → more ≤ count + 1 → count < limit → more ≤ limit
one_more count more limit grown room = omega (arith, grown, room)

no_more : (count fewer limit : ℕ) → fewer ≤ count → count ≤ limit → fewer ≤ limit
no_more count fewer limit one two = omega (arith, one, two)

few_beside : (family : FamilyState) (number : ℕ) (command : Command) (ran : Ran) → AreFew family
    → first_some (causes_of family (family.stores number) command) ≡ None → AreFew (beside family number command ran)
few_beside family number (command.Lend words) ran few none =
    record {
      handles = one_more (length family.handles) _ 16 (length-put family.handles words.handle _)
          (room_left 16 (length family.handles) (lend_finds family (family.stores number) words none));
      pins = few.pins;
    }
few_beside family number (command.Pin pin) ran few none =
    record {
      handles = few.handles;
      pins = one_more (length family.pins) _ 64 (length-put family.pins pin _)
          (room_left 64 (length family.pins) (pin_finds family (family.stores number) pin none));
    }
few_beside family number command ran few none = few

few_ended : (family : FamilyState) (number : ℕ) → AreFew family → length (other_pins number family.pins) ≤ 64
few_ended family number few = no_more (length family.pins) _ 64 (length-filter_short _ family.pins) few.pins

few_table : (family : FamilyState) (table : List ℕ) (read : BlockRead) → AreFew family → AreFew (with_table family table read)
few_table family table (Makes layer) few = record { handles = few.handles; pins = few.pins }
few_table family table (Bad at) few = few

accepted_few : (family : FamilyState) (line : Line) (ran : Ran) → AreFew family → first_cause family line ≡ None
    → AreFew (accepted family line ran)
accepted_few family (line.Open number) ran few none = record { handles = few.handles; pins = few.pins }
accepted_few family (line.Close number) ran few none = record { handles = few.handles; pins = few_ended family number few }
accepted_few family (line.Stop number) ran few none = record { handles = few.handles; pins = few_ended family number few }
accepted_few family (line.Turn number lane) ran few none = record { handles = few.handles; pins = few.pins }
accepted_few family (line.Whole number command) ran few none =
    let besides = few_beside family number command ran few (command_finds family number command none).others in
    record { handles = besides.handles; pins = besides.pins }
accepted_few family (line.Start number command) ran few none = record { handles = few.handles; pins = few.pins }
accepted_few family (line.Table table lines) ran few none = few_table family table (block_of lines) few
accepted_few family (line.DropHandle handle) ran few none =
    record { handles = no_more (length family.handles) _ 16 (length-filter_short _ family.handles) few.handles; pins = few.pins }
accepted_few family (line.Unpin pin) ran few none =
    record { handles = few.handles; pins = no_more (length family.pins) _ 64 (length-filter_short _ family.pins) few.pins }
accepted_few family line ran few none = few

fallen_few : (family : FamilyState) (line : Line) (ran : Ran) (found : Option ℕ) → AreFew family → AreFew (fallen_at family line ran found)
fallen_few family line ran None few = few
fallen_few family line ran (Some number) few = record { handles = few.handles; pins = few_ended family number few }

withstood_few : (family : FamilyState) (line : Line) → AreFew family → AreFew (withstood family line)
withstood_few family (line.Open number) few = record { handles = few.handles; pins = few.pins }
withstood_few family (line.Turn number lane) few = record { handles = few.handles; pins = few.pins }
withstood_few family line few = few

either_few : (b : Bool) (x y : FamilyState) → AreFew x → AreFew y → AreFew (if b then x else y)
either_few true x y first second = first
either_few false x y first second = second

judged_few : (judged : Option Refusal) (family : FamilyState) (line : Line) (ran : Ran) → AreFew family
    → (judged ≡ None → first_cause family line ≡ None) → AreFew (after_judged judged family line ran)
judged_few None family line ran few none = accepted_few family line ran few (none refl)
judged_few (Some refusal) family line ran few none =
    either_few (has_fallen_at family ran (store_named family line)) (fallen_at family line ran (store_named family line))
    (withstood family line)
    (fallen_few family line ran (store_named family line) few) (withstood_few family line few)

pub few_after : (family : FamilyState) (line : Line) (ran : Ran) → AreFew family
    → (refusal_to family line ran ≡ None → first_cause family line ≡ None) → AreFew (line_after family line ran)
few_after family line ran = judged_few (refusal_to family line ran) family line ran
