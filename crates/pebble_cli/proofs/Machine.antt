-- A step, as a line of a right run of the family's machine.
use Rattle.std.proofs.Common.{◌≡◌, ℕ, true, Option, Some, IfSome, refl, sym, ap, ◌∙◌, subst}
use Rattle.pb_keys.specs.Map.{Map}
use Rattle.pb_reply.specs.declared.refusal.Refusal.{Refusal}
use Rattle.pb_reply.specs.declared.reply.Reply.{Reply}
use Rattle.pb_reply.specs.declared.reply.Reply.TheVariants.{Value}
use Rattle.pb_machine.specs.Family.{FamilyState, is_open as is_open_state}
use Rattle.pb_machine.specs.Ran.{Ran}
use Rattle.pb_machine.specs.Replies.{own_reply, reply_or, reply_to}
use Rattle.pb_machine.specs.After.{after_judged, line_after, store_named}
use Rattle.pb_machine.specs.Meeting.{is_answer, is_look_up}
use Rattle.pb_machine.specs.Trail.{RanLine, TellsFall, may_fall, mark_of, must_fall}
use Rattle.pebble_cli.specs.Lines.{store_a}
use Rattle.pebble_cli.specs.Steps.{as_line}
use Rattle.pebble_cli.specs.StoreStates.{mark_in, ran_of, read_in}
use Rattle.pebble_cli.specs.declared.step.Step.{Step}
use Rattle.pebble_cli.specs.declared.step.Step.TheVariants as step
use Rattle.pebble_cli.specs.declared.store.Store.{Store}
use Rattle.pebble_cli.proofs.Alone.{Past, shown, family, down_is}
use Rattle.pebble_cli.proofs.Moves.{past_after, Moves}

-- ---- a line of a right run

read_answers : (reply : Reply) → is_look_up (read_in reply) ≡ true
read_answers (Value value) = refl
read_answers reply = refl

answers : (step : Step) (reply : Reply) → is_answer (as_line step) (read_in reply) ≡ true
answers step.Open reply = refl
answers (step.Set key value) reply = refl
answers (step.Get key) reply = read_answers reply

named_store : (family : FamilyState) (step : Step) → store_named family (as_line step) ≡ Some store_a
named_store family step.Open = refl
named_store family (step.Set key value) = refl
named_store family (step.Get key) = refl

module _ (maps : ℕ → Map) (before : Store) (past : Past) (step : Step) (reply : Reply) (after : Store)
    (moves : Moves maps before past step reply after) where
  abbrev pub next : Past
  next = past_after before step reply past

  abbrev pub one : Ran
  one = ran_of reply after

  pub reply_is : reply_to (family maps before past) (as_line step) one ≡ reply
  reply_is =
      ap (λ (judged : Option Refusal). reply_or judged (own_reply (family maps before past) (as_line step) one)) moves.judged
      ∙ moves.answered

  pub after_is : line_after (family maps before past) (as_line step) one ≡ family maps after next
  after_is = ap (λ (judged : Option Refusal). after_judged judged (family maps before past) (as_line step) one) moves.judged ∙ moves.moved

  falls : is_open_state (shown before past) ≡ true → TellsFall (family maps before past) (as_line step) one store_a
  falls opened = record {
    must = λ told. moves.must opened
        (ap (must_fall (family maps before past) (as_line step)) (sym moves.judged) ∙ told);
    only = λ told. ap (may_fall (family maps before past) (as_line step)) moves.judged ∙ moves.only opened told;
  }

  pub ran_line : RanLine (family maps before past) (as_line step) one
  ran_line = record {
    mark = ap (mark_in reply) (down_is after next)
        ∙ ap (mark_of reply) (sym after_is)
        ∙ ap (λ (r : Reply). mark_of r (line_after (family maps before past) (as_line step) one)) (sym reply_is);
    met = moves.met;
    answered = answers step reply;
    counted = moves.counted;
    falls =
        subst (λ (found : Option ℕ). IfSome found (λ store. is_open_state ((family maps before past).stores store) ≡ true
        → TellsFall (family maps before past) (as_line step) one store))
        (sym (named_store (family maps before past) step)) falls;
  }
