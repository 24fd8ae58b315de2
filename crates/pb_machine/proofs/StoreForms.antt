-- Each store stays in form.
use Rattle.std.proofs.Common.{◌≡◌, ℕ, ◌<◌, ◌^◌, ◌==◌, Bool, true, false, Option, Some, None, IfSome, if◌then◌else◌, refl, sym, ap, ◌∙◌, subst, inl, inr, option_map}
use Rattle.std.proofs.lemmas.Bool.{cases_Bool, cond-true, cond-false, both_ways}
use Rattle.pb_rows.specs.Changing.{Changing}
use Rattle.pb_reply.specs.declared.refusal.Refusal.{Refusal}
use Rattle.pb_reply.specs.declared.reply.Reply.TheVariants as reply
use Rattle.pb_script.specs.Commands.{is_started}
use Rattle.pb_script.specs.Form.{IsLine}
use Rattle.pb_script.specs.declared.command.Command.{Command}
use Rattle.pb_script.specs.declared.command.Command.TheVariants as command
use Rattle.pb_script.specs.declared.line.Lane.{Lane}
use Rattle.pb_script.specs.declared.line.Lane.TheVariants.{Fg, Bg}
use Rattle.pb_script.specs.declared.line.Line.{Line}
use Rattle.pb_script.specs.declared.line.Line.TheVariants as line
use Rattle.pb_machine.specs.Family.{Effect, Keeps, Closed, FamilyState, StoreState, Started, in_lane, is_open, with_lane, with_store}
use Rattle.pb_machine.specs.Effects.{change_of, effect_of, lane_of}
use Rattle.pb_machine.specs.Blocks.{block_of}
use Rattle.pb_machine.specs.Causes.{first_cause}
use Rattle.pb_machine.specs.After.{accepted, after_judged, beside, changed_store, closed, effect_in, fallen, fallen_at, going_on, has_fallen_at, left_closed, line_after, opened, pending_by, started_by, store_named, withstood}
use Rattle.pb_machine.specs.Agreement.{IsFamily, IsStarted, IsStoreState, is_changing, is_compaction}
use Rattle.pb_machine.specs.Replies.{changed_by, command_reply, last_turn_reply, own_reply, refusal_to, reply_or}
use Rattle.pb_machine.specs.Trail.{RanLine, count_in}
use Rattle.pb_machine.specs.Ran.{Ran}
use Rattle.pb_machine.proofs.Causes.{command_finds, turn_finds}
use Rattle.pb_machine.proofs.Stores.{beside_stores, table_stores}

-- ---- counts

kept_count : (store : StoreState) (effect : Effect) (ran : Ran) → effect ≡ Keeps → store.history.count < 2 ^ 62
    → (changed_by (change_of effect ran) store.history).count < 2 ^ 62
kept_count store effect ran is few =
    subst (λ (e : Effect). (changed_by (change_of e ran) store.history).count < 2 ^ 62) (sym is) few

-- a command's reply tells the count after it
told_count : (store : StoreState) (command : Command) (effect : Effect) (ran : Ran) → (is_changing command ≡ false → effect ≡ Keeps)
    → count_in (command_reply store command effect ran) < 2 ^ 62 → store.history.count < 2 ^ 62
    → (changed_by (change_of effect ran) store.history).count < 2 ^ 62
told_count store (command.Get key) effect ran keeps told few = kept_count store effect ran (keeps refl) few
told_count store (command.Scan lo hi) effect ran keeps told few = kept_count store effect ran (keeps refl) few
told_count store command.Flush effect ran keeps told few = kept_count store effect ran (keeps refl) few
told_count store (command.Compact level lo hi) effect ran keeps told few = kept_count store effect ran (keeps refl) few
told_count store command.Release effect ran keeps told few = kept_count store effect ran (keeps refl) few
told_count store (command.Lend words) effect ran keeps told few = kept_count store effect ran (keeps refl) few
told_count store (command.Pin pin) effect ran keeps told few = kept_count store effect ran (keeps refl) few
told_count store command effect ran keeps told few = told

pub command_keeps : (family : FamilyState) (command : Command) → is_changing command ≡ false → effect_of family command ≡ Keeps
command_keeps family (command.Get key) is = refl
command_keeps family (command.Scan lo hi) is = refl
command_keeps family command.Flush is = refl
command_keeps family (command.Compact level lo hi) is = refl
command_keeps family command.Release is = refl
command_keeps family (command.Lend words) is = refl
command_keeps family (command.Pin pin) is = refl
command_keeps family command is = cc

pub line_count : (family : FamilyState) (line : Line) (ran : Ran) → RanLine family line ran → refusal_to family line ran ≡ None
    → count_in (own_reply family line ran) < 2 ^ 62
line_count family line ran right is =
    subst (λ (n : ℕ). n < 2 ^ 62)
    (ap (λ mark. mark.count) right.mark ∙ ap (λ (judged : Option Refusal). count_in (reply_or judged (own_reply family line ran))) is) right.counted

-- ---- one store

opened_form : (s : StoreState) (count : ℕ) → IsStoreState s → count < 2 ^ 62 → IsStoreState (opened s count)
opened_form s count form few =
    record {
      lanes =
          λ shut. absurd (both_ways true shut refl);
      front = form.front;
      behind = form.behind;
      compacts = form.compacts;
      few = few;
    }

closed_form : (s : StoreState) → IsStoreState s → IsStoreState (closed s)
closed_form s form = record { lanes = λ shut. (refl, refl); front = tt; behind = tt; compacts = tt; few = form.few }

fallen_form : (s : StoreState) (change : Option Changing) → IsStoreState s → IsStoreState (fallen change s)
fallen_form s change form = record { lanes = λ shut. (refl, refl); front = tt; behind = tt; compacts = tt; few = form.few }

pub changed_form : (s : StoreState) (change : Option Changing) → IsStoreState s → (changed_by change s.history).count < 2 ^ 62
    → IsStoreState (changed_store change s)
changed_form s change form few =
    record { lanes = form.lanes; front = form.front; behind = form.behind; compacts = form.compacts; few = few }

emptied_form : (s : StoreState) (lane : Lane) → IsStoreState s → IsStoreState (with_lane s lane None)
emptied_form s Fg form =
    record { lanes = λ shut. (refl, (form.lanes shut).1); front = tt; behind = form.behind; compacts = form.compacts; few = form.few }
emptied_form s Bg form =
    record { lanes = λ shut. ((form.lanes shut).0, refl); front = form.front; behind = tt; compacts = tt; few = form.few }

left_by : (b : Bool) (s : StoreState) → IsStoreState s → is_open s ≡ b → IsStoreState (if b then s else record s { phase = Closed })
left_by true s form is = form
left_by false s form is =
    record { lanes = λ shut. form.lanes is; front = form.front; behind = form.behind; compacts = form.compacts; few = form.few }

going_started : (ran : Ran) (started : Option Started) → IfSome started IsStarted → IfSome (option_map (going_on ran) started) IsStarted
going_started ran None is = is
going_started ran (Some started) is = is

going_compacts : (ran : Ran) (started : Option Started) → IfSome started (λ (s : Started). is_compaction s.command ≡ true)
    → IfSome (option_map (going_on ran) started) (λ (s : Started). is_compaction s.command ≡ true)
going_compacts ran None is = is
going_compacts ran (Some started) is = is

going_form : (s : StoreState) (lane : Lane) (ran : Ran) → IsStoreState s → is_open s ≡ true
    → IsStoreState (with_lane s lane (option_map (going_on ran) (in_lane s lane)))
going_form s Fg ran form now =
    record {
      lanes = λ shut. absurd (both_ways (is_open s) shut now);
      front = going_started ran s.fg form.front;
      behind = form.behind;
      compacts = form.compacts;
      few = form.few;
    }
going_form s Bg ran form now =
    record {
      lanes = λ shut. absurd (both_ways (is_open s) shut now);
      front = form.front;
      behind = going_started ran s.bg form.behind;
      compacts = going_compacts ran s.bg form.compacts;
      few = form.few;
    }

lane_started : (s : StoreState) (lane : Lane) → IsStoreState s → IfSome (in_lane s lane) IsStarted
lane_started s Fg form = form.front
lane_started s Bg form = form.behind

last_count : (s : StoreState) (started : Option Started) (ran : Ran) → IfSome started IsStarted → s.history.count < 2 ^ 62
    → count_in (last_turn_reply s started ran) < 2 ^ 62 → (changed_by (effect_in started ran) s.history).count < 2 ^ 62
last_count s None ran is few told = few
last_count s (Some started) ran is few told = told_count s started.command started.effect ran is told few

turned_form : (more : Bool) (s : StoreState) (lane : Lane) (ran : Ran) → IsStoreState s → is_open s ≡ true
    → count_in (if more then reply.Working else last_turn_reply s (in_lane s lane) ran) < 2 ^ 62
    → IsStoreState (if more then with_lane s lane (option_map (going_on ran) (in_lane s lane))
    else with_lane (changed_store (effect_in (in_lane s lane) ran) s) lane None)
turned_form true s lane ran form now told = going_form s lane ran form now
turned_form false s lane ran form now told =
    emptied_form (changed_store (effect_in (in_lane s lane) ran) s) lane
    (changed_form s (effect_in (in_lane s lane) ran) form
    (last_count s (in_lane s lane) ran (lane_started s lane form) form.few told))

-- the two lanes that a started command may take
started_form : (family : FamilyState) (s : StoreState) (command : Command) → is_started command ≡ true → IsStoreState s → is_open s ≡ true
    → IsStoreState (with_lane s (lane_of command) (Some (started_by family command)))
started_form family s (command.Compact level lo hi) may form now =
    record {
      lanes = λ shut. absurd (both_ways (is_open s) shut now);
      front = form.front;
      behind = λ _. refl;
      compacts = refl;
      few = form.few;
    }
started_form family s command.Release may form now = cc
started_form family s command may form now =
    record {
      lanes = λ shut. absurd (both_ways (is_open s) shut now);
      front = command_keeps family command;
      behind = form.behind;
      compacts = form.compacts;
      few = form.few;
    }

-- ---- all stores

each_put : (family : FamilyState) (number : ℕ) (new : StoreState) → ((store : ℕ) → IsStoreState (family.stores store)) → IsStoreState new
    → (store : ℕ) → IsStoreState ((with_store family number new).stores store)
each_put family number new each form store =
    elim (cases_Bool (store == number)) [
      | inl is ↦ subst IsStoreState (sym (cond-true (store == number) new (family.stores store) is)) form
      | inr other ↦ subst IsStoreState (sym (cond-false (store == number) new (family.stores store) other)) (each store)
    ]

accepted_forms : (family : FamilyState) (line : Line) (ran : Ran) → IsLine line → ((store : ℕ) → IsStoreState (family.stores store))
    → first_cause family line ≡ None → count_in (own_reply family line ran) < 2 ^ 62
    → (store : ℕ) → IsStoreState ((accepted family line ran).stores store)
accepted_forms family (line.Open number) ran is each none told store =
    each_put family number _ each (opened_form (family.stores number) ran.mark.count (each number) told) store
accepted_forms family (line.Close number) ran is each none told store =
    each_put family number _ each (closed_form (family.stores number) (each number)) store
accepted_forms family (line.Stop number) ran is each none told store =
    each_put family number _ each (closed_form (family.stores number) (each number)) store
accepted_forms family (line.Turn number lane) ran is each none told store =
    let now = turn_finds family number lane none in
    each_put family number _ each (turned_form ran.mark.more (family.stores number) lane ran (each number) now told) store
accepted_forms family (line.Whole number command) ran is each none told store =
    each_put (beside family number command ran) number _
    (λ other. subst IsStoreState (sym (beside_stores family number command ran other)) (each other))
    (changed_form (family.stores number) (change_of (effect_of family command) ran) (each number)
    (told_count (family.stores number) command (effect_of family command) ran (command_keeps family command) told (each number).few))
    store
accepted_forms family (line.Start number command) ran is each none told store =
    each_put family number _ each
    (started_form family (family.stores number) command is.2 (each number) (command_finds family number command none).open_there) store
accepted_forms family (line.Table table lines) ran is each none told store =
    subst IsStoreState (sym (table_stores family table (block_of lines) store)) (each store)
accepted_forms family line ran is each none told store = each store

fallen_forms : (family : FamilyState) (line : Line) (ran : Ran) (found : Option ℕ) → ((store : ℕ) → IsStoreState (family.stores store))
    → (store : ℕ) → IsStoreState ((fallen_at family line ran found).stores store)
fallen_forms family line ran None each store = each store
fallen_forms family line ran (Some number) each store =
    each_put family number _ each (fallen_form (family.stores number) (pending_by family line ran) (each number)) store

left_closed_form : (s : StoreState) → IsStoreState s → IsStoreState (left_closed s)
left_closed_form s form = left_by (is_open s) s form refl

withstood_forms : (family : FamilyState) (line : Line) → ((store : ℕ) → IsStoreState (family.stores store))
    → (store : ℕ) → IsStoreState ((withstood family line).stores store)
withstood_forms family (line.Open number) each store =
    each_put family number _ each (left_closed_form (family.stores number) (each number)) store
withstood_forms family (line.Turn number lane) each store =
    each_put family number _ each (emptied_form (family.stores number) lane (each number)) store
withstood_forms family line each store = each store

either_forms : (b : Bool) (x y : FamilyState) (store : ℕ) → IsStoreState (x.stores store) → IsStoreState (y.stores store)
    → IsStoreState ((if b then x else y).stores store)
either_forms true x y store first second = first
either_forms false x y store first second = second

judged_forms : (judged : Option Refusal) (family : FamilyState) (line : Line) (ran : Ran) → IsLine line
    → ((store : ℕ) → IsStoreState (family.stores store))
    → (judged ≡ None → (first_cause family line ≡ None) × (count_in (own_reply family line ran) < 2 ^ 62))
    → (store : ℕ) → IsStoreState ((after_judged judged family line ran).stores store)
judged_forms None family line ran is each told store = accepted_forms family line ran is each (told refl).0 (told refl).1 store
judged_forms (Some refusal) family line ran is each told store =
    either_forms (has_fallen_at family ran (store_named family line)) (fallen_at family line ran (store_named family line))
    (withstood family line) store (fallen_forms family line ran (store_named family line) each store)
    (withstood_forms family line each store)

pub stores_in_form : (family : FamilyState) (line : Line) (ran : Ran) → IsLine line → IsFamily family
    → (refusal_to family line ran ≡ None → (first_cause family line ≡ None) × (count_in (own_reply family line ran) < 2 ^ 62))
    → (store : ℕ) → IsStoreState ((line_after family line ran).stores store)
stores_in_form family line ran is form told = judged_forms (refusal_to family line ran) family line ran is form.each_store told
