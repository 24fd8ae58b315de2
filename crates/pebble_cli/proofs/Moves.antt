-- What the family's machine says of a step, and what it knows after it.
use Rattle.std.proofs.Common.{◌≡◌, ◌≢◌, ℕ, ◌+◌, ◌<◌, ◌^◌, true, false, List, length, slice_index, Option, Some, None, IfSome, inl, inr, sym, subst, arith}
use Rattle.std.proofs.lemmas.Bool.{and_parts, false≢true, le-leb}
use Rattle.pb_keys.specs.Key.{is_key}
use Rattle.pb_keys.specs.Map.{Map}
use Rattle.pb_keys.specs.Value.{is_value}
use Rattle.pb_keys.proofs.Forms.{key_tests}
use Rattle.pb_names.specs.Grammar.{IsName, IsNameByte}
use Rattle.pb_names.specs.Ranges.{is_name}
use Rattle.pb_names.proofs.RangeLemmas.{name_is}
use Rattle.pb_rows.specs.Changing.{Set as SetKey, after as map_after}
use Rattle.pb_reply.specs.declared.refusal.Refusal.{Refusal}
use Rattle.pb_reply.specs.declared.refusal.Refusal.TheVariants.{DiskFault}
use Rattle.pb_reply.specs.declared.reply.Reply.{Reply}
use Rattle.pb_reply.specs.declared.reply.Reply.TheVariants.{Opened, Accepted, Refused}
use Rattle.pb_machine.specs.Family.{is_open as is_open_state}
use Rattle.pb_machine.specs.Replies.{own_reply, refusal_to, reply_or}
use Rattle.pb_machine.specs.After.{after_judged, found_history}
use Rattle.pb_machine.specs.Meeting.{may_meet}
use Rattle.pb_machine.specs.Trail.{count_in, may_fall, must_fall}
use Rattle.pebble_cli.specs.Lines.{is_built}
use Rattle.pebble_cli.specs.Steps.{as_line}
use Rattle.pebble_cli.specs.StoreStates.{has_fallen, met_in, ran_of}
use Rattle.pebble_cli.specs.declared.step.Step.{Step}
use Rattle.pebble_cli.specs.declared.step.Step.TheVariants as step
use Rattle.pebble_cli.specs.declared.store.Store.{Store}
use Rattle.pebble_cli.specs.declared.store.Store.TheVariants.{Open}
use Rattle.pebble_cli.proofs.Alone.{Past, history_of, shown, family}

-- ---- the words of a step that is built

byte_apart : (byte : ℕ) → IsNameByte byte → byte ≢ 64
byte_apart byte (inl letter) is = omega (arith, letter.0, is)
byte_apart byte (inr (inl digit)) is = omega (arith, digit.1, is)
byte_apart byte (inr (inr (inl line))) is = omega (arith, line, is)
byte_apart byte (inr (inr (inr dash))) is = omega (arith, dash, is)

name_key : (name : List ℕ) → is_name name ≡ true → is_key name ≡ true
name_key name named =
    let is : IsName name = name_is name named in
    key_tests name (record {
      some = is.not_empty;
      within = omega (arith, is.short);
      begins = byte_apart (slice_index name 0)
          (is.bytes 0 0 (omega (arith, is.not_empty)));
    })

name_value : (name : List ℕ) → is_name name ≡ true → is_value name ≡ true
name_value name named = let is : IsName name = name_is name named in le-leb (length name) 65536 (omega (arith, is.short))

-- ---- what a step comes to

abbrev pub refused_by : Reply → Option Refusal
refused_by (Refused refusal) = Some refusal
refused_by reply = None

-- what the machine knows after a step
abbrev pub past_after : Store → Step → Reply → Past → Past
past_after (Open held) step.Open reply past = past
past_after (Open held) (step.Set key value) (Accepted n) past =
    record past { history = record past.history { map = map_after past.history.map (SetKey key value) } }
past_after (Open held) (step.Set key value) (Refused DiskFault) past =
    record past { history = record (history_of (Open held) past) { pending = Some (SetKey key value) } }
past_after (Open held) (step.Set key value) reply past = past
past_after (Open held) (step.Get key) reply past = past
past_after before step.Open (Opened n) past = record { opening = past.opening + 1; history = found_history past.history n }
past_after before step.Open reply past = past
past_after before (step.Set key value) reply past = past
past_after before (step.Get key) reply past = past

-- the machine's words of a step, by its reply
pub record Moves (maps : ℕ → Map) (before : Store) (past : Past) (step : Step) (reply : Reply) (after : Store) : Type 0 where
  pub judged : refusal_to (family maps before past) (as_line step) (ran_of reply after) ≡ refused_by reply
  pub answered : reply_or (refused_by reply) (own_reply (family maps before past) (as_line step) (ran_of reply after)) ≡ reply
  pub moved : after_judged (refused_by reply) (family maps before past) (as_line step) (ran_of reply after)
      ≡ family maps after (past_after before step reply past)
  pub met : IfSome (met_in reply) (λ refusal. may_meet (family maps before past) (as_line step) refusal ≡ true)
  pub counted : count_in reply < 2 ^ 62
  pub must : is_open_state (shown before past) ≡ true → must_fall (family maps before past) (as_line step) (refused_by reply) ≡ true
      → has_fallen after ≡ true
  pub only : is_open_state (shown before past) ≡ true → has_fallen after ≡ true
      → may_fall (family maps before past) (as_line step) (refused_by reply) ≡ true

abbrev pub Words : Step → Type 0
Words step.Open = Unit {0}
Words (step.Set key value) = (is_key key ≡ true) × (is_value value ≡ true)
Words (step.Get key) = is_key key ≡ true

pub words_of : (step : Step) → is_built (as_line step) ≡ true → Words step
words_of step.Open is = tt
words_of (step.Set key value) is =
    let names = and_parts (is_name key) (is_name value) is in (name_key key names.0, name_value value names.1)
words_of (step.Get key) is = name_key key is

pub at_both : (P : Reply → Store → Type 0) (one reply : Reply) (old after : Store) → reply ≡ one → after ≡ old → P one old → P reply after
at_both P one reply old after answer stays h = subst (λ (r : Reply). P r after) (sym answer) (subst (λ (s : Store). P one s) (sym stays) h)

pub low : 0 < 2 ^ 62
low = omega arith

pub no : {A : Type 0} → false ≡ true → A
no is = absurd (false≢true is)
