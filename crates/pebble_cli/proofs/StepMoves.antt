-- What the family's machine says of a `set` and a `get`, and of any step.
use Rattle.std.proofs.Common.{◌≡◌, ℕ, ◌+◌, ◌<◌, ◌^◌, Bool, true, false, not, nat_le, if◌then◌else◌, List, Option, Some, None, inl, inr, refl, sym, ap, ◌∙◌, subst}
use Rattle.std.specs.Option.{option_or}
use Rattle.std.specs.FinMap.{get}
use Rattle.std.proofs.lemmas.Bool.{le-leb, lt-leb}
use Rattle.pb_keys.specs.Key.{is_key}
use Rattle.pb_keys.specs.Map.{Map}
use Rattle.pb_keys.specs.Value.{is_value}
use Rattle.pb_rows.specs.Changing.{Set as SetKey, after as map_after}
use Rattle.pb_reply.specs.declared.refusal.Refusal.{Refusal}
use Rattle.pb_reply.specs.declared.refusal.Refusal.TheVariants.{NotOpen, AlreadyOpen, BadKey, TooLarge, NumbersSpent, DiskFault, NoMemory}
use Rattle.pb_reply.specs.declared.reply.Reply.{Reply}
use Rattle.pb_reply.specs.declared.reply.Reply.TheVariants.{Accepted, Refused}
use Rattle.pb_machine.specs.Family.{StoreState, Open as OpenPhase, start, with_store}
use Rattle.pb_machine.specs.Causes.{first_cause, when}
use Rattle.pb_machine.specs.Replies.{is_no_memory}
use Rattle.pb_machine.specs.Trail.{looked_up}
use Rattle.pebble_cli.specs.Lines.{store_a}
use Rattle.pebble_cli.specs.Steps.{as_line}
use Rattle.pebble_cli.specs.Store.{Held}
use Rattle.pebble_cli.specs.StoreStates.{Acts, Gets, Sets}
use Rattle.pebble_cli.specs.declared.step.Step.{Step}
use Rattle.pebble_cli.specs.declared.step.Step.TheVariants as step
use Rattle.pebble_cli.specs.declared.store.Store.{Store}
use Rattle.pebble_cli.specs.declared.store.Store.TheVariants.{Closed, Open, Down}
use Rattle.pebble_cli.proofs.Alone.{Past, shown, family, family_put}
use Rattle.pebble_cli.proofs.Moves.{Moves, Words, at_both, low, no, past_after}
use Rattle.pebble_cli.proofs.OpenMoves.{already, opens_closed, opens_down}

-- ---- commands of a store that isn't open

closed_stays : (maps : ℕ → Map) (past : Past) (key value : List ℕ) → Moves maps Closed past (step.Set key value) (Refused NotOpen) Closed
    × Moves maps Closed past (step.Get key) (Refused NotOpen) Closed
closed_stays maps past key value = (
  record {
    judged = refl;
    answered = refl;
    moved = refl;
    met = tt;
    counted = low;
    must = λ opened _. no opened;
    only = λ opened _. no opened;
  },
  record {
    judged = refl;
    answered = refl;
    moved = refl;
    met = tt;
    counted = low;
    must = λ opened _. no opened;
    only = λ opened _. no opened;
  },
)

down_stays : (maps : ℕ → Map) (past : Past) (key value : List ℕ) → Moves maps Down past (step.Set key value) (Refused NotOpen) Down
    × Moves maps Down past (step.Get key) (Refused NotOpen) Down
down_stays maps past key value = (
  record {
    judged = refl;
    answered = refl;
    moved = refl;
    met = tt;
    counted = low;
    must = λ opened _. no opened;
    only = λ opened _. no opened;
  },
  record {
    judged = refl;
    answered = refl;
    moved = refl;
    met = tt;
    counted = low;
    must = λ opened _. no opened;
    only = λ opened _. no opened;
  },
)

-- ---- commands of an open store

-- the refusal, by what the work met and the first cause
abbrev judge : Option Refusal → Option Refusal → Option Refusal
judge met cause = if is_no_memory met then Some NoMemory else option_or cause met

or_none : (cause : Option Refusal) → option_or cause None ≡ cause
or_none None = refl
or_none (Some refusal) = refl

words_fit : (key value : Bool) (rest : Option Refusal) → key ≡ true → value ≡ true
    → option_or (when (not key) BadKey) (option_or (when (not value) TooLarge) rest) ≡ rest
words_fit key value rest is fits =
    ap (λ b. option_or (when (not b) BadKey) (option_or (when (not value) TooLarge) rest)) is
    ∙ ap (λ b. option_or (when (not b) TooLarge) rest) fits

module _ (maps : ℕ → Map) (held : Held) (past : Past) (key value : List ℕ) (words : Words (step.Set key value)) where
  abbrev is_spent : Bool
  is_spent = nat_le (2 ^ 62) (held.count + 1)

  set_causes : (spent : Bool) → is_spent ≡ spent → first_cause (family maps (Open held) past)
      (as_line (step.Set key value)) ≡ when spent NumbersSpent
  set_causes spent is =
      words_fit (is_key key) (is_value value) (option_or (when is_spent NumbersSpent) None) words.0 words.1
      ∙ or_none (when is_spent NumbersSpent)
      ∙ ap (λ b. when b NumbersSpent) is

  abbrev set_state : ℕ → StoreState
  set_state count =
      record {
        phase = OpenPhase;
        opening = past.opening;
        history = record { has_begun = true; count = count; map = map_after past.history.map (SetKey key value); pending = None };
        fg = None;
        bg = None;
      }

  pub sets_moves : (reply : Reply) (after : Store) → Sets held key value reply after
      → Moves maps (Open held) past (step.Set key value) reply after
  sets_moves (Accepted n) (Open new) is = record {
    judged = ap (judge None) (set_causes false (lt-leb (2 ^ 62) (held.count + 1) (subst (λ (m : ℕ). m < 2 ^ 62) is.0 is.1)));
    answered = ap (λ (m : ℕ). Accepted m) (sym is.0);
    moved = family_put maps (shown (Open held) past) (set_state (held.count + 1))
        ∙ ap (λ (count : ℕ). with_store (start maps) store_a (set_state count)) (sym is.0 ∙ sym is.2);
    met = tt;
    counted = is.1;
    must = λ _ told. no told;
    only = λ _ told. no told;
  }
  sets_moves (Refused NumbersSpent) after is =
      at_both (Moves maps (Open held) past (step.Set key value)) (Refused NumbersSpent) (Refused NumbersSpent) (Open held) after refl is.1
      (record {
        judged = ap (judge None) (set_causes true (le-leb (2 ^ 62) (held.count + 1) is.0));
        answered = refl;
        moved = refl;
        met = tt;
        counted = low;
        must = λ _ told. no told;
        only = λ _ told. no told;
      })
  sets_moves (Refused DiskFault) after is =
      at_both (Moves maps (Open held) past (step.Set key value)) (Refused DiskFault) (Refused DiskFault) Down after refl is.1
      (record {
        judged = ap (judge (Some DiskFault)) (set_causes false (lt-leb (2 ^ 62) (held.count + 1) is.0));
        answered = refl;
        moved =
            family_put maps (shown (Open held) past) (shown Down (past_after (Open held) (step.Set key value) (Refused DiskFault) past));
        met = refl;
        counted = low;
        must = λ _ _. refl;
        only = λ _ _. refl;
      })
  sets_moves (Refused NoMemory) after is =
      at_both (Moves maps (Open held) past (step.Set key value)) (Refused NoMemory) (Refused NoMemory) (Open held) after refl is
      (record {
        judged = refl;
        answered = refl;
        moved = refl;
        met = refl;
        counted = low;
        must = λ _ told. no told;
        only = λ _ told. no told;
      })
  sets_moves reply after is = absurd is

module _ (maps : ℕ → Map) (held : Held) (past : Past) (key : List ℕ) (word : is_key key ≡ true) where
  get_causes : first_cause (family maps (Open held) past) (as_line (step.Get key)) ≡ None
  get_causes = ap (λ b. option_or (when (not b) BadKey) None) word

  got : (found : Option (List ℕ)) → Moves maps (Open held) past (step.Get key) (looked_up found) (Open held)
  got None = record {
    judged = ap (judge None) get_causes;
    answered = refl;
    moved = family_put maps (shown (Open held) past) (shown (Open held) past);
    met = tt;
    counted = low;
    must = λ _ told. no told;
    only = λ _ told. no told;
  }
  got (Some value) = record {
    judged = ap (judge None) get_causes;
    answered = refl;
    moved = family_put maps (shown (Open held) past) (shown (Open held) past);
    met = tt;
    counted = low;
    must = λ _ told. no told;
    only = λ _ told. no told;
  }

  pub gets_moves : (reply : Reply) (after : Store) → Gets held key reply → after ≡ Open held
      → Moves maps (Open held) past (step.Get key) reply after
  gets_moves reply after (inl none) same =
      at_both (Moves maps (Open held) past (step.Get key)) (Refused NoMemory) reply (Open held) after none same
      (record {
        judged = refl;
        answered = refl;
        moved = refl;
        met = refl;
        counted = low;
        must = λ _ told. no told;
        only = λ _ told. no told;
      })
  gets_moves reply after (inr is) same =
      at_both (Moves maps (Open held) past (step.Get key)) (looked_up (get held.map key)) reply (Open held) after is same
      (got (get held.map key))

-- ---- any step

pub moves : (maps : ℕ → Map) (before : Store) (past : Past) (step : Step) (reply : Reply) (after : Store) → Words step
    → Acts before step reply after
    → Moves maps before past step reply after
moves maps (Open held) past step.Open reply after words acts =
    at_both (Moves maps (Open held) past step.Open) (Refused AlreadyOpen) reply (Open held) after acts.0 acts.1 (already maps held past)
moves maps (Open held) past (step.Set key value) reply after words acts = sets_moves maps held past key value words reply after acts
moves maps (Open held) past (step.Get key) reply after words acts = gets_moves maps held past key words reply after acts.0 acts.1
moves maps Closed past step.Open reply after words acts = opens_closed maps past reply after acts
moves maps Closed past (step.Set key value) reply after words acts =
    at_both (Moves maps Closed past (step.Set key value)) (Refused NotOpen) reply Closed after acts.0 acts.1
    (closed_stays maps past key value).0
moves maps Closed past (step.Get key) reply after words acts =
    at_both (Moves maps Closed past (step.Get key)) (Refused NotOpen) reply Closed after acts.0 acts.1 (closed_stays maps past key key).1
moves maps Down past step.Open reply after words acts = opens_down maps past reply after acts
moves maps Down past (step.Set key value) reply after words acts =
    at_both (Moves maps Down past (step.Set key value)) (Refused NotOpen) reply Down after acts.0 acts.1 (down_stays maps past key value).0
moves maps Down past (step.Get key) reply after words acts =
    at_both (Moves maps Down past (step.Get key)) (Refused NotOpen) reply Down after acts.0 acts.1 (down_stays maps past key key).1
