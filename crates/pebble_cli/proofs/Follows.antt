-- What a step says of a store's history: what an opening finds, what a `get` reads, and what is held after it.
use Rattle.std.proofs.Common.{◌≡◌, ℕ, true, false, inl, inr, List, Option, Some, None, MatchBool, refl, sym, ap, ◌∙◌, subst}
use Rattle.std.specs.FinMap.{get}
use Rattle.std.proofs.lemmas.Bool.{cases_Bool, true≢false}
use Rattle.pb_devices.specs.Contents.{Contents}
use Rattle.pb_keys.specs.Map.{Map}
use Rattle.pb_reply.specs.declared.refusal.Refusal.{Refusal}
use Rattle.pb_reply.specs.declared.refusal.Refusal.TheVariants.{NotOpen, AlreadyOpen, NumbersSpent, Damaged, DiskFault, NoMemory}
use Rattle.pb_reply.specs.declared.reply.Reply.{Reply}
use Rattle.pb_reply.specs.declared.reply.Reply.TheVariants.{Opened, Accepted, Refused}
use Rattle.pb_rows.specs.Changing.{Set as SetKey, after as map_after}
use Rattle.pb_machine.specs.Family.{is_open as is_open_state}
use Rattle.pb_machine.specs.After.{found_map}
use Rattle.pb_machine.specs.Agreement.{IsAccepted, IsHistory, IsKept}
use Rattle.pb_machine.specs.Trail.{FindsAt, IsHistoryCount, ReadsMap, looked_up}
use Rattle.pb_gate_log.specs.Payloads.{payloads_in}
use Rattle.pebble_cli.specs.Folder.{Replays}
use Rattle.pebble_cli.specs.Headline.{MayStandFor, StoodFor}
use Rattle.pebble_cli.specs.Lines.{store_a}
use Rattle.pebble_cli.specs.Steps.{as_line}
use Rattle.pebble_cli.specs.Store.{Held}
use Rattle.pebble_cli.specs.StoreStates.{Acts, Finds, Gets, Opens, Sets, map_in, ran_of, read_in}
use Rattle.pebble_cli.specs.declared.step.Step.{Step}
use Rattle.pebble_cli.specs.declared.step.Step.TheVariants as step
use Rattle.pebble_cli.specs.declared.store.Store.{Store}
use Rattle.pebble_cli.specs.declared.store.Store.TheVariants.{Closed, Open, Down}
use Rattle.pebble_cli.proofs.SetFacts.{one_make}
use Rattle.pebble_cli.proofs.Alone.{Past, family, history_of, shown}
use Rattle.pebble_cli.proofs.Moves.{Moves, at_both, past_after}
use Rattle.pebble_cli.proofs.Found.{at_true, at_false, of_true, of_false, found_kept, found_first}

-- ---- what an image stands for, between two steps

abbrev pub Holds : Contents → Store → Past → ℕ → Map → Type 0
Holds entry store past n m =
    MatchBool (is_open_state (shown store past)) (IsAccepted (shown store past).history n m)
    (IsKept (StoodFor entry store_a) (shown store past).history n m)

abbrev pub Stands : Contents → Store → Past → Option (List ℕ) → Type 0
Stands entry store past image = (n : ℕ) × (m : Map) × Replays (payloads_in image) n m × Holds entry store past n m

-- what an open store holds is what the machine says
abbrev pub Agrees : Store → Past → Type 0
Agrees (Open held) past = held.map ≡ past.history.map
Agrees store past = Unit {0}

abbrev pub Begins : (ℕ → Map) → Store → Past → Type 0
Begins maps store past = (history_of store past).has_begun ≡ false → past.history.map ≡ maps store_a

-- the maps are those that the store's first opening finds
abbrev pub Chosen : (ℕ → Map) → Store → Type 0
Chosen maps (Open held) = maps store_a ≡ held.map
Chosen maps store = Unit {0}

-- ---- what a step says of the history

pub record Follows (entry : Contents) (maps : ℕ → Map) (before : Store) (past : Past) (step : Step) (reply : Reply)
    (after : Store) : Type 0 where
  pub found : FindsAt (StoodFor entry) (family maps before past) (as_line step) (ran_of reply after)
  pub read : ReadsMap (family maps before past) (as_line step) (ran_of reply after)
  pub agrees : Agrees after (past_after before step reply past)
  pub begins : Begins maps after (past_after before step reply past)
  pub begun : (history_of before past).has_begun ≡ true → (history_of after (past_after before step reply past)).has_begun ≡ true

some_none : (refusal : Refusal) → ◌≡◌ {A = Option Refusal} (Some refusal) None → ⊥
some_none refusal is = cc

-- an opening's reply, and the store that it leaves
abbrev pub OpensAs : Reply → Store → Type 0
OpensAs (Opened n) (Open held) = Unit {0}
OpensAs (Refused refusal) Closed = Unit {0}
OpensAs reply store = ⊥

pub opens_as : (reply : Reply) (after : Store) → Opens reply after → OpensAs reply after
opens_as (Opened n) (Open held) opens = tt
opens_as (Refused (Damaged file)) Closed opens = tt
opens_as (Refused DiskFault) Closed opens = tt
opens_as (Refused NoMemory) Closed opens = tt
opens_as reply after opens = absurd opens

-- nothing is asked of a refused line
refused_finds : (entry : Contents) (maps : ℕ → Map) (before : Store) (past : Past) (step : Step) (refusal : Refusal) (after : Store)
    → Moves maps before past step (Refused refusal) after
    → FindsAt (StoodFor entry) (family maps before past) (as_line step) (ran_of (Refused refusal) after)
    × ReadsMap (family maps before past) (as_line step) (ran_of (Refused refusal) after)
refused_finds entry maps before past step.Open refusal after moves =
    ((λ none. absurd (some_none refusal (sym moves.judged ∙ none))), (λ none. absurd (some_none refusal (sym moves.judged ∙ none))))
refused_finds entry maps before past (step.Set key value) refusal after moves =
    (tt, (λ none. absurd (some_none refusal (sym moves.judged ∙ none))))
refused_finds entry maps before past (step.Get key) refusal after moves =
    (tt, (λ none. absurd (some_none refusal (sym moves.judged ∙ none))))

module _ (entry : Contents) (maps : ℕ → Map) (past : Past) where
  -- an opening, by what was kept
  opened_follows : (n : ℕ) (held : Held) → (past.history.has_begun ≡ false → maps store_a ≡ held.map)
      → (past.history.has_begun ≡ false → past.history.map ≡ maps store_a)
      → IsKept (StoodFor entry store_a) past.history n held.map
      → MatchBool past.history.has_begun (IsHistoryCount past.history n) (MayStandFor entry n past.history.map)
      × (held.map ≡ found_map past.history n)
  opened_follows n held chosen first kept =
      let history = past.history in
      elim (cases_Bool history.has_begun) [
        | inl begun ↦
            let found = found_kept history n held.map begun (of_true history.has_begun (IsHistory history n held.map)
            (MayStandFor entry n held.map) begun kept) in
            (at_true history.has_begun (IsHistoryCount history n) (MayStandFor entry n history.map) begun found.0, found.1)
        | inr unbegun ↦
            let same : held.map ≡ history.map = sym (chosen unbegun) ∙ sym (first unbegun) in
            let stood = of_false history.has_begun (IsHistory history n held.map) (MayStandFor entry n held.map) unbegun kept in (
              at_false history.has_begun (IsHistoryCount history n) (MayStandFor entry n history.map) unbegun
                  (subst (λ (m : Map). MayStandFor entry n m) same stood),
              same ∙ sym (found_first history n unbegun),
            )
      ]

  -- what an image stood for is what the opening found
  kept_at : (list : List (List ℕ)) (n k : ℕ) (m l : Map) → Replays list n m → Replays list k l
      → IsKept (StoodFor entry store_a) past.history n m
      → IsKept (StoodFor entry store_a) past.history k l
  kept_at list n k m l one other kept =
      let same = one_make list n k m l one other in
      subst (λ (x : Map). IsKept (StoodFor entry store_a) past.history k x) same.1
      (subst (λ (c : ℕ). IsKept (StoodFor entry store_a) past.history c m) same.0 kept)

  -- ---- each step

  module _ (list : List (List ℕ)) where
    -- reads gave this list before the step, and what it makes is what was held
    abbrev Stood : Store → Type 0
    Stood before = (n : ℕ) × (m : Map) × Replays list n m × Holds entry before past n m

    opens_follow_closed : (reply : Reply) (after : Store) → OpensAs reply after → Moves maps Closed past step.Open reply after
        → Stood Closed → Begins maps Closed past
        → Finds list step.Open reply (map_in after) → (past.history.has_begun ≡ false → Chosen maps after)
        → Follows entry maps Closed past step.Open reply after
    opens_follow_closed (Opened n) (Open held) opens moves stood begins found chosen =
        let follows = opened_follows n held chosen begins (kept_at list stood.0 n stood.1 held.map stood.2 found stood.3) in
        record { found = λ _. follows.0; read = λ _. tt; agrees = follows.1; begins = λ is. absurd (true≢false is); begun = λ _. refl }
    opens_follow_closed (Refused refusal) Closed opens moves stood begins found chosen =
        let finds = refused_finds entry maps Closed past step.Open refusal Closed moves in
        record { found = finds.0; read = finds.1; agrees = tt; begins = begins; begun = λ is. is }
    opens_follow_closed reply after opens moves stood begins found chosen = absurd opens

    opens_follow_down : (reply : Reply) (after : Store) → OpensAs reply after → Moves maps Down past step.Open reply after → Stood Down
        → Begins maps Down past
        → Finds list step.Open reply (map_in after) → (past.history.has_begun ≡ false → Chosen maps after)
        → Follows entry maps Down past step.Open reply after
    opens_follow_down (Opened n) (Open held) opens moves stood begins found chosen =
        let follows = opened_follows n held chosen begins (kept_at list stood.0 n stood.1 held.map stood.2 found stood.3) in
        record { found = λ _. follows.0; read = λ _. tt; agrees = follows.1; begins = λ is. absurd (true≢false is); begun = λ _. refl }
    opens_follow_down (Refused refusal) Closed opens moves stood begins found chosen =
        let finds = refused_finds entry maps Down past step.Open refusal Closed moves in
        record { found = finds.0; read = finds.1; agrees = tt; begins = begins; begun = λ is. is }
    opens_follow_down reply after opens moves stood begins found chosen = absurd opens

-- a line that is refused and leaves the store and what the machine knows of it
refused_follows : (entry : Contents) (maps : ℕ → Map) (before : Store) (past : Past) (step : Step) (refusal : Refusal)
    → past_after before step (Refused refusal) past ≡ past → Moves maps before past step (Refused refusal) before → Agrees before past
    → Begins maps before past
    → Follows entry maps before past step (Refused refusal) before
refused_follows entry maps before past step refusal same moves agrees begins =
    let finds = refused_finds entry maps before past step refusal before moves in
    record {
      found = finds.0;
      read = finds.1;
      agrees = subst (λ (p : Past). Agrees before p) (sym same) agrees;
      begins = subst (λ (p : Past). Begins maps before p) (sym same) begins;
      begun =
          subst (λ (p : Past). (history_of before past).has_begun ≡ true → (history_of before p).has_begun ≡ true) (sym same) (λ is. is);
    }

read_same : (found : Option (List ℕ)) → read_in (looked_up found) ≡ looked_up found
read_same None = refl
read_same (Some value) = refl

module _ (entry : Contents) (maps : ℕ → Map) (held : Held) (past : Past) (agrees : held.map ≡ past.history.map) where
  begun_open : Begins maps (Open held) past
  begun_open is = absurd (true≢false is)

  sets_follow : (key value : List ℕ) (reply : Reply) (after : Store) → Sets held key value reply after
      → Moves maps (Open held) past (step.Set key value) reply after
      → Follows entry maps (Open held) past (step.Set key value) reply after
  sets_follow key value (Accepted n) (Open new) sets moves = record {
    found = tt;
    read = λ _. tt;
    agrees = sets.3 ∙ ap (λ (m : Map). map_after m (SetKey key value)) agrees;
    begins = λ is. absurd (true≢false is);
    begun = λ _. refl;
  }
  sets_follow key value (Refused DiskFault) after sets moves =
      at_both (λ reply after. Moves maps (Open held) past (step.Set key value) reply after
      → Follows entry maps (Open held) past (step.Set key value) reply after)
      (Refused DiskFault) (Refused DiskFault) Down after refl sets.1
      (λ moves.
      let finds = refused_finds entry maps (Open held) past (step.Set key value) DiskFault Down moves in
      record { found = finds.0; read = finds.1; agrees = tt; begins = λ is. absurd (true≢false is); begun = λ _. refl })
      moves
  sets_follow key value (Refused NumbersSpent) after sets moves =
      at_both (λ reply after. Moves maps (Open held) past (step.Set key value) reply after
      → Follows entry maps (Open held) past (step.Set key value) reply after)
      (Refused NumbersSpent) (Refused NumbersSpent) (Open held) after refl sets.1
      (λ moves. refused_follows entry maps (Open held) past (step.Set key value) NumbersSpent refl moves agrees begun_open) moves
  sets_follow key value (Refused NoMemory) after sets moves =
      at_both (λ reply after. Moves maps (Open held) past (step.Set key value) reply after
      → Follows entry maps (Open held) past (step.Set key value) reply after)
      (Refused NoMemory) (Refused NoMemory) (Open held) after refl sets
      (λ moves. refused_follows entry maps (Open held) past (step.Set key value) NoMemory refl moves agrees begun_open) moves
  sets_follow key value reply after sets moves = absurd sets

  gets_follow : (key : List ℕ) (reply : Reply) (after : Store) → Gets held key reply → after ≡ Open held
      → Moves maps (Open held) past (step.Get key) reply after
      → Follows entry maps (Open held) past (step.Get key) reply after
  gets_follow key reply after (inl none) same moves =
      at_both (λ reply after. Moves maps (Open held) past (step.Get key) reply after
      → Follows entry maps (Open held) past (step.Get key) reply after)
      (Refused NoMemory) reply (Open held) after none same
      (λ moves. refused_follows entry maps (Open held) past (step.Get key) NoMemory refl moves agrees begun_open) moves
  gets_follow key reply after (inr is) same moves =
      at_both (λ reply after. Follows entry maps (Open held) past (step.Get key) reply after)
      (looked_up (get held.map key)) reply (Open held) after is same
      (record {
        found = tt;
        read = λ _. read_same (get held.map key) ∙ ap (λ (m : Map). looked_up (get m key)) agrees;
        agrees = agrees;
        begins = begun_open;
        begun = λ _. refl;
      })

pub follows : (entry : Contents) (maps : ℕ → Map) (list : List (List ℕ)) (before : Store) (past : Past) (step : Step) (reply : Reply)
    (after : Store)
    → Acts before step reply after → Moves maps before past step reply after → Agrees before past → Begins maps before past
    → ((n : ℕ) × (m : Map) × Replays list n m × Holds entry before past n m)
    → Finds list step reply (map_in after) → ((history_of before past).has_begun ≡ false → Chosen maps after)
    → Follows entry maps before past step reply after
follows entry maps list (Open held) past step.Open reply after acts moves agrees begins stood found chosen =
    at_both (λ reply after. Moves maps (Open held) past step.Open reply after → Follows entry maps (Open held) past step.Open reply after)
    (Refused AlreadyOpen) reply (Open held) after acts.0 acts.1
    (λ moves. refused_follows entry maps (Open held) past step.Open AlreadyOpen refl moves agrees begins) moves
follows entry maps list (Open held) past (step.Set key value) reply after acts moves agrees begins stood found chosen =
    sets_follow entry maps held past agrees key value reply after acts moves
follows entry maps list (Open held) past (step.Get key) reply after acts moves agrees begins stood found chosen =
    gets_follow entry maps held past agrees key reply after acts.0 acts.1 moves
follows entry maps list Closed past step.Open reply after acts moves agrees begins stood found chosen =
    opens_follow_closed entry maps past list reply after (opens_as reply after acts) moves stood begins found chosen
follows entry maps list Closed past (step.Set key value) reply after acts moves agrees begins stood found chosen =
    at_both (λ reply after. Moves maps Closed past (step.Set key value) reply after
    → Follows entry maps Closed past (step.Set key value) reply after)
    (Refused NotOpen) reply Closed after acts.0 acts.1
    (λ moves. refused_follows entry maps Closed past (step.Set key value) NotOpen refl moves tt begins) moves
follows entry maps list Closed past (step.Get key) reply after acts moves agrees begins stood found chosen =
    at_both (λ reply after. Moves maps Closed past (step.Get key) reply after → Follows entry maps Closed past (step.Get key) reply after)
    (Refused NotOpen) reply Closed after acts.0 acts.1
    (λ moves. refused_follows entry maps Closed past (step.Get key) NotOpen refl moves tt begins) moves
follows entry maps list Down past step.Open reply after acts moves agrees begins stood found chosen =
    opens_follow_down entry maps past list reply after (opens_as reply after acts) moves stood begins found chosen
follows entry maps list Down past (step.Set key value) reply after acts moves agrees begins stood found chosen =
    at_both (λ reply after. Moves maps Down past (step.Set key value) reply after
    → Follows entry maps Down past (step.Set key value) reply after)
    (Refused NotOpen) reply Down after acts.0 acts.1
    (λ moves. refused_follows entry maps Down past (step.Set key value) NotOpen refl moves tt begins) moves
follows entry maps list Down past (step.Get key) reply after acts moves agrees begins stood found chosen =
    at_both (λ reply after. Moves maps Down past (step.Get key) reply after → Follows entry maps Down past (step.Get key) reply after)
    (Refused NotOpen) reply Down after acts.0 acts.1
    (λ moves. refused_follows entry maps Down past (step.Get key) NotOpen refl moves tt begins) moves
