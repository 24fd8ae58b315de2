-- What a step leaves of the images of a folder that isn't open after it.
use Rattle.std.proofs.Common.{◌≡◌, ℕ, ◌+◌, ◌⊎◌, inl, inr, List, Option, Some, refl, sym, ap, subst}
use Rattle.pb_devices.specs.Contents.{Contents, MayLeave}
use Rattle.pb_keys.specs.Map.{Map}
use Rattle.pb_reply.specs.declared.refusal.Refusal.TheVariants.{NumbersSpent, DiskFault, NoMemory}
use Rattle.pb_reply.specs.declared.reply.Reply.{Reply}
use Rattle.pb_reply.specs.declared.reply.Reply.TheVariants.{Opened, Accepted, Refused}
use Rattle.pb_rows.specs.Changing.{Set as SetKey, after as map_after}
use Rattle.pb_machine.specs.Agreement.{IsHistory, IsKept}
use Rattle.pebble_cli.specs.Folder.{log_name, Replays, HasFrom}
use Rattle.pebble_cli.specs.Headline.{StoodFor}
use Rattle.pebble_cli.specs.Lines.{store_a}
use Rattle.pebble_cli.specs.Store.{Held}
use Rattle.pebble_cli.specs.StoreStates.{Acts, IsSetBy, Keeps, Sets}
use Rattle.pebble_cli.specs.declared.step.Step.{Step}
use Rattle.pebble_cli.specs.declared.step.Step.TheVariants as step
use Rattle.pebble_cli.specs.declared.store.Store.{Store}
use Rattle.pebble_cli.specs.declared.store.Store.TheVariants.{Closed, Open, Down}
use Rattle.pebble_cli.proofs.LoggedFacts.{open_image}
use Rattle.pebble_cli.proofs.Alone.{Past, history_of}
use Rattle.pebble_cli.proofs.Moves.{past_after}
use Rattle.pebble_cli.proofs.Follows.{Holds, Stands, Agrees, OpensAs, opens_as}

-- ---- what a step leaves of the images

-- of a store that isn't open after it
abbrev IsShut : Store → Type 0
IsShut (Open held) = ⊥
IsShut store = Unit {0}

-- what the folder may stand for, where the images are those of before
module _ (entry : Contents) (n : ℕ) (m : Map) where
  opened_holds : (before : Store) (past : Past) (reply : Reply) (after : Store) → OpensAs reply after → IsShut after
      → IsKept (StoodFor entry store_a) past.history n m
      → (past_after before step.Open reply past ≡ past) → Holds entry after (past_after before step.Open reply past) n m
  opened_holds before past (Refused refusal) Closed opens shut kept same =
      subst (λ (p : Past). IsKept (StoodFor entry store_a) p.history n m) (sym same) kept
  opened_holds before past (Opened k) (Open held) opens shut kept same = absurd shut
  opened_holds before past reply after opens shut kept same = absurd opens

  same_closed : (past : Past) (reply : Reply) (after : Store) → OpensAs reply after → IsShut after
      → past_after Closed step.Open reply past ≡ past
  same_closed past (Refused refusal) Closed opens shut = refl
  same_closed past (Opened k) (Open held) opens shut = absurd shut
  same_closed past reply after opens shut = absurd opens

  same_down : (past : Past) (reply : Reply) (after : Store) → OpensAs reply after → IsShut after
      → past_after Down step.Open reply past ≡ past
  same_down past (Refused refusal) Closed opens shut = refl
  same_down past (Opened k) (Open held) opens shut = absurd shut
  same_down past reply after opens shut = absurd opens

  set_holds : (held : Held) (past : Past) (key value : List ℕ) (reply : Reply) (after : Store) → Sets held key value reply after
      → IsShut after
      → IsHistory (record (history_of (Open held) past) { pending = Some (SetKey key value) }) n m
      → Holds entry after (past_after (Open held) (step.Set key value) reply past) n m
  set_holds held past key value (Refused DiskFault) after sets shut history =
      subst (λ (s : Store). Holds entry s (past_after (Open held) (step.Set key value) (Refused DiskFault) past) n m) (sym sets.1) history
  set_holds held past key value (Refused NumbersSpent) after sets shut history = absurd (subst IsShut sets.1 shut)
  set_holds held past key value (Refused NoMemory) after sets shut history = absurd (subst IsShut sets shut)
  set_holds held past key value (Accepted k) (Open new) sets shut history = absurd shut
  set_holds held past key value reply after sets shut history = absurd sets

  kept_holds : (before : Store) (past : Past) (step : Step) (reply : Reply) (after : Store) → Acts before step reply after → IsShut after
      → Holds entry before past n m → Holds entry after (past_after before step reply past) n m
  kept_holds (Open held) past step.Open reply after acts shut holds = absurd (subst IsShut acts.1 shut)
  kept_holds (Open held) past (step.Set key value) reply after acts shut holds =
      set_holds held past key value reply after acts shut (inl holds)
  kept_holds (Open held) past (step.Get key) reply after acts shut holds = absurd (subst IsShut acts.1 shut)
  kept_holds Closed past step.Open reply after acts shut holds =
      let opens = opens_as reply after acts in opened_holds Closed past reply after opens shut holds
      (same_closed past reply after opens shut)
  kept_holds Closed past (step.Set key value) reply after acts shut holds = subst (λ (s : Store). Holds entry s past n m) (sym acts.1) holds
  kept_holds Closed past (step.Get key) reply after acts shut holds = subst (λ (s : Store). Holds entry s past n m) (sym acts.1) holds
  kept_holds Down past step.Open reply after acts shut holds =
      let opens = opens_as reply after acts in opened_holds Down past reply after opens shut holds (same_down past reply after opens shut)
  kept_holds Down past (step.Set key value) reply after acts shut holds = subst (λ (s : Store). Holds entry s past n m) (sym acts.1) holds
  kept_holds Down past (step.Get key) reply after acts shut holds = subst (λ (s : Store). Holds entry s past n m) (sym acts.1) holds

-- a `set` whose command may be in the log
set_stands : (entry : Contents) (before : Store) (past : Past) (step : Step) (reply : Reply) (after : Store) (image : Option (List ℕ))
    → Acts before step reply after → Agrees before past
    → IsShut after → IsSetBy before step image → Stands entry after (past_after before step reply past) image
set_stands entry (Open held) past (step.Set key value) reply after image acts agrees shut by =
    elim by [
      | inl make ↦ (
        held.count,
        held.map,
        make,
        set_holds entry held.count held.map held past key value reply after acts shut
            (inl (refl, agrees)),
      )
      | inr make ↦ (
        held.count + 1,
        map_after held.map (SetKey key value),
        make,
        set_holds entry (held.count + 1) (map_after held.map (SetKey key value)) held past key value reply after acts shut
            (inr (refl, ap (λ (l : Map). map_after l (SetKey key value)) agrees)),
      )
    ]
set_stands entry (Open held) past step.Open reply after image acts agrees shut by = absurd by
set_stands entry (Open held) past (step.Get key) reply after image acts agrees shut by = absurd by
set_stands entry Closed past step reply after image acts agrees shut by = absurd by
set_stands entry Down past step reply after image acts agrees shut by = absurd by

shut_image : (entry old : Contents) (before : Store) (past : Past) (step : Step) (reply : Reply) (after : Store)
    (image : Option (List ℕ)) → Acts before step reply after → Agrees before past → IsShut after
    → ((other : Option (List ℕ)) → MayLeave old log_name other → Stands entry before past other)
    → HasFrom old image ⊎ IsSetBy before step image
    → Stands entry after (past_after before step reply past) image
shut_image entry old before past step reply after image acts agrees shut stood left =
    elim left [
      | inl from ↦
          let stands = stood from.0 from.1 in (
            stands.0,
            stands.1,
            subst (λ (l : List (List ℕ)). Replays l stands.0 stands.1) (sym from.2) stands.2,
            kept_holds entry stands.0 stands.1 before past step reply after acts shut stands.3,
          )
      | inr by ↦ set_stands entry before past step reply after image acts agrees shut by
    ]

pub step_image : (entry old new : Contents) (before : Store) (past : Past) (step : Step) (reply : Reply) (after : Store)
    (image : Option (List ℕ)) → Acts before step reply after → Agrees before past
    → Agrees after (past_after before step reply past) → Keeps after new
    → ((other : Option (List ℕ)) → MayLeave old log_name other → Stands entry before past other)
    → HasFrom old image ⊎ IsSetBy before step image
    → MayLeave new log_name image → Stands entry after (past_after before step reply past) image
step_image entry old new before past step reply (Open held) image acts agrees now keeps stood left here =
    (held.count, held.map, open_image held new image keeps here, (refl, now))
step_image entry old new before past step reply Closed image acts agrees now keeps stood left here =
    shut_image entry old before past step reply Closed image acts agrees tt stood left
step_image entry old new before past step reply Down image acts agrees now keeps stood left here =
    shut_image entry old before past step reply Down image acts agrees tt stood left
