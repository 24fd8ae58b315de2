-- What a step of a store in memory tells of damage: only an opening finds it, and only in the log.
use Rattle.std.proofs.Common.{◌≡◌, ℕ, List, Option, Some, None, inl, inr, refl, sym, ap, ◌∙◌, arith}
use Rattle.std.specs.FinMap.{get}
use Rattle.pb_keys.specs.Map.{Map}
use Rattle.pb_reply.specs.Refusals.{refusal_number}
use Rattle.pb_reply.specs.declared.refusal.Refusal.{Refusal}
use Rattle.pb_reply.specs.declared.refusal.Refusal.TheVariants.{Damaged, DiskFault, NoMemory}
use Rattle.pb_reply.specs.declared.reply.Reply.{Reply}
use Rattle.pb_reply.specs.declared.reply.Reply.TheVariants.{Opened, Refused}
use Rattle.pb_machine.specs.Trail.{looked_up, refusal_in}
use Rattle.pebble_cli.specs.Folder.{log_name, Replays}
use Rattle.pebble_cli.specs.Runs.{IsOfLog}
use Rattle.pebble_cli.specs.StoreStates.{Acts, Finds, Opens, met_in, ran_of}
use Rattle.pebble_cli.specs.declared.step.Step.{Step}
use Rattle.pebble_cli.specs.declared.step.Step.TheVariants as step
use Rattle.pebble_cli.specs.declared.store.Store.{Store}
use Rattle.pebble_cli.specs.declared.store.Store.TheVariants.{Closed, Open, Down}

abbrev pub IsOpening : Step → Type 0
IsOpening step.Open = Unit {0}
IsOpening other = ⊥

opens_damaged : (file : List ℕ) (after : Store) → Opens (Refused (Damaged file)) after → file ≡ log_name
opens_damaged file Closed is = is
opens_damaged file (Open held) is = absurd is
opens_damaged file Down is = absurd is

found_value : (file : List ℕ) (found : Option (List ℕ)) → Refused (Damaged file) ≡ looked_up found → ⊥
found_value file None is = omega (arith, ap refusal_in is)
found_value file (Some value) is = omega (arith, ap refusal_in is)

damage_at : (before : Store) (step : Step) (file : List ℕ) (after : Store) → Acts before step (Refused (Damaged file)) after
    → IsOpening step × (file ≡ log_name)
damage_at (Open held) step.Open file after acts = absurd (omega (arith, ap refusal_in acts.0))
damage_at (Open held) (step.Set key value) file after acts = absurd acts
damage_at (Open held) (step.Get key) file after acts = absurd (elim acts.0 [
  | inl none ↦ omega (arith, ap refusal_in none)
  | inr is ↦ found_value file (get held.map key) is
])
damage_at Closed step.Open file after acts = (tt, opens_damaged file after acts)
damage_at Closed (step.Set key value) file after acts = absurd (omega (arith, ap refusal_in acts.0))
damage_at Closed (step.Get key) file after acts = absurd (omega (arith, ap refusal_in acts.0))
damage_at Down step.Open file after acts = (tt, opens_damaged file after acts)
damage_at Down (step.Set key value) file after acts = absurd (omega (arith, ap refusal_in acts.0))
damage_at Down (step.Get key) file after acts = absurd (omega (arith, ap refusal_in acts.0))

abbrev file_in : Option Refusal → List ℕ
file_in (Some (Damaged file)) = file
file_in other = log_name

met_damaged : (before : Store) (step : Step) (reply : Reply) (after : Store) → Acts before step reply after
    → file_in (met_in reply) ≡ log_name
met_damaged before step (Refused (Damaged file)) after acts = (damage_at before step file after acts).1
met_damaged before step (Refused DiskFault) after acts = refl
met_damaged before step (Refused NoMemory) after acts = refl
met_damaged before step (Refused refusal) after acts = refl
met_damaged before step (Opened n) after acts = refl
met_damaged before step reply after acts = refl

pub log_named : (before : Store) (step : Step) (reply : Reply) (after : Store) → Acts before step reply after → IsOfLog (ran_of reply after)
log_named before step reply after acts = λ file is. sym (ap file_in is) ∙ met_damaged before step reply after acts

-- damage is what an opening finds
at_opening : (list : List (List ℕ)) (step : Step) (file : List ℕ) (m : Map) → IsOpening step → Finds list step (Refused (Damaged file)) m
    → (n : ℕ) (l : Map) → Replays list n l → ⊥
at_opening list step.Open file m is found = found
at_opening list (step.Set key value) file m is found = absurd is
at_opening list (step.Get key) file m is found = absurd is

refused_damage : (list : List (List ℕ)) (before : Store) (step : Step) (refusal : Refusal) (after : Store) (m : Map)
    → Acts before step (Refused refusal) after
    → refusal_number refusal ≡ 20 → Finds list step (Refused refusal) m → (n : ℕ) (l : Map) → Replays list n l → ⊥
refused_damage list before step (Damaged file) after m acts is found =
    at_opening list step file m (damage_at before step file after acts).0 found
refused_damage list before step refusal after m acts is found = absurd (omega (arith, is))

pub found_damage : (list : List (List ℕ)) (before : Store) (step : Step) (reply : Reply) (after : Store) (m : Map)
    → Acts before step reply after
    → refusal_in reply ≡ 20 → Finds list step reply m → (n : ℕ) (l : Map) → Replays list n l → ⊥
found_damage list before step (Refused refusal) after m acts is found = refused_damage list before step refusal after m acts is found
found_damage list before step (Opened n) after m acts is found = absurd (omega (arith, is))
found_damage list before step reply after m acts is found = absurd (omega (arith, is))
