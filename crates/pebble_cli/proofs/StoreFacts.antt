-- What a step of a store does, by its error.
use Rattle.std.proofs.Common.{◌≡◌, ◌↔◌, ◌⊎◌, ℕ, ◌+◌, ◌<◌, ◌≤◌, ◌^◌, List, Result, Err, inl, inr, refl, ap}
use Rattle.std.proofs.lemmas.Bool.{cases_lt}
use Rattle.pb_gate_log.specs.Faults.{IsAppendFault}
use Rattle.pb_gate_log.specs.declared.gate_log.AppendError.{AppendError}
use Rattle.pb_gate_log.specs.declared.gate_log.AppendError.TheVariants.{Failed, TooLarge}
use Rattle.pb_keys.specs.Map.{Map}
use Rattle.pb_reply.specs.declared.reply.Reply.TheVariants as reply
use Rattle.pebble_cli.specs.Folder.{Replays}
use Rattle.pebble_cli.specs.Store.{Held}
use Rattle.pebble_cli.specs.StoreStates.{Finds, Opens, Sets, append_error, error_refusal}
use Rattle.pebble_cli.specs.declared.step.Step.TheVariants as step
use Rattle.pebble_cli.specs.declared.store.Store.TheVariants.{Closed, Open}
use Rattle.pebble_cli.specs.declared.store_error.StoreError.{StoreError}
use Rattle.pebble_cli.specs.declared.store_error.StoreError.TheVariants.{NumbersSpent, Damaged, DiskFault, NoMemory}

pub found_refused : (list : List (List ℕ)) (error : StoreError) (m : Map) → (error ≡ Damaged → (n : ℕ) (l : Map) → Replays list n l → ⊥)
    → Finds list step.Open (reply.Refused (error_refusal error)) m
found_refused list NumbersSpent m damaged = tt
found_refused list Damaged m damaged = damaged refl
found_refused list DiskFault m damaged = tt
found_refused list NoMemory m damaged = tt

pub refused_same : {T : Type 0} (x y : StoreError) → ◌≡◌ {A = Result T StoreError} (Err x) (Err y) → x ≡ y
refused_same x y e = cc

-- an append is told as a fault only where the disk failed
pub append_fault : {T : Type 0} (failed : AppendError) → ◌≡◌ {A = Result T StoreError} (Err (append_error failed)) (Err DiskFault)
    → IsAppendFault failed
append_fault Failed is = tt
append_fault TooLarge is = cc

-- ---- what a store does, and how it is answered

of_opening : (◌≡◌ {A = StoreError} NumbersSpent Damaged) ⊎ (NumbersSpent ≡ DiskFault) ⊎ (NumbersSpent ≡ NoMemory) → ⊥
of_opening (inl is) = cc
of_opening (inr (inl is)) = cc
of_opening (inr (inr is)) = cc

pub opens_refused : (error : StoreError) → (error ≡ Damaged) ⊎ (error ≡ DiskFault) ⊎ (error ≡ NoMemory)
    → Opens (reply.Refused (error_refusal error)) Closed
opens_refused NumbersSpent known = absurd (of_opening known)
opens_refused Damaged known = refl
opens_refused DiskFault known = tt
opens_refused NoMemory known = tt

damaged_set : (◌≡◌ {A = StoreError} Damaged NumbersSpent) ⊎ (Damaged ≡ NoMemory) → ⊥
damaged_set (inl is) = cc
damaged_set (inr is) = cc

fault_set : (◌≡◌ {A = StoreError} DiskFault NumbersSpent) ⊎ (DiskFault ≡ NoMemory) → ⊥
fault_set (inl is) = cc
fault_set (inr is) = cc

pub sets_refused : (held new : Held) (key value : List ℕ) (error : StoreError) → new ≡ held
    → (error ≡ NumbersSpent → 2 ^ 62 ≤ held.count + 1)
    → (error ≡ NumbersSpent) ⊎ (error ≡ NoMemory) → Sets held key value (reply.Refused (error_refusal error)) (Open new)
sets_refused held new key value NumbersSpent same spent known = (spent refl, ap (λ (h : Held). Open h) same)
sets_refused held new key value NoMemory same spent known = ap (λ (h : Held). Open h) same
sets_refused held new key value Damaged same spent known = absurd (damaged_set known)
sets_refused held new key value DiskFault same spent known = absurd (fault_set known)

-- counts are left for one more
pub not_spent : {T : Type 0} (answer : Result T StoreError) (count : ℕ) → (answer ≡ Err NumbersSpent) ↔ (2 ^ 62 ≤ count)
    → (answer ≡ Err NumbersSpent → ⊥)
    → count < 2 ^ 62
not_spent answer count spent other = elim (cases_lt count (2 ^ 62)) [ inl low ↦ low | inr high ↦ absurd (other (spent.1 high)) ]
