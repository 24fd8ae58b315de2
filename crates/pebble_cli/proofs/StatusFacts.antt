-- The status of a run, by its marks and by its replies.
use Rattle.std.proofs.Common.{◌≡◌, ℕ, ◌≤◌, Bool, true, false, ◌==◌, ◌||◌, if◌then◌else◌, List, [], ◌∷◌, ◌++◌, ◌⊎◌, inl, inr, refl, sym, ap, ◌∙◌, arith}
use Rattle.std.specs.Prelude.{nat_le, fold}
use Rattle.std.proofs.lemmas.Bool.{cond_both, eqb-true, leb-true, leb-false}
use Rattle.std.proofs.lemmas.List.Sums.{fold_push}
use Rattle.pb_devices.specs.declared.trace.Mark.{Mark}
use Rattle.pb_reply.specs.Refusals.{refusal_number}
use Rattle.pb_reply.specs.Statuses.{IsRunStatus, place, first_status, status_alone, status_of_refusal}
use Rattle.pb_reply.specs.declared.refusal.Refusal.{Refusal}
use Rattle.pb_reply.specs.declared.refusal.Refusal.TheVariants.{Busy, DiskFault, BucketFault}
use Rattle.pb_reply.specs.declared.reply.Reply.{Reply}
use Rattle.pb_reply.specs.declared.reply.Reply.TheVariants.{Opened, Refused as RefusedReply}
use Rattle.pb_reply.specs.declared.status.Status.{Status}
use Rattle.pb_reply.specs.declared.status.Status.TheVariants.{Success, Refused, Device, Memory, Damaged}
use Rattle.pb_machine.specs.Trail.{refusal_in}
use Rattle.pebble_cli.specs.Runs.{status_of, status_of_number, with_mark}
use Rattle.pebble_cli.specs.StoreStates.{mark_in, TellsFault}

refusal_alone : (refusal : Refusal) → status_of_refusal refusal ≡ status_of_number (refusal_number refusal)
refusal_alone Busy = refl
refusal_alone refusal = refl

reply_alone : (reply : Reply) → status_alone reply ≡ status_of_number (refusal_in reply)
reply_alone (RefusedReply refusal) = refusal_alone refusal
reply_alone (Opened n) = refl
reply_alone reply = refl

-- one reply more
pub status_more : (marks : List Mark) (reply : Reply) (is_down : Bool)
    → first_status (status_of marks) (status_alone reply) ≡ status_of (marks ++ mark_in reply is_down ∷ [])
status_more marks reply is_down =
    ap (first_status (status_of marks)) (reply_alone reply) ∙ sym (fold_push with_mark Success marks (mark_in reply is_down))

-- ---- the statuses that marks give

number_is_run : (n : ℕ) → IsRunStatus (status_of_number n)
number_is_run n =
    cond_both (n == 0) Success _ IsRunStatus (λ _. tt)
    (λ _. cond_both (n == 24) Memory _ IsRunStatus (λ _. tt)
    (λ _. cond_both (n == 22 || n == 23) Device _ IsRunStatus (λ _. tt)
    (λ _. cond_both (n == 20) Damaged Refused IsRunStatus (λ _. tt) (λ _. tt))))

first_is_run : (one other : Status) → IsRunStatus one → IsRunStatus other → IsRunStatus (first_status one other)
first_is_run one other first second = cond_both (nat_le (place one) (place other)) one other IsRunStatus (λ _. first) (λ _. second)

folded_is_run : (status : Status) (marks : List Mark) → IsRunStatus status → IsRunStatus (fold with_mark status marks)
folded_is_run status [] is = is
folded_is_run status (mark ∷ marks) is =
    folded_is_run (with_mark status mark) marks (first_is_run status (status_of_number mark.refusal) is (number_is_run mark.refusal))

pub is_run_status : (marks : List Mark) → IsRunStatus (status_of marks)
is_run_status marks = folded_is_run Success marks tt

-- ---- success

pub place_first : (one other : Status) → (place (first_status one other) ≤ place one) × (place (first_status one other) ≤ place other)
place_first one other =
    cond_both (nat_le (place one) (place other)) one other (λ (s : Status). (place s ≤ place one) × (place s ≤ place other))
    (λ is. (omega arith, leb-true (place one) (place other) is))
    (λ not. let later = leb-false (place one) (place other) not in (omega (arith, later), omega arith))

pub number_done : (n : ℕ) → 4 ≤ place (status_of_number n) → n ≡ 0
number_done n =
    let P : Status → Type 0 = λ s. 4 ≤ place s → n ≡ 0 in
    cond_both (n == 0) Success _ P (λ is _. eqb-true n 0 is)
    (λ _. cond_both (n == 24) Memory _ P (λ _ h. absurd (omega (arith, h)))
    (λ _. cond_both (n == 22 || n == 23) Device _ P (λ _ h. absurd (omega (arith, h)))
    (λ _. cond_both (n == 20) Damaged Refused P (λ _ h. absurd (omega (arith, h))) (λ _ h. absurd (omega (arith, h))))))

-- ---- a fault of a device

refusal_tells : (refusal : Refusal) → status_of_refusal refusal ≡ Device → TellsFault (RefusedReply refusal)
refusal_tells DiskFault is = tt
refusal_tells BucketFault is = tt
refusal_tells refusal is = cc

alone_tells : (reply : Reply) → status_alone reply ≡ Device → TellsFault reply
alone_tells (RefusedReply refusal) is = refusal_tells refusal is
alone_tells reply is = cc

either_device : (first : Bool) (one other : Status) → (if first then one else other) ≡ Device → (one ≡ Device) ⊎ (other ≡ Device)
either_device true one other is = inl is
either_device false one other is = inr is

pub device_from : (worst : Status) (reply : Reply) → first_status worst (status_alone reply) ≡ Device → (worst ≡ Device) ⊎ TellsFault reply
device_from worst reply is =
    elim (either_device (nat_le (place worst) (place (status_alone reply))) worst (status_alone reply) is) [
      | inl was ↦ inl was
      | inr now ↦ inr (alone_tells reply now)
    ]
