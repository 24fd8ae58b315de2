-- What the small facts of a call say of some turns.
use Rattle.std.proofs.Common.{true, false, Some, None, inl, refl, arith}
use Rattle.std.proofs.lemmas.Bool.{false≢true}
use Rattle.pb_reply.specs.declared.refusal.Refusal.TheVariants as refusal
use Rattle.pb_reply.specs.declared.reply.Reply.TheVariants as reply
use Rattle.pb_script.specs.declared.line.Lane.TheVariants.{Fg, Bg}
use Rattle.pb_store.specs.declared.turn.Turn.{Turn}
use Rattle.pb_store.specs.declared.turn.Turn.TheVariants.{Working, Done}
use Rattle.pb_store.specs.Meets.{CountsOn, GoesOn, IsFall, IsForeground, KeepsOtherLane}
use Rattle.pb_store.specs.View.{StoreView}
use Rattle.pb_store.proofs.Examples.{ended, receiving, some_store}

abbrev refused_with_disk_fault : Turn
refused_with_disk_fault = Done (reply.Refused refusal.DiskFault)

-- ---- counts

pub an_accepted_command_counts : CountsOn (Done (reply.Accepted 4)) 3 4
an_accepted_command_counts = (refl, refl)

pub it_tells_its_own_count : CountsOn (Done (reply.Accepted 3)) 3 4 → ⊥
it_tells_its_own_count h = omega (arith, h.1)

pub a_refused_one_doesnt : CountsOn (Done (reply.Refused refusal.Busy)) 3 4 → ⊥
a_refused_one_doesnt h = omega (arith, h)

-- ---- falls

pub a_fault_ends_a_store : IsFall refused_with_disk_fault false → ⊥
a_fault_ends_a_store h = false≢true (h.must (omega arith) (omega arith))

pub want_of_memory_may_end_it : IsFall (Done (reply.Refused refusal.NoMemory)) true
want_of_memory_may_end_it = record { must = λ from to. refl; only = λ down. (omega arith, omega arith) }

pub or_leave_it : IsFall (Done (reply.Refused refusal.NoMemory)) false
or_leave_it = record { must = λ from to. absurd (omega (arith, to)); only = λ down. absurd (false≢true down) }

pub nothing_else_ends_it : IsFall Working true → ⊥
nothing_else_ends_it h = h.only refl

-- ---- lanes

-- the receive makes its third call of the bucket
abbrev going_on : StoreView
going_on = record some_store { fg = Some (record receiving { made_calls = 3; left = 2 }) }

pub a_job_goes_on : GoesOn (Some Fg) some_store going_on
a_job_goes_on = record { calls = refl; fell = inl (omega arith) }

pub without_a_call_it_doesnt : GoesOn (Some Fg) some_store some_store → ⊥
without_a_call_it_doesnt h = omega (arith, h.calls)

pub what_is_no_turn_never_goes_on : GoesOn None some_store going_on → ⊥
what_is_no_turn_never_goes_on h = h

pub a_turn_that_is_done_leaves_its_lane : KeepsOtherLane (Some Fg) (Done reply.Done) some_store ended
a_turn_that_is_done_leaves_its_lane = (refl, refl)

pub it_may_not_stay_there : KeepsOtherLane (Some Fg) (Done reply.Done) some_store some_store → ⊥
it_may_not_stay_there h = cc

pub the_other_lane_stays : KeepsOtherLane (Some Bg) Working some_store ended → ⊥
the_other_lane_stays h = cc

pub a_compaction_owes_no_place_above : IsForeground (Some Bg) → ⊥
a_compaction_owes_no_place_above h = h
