-- A turn of an empty lane, which answers so and does nothing, meets what a call owes: so the record holds of some call.
use Rattle.std.proofs.Common.{◌≡◌, ℕ, Bool, true, false, List, [], Option, Some, None, refl, sym, subst, cond, arith}
use Rattle.std.specs.Prelude.{MatchBool, All, is_none, map}
use Rattle.std.proofs.lemmas.Bool.{both_ways}
use Rattle.std.proofs.lemmas.List.Elements.{All-nil}
use Rattle.pb_marker_world.specs.Bucket.{name_of}
use Rattle.pb_marker_world.specs.Machine.{Marker}
use Rattle.pb_names.specs.Identity.{Identity}
use Rattle.pb_recover.specs.Files.{IsReady, KeepsFiles}
use Rattle.pb_recover.specs.Standing.{AllStand}
use Rattle.pb_reply.specs.declared.refusal.Refusal.TheVariants as refusal
use Rattle.pb_reply.specs.declared.reply.Reply.TheVariants as reply
use Rattle.pb_script.specs.declared.line.Lane.{Lane}
use Rattle.pb_version.proofs.Above.{same_above}
use Rattle.pb_store.specs.declared.turn.Turn.{Turn}
use Rattle.pb_store.specs.declared.turn.Turn.TheVariants.{Done}
use Rattle.pb_store.specs.Around.{Around, IsAround, IsOfferedInForm, around_after}
use Rattle.pb_store.specs.Devices.{Devices, Tells}
use Rattle.pb_store.specs.Meets.{KeepsLanes, StandOldOrNew, TurnMeets}
use Rattle.pb_store.specs.View.{IsIdle, JobView, StoreView, id_of, job_in, offers_of}
use Rattle.pb_store.proofs.Moves.{moves_locally, reads_locally}

abbrev idle : Turn
idle = Done (reply.Refused refusal.Idle)

-- ---- what the family knows

abbrev named : List Marker → List (List ℕ × Identity)
named lent = map (λ m. (name_of m, m.object)) lent

module _ (store : StoreView) (a : Around) (is : IsAround store a) where
  same_after : (front : Option JobView) → named a.lent ≡ offers_of front → named (cond (is_none front) [] a.lent) ≡ offers_of front
  same_after None e = refl
  same_after (Some job) e = e

  offered_after : (front : Option JobView) → All (IsOfferedInForm a.lendings) (cond (is_none front) [] a.lent)
  offered_after None = All-nil _
  offered_after (Some job) = is.offered

  -- a store that stays as it is
  around_stays : IsAround store (around_after store a)
  around_stays = record { users = is.users; same = same_after store.fg is.same; offered = offered_after store.fg }

-- ---- the turn

at_up : (b : Bool) (P Q : Type 0) → b ≡ false → Q → MatchBool b P Q
at_up b P Q up q = subst (λ (c : Bool). MatchBool c P Q) (sym up) q

pub an_idle_turn_meets : (told : Tells) (lane : Lane) (store : StoreView) (at : Devices) → (told.disk ≡ true → KeepsFiles store.files at.disk)
    → IsReady store.files → store.is_down ≡ false → job_in lane store ≡ None → TurnMeets told (Some lane) None store store at at idle
an_idle_turn_meets told lane store at kept ready up empty = record {
  id = refl;
  keeps = λ tells still. kept tells;
  others = λ tells name other. record { reads = refl; images = λ image left. left; settled = λ settled. settled };
  around = λ a is still. around_stays store a is;
  names = λ tells form. form;
  call = None;
  calls = refl;
  working = λ e. absurd (cc);
  moves = λ tells a is form. moves_locally store store a at at None tt
      (reads_locally store store at at ready (kept tells.0) refl (λ n more. more) refl);
  stands = λ tells m stood stays. at_up store.is_down (StandOldOrNew None at (id_of store) (store.files.accepted, m))
      (AllStand at.disk at.objects (id_of store) store.files.accepted m) up stood;
  installs = λ front. same_above store.files.version store.files.version refl;
  lanes = at_up store.is_down (IsIdle store) (KeepsLanes (Some lane) idle store store) up (refl, empty);
  reply = refl;
  falls = record { must = λ from to. absurd (omega (arith, to)); only = λ down. absurd (both_ways store.is_down up down) };
  cause = record {
    disk_later = omega arith;
    bucket_later = omega arith;
    disk_failed = λ e. absurd (omega (arith, e));
    bucket_failed = λ e. absurd (omega (arith, e));
    calm = λ e. absurd (omega (arith, e));
  };
}
