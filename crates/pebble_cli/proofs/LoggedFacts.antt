-- A command in the log, and in the map.
use Rattle.std.proofs.Common.{◌≡◌, ℕ, ◌+◌, ◌⊎◌, inl, inr, List, [], ◌∷◌, ◌++◌, Option, Ok, Err, refl, sym, ap, ◌∙◌, subst}
use Rattle.std.specs.FinMap.{insert}
use Rattle.pb_devices.specs.BeforeOrAfter.{IsBeforeOrAfter}
use Rattle.pb_devices.specs.Contents.{Contents, MayLeave}
use Rattle.pb_devices.proofs.Kept.{kept_same}
use Rattle.pb_gate_log.specs.Calls.{Appends}
use Rattle.pb_gate_log.proofs.FilePayloads.{has_payloads}
use Rattle.pb_gate_log.proofs.LogStates.{each_has}
use Rattle.pb_gate_log.specs.EachLog.{LogPlace, EachLog}
use Rattle.pb_gate_log.specs.Payloads.{HasList, payloads_in}
use Rattle.pebble_cli.specs.Settings.{Set, IsSet, payload_of}
use Rattle.pb_keys.specs.Map.{Map}
use Rattle.pebble_cli.specs.Store.{Held, with_pair}
use Rattle.pebble_cli.specs.Folder.{log_name, KeepsLog, LeavesHeld, Replays}
use Rattle.pebble_cli.proofs.SetFacts.{make_more}

-- nothing was appended
pub appends_nothing : {T E : Type 0} (log : LogPlace) (payload : List ℕ) (disk : Contents) (error : E) → Appends log log payload disk disk {T = T} {E = E} (Err error)
appends_nothing log payload disk error = record {
  file = refl;
  same = refl;
  ok = λ list each. tt;
  crash = λ list image each left. inl (each_has log list disk each image left);
  others = kept_same disk log.file;
}

-- told by another error, or with another answer
pub appends_err : {T E U F : Type 0} (log log' : LogPlace) (payload : List ℕ) (old new : Contents) (error : E) (other : F) → Appends log log' payload old new {T = T} {E = E} (Err error) → Appends log log' payload old new {T = U} {E = F} (Err other)
appends_err log log' payload old new error other appends = record {
  file = appends.file;
  same = appends.same;
  ok = appends.ok;
  crash = appends.crash;
  others = appends.others;
}

pub appends_ok : {T E U F : Type 0} (log log' : LogPlace) (payload : List ℕ) (old new : Contents) (done : T) (other : U) → Appends log log' payload old new {T = T} {E = E} (Ok done) → Appends log log' payload old new {T = U} {E = F} (Ok other)
appends_ok log log' payload old new done other appends = record {
  file = appends.file;
  same = appends.same;
  ok = appends.ok;
  crash = appends.crash;
  others = appends.others;
}

abbrev pub next_set : Held → List ℕ → List ℕ → Set
next_set held key value = record { count = held.count + 1; key = key; value = value }

pub logged : (held new : Held) (payload key value : List ℕ) (old disk : Contents) → (keeps : KeepsLog held old) → new.log.file ≡ held.log.file → new.count ≡ held.count + 1 → new.map ≡ insert held.map key value
    → payload ≡ payload_of (next_set held key value) → IsSet (next_set held key value) → EachLog new.log (keeps.list ++ payload ∷ []) disk → KeepsLog new disk
logged held new payload key value old disk keeps file count map spelled is each =
    let made = make_more keeps.list held.count held.map key value keeps.makes is in
    record {
      file = file ∙ keeps.file;
      list = keeps.list ++ payload ∷ [];
      log = each;
      makes = subst (λ (p : List ℕ). Replays (keeps.list ++ p ∷ []) new.count new.map) (sym spelled)
          (subst (λ (n : ℕ). Replays (keeps.list ++ payload_of (next_set held key value) ∷ []) n new.map) (sym count)
          (subst (λ (m : Map). Replays (keeps.list ++ payload_of (next_set held key value) ∷ []) (held.count + 1) m) (sym map) made));
    }

pub left_logged : (held : Held) (payload key value : List ℕ) (old : Contents) (image : Option (List ℕ)) → (keeps : KeepsLog held old) → payload ≡ payload_of (next_set held key value) → IsSet (next_set held key value)
    → HasList keeps.list image ⊎ HasList (keeps.list ++ payload ∷ []) image
    → IsBeforeOrAfter (LeavesHeld image) held (with_pair held key value)
left_logged held payload key value old image keeps spelled is left =
    elim left [
      | inl has ↦ inl (subst (λ (l : List (List ℕ)). Replays l held.count held.map) (sym (has_payloads keeps.list image has)) keeps.makes)
      | inr has ↦ inr (subst (λ (l : List (List ℕ)). Replays l (held.count + 1) (insert held.map key value))
          (sym (has_payloads (keeps.list ++ payload ∷ []) image has ∙ ap (λ p. keeps.list ++ p ∷ []) spelled))
          (make_more keeps.list held.count held.map key value keeps.makes is))
    ]

pub left_held : (held self : Held) (payload key value : List ℕ) (old : Contents) (image : Option (List ℕ)) → held ≡ self → (keeps : KeepsLog held old) → payload ≡ payload_of (next_set held key value) → IsSet (next_set held key value)
    → HasList keeps.list image ⊎ HasList (keeps.list ++ payload ∷ []) image
    → IsBeforeOrAfter (LeavesHeld image) self (with_pair self key value)
left_held held self payload key value old image same keeps spelled is left =
    subst (λ (h : Held). IsBeforeOrAfter (LeavesHeld image) h (with_pair h key value)) same
    (left_logged held payload key value old image keeps spelled is left)

-- an open store holds what each image stands for
pub open_image : (held : Held) (disk : Contents) (image : Option (List ℕ)) → KeepsLog held disk → MayLeave disk log_name image → Replays (payloads_in image) held.count held.map
open_image held disk image keeps left =
    subst (λ (l : List (List ℕ)). Replays l held.count held.map)
    (sym (has_payloads keeps.list image (each_has held.log keeps.list disk keeps.log image (subst (λ (name : List ℕ). MayLeave disk name image) (sym keeps.file) left))))
    keeps.makes
