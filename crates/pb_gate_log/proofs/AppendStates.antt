-- What an append leaves after each of its steps.
use Rattle.std.proofs.Common.{◌≡◌, ℕ, ◌+◌, ◌≤◌, max, List, [], ◌∷◌, ◌++◌, length, drop, Option, Result, Ok, Err, refl, sym, subst, inl, inr, arith}
use Rattle.std.specs.Result.{IsErr}
use Rattle.pb_bytes.specs.BigEndian.{be32}
use Rattle.pb_devices.specs.BeforeOrAfter.{IsBeforeOrAfter}
use Rattle.pb_devices.specs.Contents.{Contents}
use Rattle.pb_devices.specs.DiskCalls.{over}
use Rattle.pb_devices.specs.Reads.{IsWithin}
use Rattle.pb_devices.proofs.Kept.{kept_same, kept_then}
use Rattle.pb_devices.proofs.Options.{some_of, of_some}
use Rattle.pb_devices.proofs.Over.{length-over}
use Rattle.pb_gate_log.specs.Calls.{Appends}
use Rattle.pb_gate_log.specs.EachLog.{LogPlace, EachLog}
use Rattle.pb_gate_log.specs.LogFile.{IsLogFile}
use Rattle.pb_gate_log.specs.Payloads.{HasList, max_payload}
use Rattle.pb_gate_log.specs.Steps.{MayTear, Torn, IsStaged, Overwrites, Stages}
use Rattle.pb_gate_log.proofs.LogLemmas.{opened_log, staged_log, staged_rest, torn_behind, torn_gate}
use Rattle.pb_gate_log.proofs.LogStates.{AtRest, at_rest, bytes_have, each_has, each_log, log_at, torn_has}
use Rattle.pb_keys.proofs.Results.{on_err, no_ok}

-- the same log, told by its parts
pub appends_moved : {T E : Type 0} (log at log' at' : LogPlace) (payload : List ℕ) (old new : Contents) (result : Result T E) → log ≡ at → log' ≡ at'
    → Appends at at' payload old new result → Appends log log' payload old new result
appends_moved log at log' at' payload old new result same same' appends =
    subst (λ (l : LogPlace). Appends l log' payload old new result) (sym same)
    (subst (λ (l : LogPlace). Appends at l payload old new result) (sym same') appends)

module _ (name : List ℕ) (gate len : ℕ) (payload : List ℕ) (old : Contents) where
  abbrev here : LogPlace
  here = log_at name gate len

  abbrev behind_it : LogPlace
  behind_it = log_at name (gate + 5 + length payload) (max len (gate + 6 + length payload))

  -- no device was called
  pub appends_nothing : {T E : Type 0} (error : E) → Appends here here payload old old {T = T} {E = E} (Err error)
  appends_nothing error = record {
    file = refl;
    same = refl;
    ok = λ list each. tt;
    crash = λ list image each left. inl (each_has here list old each image left);
    others = kept_same old name;
  }

  entry_torn : (to : ℕ) (list : List (List ℕ)) (image : Option (List ℕ)) (rest : AtRest here list old) → MayTear (gate + 1) to rest.bytes old name image → HasList list image
  entry_torn to list image rest left =
      elim left [
        | inl before ↦ absurd (rest.last image before)
        | inr torn ↦ torn_has (gate + 1) to rest.bytes list image (λ bytes torn. torn_behind gate to list rest.bytes bytes rest.is torn) torn
      ]

  -- the entry was not written whole behind the gate, or not synced
  pub appends_no_entry : {S T E F : Type 0} (result : Result T E) (is : IsErr result) (failed : F) (new : Contents) → Stages name gate payload old new {T = S} {E = F} (Err failed)
      → Appends here here payload old new result
  appends_no_entry result is failed new stages = record {
    file = refl;
    same = on_err result _ refl;
    ok = λ list each. no_ok result _ is;
    crash = λ list image each left.
        let rest = at_rest here list old each in
        inl (entry_torn (gate + 6 + length payload) list image rest (stages.crash rest.bytes image rest.durable left));
    others = stages.others;
  }

  -- what stands in the file once the entry is synced and its gate is shut
  record StagedLog (list : List (List ℕ)) (mid : Contents) : Type 0 where
    start : AtRest here list old
    staged : IsStaged start.bytes gate payload mid name
    is : IsLogFile gate list staged.bytes
    behind : drop (gate + 1) staged.bytes ≡ be32 (length payload) ++ payload ++ 0 ∷ drop (gate + 6 + length payload) staged.bytes

  staged_state : {T E : Type 0} (value : T) (list : List (List ℕ)) (mid : Contents) → Stages name gate payload old mid {T = T} {E = E} (Ok value) → EachLog here list old → StagedLog list mid
  staged_state value list mid stages each =
      let rest = at_rest here list old each in
      let staged = stages.ok rest.bytes rest.durable in
      record {
        start = rest;
        staged = staged;
        is = staged_log gate list payload rest.bytes staged.bytes rest.is staged.front;
        behind = staged_rest gate list payload rest.bytes staged.bytes rest.is staged.front;
      }

  -- there is room for the write that opens the gate
  pub gate_within : {T E : Type 0} (value : T) (list : List (List ℕ)) (mid : Contents) → Stages name gate payload old mid {T = T} {E = E} (Ok value) → EachLog here list old → IsWithin gate (mid.seen name)
  gate_within value list mid stages each =
      let state = staged_state value list mid stages each in
      let within = state.is.within in
      of_some (mid.seen name) (λ bytes. gate ≤ length bytes) state.staged.bytes state.staged.durable.seen (omega arith)

  gate_torn : (list : List (List ℕ)) (mid : Contents) (image : Option (List ℕ)) (state : StagedLog list mid) → length payload ≤ max_payload
      → ((other : Option (List ℕ)) → mid.earlier name other → old.earlier name other) → MayTear gate (gate + 1) state.staged.bytes mid name image
      → IsBeforeOrAfter (λ l. HasList l image) list (list ++ payload ∷ [])
  gate_torn list mid image state short earlier left =
      elim left [
        | inl before ↦ absurd (state.start.last image (earlier image before))
        | inr torn ↦
            let found = some_of image (Torn gate (gate + 1) state.staged.bytes) torn in
            elim (torn_gate gate list payload (drop (gate + 6 + length payload) state.staged.bytes) state.staged.bytes found.0 state.is short state.behind found.2) [
              | inl without ↦ inl (bytes_have found.0 list image without found.1)
              | inr with_it ↦ inr (bytes_have found.0 (list ++ payload ∷ []) image with_it found.1)
            ]
      ]

  module _ {T : Type 0} (value : T) {F : Type 0} (mid new : Contents) (short : length payload ≤ max_payload)
      (stages : Stages name gate payload old mid {T = T} {E = F} (Ok value)) where
    -- the gate was not opened whole, or not synced
    pub appends_no_gate : {S U E : Type 0} (result : Result U E) (is : IsErr result) (failed : F) → Overwrites name gate (1 ∷ []) mid new {T = S} {E = F} (Err failed)
        → Appends here here payload old new result
    appends_no_gate result is failed writes = record {
      file = refl;
      same = on_err result _ refl;
      ok = λ list each. no_ok result _ is;
      crash = λ list image each left.
          let state = staged_state value list mid stages each in
          gate_torn list mid image state short stages.earlier (writes.crash state.staged.bytes image state.staged.durable left);
      others = kept_then old mid new name stages.others writes.others;
    }

    each_opened : (list : List (List ℕ)) → Overwrites name gate (1 ∷ []) mid new {T = T} {E = F} (Ok value) → EachLog here list old → EachLog behind_it (list ++ payload ∷ []) new
    each_opened list writes each =
        let state = staged_state value list mid stages each in
        let bytes = state.staged.bytes in
        let within = state.is.within in
        let start_sized = state.start.sized in
        let staged_sized = state.staged.sized in
        each_log behind_it (list ++ payload ∷ []) (over bytes gate (1 ∷ [])) new (writes.ok bytes state.staged.durable)
        (λ image is. state.start.last image (stages.earlier image (writes.earlier image is)))
        (opened_log gate list payload (drop (gate + 6 + length payload) bytes) bytes state.is short state.behind)
        (omega (arith, length-over bytes gate (1 ∷ []) (omega arith), start_sized, staged_sized))

    -- the gate is open, and synced
    pub appends_entry : {E : Type 0} → Overwrites name gate (1 ∷ []) mid new {T = T} {E = F} (Ok value)
        → Appends here behind_it payload old new {T = T} {E = E} (Ok value)
    appends_entry writes = record {
      file = refl;
      same = tt;
      ok = λ list each. each_opened list writes each;
      crash = λ list image each left. inr (each_has behind_it (list ++ payload ∷ []) new (each_opened list writes each) image left);
      others = kept_then old mid new name stages.others writes.others;
    }
