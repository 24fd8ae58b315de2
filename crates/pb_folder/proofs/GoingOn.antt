-- A log goes on, and a folder with a pointer isn't new.
use Rattle.std.proofs.Common.{◌≡◌, ℕ, List, [], ◌∷◌, ◌++◌, None, Some, refl, sym, ap, ◌∙◌, inl, inr}
use Rattle.std.specs.List.{last_or}
use Rattle.pb_devices.specs.Contents.{Folder}
use Rattle.pb_devices.specs.Objects.{Objects}
use Rattle.pb_gate_log.specs.Payloads.{payloads_in}
use Rattle.pb_keys.specs.Map.{Map}
use Rattle.pb_names.specs.Spelling.{current_name}
use Rattle.pb_payloads.specs.Current.{Pointer, SaysCurrent, pointer_spelling}
use Rattle.pb_payloads.specs.Log.{LogEntry}
use Rattle.pb_rows.specs.Changing.{after}
use Rattle.pb_rows.specs.Layer.{KeyLayer}
use Rattle.pb_folder.specs.Meaning.{after_log, changing_of}
use Rattle.pb_folder.specs.StandsFor.{Means, StandsFor}

pub goes_on : (layers : ℕ → KeyLayer) (m : Map) (log : List LogEntry) (entry : LogEntry)
    → after_log layers m (log ++ entry ∷ []) ≡ after (after_log layers m log) (changing_of layers entry.command)
goes_on layers m [] entry = refl
goes_on layers m (first ∷ log) entry = goes_on layers (after m (changing_of layers first.command)) log entry

pub no_pointer : (list : List (List ℕ)) (pointer : Pointer) → list ≡ [] → SaysCurrent list pointer → ⊥
no_pointer list pointer none says =
    let last : last_or None [] ≡ Some (pointer_spelling pointer) = ap (λ (list : List (List ℕ)). last_or None list) (sym none) ∙ says.last in
    absurd (cc)

pub it_means : (folder : Folder) (objects : Objects) (id n : ℕ) (m : Map) (pointer : Pointer) → SaysCurrent (payloads_in (folder current_name)) pointer
    → StandsFor folder objects id n m → Means folder objects id n m
it_means folder objects id n m pointer says (inl new) = absurd (no_pointer (payloads_in (folder current_name)) pointer new.0 says)
it_means folder objects id n m pointer says (inr means) = means
