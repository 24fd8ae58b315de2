use Rattle.std.proofs.Common.{◌≡◌, ℕ, List, length, vec_len, Some, sym, ap, ◌∙◌, subst}
use Rattle.std.specs.Prelude.{option_map}
use Rattle.pb_folder.specs.Listed.{folder_of}
use Rattle.pb_gate_log.specs.Payloads.{payloads}
use Rattle.pb_names.specs.Spelling.{current_name}
use Rattle.pb_payloads.specs.Current.{SaysCurrent, pointer_to}
use Rattle.pb_folder_reader.specs.AtFault.IsAtFault.{OfPointer}
use Rattle.pb_folder_reader.proofs.Lists.{filled_vec}
use Rattle.pb_folder_reader.proofs.Reading.{found_has, found_is, found_new}
use Rattle.pb_folder_reader.proofs.standing.current_stands.Goals as goal

pub named_stands-requires : goal.named_stands-requires
named_stands-requires c =
    let folder = folder_of c.args.files.now in
    let list = c.in-Some.payloads.items in
    let pointer = pointer_to c.in-Some-last_pointer.manifest c.in-Some-last_pointer.catalogue in
    let found : Some list ≡ option_map payloads (folder current_name) =
    ap (option_map (λ l. l.items)) (sym c.in-Some.is) ∙ c.in_ok-payloads.ensures ∙ ap (λ (name : List ℕ). option_map payloads (folder name)) c.current.ensures in
    found_has (folder current_name) list (λ l. SaysCurrent l pointer) found
    (subst (λ (l : List (List ℕ)). SaysCurrent l pointer) c.deref.ensures.value c.in-Some-last_pointer.ensures.some)

pub returns-in_default-last_pointer-clause-fault : goal.returns-in_default-last_pointer-clause-fault
returns-in_default-last_pointer-clause-fault c =
    let folder = folder_of c.args.files.now in
    let list = c.in-Some.payloads.items in
    let found : Some list ≡ option_map payloads (folder current_name) =
    ap (option_map (λ l. l.items)) (sym c.in-Some.is) ∙ c.in_ok-payloads.ensures ∙ ap (λ (name : List ℕ). option_map payloads (folder name)) c.current.ensures in
    let lens : length c.deref.result.now ≡ vec_len c.in-Some.payloads = (let e = c.deref.ensures.len in cc) in
    let some = filled_vec list c.deref.result.now (vec_len c.in-Some.payloads) c.deref.ensures.value lens c.if-is_empty.ensures in
    OfPointer (λ new. some (found_new (folder current_name) list found new))
    (λ pointer has.
    c.in_default-last_pointer.ensures.none pointer
    (subst (λ (l : List (List ℕ)). SaysCurrent l pointer) (sym c.deref.ensures.value) (found_is (folder current_name) list (λ l. SaysCurrent l pointer) found has)))
    c.current-in_default-last_pointer.ensures
