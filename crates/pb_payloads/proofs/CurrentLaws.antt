-- A payload of the current pointer spells two numbers, so a list of payloads says one pointer.
use Rattle.std.proofs.Common.{◌≡◌, ℕ, List, [], ◌∷◌, ◌++◌, refl, arith, Option, Some, None}
use Rattle.std.specs.List.{last_or}
use Rattle.pb_bytes.proofs.ReadingLemmas.{one_varint}
use Rattle.pb_payloads.specs.Current.{Pointer, IsPointer, SaysCurrent, pointer_spelling}
use Rattle.pb_payloads.proofs.SpellingLaws.{one_last_varint}

pub one_pointer : (p q : Pointer) → IsPointer p → IsPointer q → pointer_spelling p ≡ pointer_spelling q → p ≡ q
one_pointer p q p_is q_is same =
    let p_manifest = p_is.manifest in
    let q_manifest = q_is.manifest in
    let p_catalogue = p_is.catalogue in
    let q_catalogue = q_is.catalogue in
    let manifest = one_varint p.manifest q.manifest _ _ (omega arith) (omega arith) same in
    let catalogue = one_last_varint p.catalogue q.catalogue (omega arith) (omega arith) manifest.1 in
    (λ i. record { manifest = manifest.0 i; catalogue = catalogue i })

-- the payloads of the current pointer say one pointer
pub one_current : (payloads : List (List ℕ)) (p q : Pointer) → SaysCurrent payloads p → SaysCurrent payloads q → p ≡ q
one_current payloads p q p_says q_says =
    let p_last = p_says.last in
    let q_last = q_says.last in
    let same : pointer_spelling p ≡ pointer_spelling q = cc in
    one_pointer p q p_says.in_form q_says.in_form same

-- no payloads say none
pub no_pointer : (pointer : Pointer) → SaysCurrent [] pointer → ⊥
no_pointer pointer says =
    let last : last_or None [] ≡ Some (pointer_spelling pointer) = says.last in
    cc

last_or-more : (before : Option (List ℕ)) (payloads : List (List ℕ)) (payload : List ℕ) → last_or before (payloads ++ payload ∷ []) ≡ Some payload
last_or-more before [] payload = refl
last_or-more before (first ∷ payloads) payload = last_or-more (Some first) payloads payload

-- whatever stood before, the pointer that is added holds
pub current_holds : (payloads : List (List ℕ)) (pointer : Pointer) → IsPointer pointer
    → SaysCurrent (payloads ++ pointer_spelling pointer ∷ []) pointer
current_holds payloads pointer in_form = record {
  last = last_or-more None payloads (pointer_spelling pointer);
  in_form = in_form;
}
