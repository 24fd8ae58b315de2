-- A payload of the current pointer, read number by number, and the last of some payloads.
use Rattle.std.proofs.Common.{◌≡◌, ℕ, suc, ◌-◌, ◌<◌, ◌^◌, List, [], ◌∷◌, ◌++◌, true, length, get_or, Option, Some, None, refl, sym, ap, ◌∙◌, arith}
use Rattle.std.specs.List.{last_or}
use Rattle.std.specs.Prelude.{◌==◌}
use Rattle.std.proofs.lemmas.Bool.{eqb-true}
use Rattle.std.proofs.lemmas.List.{append-nil}
use Rattle.pb_bytes.specs.Varint.{varint}
use Rattle.pb_bytes.proofs.ReadingLemmas.{one_varint}
use Rattle.pb_payloads.specs.Current.{Pointer, IsPointer, pointer_spelling, pointer_to}

-- what stands behind the manifest's number spells the catalogue's
pub behind : (from rest : List ℕ) (number : ℕ) (pointer : Pointer) → number < 2 ^ 62 → IsPointer pointer → from ≡ varint number ++ rest
    → from ≡ pointer_spelling pointer → rest ≡ varint pointer.catalogue ++ []
behind from rest number pointer low is read spelled =
    let bound = is.manifest in
    (one_varint number pointer.manifest rest (varint pointer.catalogue) (omega arith) (omega arith) (sym read ∙ spelled)).1
    ∙ sym (append-nil (varint pointer.catalogue))

-- and nothing stands behind that
pub nothing_behind : (from rest last : List ℕ) (manifest catalogue : ℕ) (pointer : Pointer) → manifest < 2 ^ 62 → catalogue < 2 ^ 62 → IsPointer pointer
    → from ≡ varint manifest ++ rest → rest ≡ varint catalogue ++ last → from ≡ pointer_spelling pointer → last ≡ []
nothing_behind from rest last manifest catalogue pointer low more is read then spelled =
    let bound = is.catalogue in
    (one_varint catalogue pointer.catalogue last [] (omega arith) (omega arith)
    (sym then ∙ behind from rest manifest pointer low is read spelled)).1

pub both_read : (from rest last : List ℕ) (manifest catalogue : ℕ) → from ≡ varint manifest ++ rest → rest ≡ varint catalogue ++ last → last ≡ []
    → from ≡ pointer_spelling (pointer_to manifest catalogue)
both_read from rest last manifest catalogue read then none =
    read ∙ ap (λ (r : List ℕ). varint manifest ++ r) (then ∙ ap (λ (l : List ℕ). varint catalogue ++ l) none ∙ append-nil (varint catalogue))

pub empty_of : (xs : List ℕ) → (length xs == 0) ≡ true → xs ≡ []
empty_of [] is = refl
empty_of (x ∷ xs) is = absurd (omega (arith, eqb-true (length (x ∷ xs)) 0 is))

-- ---- the last payload

last_from : (before : Option (List ℕ)) (payloads : List (List ℕ)) (last : List ℕ) → (payloads ≡ [] → ⊥)
    → last ≡ get_or payloads (length payloads - 1) last → last_or before payloads ≡ Some last
last_from before [] last some is = absurd (some refl)
last_from before (one ∷ []) last some is = ap Some (sym is)
last_from before (one ∷ next ∷ payloads) last some is =
    let place : length (one ∷ next ∷ payloads) - 1 ≡ suc (length (next ∷ payloads) - 1) = omega arith in
    last_from (Some one) (next ∷ payloads) last (λ none. cc) (is ∙ ap (λ n. get_or (one ∷ next ∷ payloads) n last) place)

pub last_is : (payloads : List (List ℕ)) (last : List ℕ) → (payloads ≡ [] → ⊥) → last ≡ get_or payloads (length payloads - 1) last
    → last_or None payloads ≡ Some last
last_is payloads last some is = last_from None payloads last some is
