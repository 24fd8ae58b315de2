-- A payload spells one command at most.
use Rattle.std.proofs.Common.{◌≡◌, ℕ, ◌<◌, ◌^◌, List, [], ◌∷◌, ◌++◌, length, Option, None, IfNone, sym, ◌∙◌, subst, ap, arith, append-nil}
use Rattle.pb_bytes.specs.Varint.{varint, field}
use Rattle.pb_bytes.proofs.ReadingLemmas.{one_varint, one_field}
use Rattle.pb_names.specs.Grammar.{IsName}
use Rattle.pebble_cli.specs.Settings.{Set, IsSet, payload_of}

-- what holds of no value holds of none
pub if_none : {T : Type 0} (o : Option T) (P : Type 0) → o ≡ None → P → IfNone o P
if_none o P is h = subst (λ (x : Option _). IfNone x P) (sym is) h

pub same_count : (m n : ℕ) (x y : List ℕ) → m < 2 ^ 62 → n < 2 ^ 62 → varint m ++ 1 ∷ x ≡ varint n ++ 1 ∷ y → (m ≡ n) × (x ≡ y)
same_count m n x y low below e =
    let same = one_varint m n (1 ∷ x) (1 ∷ y) (omega arith) (omega arith) e in
    let rest : 1 ∷ x ≡ 1 ∷ y = same.1 in
    (same.0, cc)

pub name_short : (bytes : List ℕ) → IsName bytes → length bytes < 2 ^ 64
name_short bytes is = omega (arith, is.short)

-- behind a count, a kind and fields that begin a command's payload, the rest of the command stands
pub behind_count : (payload rest : List ℕ) (count : ℕ) (set : Set) → count < 2 ^ 62 → IsSet set → payload ≡ varint count ++ 1 ∷ rest → payload ≡ payload_of set → rest ≡ field set.key ++ field set.value
behind_count payload rest count set below is found spelled = (same_count count set.count rest (field set.key ++ field set.value) below is.count (sym found ∙ spelled)).1

pub behind_field : (from content rest bytes more : List ℕ) → length content < 2 ^ 64 → length bytes < 2 ^ 64 → from ≡ field content ++ rest → from ≡ field bytes ++ more → rest ≡ more
behind_field from content rest bytes more short low found spelled = (one_field content bytes rest more short low (sym found ∙ spelled)).1

pub field_alone : (from bytes : List ℕ) → from ≡ field bytes → from ≡ field bytes ++ []
field_alone from bytes e = e ∙ sym (append-nil (field bytes))

-- what stands behind a number that was read is what was spelled behind it
pub behind_number : (payload behind rest : List ℕ) (read count : ℕ) → read < 2 ^ 62 → count < 2 ^ 62 → payload ≡ varint read ++ behind
    → payload ≡ varint count ++ 1 ∷ rest → behind ≡ 1 ∷ rest
behind_number payload behind rest read count below low found spelled =
    (one_varint read count behind (1 ∷ rest) (omega arith) (omega arith) (sym found ∙ spelled)).1

pub not_empty : (rest : List ℕ) → rest ≡ [] → (length rest ≡ 0 → ⊥) → ⊥
not_empty rest e h = h (ap length e)
