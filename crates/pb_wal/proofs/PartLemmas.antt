-- Counts and fields at the front of bytes, and what is behind them.
use Rattle.std.proofs.Common.{◌≡◌, ℕ, ◌+◌, ◌^◌, ◌<◌, ◌≤◌, List, [], ◌++◌, length, refl, sym, ap, ◌∙◌, arith, length-append}
use Rattle.std.proofs.lemmas.List.{append-nil}
use Rattle.pb_bytes.specs.Varint.{varint, field}
use Rattle.pb_bytes.proofs.ReadingLemmas.{one_field}
use Rattle.pb_bytes.proofs.VarintLemmas.{length-field}

-- what is whole is a front with nothing behind it
pub whole : (from spelling : List ℕ) → from ≡ spelling → from ≡ spelling ++ []
whole from spelling spelled = spelled ∙ sym (append-nil spelling)

-- a field is no longer than the bytes that it begins
pub field_fits : (from content rest : List ℕ) → length from < 2 ^ 64 → from ≡ field content ++ rest → length content < 2 ^ 64
field_fits from content rest fits begins =
    let len : length from ≡ length (varint (length content)) + length content + length rest =
    ap length begins ∙ rw (length-append, length-field content) refl in
    omega arith

-- bytes that begin with one field begin with no other
pub same_front : (from one other rest tail : List ℕ) → length from < 2 ^ 64 → from ≡ field one ++ rest → from ≡ field other ++ tail
    → (one ≡ other) × (rest ≡ tail)
same_front from one other rest tail fits begins begins_too =
    one_field one other rest tail (field_fits from one rest fits begins) (field_fits from other tail fits begins_too) (sym begins ∙ begins_too)

-- bytes that are two fields are no other two
pub same_two : (from a b c d : List ℕ) → length from < 2 ^ 64 → from ≡ field a ++ field b → from ≡ field c ++ field d → (a ≡ c) × (b ≡ d)
same_two from a b c d fits one other =
    let first = same_front from a c (field b) (field d) fits one other in
    let shorter : length (field b) ≤ length from = omega (arith, ap length one, length-append (field a) (field b)) in
    let second = same_front (field b) b d [] [] (omega arith) (whole (field b) (field b) refl) (whole (field b) (field d) first.1) in
    (first.0, second.0)

-- bytes that are a field are no other
pub same_last : (from a b : List ℕ) → length from < 2 ^ 64 → from ≡ field a → from ≡ field b → a ≡ b
same_last from a b fits one other = (same_front from a b [] [] fits (whole from (field a) one) (whole from (field b) other)).0
