-- A part that is read is the part that is spelled, and what is spelled is read again.
use Rattle.std.proofs.Common.{◌≡◌, ℕ, ◌+◌, ◌^◌, ◌<◌, ltb, leb, List, [], ◌∷◌, ◌++◌, length, take, drop, Some, refl, ap, subst, ◌∙◌, arith}
use Rattle.std.specs.Prelude.{option_and_then}
use Rattle.std.proofs.lemmas.Bool.{lt-ltb, ltb-true, le-leb, leb-true}
use Rattle.std.proofs.lemmas.List.{drop_at, length-take}
use Rattle.std.proofs.lemmas.Option.{cond_some, option_and_then_some}
use Rattle.pb_bytes.specs.Reading.{varint_at, if_below, if_within, field_at, behind, number_split, field_split}
use Rattle.pb_bytes.specs.Varint.{varint, field}
use Rattle.pb_bytes.proofs.ReadingLemmas.{Begins-rest, varint_at-varint, varint_at-some, field_at-field, field_at-some}
use Rattle.pb_bytes.proofs.Steps.{split_some, Splits}
use Rattle.pb_edit.specs.Grammar.{IsLevel, IsField}
use Rattle.pb_bytes.specs.Number.{IsNumber}
use Rattle.pb_edit.specs.Reading.{level_at}

-- ---- numbers

pub number_takes : (bytes : List ℕ) (x : ℕ × List ℕ) → number_split bytes ≡ Some x → Splits bytes (varint x.0) x.1 × IsNumber x.0
number_takes bytes x e =
    let y = split_some bytes (option_and_then (if_below (2 ^ 62)) (varint_at bytes)) x e in
    option_and_then_some (if_below (2 ^ 62)) (varint_at bytes) y.0 y.1 (λ read found kept.
    let parts = cond_some (ltb read.0 (2 ^ 62)) read y.0 kept in
    let begins = (varint_at-some bytes read.0 read.1 found).begins in
    subst (λ (z : ℕ × List ℕ). Splits bytes (varint z.0) z.1 × IsNumber z.0) (ap (behind bytes) parts.1 ∙ y.2)
    (Begins-rest bytes (varint read.0) read.1 begins, ltb-true read.0 (2 ^ 62) parts.0))

pub number_again : (n : ℕ) (rest : List ℕ) → IsNumber n → number_split (varint n ++ rest) ≡ Some (n, rest)
number_again n rest below =
    let fits : n < 2 ^ 64 = omega arith in
    rw (varint_at-varint n rest fits, lt-ltb n (2 ^ 62) below, drop_at (varint n) rest (length (varint n)) refl) refl

-- ---- fields

field_short : (bytes content : List ℕ) (used : ℕ) → field_at bytes ≡ Some (content, used) → IsField content
unfolding field_at
field_short bytes content used e =
    option_and_then_some (if_within bytes) (varint_at bytes) (content, used) e (λ read found kept.
    let parts = cond_some (leb (read.1 + read.0) (length bytes)) (take read.0 (drop read.1 bytes), read.1 + read.0) (content, used) kept in
    let is_content : take read.0 (drop read.1 bytes) ≡ content = ap (λ (y : List ℕ × ℕ). y.0) parts.1 in
    let below = (varint_at-some bytes read.0 read.1 found).below in
    rw (← is_content) (omega (arith, length-take read.0 (drop read.1 bytes))))

pub bytes_takes : (bytes : List ℕ) (x : List ℕ × List ℕ) → field_split bytes ≡ Some x → Splits bytes (field x.0) x.1 × IsField x.0
bytes_takes bytes x e =
    let y = split_some bytes (field_at bytes) x e in
    subst (λ (z : List ℕ × List ℕ). Splits bytes (field z.0) z.1 × IsField z.0) y.2
    (Begins-rest bytes (field y.0.0) y.0.1 (field_at-some bytes y.0.0 y.0.1 y.1), field_short bytes y.0.0 y.0.1 y.1)

pub bytes_again : (content rest : List ℕ) → IsField content → field_split (field content ++ rest) ≡ Some (content, rest)
bytes_again content rest short = rw (field_at-field content rest short, drop_at (field content) rest (length (field content)) refl) refl

-- ---- levels

pub level_takes : (bytes : List ℕ) (x : ℕ × List ℕ) → level_at bytes ≡ Some x → (bytes ≡ x.0 ∷ x.1) × IsLevel x.0
unfolding level_at
level_takes [] x e = absurd cc
level_takes (level ∷ rest) x e =
    let parts = cond_some (leb level 6) (level, rest) x e in
    subst (λ (y : ℕ × List ℕ). (level ∷ rest ≡ y.0 ∷ y.1) × IsLevel y.0) parts.1 (refl, leb-true level 6 parts.0)

pub level_again : (level : ℕ) (rest : List ℕ) → IsLevel level → level_at (level ∷ rest) ≡ Some (level, rest)
unfolding level_at
level_again level rest within = rw (le-leb level 6 within) refl
