-- An entry that is read is the one that is spelled, and what is spelled is read again.
use Rattle.std.proofs.Common.{◌≡◌, ℕ, zero, suc, ◌+◌, ◌^◌, ◌<◌, ◌≤◌, leb, Bool, true, false, cond, List, [], ◌++◌, length, take, drop}
use Rattle.std.proofs.Common.{Option, Some, None, refl, sym, ap, subst, ◌∙◌, append_assoc, length-append, arith}
use Rattle.std.specs.Prelude.{IfSome}
use Rattle.std.specs.Option.{unwrap_or}
use Rattle.std.proofs.lemmas.Bool.{le-leb, leb-true}
use Rattle.std.proofs.lemmas.List.{take_at, drop_at, length-take-le, take-append-drop}
use Rattle.std.proofs.lemmas.Option.{cond_some, same_Some}
use Rattle.pb_bytes.specs.Varint.{varint}
use Rattle.pb_bytes.specs.Reading.{varint_at, varint_split}
use Rattle.pb_bytes.proofs.Steps.{bind_some, split_some, Splits, both_split}
use Rattle.pb_bytes.proofs.ReadingLemmas.{Begins-rest, varint_at-varint, varint_at-some}
use Rattle.pb_bytes.proofs.VarintLemmas.{length-varint_pos}
use Rattle.pb_keys.specs.Value.{IsValue}
use Rattle.pb_block.specs.Blocks.{value_number}
use Rattle.pb_block.specs.Reading.{Entry, unshared_at, value_at, entry_at}

pub some_behind : {A : Type 0} (b : Bool) (o : Option A) (y : A) → cond b o None ≡ Some y → (b ≡ true) × (o ≡ Some y)
some_behind true o y e = (refl, e)
some_behind false o y e = absurd cc

none_or : {A : Type 0} (o : Option A) → ((x : A) → o ≡ Some x → ⊥) → o ≡ None
none_or None h = refl
none_or (Some x) h = absurd (h x refl)

-- ---- varints

pub varint_takes : (bytes : List ℕ) (x : ℕ × List ℕ) → varint_split bytes ≡ Some x → Splits bytes (varint x.0) x.1
varint_takes bytes x e =
    let y = split_some bytes (varint_at bytes) x e in
    subst (λ (z : ℕ × List ℕ). Splits bytes (varint z.0) z.1) y.2
    (Begins-rest bytes (varint y.0.0) y.0.1 (varint_at-some bytes y.0.0 y.0.1 y.1).begins)

pub varint_again : (n : ℕ) (rest : List ℕ) → n < 2 ^ 64 → varint_split (varint n ++ rest) ≡ Some (n, rest)
varint_again n rest below = rw (varint_at-varint n rest below, drop_at (varint n) rest (length (varint n)) refl) refl

-- ---- the unshared end of a key

pub record IsUnshared (before shared len : ℕ) (bytes : List ℕ) (x : List ℕ × List ℕ) : Type 0 where
  pub is_shared : shared ≤ before
  pub within : shared + len ≤ 1024
  pub is_len : length x.0 ≡ len
  pub spelled : Splits bytes x.0 x.1

pub unshared_takes : (before shared len : ℕ) (bytes : List ℕ) (x : List ℕ × List ℕ) → unshared_at before shared len bytes ≡ Some x
    → IsUnshared before shared len bytes x
unfolding unshared_at
unshared_takes before shared len bytes x e =
    let a = some_behind (leb shared before) _ x e in
    let b = some_behind (leb (shared + len) 1024) _ x a.1 in
    let c = cond_some (leb len (length bytes)) (take len bytes, drop len bytes) x b.1 in
    subst (λ (y : List ℕ × List ℕ). IsUnshared before shared len bytes y) c.1 (record {
      is_shared = leb-true shared before a.0;
      within = leb-true (shared + len) 1024 b.0;
      is_len = length-take-le len bytes (leb-true len (length bytes) c.0);
      spelled = sym (take-append-drop len bytes);
    })

pub unshared_again : (before shared : ℕ) (unshared rest : List ℕ) → shared ≤ before → shared + length unshared ≤ 1024
    → unshared_at before shared (length unshared) (unshared ++ rest) ≡ Some (unshared, rest)
unfolding unshared_at
unshared_again before shared unshared rest is_shared within =
    let enough : length unshared ≤ length (unshared ++ rest) = omega (arith, length-append unshared rest) in
    rw (
      le-leb shared before is_shared,
      le-leb (shared + length unshared) 1024 within,
      le-leb (length unshared) (length (unshared ++ rest)) enough,
      take_at unshared rest (length unshared) refl,
      drop_at unshared rest (length unshared) refl,
    ) refl

-- ---- values

pub record IsRead (number : ℕ) (bytes : List ℕ) (x : Option (List ℕ) × List ℕ) : Type 0 where
  pub is_number : number ≡ value_number x.0
  pub spelled : Splits bytes (unwrap_or x.0 []) x.1

pub value_takes : (number : ℕ) (bytes : List ℕ) (x : Option (List ℕ) × List ℕ) → value_at number bytes ≡ Some x → IsRead number bytes x
unfolding value_at
value_takes zero bytes x e =
    subst (λ (y : Option (List ℕ) × List ℕ). IsRead zero bytes y) (same_Some (None, bytes) x e)
    (record { is_number = refl; spelled = refl })
value_takes (suc len) bytes x e =
    let a = cond_some (leb len (length bytes)) (Some (take len bytes), drop len bytes) x e in
    let size : length (take len bytes) ≡ len = length-take-le len bytes (leb-true len (length bytes) a.0) in
    subst (λ (y : Option (List ℕ) × List ℕ). IsRead (suc len) bytes y) a.1
    (record { is_number = omega arith; spelled = sym (take-append-drop len bytes) })

pub value_again : (value : Option (List ℕ)) (rest : List ℕ)
    → value_at (value_number value) (unwrap_or value [] ++ rest) ≡ Some (value, rest)
unfolding value_at
value_again None rest = refl
value_again (Some bytes) rest =
    let enough : length bytes ≤ length (bytes ++ rest) = omega (arith, length-append bytes rest) in
    let next : length bytes + 1 ≡ suc (length bytes) = omega arith in
    rw (
      next,
      le-leb (length bytes) (length (bytes ++ rest)) enough,
      take_at bytes rest (length bytes) refl,
      drop_at bytes rest (length bytes) refl,
    ) refl

-- ---- entries

-- as it stands in bytes
abbrev pub spelled_entry : Entry → List ℕ
spelled_entry entry =
    varint entry.shared ++ (varint (length entry.unshared)
    ++ (varint (value_number entry.value) ++ (entry.unshared ++ unwrap_or entry.value [])))

pub record IsEntry (before : ℕ) (bytes : List ℕ) (x : Entry × List ℕ) : Type 0 where
  pub shared : x.0.shared ≤ before
  pub within : x.0.shared + length x.0.unshared ≤ 1024
  pub spelled : Splits bytes (spelled_entry x.0) x.1

pub entry_takes : (before : ℕ) (bytes : List ℕ) (x : Entry × List ℕ) → entry_at before bytes ≡ Some x → IsEntry before bytes x
unfolding entry_at
entry_takes before bytes x e =
    let shared = bind_some (varint_split bytes) _ x e in
    let len = bind_some (varint_split shared.0.1) _ x shared.2 in
    let number = bind_some (varint_split len.0.1) _ x len.2 in
    let unshared = bind_some (unshared_at before shared.0.0 len.0.0 number.0.1) _ x number.2 in
    let value = bind_some (value_at number.0.0 unshared.0.1) _ x unshared.2 in
    let made : Entry × List ℕ = (record { shared = shared.0.0; unshared = unshared.0.0; value = value.0.0 }, value.0.1) in
    let is_shared = varint_takes bytes shared.0 shared.1 in
    let is_len = varint_takes shared.0.1 len.0 len.1 in
    let is_number = varint_takes len.0.1 number.0 number.1 in
    let is_unshared = unshared_takes before shared.0.0 len.0.0 number.0.1 unshared.0 unshared.1 in
    let is_value = value_takes number.0.0 unshared.0.1 value.0 value.1 in
    let content = both_split number.0.1 unshared.0.1 value.0.1 unshared.0.0 (unwrap_or value.0.0 []) is_unshared.spelled is_value.spelled in
    let numbered = both_split len.0.1 number.0.1 value.0.1 (varint number.0.0) (unshared.0.0 ++ unwrap_or value.0.0 []) is_number content in
    let sized = both_split shared.0.1 len.0.1 value.0.1 (varint len.0.0) (varint number.0.0 ++ (unshared.0.0 ++ unwrap_or value.0.0 []))
    is_len numbered in
    let whole = both_split bytes shared.0.1 value.0.1 (varint shared.0.0)
    (varint len.0.0 ++ (varint number.0.0 ++ (unshared.0.0 ++ unwrap_or value.0.0 []))) is_shared sized in
    let same_len : len.0.0 ≡ length unshared.0.0 = sym is_unshared.is_len in
    subst (λ (y : Entry × List ℕ). IsEntry before bytes y) (same_Some made x value.2) (record {
      shared = is_unshared.is_shared;
      within = subst (λ (n : ℕ). shared.0.0 + n ≤ 1024) same_len is_unshared.within;
      spelled = subst (λ (n : ℕ). Splits bytes
          (varint shared.0.0 ++ (varint n ++ (varint (value_number value.0.0) ++ (unshared.0.0 ++ unwrap_or value.0.0 [])))) value.0.1) same_len
          (subst (λ (n : ℕ). Splits bytes (varint shared.0.0 ++ (varint len.0.0 ++ (varint n ++ (unshared.0.0 ++ unwrap_or value.0.0 []))))
          value.0.1) is_value.is_number whole);
    })

pub record CanStand (before : ℕ) (entry : Entry) : Type 0 where
  pub shared : entry.shared ≤ before
  pub within : entry.shared + length entry.unshared ≤ 1024
  pub value : IfSome entry.value IsValue

number_fits : (value : Option (List ℕ)) → IfSome value IsValue → value_number value < 2 ^ 64
number_fits None short = omega arith
number_fits (Some bytes) short = omega (arith, short)

pub entry_again : (before : ℕ) (entry : Entry) (rest : List ℕ) → CanStand before entry
    → entry_at before (spelled_entry entry ++ rest) ≡ Some (entry, rest)
unfolding entry_at
entry_again before entry rest can =
    let last = unwrap_or entry.value [] ++ rest in
    let regrouped : spelled_entry entry ++ rest
    ≡ varint entry.shared ++ (varint (length entry.unshared) ++ (varint (value_number entry.value) ++ (entry.unshared ++ last))) =
    simp append_assoc in
    let shared_fits : entry.shared < 2 ^ 64 = omega (arith, can.within) in
    let len_fits : length entry.unshared < 2 ^ 64 = omega (arith, can.within) in
    ap (entry_at before) regrouped ∙ rw (
      varint_again entry.shared (varint (length entry.unshared) ++ (varint (value_number entry.value) ++ (entry.unshared ++ last)))
          shared_fits,
      varint_again (length entry.unshared) (varint (value_number entry.value) ++ (entry.unshared ++ last)) len_fits,
      varint_again (value_number entry.value) (entry.unshared ++ last) (number_fits entry.value can.value),
      unshared_again before entry.shared entry.unshared last can.shared can.within,
      value_again entry.value rest,
    ) refl

-- an entry takes bytes
pub entry_shorter : (before : ℕ) (bytes : List ℕ) (x : Entry × List ℕ) → entry_at before bytes ≡ Some x → length x.1 < length bytes
entry_shorter before bytes x e =
    let is = entry_takes before bytes x e in
    let some = length-varint_pos x.0.shared in
    let sizes : length bytes ≡ length (spelled_entry x.0) + length x.1 = ap length is.spelled ∙ length-append (spelled_entry x.0) x.1 in
    let more = length-append (varint x.0.shared)
    (varint (length x.0.unshared) ++ (varint (value_number x.0.value) ++ (x.0.unshared ++ unwrap_or x.0.value []))) in
    omega arith

-- nothing is read of nothing
pub no_entry : (before : ℕ) → entry_at before [] ≡ None
no_entry before = none_or (entry_at before []) (λ x e. let shorter = entry_shorter before [] x e in absurd (omega arith))
