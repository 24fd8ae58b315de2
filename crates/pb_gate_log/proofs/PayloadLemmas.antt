-- What bytes stand for.
use Rattle.std.proofs.Common.{◌≡◌, ◌≢◌, ℕ, zero, suc, ◌+◌, ◌<◌, ◌≤◌, true, false, cond, List, [], ◌∷◌, ◌++◌, length, take, drop, get_or, refl, sym, ap, ◌∙◌, inl, inr, arith, append_assoc, length-append, length-drop}
use Rattle.std.specs.List.{All}
use Rattle.std.proofs.lemmas.Bool.{cases_Bool}
use Rattle.std.proofs.lemmas.Bool.Decides.{nat_tests}
use Rattle.std.proofs.lemmas.List.{take_at, drop_at}
use Rattle.pb_bytes.specs.BigEndian.{be32, number_of}
use Rattle.pb_bytes.proofs.BigEndianLemmas.{length-be32, number_of-be32}
use Rattle.pb_gate_log.specs.Payloads.{max_payload, len_behind, begins_entry, payloads_of, payloads}
use Rattle.pb_gate_log.specs.LogFile.{entry, written}

-- too few bytes for an entry and its next gate
pub begins_entry_short : (bytes : List ℕ) → length bytes < 6 → begins_entry bytes ≡ false
begins_entry_short bytes short = grind (arith, nat_tests)

pub begins_entry_closed : (bytes : List ℕ) → get_or bytes 0 0 ≢ 1 → begins_entry bytes ≡ false
begins_entry_closed bytes closed = grind (arith, nat_tests)

-- an entry lies whole within the bytes
pub begins_entry_fits : (bytes : List ℕ) → begins_entry bytes ≡ true → len_behind bytes + 6 ≤ length bytes
begins_entry_fits bytes begins = grind (arith, nat_tests)

payloads_of_none : (more : ℕ) (bytes : List ℕ) → begins_entry bytes ≡ false → payloads_of more bytes ≡ []
unfolding payloads_of
payloads_of_none zero bytes none = refl
payloads_of_none (suc more) bytes none = ap (λ b. cond b (take (len_behind bytes) (drop 5 bytes) ∷ payloads_of more (drop (len_behind bytes + 5) bytes)) []) none

payloads_of_one : (more : ℕ) (bytes : List ℕ) → begins_entry bytes ≡ true
    → payloads_of (suc more) bytes ≡ take (len_behind bytes) (drop 5 bytes) ∷ payloads_of more (drop (len_behind bytes + 5) bytes)
unfolding payloads_of
payloads_of_one more bytes begins = ap (λ b. cond b (take (len_behind bytes) (drop 5 bytes) ∷ payloads_of more (drop (len_behind bytes + 5) bytes)) []) begins

-- more steps than bytes change nothing
enough : (m n : ℕ) (bytes : List ℕ) → length bytes ≤ m → length bytes ≤ n → payloads_of m bytes ≡ payloads_of n bytes
enough zero n bytes at_most also =
    let none : begins_entry bytes ≡ false = begins_entry_short bytes (omega arith) in
    payloads_of_none zero bytes none ∙ sym (payloads_of_none n bytes none)
enough (suc m) zero bytes at_most also =
    let none : begins_entry bytes ≡ false = begins_entry_short bytes (omega arith) in
    payloads_of_none (suc m) bytes none ∙ sym (payloads_of_none zero bytes none)
enough (suc m) (suc n) bytes at_most also = elim (cases_Bool (begins_entry bytes)) [
  | inl begins ↦
      let fits = begins_entry_fits bytes begins in
      let rest = drop (len_behind bytes + 5) bytes in
      let sized : length rest + (len_behind bytes + 5) ≡ length bytes = omega (arith, length-drop (len_behind bytes + 5) bytes, fits) in
      payloads_of_one m bytes begins
      ∙ ap (λ (l : List (List ℕ)). take (len_behind bytes) (drop 5 bytes) ∷ l) (enough m n rest (omega arith) (omega arith))
      ∙ sym (payloads_of_one n bytes begins)
  | inr none ↦ payloads_of_none (suc m) bytes none ∙ sym (payloads_of_none (suc n) bytes none)
]

-- where no entry begins, the list has ended
pub payloads_end : (bytes : List ℕ) → begins_entry bytes ≡ false → payloads bytes ≡ []
unfolding payloads
payloads_end bytes none = payloads_of_none (length bytes) bytes none

-- the first entry, and the list of what stands from its next gate on
pub payloads_first : (bytes : List ℕ) → begins_entry bytes ≡ true → payloads bytes ≡ take (len_behind bytes) (drop 5 bytes) ∷ payloads (drop (len_behind bytes + 5) bytes)
unfolding payloads
payloads_first bytes begins =
    let fits = begins_entry_fits bytes begins in
    let rest = drop (len_behind bytes + 5) bytes in
    let sized : length rest + (len_behind bytes + 5) ≡ length bytes = omega (arith, length-drop (len_behind bytes + 5) bytes, fits) in
    enough (length bytes) (suc (length bytes)) bytes (omega arith) (omega arith)
    ∙ payloads_of_one (length bytes) bytes begins
    ∙ ap (λ (l : List (List ℕ)). take (len_behind bytes) (drop 5 bytes) ∷ l) (enough (length bytes) (length rest) rest (omega arith) (omega arith))

len_behind-entry : (payload rest : List ℕ) → length payload ≤ max_payload → len_behind (entry payload ++ rest) ≡ length payload
len_behind-entry payload rest short =
    ap number_of (ap (take 4) (append_assoc (be32 (length payload)) payload rest) ∙ take_at (be32 (length payload)) (payload ++ rest) 4 (length-be32 (length payload)))
    ∙ number_of-be32 (length payload) (omega arith)

pub length-entry : (payload : List ℕ) → length (entry payload) ≡ length payload + 5
length-entry payload = omega (arith, length-append (1 ∷ be32 (length payload)) payload, length-be32 (length payload))

begins_entry-entry : (payload rest : List ℕ) → length payload ≤ max_payload → 0 < length rest → begins_entry (entry payload ++ rest) ≡ true
begins_entry-entry payload rest short more =
    let says = len_behind-entry payload rest short in
    let sized : length (entry payload ++ rest) ≡ length payload + 5 + length rest = omega (arith, length-append (entry payload) rest, length-entry payload) in
    grind (arith, nat_tests)

-- an entry with a gate behind it counts
pub payloads-entry : (payload rest : List ℕ) → length payload ≤ max_payload → 0 < length rest → payloads (entry payload ++ rest) ≡ payload ∷ payloads rest
payloads-entry payload rest short more =
    let whole = entry payload ++ rest in
    let says : len_behind whole ≡ length payload = len_behind-entry payload rest short in
    let split : whole ≡ (1 ∷ be32 (length payload)) ++ (payload ++ rest) = append_assoc (1 ∷ be32 (length payload)) payload rest in
    let behind : drop 5 whole ≡ payload ++ rest = ap (drop 5) split ∙ drop_at (1 ∷ be32 (length payload)) (payload ++ rest) 5 (omega (arith, length-be32 (length payload))) in
    let first : take (len_behind whole) (drop 5 whole) ≡ payload = ap (λ n. take n (drop 5 whole)) says ∙ ap (take (length payload)) behind ∙ take_at payload rest (length payload) refl in
    let later : drop (len_behind whole + 5) whole ≡ rest = ap (λ n. drop (n + 5) whole) says ∙ drop_at (entry payload) rest (length payload + 5) (length-entry payload) in
    payloads_first whole (begins_entry-entry payload rest short more)
    ∙ ap (λ (l : List ℕ). l ∷ payloads (drop (len_behind whole + 5) whole)) first
    ∙ ap (λ (l : List ℕ). payload ∷ payloads l) later

-- entries, and then whatever the rest stands for, if there is a gate behind them
pub payloads-written : (list : List (List ℕ)) (rest : List ℕ) → All (λ payload. length payload ≤ max_payload) list → 0 < length rest → payloads (written list ++ rest) ≡ list ++ payloads rest
unfolding written
payloads-written [] rest short more = refl
payloads-written (payload ∷ list) rest short more =
    let longer : 0 < length (written list ++ rest) = omega (arith, length-append (written list) rest) in
    ap payloads (append_assoc (entry payload) (written list) rest)
    ∙ payloads-entry payload (written list ++ rest) (short 0 payload (omega arith)) longer
    ∙ ap (λ (l : List (List ℕ)). payload ∷ l) (payloads-written list rest (λ k d h. short (suc k) d (omega arith)) more)

-- nor does one begin with a length above the limit
pub begins_entry_long : (bytes : List ℕ) → max_payload < len_behind bytes → begins_entry bytes ≡ false
begins_entry_long bytes long = grind (arith, nat_tests)
