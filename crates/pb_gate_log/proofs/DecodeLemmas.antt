-- How far a file is decoded.
use Rattle.std.proofs.Common.{◌≡◌, ℕ, ◌+◌, ◌≤◌, true, List, [], ◌∷◌, ◌++◌, length, take, drop, refl, sym, ap, ◌∙◌, arith, length-drop, length-take-le, take-append-drop}
use Rattle.std.proofs.Math.Seq.{take-append-add}
use Rattle.std.proofs.lemmas.Bool.Decides.{nat_tests}
use Rattle.std.proofs.lemmas.List.{drop-drop}
use Rattle.std.proofs.lemmas.List.Elements.{All-append}
use Rattle.pb_bytes.specs.BigEndian.{be32}
use Rattle.pb_gate_log.specs.Payloads.{max_payload, len_behind, begins_entry}
use Rattle.pb_gate_log.specs.LogFile.{entry, written}
use Rattle.pb_gate_log.specs.Steps.{StandBefore}
use Rattle.pb_gate_log.proofs.LogLemmas.{written-append, written_one, All-one}
use Rattle.pb_gate_log.proofs.PayloadLemmas.{begins_entry_fits}

-- the first bytes, and the next
pub take-add : (m n : ℕ) (bytes : List ℕ) → m ≤ length bytes → take (m + n) bytes ≡ take m bytes ++ take n (drop m bytes)
take-add m n bytes within =
    let size : length (take m bytes) ≡ m = length-take-le m bytes within in
    ap (take (m + n)) (sym (take-append-drop m bytes))
    ∙ ap (λ k. take (k + n) (take m bytes ++ drop m bytes)) (sym size)
    ∙ take-append-add (take m bytes) (drop m bytes) n

begins_entry_limit : (bytes : List ℕ) → begins_entry bytes ≡ true → len_behind bytes ≤ max_payload
begins_entry_limit bytes begins = grind (arith, nat_tests)

-- nothing yet
pub stand_first : (bytes : List ℕ) → StandBefore 0 [] bytes
unfolding written
stand_first bytes = record { entries = refl; place = refl; short = λ k d h. absurd (omega arith); within = omega arith; gated = λ some. absurd (omega arith) }

-- one entry more
pub stand_next : (gate len : ℕ) (list : List (List ℕ)) (payload bytes : List ℕ) → StandBefore gate list bytes → begins_entry (drop gate bytes) ≡ true
    → len ≡ len_behind (drop gate bytes) → take 5 (drop gate bytes) ≡ 1 ∷ be32 len → payload ≡ take len (drop (gate + 5) bytes)
    → StandBefore (gate + (5 + len)) (list ++ payload ∷ []) bytes
stand_next gate len list payload bytes stand begins says spelled is =
    let rest = drop gate bytes in
    let within = stand.within in
    let fits : len + 6 ≤ length rest = omega (arith, begins_entry_fits rest begins, says) in
    let limit : len ≤ max_payload = omega (arith, begins_entry_limit rest begins, says) in
    let whole : gate + len + 6 ≤ length bytes = omega (arith, fits, length-drop gate bytes) in
    let behind : drop 5 rest ≡ drop (gate + 5) bytes = drop-drop 5 gate bytes in
    let size : length payload ≡ len = ap length is ∙ length-take-le len (drop (gate + 5) bytes) (omega (arith, length-drop (gate + 5) bytes)) in
    let entry_is : take (5 + len) rest ≡ entry payload =
    take-add 5 len rest (omega arith)
    ∙ ap (λ (l : List ℕ). l ++ take len (drop 5 rest)) (spelled ∙ ap (λ n. 1 ∷ be32 n) (sym size))
    ∙ ap (λ (l : List ℕ). (1 ∷ be32 (length payload)) ++ l) (ap (take len) behind ∙ sym is) in
    let all : take (gate + (5 + len)) bytes ≡ written (list ++ payload ∷ []) =
    take-add gate (5 + len) bytes within
    ∙ ap (λ (l : List ℕ). l ++ take (5 + len) rest) stand.entries
    ∙ ap (λ (l : List ℕ). written list ++ l) (entry_is ∙ sym (written_one payload))
    ∙ sym (written-append list (payload ∷ [])) in
    record {
      entries = all;
      place = ap length (sym all) ∙ length-take-le (gate + (5 + len)) bytes (omega arith);
      short = All-append (λ p. length p ≤ max_payload) list (payload ∷ []) stand.short (All-one (λ p. length p ≤ max_payload) payload (omega (arith, size, limit)));
      within = omega arith;
      gated = λ some. omega arith;
    }
