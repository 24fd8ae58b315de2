-- What the bytes of a log file stand for when one write of a call is whole, torn or still to come.
use Rattle.std.proofs.Common.{◌≡◌, ◌≢◌, ◌⊎◌, ℕ, zero, suc, ◌+◌, ◌<◌, ◌≤◌, List, [], ◌∷◌, ◌++◌, length, take, drop, get_or, refl, sym, ap, ◌∙◌, inl, inr, arith, append_assoc, length-append, length-drop, length-take, length-take-le, take-append-drop, add-zero}
use Rattle.std.specs.List.{All}
use Rattle.std.proofs.lemmas.Bool.{cases_eq, cases_lt}
use Rattle.std.proofs.lemmas.List.{append-nil, take_at, drop_at, drop_more, get_or-take, get_or-drop, take-take, get_or_at}
use Rattle.std.proofs.lemmas.List.Elements.{All-append}
use Rattle.pb_bytes.specs.BigEndian.{be32, number_of}
use Rattle.pb_devices.specs.DiskCalls.{over}
use Rattle.pb_devices.proofs.Over.{length-over}
use Rattle.pb_gate_log.specs.Payloads.{max_payload, len_behind, begins_entry, payloads}
use Rattle.pb_gate_log.specs.LogFile.{entry, written, IsLogFile}
use Rattle.pb_gate_log.specs.Steps.{Torn, StandBefore, EndsAt, EndsForAnyGate}
use Rattle.pb_gate_log.proofs.PayloadLemmas.{begins_entry_short, begins_entry_closed, payloads_end, payloads-entry, payloads-written, length-entry, begins_entry_long}
use Rattle.pb_gate_log.proofs.TornLemmas.{take-over, before-over, behind-over}

pub written-append : (list more : List (List ℕ)) → written (list ++ more) ≡ written list ++ written more
unfolding written
written-append [] more = refl
written-append (payload ∷ list) more =
    ap (λ (l : List ℕ). entry payload ++ l) (written-append list more) ∙ sym (append_assoc (entry payload) (written list) (written more))

written-nil : (list : List (List ℕ)) → written list ≡ [] → list ≡ []
unfolding written
written-nil [] none = refl
written-nil (payload ∷ list) none = cc

pub written_one : (payload : List ℕ) → written (payload ∷ []) ≡ entry payload
unfolding written
written_one payload = append-nil (entry payload)

-- the entries, and whatever stands from the gate on
pub list_and_rest : (gate : ℕ) (list : List (List ℕ)) (bytes : List ℕ) → StandBefore gate list bytes → payloads bytes ≡ list ++ payloads (drop gate bytes)
list_and_rest gate list bytes stand =
    let gated = stand.gated in
    let within = stand.within in
    elim (cases_lt gate (length bytes)) [
      | inl there ↦
          ap payloads (sym (take-append-drop gate bytes) ∙ ap (λ (l : List ℕ). l ++ drop gate bytes) stand.entries)
          ∙ payloads-written list (drop gate bytes) stand.short (omega (arith, length-drop gate bytes))
      | inr none ↦ elim (cases_eq gate 0) [
        | inl first ↦
            let empty : list ≡ [] = written-nil list (sym stand.entries ∙ ap (λ n. take n bytes) first) in
            ap payloads (sym (ap (λ n. drop n bytes) first)) ∙ ap (λ (l : List (List ℕ)). l ++ payloads (drop gate bytes)) (sym empty)
        | inr later ↦ absurd (omega (arith, gated (omega arith)))
      ]
    ]

pub EndsAt-payloads : (gate : ℕ) (list : List (List ℕ)) (bytes : List ℕ) → EndsAt gate list bytes → payloads bytes ≡ list
EndsAt-payloads gate list bytes ends =
    list_and_rest gate list bytes ends.front ∙ ap (λ (l : List (List ℕ)). list ++ l) (payloads_end (drop gate bytes) ends.last) ∙ append-nil list

pub log_before : (gate : ℕ) (list : List (List ℕ)) (bytes : List ℕ) → IsLogFile gate list bytes → StandBefore gate list bytes
log_before gate list bytes log =
    let within = log.within in
    record { entries = log.entries; place = log.place; short = log.short; within = omega arith; gated = λ some. within }

log_ends : (gate : ℕ) (list : List (List ℕ)) (bytes : List ℕ) → IsLogFile gate list bytes → EndsAt gate list bytes
log_ends gate list bytes log = record {
  front = log_before gate list bytes log;
  last = begins_entry_closed (drop gate bytes) (λ is. log.closed (sym (get_or-drop gate bytes 0 0 ∙ ap (λ n. get_or bytes n 0) (omega arith)) ∙ is));
}

-- a log file stands for its list
pub log_payloads : (gate : ℕ) (list : List (List ℕ)) (bytes : List ℕ) → IsLogFile gate list bytes → payloads bytes ≡ list
log_payloads gate list bytes log = EndsAt-payloads gate list bytes (log_ends gate list bytes log)

-- whatever is written behind the shut gate
pub log_front : (gate : ℕ) (list : List (List ℕ)) (start bytes : List ℕ) → IsLogFile gate list start → take (gate + 1) bytes ≡ take (gate + 1) start → IsLogFile gate list bytes
log_front gate list start bytes log same =
    let within = log.within in
    let sized : length (take (gate + 1) start) ≡ gate + 1 = length-take-le (gate + 1) start (omega arith) in
    let there : gate < length bytes = omega (arith, ap length same, sized, length-take (gate + 1) bytes) in
    let shorter : take gate bytes ≡ take gate start =
    sym (take-take gate (gate + 1) bytes (omega arith)) ∙ ap (take gate) same ∙ take-take gate (gate + 1) start (omega arith) in
    let byte : get_or bytes gate 0 ≡ get_or start gate 0 =
    sym (get_or-take (gate + 1) bytes gate 0 (omega arith)) ∙ ap (λ (l : List ℕ). get_or l gate 0) same ∙ get_or-take (gate + 1) start gate 0 (omega arith) in
    record {
      entries = shorter ∙ log.entries;
      place = log.place;
      short = log.short;
      within = there;
      closed = λ is. log.closed (sym byte ∙ is);
    }

-- a torn write behind the shut gate
pub torn_behind : (gate to : ℕ) (list : List (List ℕ)) (start bytes : List ℕ) → IsLogFile gate list start → Torn (gate + 1) to start bytes → payloads bytes ≡ list
torn_behind gate to list start bytes log torn = log_payloads gate list bytes (log_front gate list start bytes log torn.before)

-- the byte at the gate, and what stands behind it
gate_and_rest : (gate : ℕ) (bytes : List ℕ) → gate < length bytes → drop gate bytes ≡ get_or bytes gate 0 ∷ drop (gate + 1) bytes
gate_and_rest gate bytes there = drop_more bytes gate 0 there

-- one byte at the gate may be any
torn_at_gate : (gate : ℕ) (list : List (List ℕ)) (start bytes : List ℕ) → StandBefore gate list start → Torn gate (gate + 1) start bytes → StandBefore gate list bytes
torn_at_gate gate list start bytes stand torn =
    let within = stand.within in
    let longer = torn.no_shorter in
    record {
      entries = torn.before ∙ stand.entries;
      place = stand.place;
      short = stand.short;
      within = omega arith;
      gated = λ some. omega (arith, stand.gated some);
    }

-- a shut gate behind an entry ends the list
pub payloads-last : (payload rest : List ℕ) → length payload ≤ max_payload → payloads (entry payload ++ 0 ∷ rest) ≡ payload ∷ []
payloads-last payload rest short =
    payloads-entry payload (0 ∷ rest) short (omega arith)
    ∙ ap (λ (l : List (List ℕ)). payload ∷ l) (payloads_end (0 ∷ rest) (begins_entry_closed (0 ∷ rest) (λ is. omega arith)))

-- the write that opens the gate, torn: the entry counts or it doesn't
pub torn_gate : (gate : ℕ) (list : List (List ℕ)) (payload rest start bytes : List ℕ) → IsLogFile gate list start → length payload ≤ max_payload
    → drop (gate + 1) start ≡ be32 (length payload) ++ payload ++ 0 ∷ rest → Torn gate (gate + 1) start bytes
    → (payloads bytes ≡ list) ⊎ (payloads bytes ≡ list ++ payload ∷ [])
torn_gate gate list payload rest start bytes log short staged torn =
    let within = log.within in
    let longer = torn.no_shorter in
    let stand = torn_at_gate gate list start bytes (log_before gate list start log) torn in
    let split : drop gate bytes ≡ get_or bytes gate 0 ∷ (be32 (length payload) ++ payload ++ 0 ∷ rest) =
    gate_and_rest gate bytes (omega arith) ∙ ap (λ (l : List ℕ). get_or bytes gate 0 ∷ l) (torn.after ∙ staged) in
    let whole = list_and_rest gate list bytes stand in
    elim (cases_eq (get_or bytes gate 0) 1) [
      | inl opened ↦
          let counts : payloads (drop gate bytes) ≡ payload ∷ [] =
          ap payloads (split ∙ ap (λ g. g ∷ (be32 (length payload) ++ payload ++ 0 ∷ rest)) opened) ∙ payloads-last payload rest short in
          inr (whole ∙ ap (λ (l : List (List ℕ)). list ++ l) counts)
      | inr closed ↦
          let none : payloads (drop gate bytes) ≡ [] =
          ap payloads split ∙ payloads_end (get_or bytes gate 0 ∷ (be32 (length payload) ++ payload ++ 0 ∷ rest)) (begins_entry_closed (get_or bytes gate 0 ∷ (be32 (length payload) ++ payload ++ 0 ∷ rest)) closed) in
          inl (whole ∙ ap (λ (l : List (List ℕ)). list ++ l) none ∙ append-nil list)
    ]

pub All-one : (P : List ℕ → Type 0) (payload : List ℕ) → P payload → All P (payload ∷ [])
All-one P payload is zero d h = is
All-one P payload is (suc k) d h = absurd (omega arith)

-- the write that opens the gate, whole
pub opened_log : (gate : ℕ) (list : List (List ℕ)) (payload rest start : List ℕ) → IsLogFile gate list start → length payload ≤ max_payload
    → drop (gate + 1) start ≡ be32 (length payload) ++ payload ++ 0 ∷ rest
    → IsLogFile (gate + 5 + length payload) (list ++ payload ∷ []) (over start gate (1 ∷ []))
opened_log gate list payload rest start log short staged =
    let within = log.within in
    let file = over start gate (1 ∷ []) in
    let all = written (list ++ payload ∷ []) in
    let behind : drop gate file ≡ entry payload ++ 0 ∷ rest =
    behind-over start gate (1 ∷ []) (omega arith) ∙ ap (λ (l : List ℕ). 1 ∷ l) staged in
    let spelled : written list ++ entry payload ≡ all =
    ap (λ (l : List ℕ). written list ++ l) (sym (written_one payload)) ∙ sym (written-append list (payload ∷ [])) in
    let whole : file ≡ all ++ 0 ∷ rest =
    sym (take-append-drop gate file)
    ∙ ap (λ (l : List ℕ). l ++ drop gate file) (before-over start gate (1 ∷ []) (omega arith) ∙ log.entries)
    ∙ ap (λ (l : List ℕ). written list ++ l) behind
    ∙ sym (append_assoc (written list) (entry payload) (0 ∷ rest))
    ∙ ap (λ (l : List ℕ). l ++ 0 ∷ rest) spelled in
    let size : length all ≡ gate + 5 + length payload =
    omega (arith, ap length spelled, length-append (written list) (entry payload), length-entry payload, log.place) in
    record {
      entries = ap (take (gate + 5 + length payload)) whole ∙ take_at all (0 ∷ rest) (gate + 5 + length payload) size;
      place = size;
      short = All-append (λ p. length p ≤ max_payload) list (payload ∷ []) log.short (All-one (λ p. length p ≤ max_payload) payload short);
      within = omega (arith, ap length whole, length-append all (0 ∷ rest), size);
      closed = λ is. omega (arith, sym (ap (λ (l : List ℕ). get_or l (gate + 5 + length payload) 0) whole ∙ get_or_at all 0 rest 0 (gate + 5 + length payload) size) ∙ is);
    }

-- three writes one behind the other
pub staged_front : (gate : ℕ) (len payload start one two three : List ℕ) → gate + 1 ≤ length start → length len ≡ 4
    → one ≡ over start (gate + 1) len → two ≡ over one (gate + 5) payload → three ≡ over two (gate + 5 + length payload) (0 ∷ [])
    → take (gate + 6 + length payload) three ≡ take (gate + 1) start ++ len ++ payload ++ 0 ∷ []
staged_front gate len payload start one two three place four first second third =
    let long_one : gate + 5 ≤ length one = omega (arith, ap length first, length-over start (gate + 1) len place, four) in
    let long_two : gate + 5 + length payload ≤ length two = omega (arith, ap length second, length-over one (gate + 5) payload long_one) in
    let up_one : take (gate + 5) one ≡ take (gate + 1) start ++ len =
    ap (take (gate + 5)) first ∙ ap (λ n. take n (over start (gate + 1) len)) (omega (arith, four)) ∙ take-over start (gate + 1) len place in
    let up_two : take (gate + 5 + length payload) two ≡ take (gate + 5) one ++ payload =
    ap (take (gate + 5 + length payload)) second ∙ take-over one (gate + 5) payload long_one in
    ap (take (gate + 6 + length payload)) third
    ∙ ap (λ n. take n (over two (gate + 5 + length payload) (0 ∷ []))) (omega arith)
    ∙ take-over two (gate + 5 + length payload) (0 ∷ []) long_two
    ∙ ap (λ (l : List ℕ). l ++ 0 ∷ []) (up_two ∙ ap (λ (l : List ℕ). l ++ payload) up_one)

module _ (gate : ℕ) (list : List (List ℕ)) (payload start now : List ℕ) (log : IsLogFile gate list start)
    (front : take (gate + 6 + length payload) now ≡ take (gate + 1) start ++ be32 (length payload) ++ payload ++ 0 ∷ []) where
  tail : List ℕ
  tail = be32 (length payload) ++ payload ++ 0 ∷ []

  sized : length (take (gate + 1) start) ≡ gate + 1
  sized = let within = log.within in length-take-le (gate + 1) start (omega arith)

  split : take (gate + 6 + length payload) now ≡ take (gate + 1) start ++ (be32 (length payload) ++ payload ++ 0 ∷ [])
  split =
      front
      ∙ ap (λ (l : List ℕ). l ++ 0 ∷ []) (append_assoc (take (gate + 1) start) (be32 (length payload)) payload)
      ∙ append_assoc (take (gate + 1) start) (be32 (length payload) ++ payload) (0 ∷ [])

  -- a staged file is still the log of its list
  pub staged_log : IsLogFile gate list now
  staged_log =
      log_front gate list start now log
      (sym (take-take (gate + 1) (gate + 6 + length payload) now (omega arith))
      ∙ ap (take (gate + 1)) split
      ∙ take_at (take (gate + 1) start) (be32 (length payload) ++ payload ++ 0 ∷ []) (gate + 1) sized)

  -- and the entry stands behind its gate
  pub staged_rest : drop (gate + 1) now ≡ be32 (length payload) ++ payload ++ 0 ∷ drop (gate + 6 + length payload) now
  staged_rest =
      let rest = drop (gate + 6 + length payload) now in
      ap (drop (gate + 1)) (sym (take-append-drop (gate + 6 + length payload) now)
      ∙ ap (λ (l : List ℕ). l ++ rest) split
      ∙ append_assoc (take (gate + 1) start) (be32 (length payload) ++ payload ++ 0 ∷ []) rest)
      ∙ drop_at (take (gate + 1) start) (be32 (length payload) ++ payload ++ 0 ∷ [] ++ rest) (gate + 1) sized
      ∙ append_assoc (be32 (length payload) ++ payload) (0 ∷ []) rest

-- where the list ends at a gate that isn't open, the file is at rest
pub ends_log : (gate : ℕ) (list : List (List ℕ)) (bytes : List ℕ) → EndsAt gate list bytes → gate < length bytes → get_or bytes gate 0 ≢ 1 → IsLogFile gate list bytes
ends_log gate list bytes ends there closed =
    record { entries = ends.front.entries; place = ends.front.place; short = ends.front.short; within = there; closed = closed }

-- the file ends at the gate's place, so nothing stands behind it
pub barred_empty : (gate : ℕ) (list : List (List ℕ)) (bytes : List ℕ) → EndsAt gate list bytes → gate ≡ length bytes → EndsForAnyGate gate list bytes
barred_empty gate list bytes ends end = record {
  front = ends.front;
  last = begins_entry_short (1 ∷ drop (gate + 1) bytes) (omega (arith, length-drop (gate + 1) bytes));
}

-- no entry begins with the open gate that stands there
pub barred_open : (gate : ℕ) (list : List (List ℕ)) (bytes : List ℕ) → EndsAt gate list bytes → gate < length bytes → get_or bytes gate 0 ≡ 1 → EndsForAnyGate gate list bytes
barred_open gate list bytes ends there open_gate = record {
  front = ends.front;
  last = ap begins_entry (sym (gate_and_rest gate bytes there ∙ ap (λ g. g ∷ drop (gate + 1) bytes) open_gate)) ∙ ends.last;
}

-- a length above the limit stands behind the gate
pub barred_over : (gate : ℕ) (list : List (List ℕ)) (bar bytes : List ℕ) → IsLogFile gate list bytes → length bar ≡ 4 → max_payload < number_of bar → EndsForAnyGate gate list (over bytes (gate + 1) bar)
barred_over gate list bar bytes log four long =
    let within = log.within in
    let place : gate + 1 ≤ length bytes = omega arith in
    let says : len_behind (1 ∷ drop (gate + 1) (over bytes (gate + 1) bar)) ≡ number_of bar =
    ap number_of (ap (take 4) (behind-over bytes (gate + 1) bar place) ∙ take_at bar (drop (gate + 1 + length bar) bytes) 4 four) in
    record {
      front = log_before gate list (over bytes (gate + 1) bar) (log_front gate list bytes (over bytes (gate + 1) bar) log (before-over bytes (gate + 1) bar place));
      last = begins_entry_long (1 ∷ drop (gate + 1) (over bytes (gate + 1) bar)) (omega (arith, says));
    }

-- the write that shuts the gate, torn: whichever byte stands there, no entry begins
pub torn_shut : (gate : ℕ) (list : List (List ℕ)) (start bytes : List ℕ) → EndsForAnyGate gate list start → Torn gate (gate + 1) start bytes → payloads bytes ≡ list
torn_shut gate list start bytes barred torn =
    let stand = torn_at_gate gate list start bytes barred.front torn in
    let within = stand.within in
    EndsAt-payloads gate list bytes (record {
      front = stand;
      last = elim (cases_lt gate (length bytes)) [
        | inl there ↦
            let split : drop gate bytes ≡ get_or bytes gate 0 ∷ drop (gate + 1) start =
            gate_and_rest gate bytes there ∙ ap (λ (l : List ℕ). get_or bytes gate 0 ∷ l) torn.after in
            elim (cases_eq (get_or bytes gate 0) 1) [
              | inl open_gate ↦ ap begins_entry (split ∙ ap (λ g. g ∷ drop (gate + 1) start) open_gate) ∙ barred.last
              | inr closed ↦ ap begins_entry split ∙ begins_entry_closed (get_or bytes gate 0 ∷ drop (gate + 1) start) closed
            ]
        | inr none ↦ begins_entry_short (drop gate bytes) (omega (arith, length-drop gate bytes))
      ];
    })

-- the write that shuts the gate, whole
pub shut_log : (gate : ℕ) (list : List (List ℕ)) (start : List ℕ) → EndsForAnyGate gate list start → IsLogFile gate list (over start gate (0 ∷ []))
shut_log gate list start barred =
    let place = barred.front.within in
    let file = over start gate (0 ∷ []) in
    record {
      entries = before-over start gate (0 ∷ []) place ∙ barred.front.entries;
      place = barred.front.place;
      short = barred.front.short;
      within = omega (arith, length-over start gate (0 ∷ []) place);
      closed = λ is.
          omega (arith, sym (ap (λ (l : List ℕ). get_or l 0 0) (behind-over start gate (0 ∷ []) place)), get_or-drop gate file 0 0, ap (λ n. get_or file n 0) (add-zero gate), is);
    }

-- a new log: its gate alone
pub new_log : IsLogFile 0 [] (0 ∷ [])
unfolding written
new_log = record { entries = refl; place = refl; short = λ k d h. absurd (omega arith); within = omega arith; closed = λ is. omega arith }

-- what a torn first write leaves has no payload
pub short_payloads : (bytes : List ℕ) → length bytes ≤ 1 → payloads bytes ≡ []
short_payloads bytes short = payloads_end bytes (begins_entry_short bytes (omega arith))
