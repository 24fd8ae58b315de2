-- What a call that writes within a range leaves: after a failure, and once it is synced.
use Rattle.std.proofs.Common.{◌≡◌, ℕ, ◌+◌, ◌≤◌, max, List, [], ◌∷◌, ◌++◌, length, take, Option, IsSomeAnd, Result, Ok, refl, sym, subst, ◌∙◌, ap, arith}
use Rattle.std.specs.Result.{IsErr}
use Rattle.pb_bytes.specs.BigEndian.{be32}
use Rattle.pb_devices.specs.Contents.{Contents, KeepsOthers}
use Rattle.pb_devices.specs.DiskCalls.{StaysAt, IsOver, IsSynced, over}
use Rattle.pb_devices.specs.Reads.{IsWithin}
use Rattle.pb_devices.proofs.Kept.{kept_then, synced_kept}
use Rattle.pb_devices.proofs.Over.{length-over}
use Rattle.pb_gate_log.specs.Steps.{IsPending, IsWriting, Overwrites, Stages}
use Rattle.pb_gate_log.proofs.LogLemmas.{staged_front}
use Rattle.pb_gate_log.proofs.PendingLemmas.{durable_pending, left_by, synced_durable, within_durable}
use Rattle.pb_keys.proofs.Results.{on_err, no_ok}

pub writing_then : (from to : ℕ) (first mid last : Contents) (file : List ℕ) → IsWriting from to first mid file → IsWriting from to mid last file → IsWriting from to first last file
writing_then from to first mid last file a b = record {
  pending = λ start is. b.pending start (a.pending start is);
  earlier = λ image is. a.earlier image (b.earlier image is);
  others = kept_then first mid last file a.others b.others;
}

stays_pending : (start : List ℕ) (from to : ℕ) (old new : Contents) (file : List ℕ) → StaysAt old new file → IsPending start from to old file → IsPending start from to new file
stays_pending start from to old new file stays pending = record {
  seen = subst (λ (s : Option (List ℕ)). IsSomeAnd s (λ now. length now ≤ max (length start) to)) (sym stays.seen) pending.seen;
  durable = stays.durable ∙ pending.durable;
  within = λ at is. pending.within at (stays.pending at is);
}

-- a sync that failed
pub writing_stays : (from to : ℕ) (old new : Contents) (file : List ℕ) → StaysAt old new file → KeepsOthers old new file → IsWriting from to old new file
writing_stays from to old new file stays others = record {
  pending = λ start is. stays_pending start from to old new file stays is;
  earlier = stays.earlier;
  others = others;
}

module _ {T E : Type 0} (result : Result T E) (is : IsErr result) (file : List ℕ) (old new : Contents) where
  pub overwrites_err : (at : ℕ) (bytes : List ℕ) → IsWithin at (old.seen file) → IsWriting at (at + length bytes) old new file
      → Overwrites file at bytes old new result
  overwrites_err at bytes place writing = record {
    ok = λ start durable. no_ok result _ is;
    crash = λ start image durable left.
        on_err result _
        (left_by start at (at + length bytes) old new file image writing.earlier
        (writing.pending start (durable_pending start at (at + length bytes) old file durable)) (within_durable at start old file place durable) left);
    earlier = writing.earlier;
    others = writing.others;
  }

  pub stages_err : (gate : ℕ) (payload : List ℕ) → IsWithin (gate + 1) (old.seen file) → IsWriting (gate + 1) (gate + 6 + length payload) old new file
      → Stages file gate payload old new result
  stages_err gate payload place writing = record {
    ok = λ start durable. no_ok result _ is;
    crash = λ start image durable left.
        on_err result _
        (left_by start (gate + 1) (gate + 6 + length payload) old new file image writing.earlier
        (writing.pending start (durable_pending start (gate + 1) (gate + 6 + length payload) old file durable))
        (within_durable (gate + 1) start old file place durable) left);
    earlier = writing.earlier;
    others = writing.others;
  }

staged_length : (gate : ℕ) (len payload start : List ℕ) → gate + 1 ≤ length start → length len ≡ 4
    → length (over (over (over start (gate + 1) len) (gate + 5) payload) (gate + 5 + length payload) (0 ∷ [])) ≡ max (length start) (gate + 6 + length payload)
staged_length gate len payload start within four =
    let one = over start (gate + 1) len in
    let two = over one (gate + 5) payload in
    let long_one : length one ≡ max (length start) (gate + 5) = omega (arith, length-over start (gate + 1) len within, four) in
    let long_two : length two ≡ max (length start) (gate + 5 + length payload) = omega (arith, length-over one (gate + 5) payload (omega arith), long_one) in
    omega (arith, length-over two (gate + 5 + length payload) (0 ∷ []) (omega arith), long_two)

module _ {T E : Type 0} (value : T) (file : List ℕ) (old mid new : Contents) (synced : IsSynced mid new file)
    (earlier : (image : Option (List ℕ)) → mid.earlier file image → old.earlier file image) (others : KeepsOthers old mid file) where
  pub overwrites_ok : (at : ℕ) (bytes : List ℕ) → IsOver old mid file at bytes → Overwrites file at bytes old new {T = T} {E = E} (Ok value)
  overwrites_ok at bytes wrote = record {
    ok = λ start durable. synced_durable (over start at bytes) mid new file (wrote start durable.seen) synced;
    crash = λ start image durable left. tt;
    earlier = λ image is. earlier image (synced.earlier image is);
    others = kept_then old mid new file others (synced_kept mid new file synced);
  }

  -- the three writes of an entry, one behind the other
  pub stages_ok : (gate : ℕ) (len payload : List ℕ) (one two : Contents) → IsWithin (gate + 1) (old.seen file) → len ≡ be32 (length payload) → length len ≡ 4
      → IsOver old one file (gate + 1) len → IsOver one two file (gate + 5) payload → IsOver two mid file (gate + 5 + length payload) (0 ∷ [])
      → Stages file gate payload old new {T = T} {E = E} (Ok value)
  stages_ok gate len payload one two place spelled four wrote_one wrote_two wrote_three = record {
    ok = λ start durable.
        let within = within_durable (gate + 1) start old file place durable in
        let first = over start (gate + 1) len in
        let second = over first (gate + 5) payload in
        let third = over second (gate + 5 + length payload) (0 ∷ []) in
        record {
          bytes = third;
          durable = synced_durable third mid new file (wrote_three second (wrote_two first (wrote_one start durable.seen))) synced;
          front =
              staged_front gate len payload start first second third within four refl refl refl
              ∙ ap (λ (l : List ℕ). take (gate + 1) start ++ l ++ payload ++ 0 ∷ []) spelled;
          sized = staged_length gate len payload start within four;
        };
    crash = λ start image durable left. tt;
    earlier = λ image is. earlier image (synced.earlier image is);
    others = kept_then old mid new file others (synced_kept mid new file synced);
  }
