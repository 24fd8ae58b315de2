-- What a write, whole or torn, leaves of a list of bytes.
use Rattle.std.proofs.Common.{◌≡◌, ℕ, ◌+◌, ◌<◌, ◌≤◌, max, List, ◌++◌, length, take, drop, sym, ap, ◌∙◌, arith, append_assoc, length-append, length-drop, length-take-le}
use Rattle.std.proofs.lemmas.Grind.{same_number_lists}
use Rattle.std.proofs.lemmas.List.{take_at, drop_at, get_or-take, get_or-drop}
use Rattle.pb_devices.specs.Contents.{IsTorn}
use Rattle.pb_devices.specs.DiskCalls.{over}
use Rattle.pb_gate_log.specs.Steps.{Torn}

-- a write that a power cut tears
pub torn_range : (start seen image : List ℕ) (pending : ℕ → Type 0) (from to : ℕ) → from ≤ length start → ((at : ℕ) → pending at → (from ≤ at) × (at < to)) → length seen ≤ max (length start) to → IsTorn start pending seen image → Torn from to start image
torn_range start seen image pending from to place within bound torn =
    let no_shorter = torn.no_shorter in
    let no_longer = torn.no_longer in
    record {
      before =
          same_number_lists (take from image) (take from start)
          (omega (arith, length-take-le from image (omega arith), length-take-le from start place))
          (λ k h.
          let below : k < from = omega (arith, h, length-take-le from image (omega arith)) in
          get_or-take from image k 0 below ∙ torn.kept k (omega arith) (λ is. absurd (omega (arith, (within k is).0))) ∙ sym (get_or-take from start k 0 below));
      after =
          same_number_lists (drop to image) (drop to start)
          (omega (arith, length-drop to image, length-drop to start))
          (λ k h.
          let inside : to + k < length start = omega (arith, h, length-drop to image) in
          get_or-drop to image k 0 ∙ torn.kept (to + k) inside (λ is. absurd (omega (arith, (within (to + k) is).1))) ∙ sym (get_or-drop to start k 0));
      no_shorter = no_shorter;
      no_longer = omega arith;
    }

module _ (start : List ℕ) (at : ℕ) (bytes : List ℕ) (place : at ≤ length start) where
  front_long : length (take at start ++ bytes) ≡ at + length bytes
  front_long = omega (arith, length-append (take at start) bytes, length-take-le at start place)

  -- up to its end, a write leaves what stood before it and what was written
  pub take-over : take (at + length bytes) (over start at bytes) ≡ take at start ++ bytes
  take-over = take_at (take at start ++ bytes) (drop (at + length bytes) start) (at + length bytes) front_long

  pub before-over : take at (over start at bytes) ≡ take at start
  before-over =
      ap (take at) (append_assoc (take at start) bytes (drop (at + length bytes) start))
      ∙ take_at (take at start) (bytes ++ drop (at + length bytes) start) at (length-take-le at start place)

  pub drop-over : drop (at + length bytes) (over start at bytes) ≡ drop (at + length bytes) start
  drop-over = drop_at (take at start ++ bytes) (drop (at + length bytes) start) (at + length bytes) front_long

  pub behind-over : drop at (over start at bytes) ≡ bytes ++ drop (at + length bytes) start
  behind-over =
      ap (drop at) (append_assoc (take at start) bytes (drop (at + length bytes) start))
      ∙ drop_at (take at start) (bytes ++ drop (at + length bytes) start) at (length-take-le at start place)
