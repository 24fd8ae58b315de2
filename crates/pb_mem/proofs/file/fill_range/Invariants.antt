use Rattle.std.proofs.Common.{◌≡◌, ℕ, ◌<◌, ◌≤◌, ◌⊎◌, length, get_or}
use Rattle.pb_mem.specs.Files.{pattern_byte}
use Rattle.pb_mem.proofs.file.fill_range.Given as goal

abbrev pub invariant-loop-place : goal.invariant-loop-place
invariant-loop-place l = record {
  within : (place : ℕ) → l.from ≤ place → place < l.place → place < length l.initial.bytes → get_or l.bytes place 0 ≡ pattern_byte l.pick place;
  outside : (place : ℕ) → (place < l.from) ⊎ (l.place ≤ place) → get_or l.bytes place 0 ≡ get_or l.initial.bytes place 0;
  reach : (l.place ≤ l.place-end) ⊎ (l.place ≡ l.from);
}
