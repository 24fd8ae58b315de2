use Rattle.std.proofs.Common.{◌≡◌, ℕ, ◌<◌, ◌≤◌, length, get_or, true}
use Rattle.pb_counts.specs.Ascending.{Ascends}
use Rattle.pb_counts.specs.Pairs.{is_before, used_in}
use Rattle.pb_counts.proofs.counts.Counts.obsolete.Given as goal

abbrev pub invariant-loop-backing : goal.invariant-loop-backing
invariant-loop-backing l = record {
  ascends : Ascends is_before l.pairs;
  passed : (k : ℕ) → l.backing-index ≤ k → k < length l.self.known → used_in l.pairs (get_or l.self.known k 0) ≡ used_in l.self.pairs
      (get_or l.self.known k 0);
  used : (k : ℕ) → k < l.backing-index → used_in l.self.pairs (get_or l.self.known k 0) ≡ true;
}
