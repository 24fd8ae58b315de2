use Rattle.std.proofs.Common.{◌≡◌, ℕ, ◌≤◌, length, drop, ◌-◌}
use Rattle.pb_counts.specs.Pairs.{used_in}
use Rattle.pb_counts.proofs.pairs.from_backing.Given as goal

abbrev pub invariant-loop-at : goal.invariant-loop-at
invariant-loop-at l = record {
  within : l.at ≤ length l.pairs;
  passed : (n : ℕ) → l.backing ≤ n → used_in (drop l.at l.pairs) n ≡ used_in l.pairs n;
}

abbrev pub decreases-loop-at : goal.decreases-loop-at
decreases-loop-at l = length l.pairs - l.at
