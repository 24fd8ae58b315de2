-- Numbers used up in one go.
use Rattle.std.specs.Prelude.{ℕ, ◌-◌, ◌&&◌, ◌||◌, ◌==◌, nat_le, nat_lt, List, map}
use Rattle.std.specs.List.{list_any, range_with_len}
use Rattle.pb_marker_world.specs.Machine.{Part}
use Rattle.pb_marker_world.specs.Steps.{Step}
use Rattle.pb_marker_world.specs.Steps.Step.{Spends}

-- each of the numbers is used up, in this order
abbrev pub spend_each : List ℕ → List Step
spend_each numbers = map Spends numbers

-- all numbers from a on and below b
abbrev pub spend_block : ℕ → ℕ → List Step
spend_block a b = spend_each (range_with_len a (b - a))

-- these numbers are used besides
abbrev pub with_all_used : Part → List ℕ → Part
with_all_used part numbers =
    record { opening = part.opening; used = λ k. list_any (λ n. n == k) numbers || part.used k; entries = part.entries }

-- all numbers from a on and below b are
abbrev pub with_block_used : Part → ℕ → ℕ → Part
with_block_used part a b =
    record { opening = part.opening; used = λ k. (nat_le a k && nat_lt k b) || part.used k; entries = part.entries }
