use Rattle.std.proofs.Common.{◌≡◌, ℕ, ◌-◌, ◌≤◌, List, length}
use Rattle.pb_keys.specs.Key.{prefix_of, suffix_of}
use Rattle.pb_memtable.specs.Search.{rows_at}
use Rattle.pb_memtable.proofs.SearchLaws.{IsBetween}
use Rattle.pb_memtable.proofs.search.place_of.Given as goal

abbrev pub invariant-loop-lo : goal.invariant-loop-lo
invariant-loop-lo l = record {
  rises : l.lo ≤ l.hi;
  within : l.hi ≤ length l.places;
  between : (key : List ℕ) → l.prefix ≡ prefix_of key → l.suffix ≡ suffix_of key → IsBetween key (rows_at l.changes l.places) l.lo l.hi;
}

abbrev pub decreases-loop-lo : goal.decreases-loop-lo
decreases-loop-lo l = l.hi - l.lo
