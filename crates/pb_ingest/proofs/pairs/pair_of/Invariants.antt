use Rattle.std.proofs.Common.{◌≡◌, drop}
use Rattle.pb_ingest.specs.Pairs.{first_pair}
use Rattle.pb_ingest.proofs.PairsFirst.{moved}
use Rattle.pb_ingest.proofs.pairs.pair_of.Given as goal

abbrev pub invariant-loop-at : goal.invariant-loop-at
invariant-loop-at l = first_pair l.hulls ≡ moved l.at (first_pair (drop l.at l.hulls))
