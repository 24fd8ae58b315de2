use Rattle.std.proofs.Common.{rules}
use Rattle.std.proofs.lemmas.List.Sorted.{IsPartitionPoint-from_clause}
use Rattle.pb_counts.specs.Pairs.{is_before, is_pair}
use Rattle.pb_counts.proofs.Lists.{parted}
use Rattle.pb_counts.proofs.Orders.{pair_order}
use Rattle.pb_counts.proofs.pairs.place.Goals as goal

pub returns-clause-parts : goal.returns-clause-parts
returns-clause-parts c =
    IsPartitionPoint-from_clause (λ y. is_before y c.args.pair.now) c.args.pairs.now c.partition_point.result
    c.partition_point.ensures.partitioned
    (parted is_before is_pair pair_order c.args.pair.now c.args.pairs.now c.requires) (λ a r f h. search rules)
