use Rattle.std.proofs.Common.{◌≡◌, true, false, subst, rules}
use Rattle.std.specs.Prelude.{not}
use Rattle.std.specs.List.Sorted.{IsPartitionPoint}
use Rattle.std.proofs.lemmas.List.Sorted.{IsPartitionPoint-from_clause}
use Rattle.pb_keys.specs.Order.{is_below}
use Rattle.pb_keys.specs.Span.{KeySpan}
use Rattle.pb_keys.proofs.OrderFacts.{compares}
use Rattle.pb_memtable.proofs.Joins.{touched_between, ends_are_parted, begins_are_parted}
use Rattle.pb_memtable.proofs.ready.touched_by.Goals as goal

pub returns-clause-touched : goal.returns-clause-touched
returns-clause-touched c =
    let dels = c.args.dels.now in let span = c.args.span.now in
    let from = c.partition_point-from.result in let to = c.partition_point-to.result in
    let starts = IsPartitionPoint-from_clause (λ (s : KeySpan). is_below s.hi c.lo-lo.result.now) dels from c.partition_point-from.ensures.partitioned (ends_are_parted dels c.lo-lo.result.now c.requires.in_form c.requires.apart) (λ a r f h. search (rules, compares)) in
    let ends = IsPartitionPoint-from_clause (λ (s : KeySpan). not (is_below c.hi-hi.result.now s.lo)) dels to c.partition_point-to.ensures.partitioned (begins_are_parted dels c.hi-hi.result.now c.requires.in_form c.requires.apart) (λ a r f h. search (rules, compares)) in
    touched_between span dels from to c.lo-lo.ensures.in_form c.requires.in_form c.partition_point-from.ensures.bound c.partition_point-to.ensures.bound
    (subst (λ lo. IsPartitionPoint (λ (s : KeySpan). is_below s.hi lo ≡ true) (λ (s : KeySpan). is_below s.hi lo ≡ false) dels from) c.lo-lo.ensures.value starts)
    (subst (λ hi. IsPartitionPoint (λ (s : KeySpan). not (is_below hi s.lo) ≡ true) (λ (s : KeySpan). not (is_below hi s.lo) ≡ false) dels to) c.hi-hi.ensures.value ends)
