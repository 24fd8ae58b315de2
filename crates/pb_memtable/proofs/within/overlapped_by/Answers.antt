use Rattle.std.proofs.Common.{◌≡◌, ℕ, List, true, false, subst, rules}
use Rattle.std.specs.List.Sorted.{IsPartitionPoint}
use Rattle.std.proofs.lemmas.List.Sorted.{IsPartitionPoint-from_clause}
use Rattle.pb_keys.specs.Order.{is_below}
use Rattle.pb_keys.specs.Span.{KeySpan}
use Rattle.pb_keys.proofs.OrderFacts.{compares}
use Rattle.pb_memtable.proofs.HeldParts.{starts_are_parted, overlapped_between}
use Rattle.pb_rows.proofs.LookLaws.{is_span_below, spans_are_parted}
use Rattle.pb_memtable.proofs.within.overlapped_by.Goals as goal

pub returns : goal.returns
returns c =
    let dels = c.args.dels.now in let span = c.args.span.now in let in_form = c.requires.in_form in let apart = c.requires.apart in
    let from = c.partition_point-from in let to = c.partition_point-to in
    let lo = c.lo-lo.result.now in let hi = c.hi-hi.result.now in
    let starts = IsPartitionPoint-from_clause (is_span_below lo) dels from.result from.ensures.partitioned
    (spans_are_parted dels lo in_form apart) (λ a r f h. search (rules, compares)) in
    let ends = IsPartitionPoint-from_clause (λ (s : KeySpan). is_below s.lo hi) dels to.result to.ensures.partitioned
    (starts_are_parted dels hi in_form apart) (λ a r f h. search (rules, compares)) in
    let Starts = λ (end : List ℕ). IsPartitionPoint (λ s. is_span_below end s ≡ true) (λ s. is_span_below end s ≡ false) dels from.result in
    let Ends = λ (end : List ℕ). IsPartitionPoint (λ (s : KeySpan). is_below s.lo end ≡ true)
    (λ (s : KeySpan). is_below s.lo end ≡ false) dels to.result in
    overlapped_between span dels from.result to.result c.lo-lo.ensures.in_form in_form from.ensures.bound to.ensures.bound
    (subst Starts c.lo-lo.ensures.value starts) (subst Ends c.hi-hi.ensures.value ends)
