use Rattle.std.proofs.Common.{◌≡◌, ◌≤◌, length, true, false, sym, ◌∙◌, subst, arith, rules}
use Rattle.std.specs.List.Sorted.{IsPartitionPoint}
use Rattle.std.proofs.lemmas.List.Sorted.{IsPartitionPoint-from_clause}
use Rattle.std.proofs.lemmas.Bool.{le-ltb}
use Rattle.pb_keys.proofs.OrderFacts.{compares}
use Rattle.pb_rows.proofs.LookLaws.{is_span_below, spans_are_parted}
use Rattle.pb_memtable.proofs.Covering.{overlap_here, overlap_nowhere}
use Rattle.pb_memtable.proofs.within.has_overlap.Goals as goal

pub returns-then-at-dels : goal.returns-then-at-dels
returns-then-at-dels c =
    let dels = c.args.dels.now in let span = c.args.span.now in let at = c.partition_point-at.result in
    let parted = IsPartitionPoint-from_clause (is_span_below c.lo-lo.result.now) dels at c.partition_point-at.ensures.partitioned (spans_are_parted dels c.lo-lo.result.now c.requires.in_form c.requires.apart) (λ a r f h. search (rules, compares)) in
    c.overlaps.ensures
    ∙ overlap_here dels span at c.index-dels-at.result c.requires.in_form c.requires.apart
    (subst (λ lo. IsPartitionPoint (λ s. is_span_below lo s ≡ true) (λ s. is_span_below lo s ≡ false) dels at) c.lo-lo.ensures.value parted) (omega arith) c.index-dels-at.is

pub returns-else-at-dels : goal.returns-else-at-dels
returns-else-at-dels c =
    let dels = c.args.dels.now in let span = c.args.span.now in let at = c.partition_point-at.result in
    let parted = IsPartitionPoint-from_clause (is_span_below c.lo-lo.result.now) dels at c.partition_point-at.ensures.partitioned (spans_are_parted dels c.lo-lo.result.now c.requires.in_form c.requires.apart) (λ a r f h. search (rules, compares)) in
    let past : length dels ≤ at = omega arith in
    le-ltb at (length dels) past
    ∙ sym (overlap_nowhere dels span at (subst (λ lo. IsPartitionPoint (λ s. is_span_below lo s ≡ true) (λ s. is_span_below lo s ≡ false) dels at) c.lo-lo.ensures.value parted) past)
