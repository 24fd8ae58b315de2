use Rattle.std.proofs.Common.{◌≡◌, ◌≤◌, true, false, ap, sym, ◌∙◌, arith, rules, subst, length}
use Rattle.std.proofs.lemmas.List.Sorted.{IsPartitionPoint-from_clause}
use Rattle.std.proofs.lemmas.Bool.{le-ltb}
use Rattle.std.specs.List.Sorted.{IsPartitionPoint}
use Rattle.pb_keys.specs.Span.{holds_key}
use Rattle.pb_keys.proofs.OrderFacts.{compares}
use Rattle.pb_rows.proofs.LookLaws.{is_span_below, spans_are_parted, covered_here, covered_nowhere}
use Rattle.pb_rows.proofs.look.covers.Goals as goal

pub returns-then-at-dels : goal.returns-then-at-dels
returns-then-at-dels c =
    let parted = IsPartitionPoint-from_clause (is_span_below c.prefix-prefix.result.now) c.args.dels.now c.partition_point-at.result c.partition_point-at.ensures.partitioned (spans_are_parted c.args.dels.now c.prefix-prefix.result.now c.requires.in_form c.requires.apart) (λ a r f h. search (rules, compares)) in
    c.contains.ensures ∙ ap (λ s. holds_key s c.args.key.now) c.index-dels-at.is
    ∙ covered_here c.args.dels.now c.args.key.now c.partition_point-at.result c.index-dels-at.result c.requires.in_form c.requires.apart
    (subst (λ p. IsPartitionPoint (λ s. is_span_below p s ≡ true) (λ s. is_span_below p s ≡ false) c.args.dels.now c.partition_point-at.result) c.prefix-prefix.ensures.value parted) (omega arith)

pub returns-else-at-dels : goal.returns-else-at-dels
returns-else-at-dels c =
    let parted = IsPartitionPoint-from_clause (is_span_below c.prefix-prefix.result.now) c.args.dels.now c.partition_point-at.result c.partition_point-at.ensures.partitioned (spans_are_parted c.args.dels.now c.prefix-prefix.result.now c.requires.in_form c.requires.apart) (λ a r f h. search (rules, compares)) in
    let past : length c.args.dels.now ≤ c.partition_point-at.result = omega arith in
    le-ltb c.partition_point-at.result (length c.args.dels.now) past
    ∙ sym (covered_nowhere c.args.dels.now c.args.key.now c.partition_point-at.result c.requires.in_form c.requires.apart
    (subst (λ p. IsPartitionPoint (λ s. is_span_below p s ≡ true) (λ s. is_span_below p s ≡ false) c.args.dels.now c.partition_point-at.result) c.prefix-prefix.ensures.value parted) past)
