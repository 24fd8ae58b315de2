use Rattle.std.proofs.Common.{rules, sym, arith}
use Rattle.std.proofs.lemmas.List.Sorted.{IsPartitionPoint-from_clause}
use Rattle.pb_script.proofs.KeptNumbers.{begins_by, runs_are_parted, in_no_run, in_run, begun_there}
use Rattle.pb_script.proofs.runs.number_at.Goals as goal

pub overflow_add-result : goal.overflow_add-result
overflow_add-result c =
    let parted = IsPartitionPoint-from_clause (begins_by c.args.place) c.args.runs.now c.partition_point-at.result c.partition_point-at.ensures.partitioned
    (runs_are_parted c.args.runs.now 0 c.requires.ascend.0 c.args.place c.requires.ascend.1) (λ a r f h. search rules) in
    let e = in_no_run c.args.runs.now c.args.place c.partition_point-at.result parted c.if-at-eq0.true in omega (arith, e, c.requires.small)

pub returns-then-at-eq0 : goal.returns-then-at-eq0
returns-then-at-eq0 c =
    let parted = IsPartitionPoint-from_clause (begins_by c.args.place) c.args.runs.now c.partition_point-at.result c.partition_point-at.ensures.partitioned
    (runs_are_parted c.args.runs.now 0 c.requires.ascend.0 c.args.place c.requires.ascend.1) (λ a r f h. search rules) in
    sym (in_no_run c.args.runs.now c.args.place c.partition_point-at.result parted c.if-at-eq0.true)

pub overflow_sub-result : goal.overflow_sub-result
overflow_sub-result c =
    let parted = IsPartitionPoint-from_clause (begins_by c.args.place) c.args.runs.now c.partition_point-at.result c.partition_point-at.ensures.partitioned
    (runs_are_parted c.args.runs.now 0 c.requires.ascend.0 c.args.place c.requires.ascend.1) (λ a r f h. search rules) in
    begun_there c.args.runs.now c.args.place c.partition_point-at.result parted (record { place = 0; number = 0 }) (omega (arith, c.if-at-eq0.false))

pub overflow_add-result-2 : goal.overflow_add-result-2
overflow_add-result-2 c =
    let parted = IsPartitionPoint-from_clause (begins_by c.args.place) c.args.runs.now c.partition_point-at.result c.partition_point-at.ensures.partitioned
    (runs_are_parted c.args.runs.now 0 c.requires.ascend.0 c.args.place c.requires.ascend.1) (λ a r f h. search rules) in
    let e = in_run c.args.runs.now c.args.place c.partition_point-at.result parted (record { place = 0; number = 0 }) (omega (arith, c.if-at-eq0.false)) c.partition_point-at.ensures.bound in
    omega (arith, e, c.requires.small)

pub returns : goal.returns
returns c =
    let parted = IsPartitionPoint-from_clause (begins_by c.args.place) c.args.runs.now c.partition_point-at.result c.partition_point-at.ensures.partitioned
    (runs_are_parted c.args.runs.now 0 c.requires.ascend.0 c.args.place c.requires.ascend.1) (λ a r f h. search rules) in
    sym (in_run c.args.runs.now c.args.place c.partition_point-at.result parted (record { place = 0; number = 0 }) (omega (arith, c.if-at-eq0.false)) c.partition_point-at.ensures.bound)
