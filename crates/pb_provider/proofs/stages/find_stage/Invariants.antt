use Rattle.std.proofs.Common.{◌≡◌, drop}
use Rattle.std.specs.List.{find}
use Rattle.pb_provider.proofs.StageLemmas.{is_number}
use Rattle.pb_provider.proofs.stages.find_stage.Given as goal

abbrev pub invariant-loop-staged : goal.invariant-loop-staged
invariant-loop-staged l = find (is_number l.number) (drop l.staged-index l.stages) ≡ find (is_number l.number) l.stages
