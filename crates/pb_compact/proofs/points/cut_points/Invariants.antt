use Rattle.std.proofs.Common.{◌≡◌, ℕ, ◌++◌, drop}
use Rattle.pb_compact.specs.Outputs.{points_behind, cut_points}
use Rattle.pb_compact.proofs.PointsLaws.{SaysFull}
use Rattle.pb_compact.proofs.points.cut_points.Given as goal

abbrev pub invariant-loop-row : goal.invariant-loop-row
invariant-loop-row l =
    (exact : ℕ) × (SaysFull l.sum exact) × (l.points.items ++ points_behind exact l.last (drop l.row-index l.rows) ≡ cut_points l.rows)
