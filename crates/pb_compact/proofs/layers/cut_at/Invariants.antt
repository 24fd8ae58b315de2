use Rattle.std.proofs.Common.{◌∷◌, [], ◌++◌, drop}
use Rattle.pb_rows.specs.Layer.{layer_of}
use Rattle.pb_compact.proofs.CutSteps.{CutUpTo}
use Rattle.pb_compact.proofs.layers.cut_at.Given as goal

abbrev pub invariant-loop-point : goal.invariant-loop-point
invariant-loop-point l =
    CutUpTo l.fn.layer (layer_of l.dels.items l.rows.items) l.outputs.items (drop l.point-index l.points ++ l.hull.hi ∷ [])
