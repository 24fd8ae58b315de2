use Rattle.std.proofs.Common.{◌≡◌, ◌+◌, ◌*◌, ◌<◌, ◌≤◌, ◌++◌, vec_len}
use Rattle.std.specs.Prelude.{All}
use Rattle.std.specs.Vec.Iter.{into_iter_items, into_iter_len}
use Rattle.pb_rows.specs.Layer.{IsLayer}
use Rattle.pb_rows.specs.Over.{over_all}
use Rattle.pb_rangedel.proofs.layers.paired.Given as goal

abbrev pub invariant-loop-newer : goal.invariant-loop-newer
invariant-loop-newer l = record {
  same : All IsLayer (into_iter_items l.left) → over_all (l.pairs.items ++ into_iter_items l.left) ≡ over_all l.fn.layers.items;
  fewer : 2 * vec_len l.pairs + into_iter_len l.left ≤ vec_len l.fn.layers + 1;
  whole : 0 < into_iter_len l.left → 2 * vec_len l.pairs + into_iter_len l.left ≤ vec_len l.fn.layers;
}

abbrev pub decreases-loop-newer : goal.decreases-loop-newer
decreases-loop-newer l = into_iter_len l.left
