use Rattle.std.proofs.Common.{◌≡◌, ℕ, ◌+◌, List, [], ◌∷◌, ◌++◌, drop, min, ◌^◌, ◌-◌, sym, ap, ◌∙◌, subst, arith, inl}
use Rattle.std.specs.Prelude.{◌&&◌}
use Rattle.std.proofs.lemmas.List.{drop_more}
use Rattle.pb_keys.specs.Key.{prefix_of}
use Rattle.pb_keys.specs.Order.{is_below}
use Rattle.pb_rows.specs.Layer.{KeyRow}
use Rattle.pb_compact.specs.Outputs.{is_point, row_size, points_behind, cut_points}
use Rattle.pb_compact.proofs.PointsLaws.{SaysFull, added, same_fullness, at_point, no_point}
use Rattle.pb_compact.proofs.points.cut_points.Goals as goal
use Rattle.pb_compact.proofs.points.cut_points.Goals.{then-is_point+in_ok-point+in_ok-push, else-is_point}

pub loop-row-preserved : goal.loop-row-preserved
loop-row-preserved c =
    let rows = c.args.rows.now in
    let at = c.loop-row.row-index in
    let row = c.row-item.result in
    let rest = drop (at + 1) rows in
    let points = c.loop-row.points.items in
    let last = c.loop-row.last.now in
    let prefix : c.prefix-prefix.result.now ≡ prefix_of row.key = c.prefix-prefix.ensures.value
    ∙ ap (λ (r : KeyRow). prefix_of r.key) c.row.view_is in
    let split : drop at rows ≡ row ∷ rest = drop_more rows at row (omega arith) ∙ ap (λ (r : KeyRow). r ∷ rest) (sym c.row-item.is) in
    let exact = c.loop-row.invariant.0 in
    let says : SaysFull c.loop-row.sum exact = c.loop-row.invariant.1 in
    let same = subst (λ (left : List KeyRow). points ++ points_behind exact last left ≡ cut_points rows) split c.loop-row.invariant.2 in
    let test : c.is_point.result ≡ is_point exact last (prefix_of row.key) = c.is_point.ensures
    ∙ (λ i. same_fullness c.loop-row.sum exact says i && is_below last (prefix i)) in
    elim c.if-is_point.branch [
      | then-is_point+in_ok-point+in_ok-push w ↦
          let none : 0 + row_size row ≡ row_size row = omega arith in
          let full = added c.if-is_point.sum 0 (row_size row) c.saturating_add-sum.result (inl w.sum-is)
          (c.saturating_add-sum.ensures ∙ ap (λ n. min (c.if-is_point.sum + n) (2 ^ 64 - 1)) c.size_of.ensures) in
          let add : c.if-is_point.points.items ≡ points ++ prefix_of row.key ∷ [] = ap (λ v. v.items) w.points-is
          ∙ w.in_ok-push.ensures.items
          ∙ ap (λ (p : List ℕ). points ++ p ∷ []) (w.in_ok-point.ensures.ok ∙ prefix) in (
            row_size row,
            subst (SaysFull c.saturating_add-sum.result) none full,
            subst (λ (p : List ℕ). c.if-is_point.points.items ++ points_behind (row_size row) p rest ≡ cut_points rows) (sym prefix)
                (at_point points c.if-is_point.points.items (cut_points rows) exact last row rest (sym test ∙ w.if-is_point.true) add same),
          )
      | else-is_point w ↦
          let before : SaysFull c.if-is_point.sum exact = subst (λ n. SaysFull n exact) (sym w.sum-is) says in
          let full = added c.if-is_point.sum exact (row_size row) c.saturating_add-sum.result before
          (c.saturating_add-sum.ensures ∙ ap (λ n. min (c.if-is_point.sum + n) (2 ^ 64 - 1)) c.size_of.ensures) in
          let stay : points ≡ c.if-is_point.points.items = ap (λ v. v.items) (sym w.points-is) in (
            exact + row_size row,
            full,
            subst (λ (p : List ℕ). c.if-is_point.points.items ++ points_behind (exact + row_size row) p rest ≡ cut_points rows) (sym prefix)
                (subst (λ (ps : List (List ℕ)). ps ++ points_behind (exact + row_size row) (prefix_of row.key) rest ≡ cut_points rows) stay
                (no_point points (cut_points rows) exact last row rest (sym test ∙ w.if-is_point.false) same)),
          )
    ]
