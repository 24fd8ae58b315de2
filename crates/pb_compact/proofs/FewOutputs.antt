-- How many outputs there are at most.
use Rattle.std.proofs.Common.{◌≡◌, ℕ, suc, ◌+◌, ◌*◌, ◌-◌, ◌≤◌, List, [], ◌∷◌, ◌++◌, length, map, true, false, cond, refl, ap, ◌∙◌, arith}
use Rattle.std.proofs.lemmas.Bool.{and_parts, leb-true}
use Rattle.std.proofs.lemmas.List.{length-append, length-map}
use Rattle.pb_keys.specs.Key.{prefix_of}
use Rattle.pb_keys.specs.Span.{KeySpan}
use Rattle.pb_rows.specs.Layer.{KeyRow, KeyLayer}
use Rattle.pb_rows.specs.Viewed.{plain_view, viewed}
use Rattle.pb_compact.specs.Outputs.{full_output, is_point, row_size, sizes_of, points_behind, cut_points, outputs_of, spans_to}
use Rattle.pb_compact.proofs.OutputLaws.{by_hull}

few_points : (sum : ℕ) (last : List ℕ) (rows : List KeyRow) → 262144 * length (points_behind sum last rows) ≤ sum + sizes_of rows
few_points sum last [] = omega arith
few_points sum last (row ∷ rows) =
    let prefix = prefix_of row.key in
    let cut = points_behind (row_size row) prefix rows in
    let on = points_behind (sum + row_size row) prefix rows in
    elim (is_point sum last prefix) as
    (λ b. is_point sum last prefix ≡ b → 262144 * length (cond b (prefix ∷ cut) on) ≤ sum + (row_size row + sizes_of rows)) [
      | true ↦ λ e.
          let full : 262144 ≤ sum = leb-true full_output sum (and_parts _ _ e).0 in
          let rest : 262144 * length cut ≤ row_size row + sizes_of rows = few_points (row_size row) prefix rows in
          let more : length (prefix ∷ cut) ≡ length cut + 1 = omega arith in
          omega (arith, full, rest, more)
      | false ↦ λ e.
          let rest : 262144 * length on ≤ (sum + row_size row) + sizes_of rows = few_points (sum + row_size row) prefix rows in
          omega (arith, rest)
    ] refl

length-spans_to : (lo : List ℕ) (ends : List (List ℕ)) → length (spans_to lo ends) ≡ length ends
length-spans_to lo [] = refl
length-spans_to lo (hi ∷ ends) = ap suc (length-spans_to hi ends)

pub few_outputs : (layer : KeyLayer) → 262144 * (length (outputs_of layer) - 1) ≤ sizes_of layer.rows
few_outputs layer =
    by_hull (λ outputs. 262144 * (length outputs - 1) ≤ sizes_of layer.rows) layer (λ none. omega arith) (λ hull is.
    let points = cut_points layer.rows in
    let ends = points ++ hull.hi ∷ [] in
    let shown = λ (b : KeySpan). viewed (plain_view b) layer in
    let count : length (map shown (spans_to hull.lo ends)) ≡ length points + 1 =
    length-map (spans_to hull.lo ends) shown ∙ length-spans_to hull.lo ends ∙ length-append points (hull.hi ∷ []) in
    let few : 262144 * length points ≤ 0 + sizes_of layer.rows = few_points 0 [] layer.rows in
    omega (arith, count, few))
