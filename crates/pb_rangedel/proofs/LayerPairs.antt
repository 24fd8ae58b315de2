-- Neighbours of a list of layers put over one another, and a layer alone.
use Rattle.std.proofs.Common.{◌≡◌, ℕ, ◌+◌, ◌*◌, ◌<◌, ◌≤◌, true, false, inl, inr, List, [], ◌∷◌, ◌++◌, length, length-append, sym, ap, ◌∙◌, arith}
use Rattle.std.specs.Prelude.{Option, Some, None, All, IsSome}
use Rattle.std.proofs.lemmas.Bool.{cases_lt}
use Rattle.std.specs.Option.{option_to_list}
use Rattle.std.proofs.lemmas.List.{append_assoc}
use Rattle.pb_rows.specs.Layer.{KeyLayer, layer_of, IsLayer}
use Rattle.pb_rows.specs.Over.{over, over_all}
use Rattle.pb_rows.specs.Verdict.{row_verdict, is_covered}
use Rattle.pb_rows.proofs.LayersOver.{one_normal_form, empty_is_layer, layer-over, layer-over_all, over-groups}
use Rattle.pb_rows.proofs.RowLaws.{row_verdict-rows_over}
use Rattle.pb_rows.proofs.SameRows.{same_rows_by_verdict}
use Rattle.pb_rows.proofs.SpanLaws.{is_covered-union_of}
use Rattle.pb_keys.proofs.Tests.{or_false}
use Rattle.pb_rows.proofs.VerdictLaws.{option_or_none}

-- over the empty layer a layer stays what it is
pub over-none : (layer : KeyLayer) → IsLayer layer → over layer (layer_of [] []) ≡ layer
unfolding over
over-none layer is =
    let both = layer-over layer (layer_of [] []) is empty_is_layer in
    let dels = one_normal_form (over layer (layer_of [] [])).dels layer.dels both.spans both.apart is.spans is.apart (λ key. is_covered-union_of layer.dels [] key ∙ or_false (is_covered layer.dels key)) in
    let rows = same_rows_by_verdict (over layer (layer_of [] [])).rows layer.rows both.rise is.rise (λ key. row_verdict-rows_over layer.rows [] key ∙ option_or_none (row_verdict layer.rows key)) in
    (λ i. layer_of (dels i) (rows i))

pub over_all-pair : (newer older layer : KeyLayer) (rest : List KeyLayer) → IsLayer newer → IsLayer older → All IsLayer rest → layer ≡ over newer older → over_all (layer ∷ rest) ≡ over_all (newer ∷ older ∷ rest)
over_all-pair newer older layer rest new old are is =
    ap (λ l. over l (over_all rest)) is ∙ over-groups newer older (over_all rest) new old (layer-over_all rest are)

pub over_all-behind : (front xs ys : List KeyLayer) → over_all xs ≡ over_all ys → over_all (front ++ xs) ≡ over_all (front ++ ys)
over_all-behind [] xs ys same = same
over_all-behind (layer ∷ front) xs ys same = ap (over layer) (over_all-behind front xs ys same)

-- a pair behind those that were made
pub over_all-paired : (pairs rest : List KeyLayer) (layer newer : KeyLayer) (older : Option KeyLayer) → over_all (layer ∷ rest) ≡ over_all (newer ∷ (option_to_list older ++ rest)) → over_all ((pairs ++ layer ∷ []) ++ rest) ≡ over_all (pairs ++ (newer ∷ (option_to_list older ++ rest)))
over_all-paired pairs rest layer newer older same =
    ap over_all (append_assoc pairs (layer ∷ []) rest) ∙ over_all-behind pairs (layer ∷ rest) (newer ∷ (option_to_list older ++ rest)) same

pub alone : (layers front : List KeyLayer) (layer : KeyLayer) → layers ≡ front ++ layer ∷ [] → length layers ≤ 1 → IsLayer layer → layer ≡ over_all layers
alone layers [] layer same short is = sym (ap over_all same ∙ over-none layer is)
alone layers (first ∷ front) layer same short is = absurd (omega (arith, ap length same, length-append front (layer ∷ [])))

-- two layers fewer are left and one pair more is made, or the last layer of an odd number
pub pair_counts : (older : Option KeyLayer) (before mid left p q all : ℕ) → q ≡ p + 1 → mid + 1 ≡ before → left + length (option_to_list older) ≡ mid → (0 < mid → IsSome older) → (0 < before → 2 * p + before ≤ all) → (2 * q + left ≤ all + 1) × (0 < left → 2 * q + left ≤ all)
pair_counts (Some layer) before mid left p q all more first second some whole =
    let bound = whole (omega arith) in
    (omega (arith, second, bound), λ _. omega (arith, second, bound))
pair_counts None before mid left p q all more first second some whole =
    let bound = whole (omega arith) in
    elim (cases_lt 0 mid) [
      | inl later ↦ let none : false ≡ true = some later in cc
      | inr last ↦ (omega (arith, second, bound), λ h. absurd (omega (arith, second)))
    ]
