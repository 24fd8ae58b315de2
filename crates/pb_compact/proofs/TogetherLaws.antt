-- Rows of one prefix stand in one output, and a layer without rows is one output.
use Rattle.std.proofs.Common.{◌≡◌, ℕ, zero, suc, ◌<◌, List, [], ◌∷◌, length, get_or, map, Bool, true, false, cond, refl, sym, ap, ◌∙◌, subst, arith}
use Rattle.std.specs.Prelude.{All, Contains, Option, Some, None, filter}
use Rattle.std.proofs.lemmas.List.Elements.{All-contains, All-map, filter_passes}
use Rattle.pb_keys.specs.Key.{prefix_of}
use Rattle.pb_keys.specs.Span.{KeySpan, holds_key}
use Rattle.pb_keys.proofs.SpanFacts.{holds_key-ends}
use Rattle.pb_keys.specs.Order.{is_below, is_upto}
use Rattle.std.specs.Prelude.{◌&&◌}
use Rattle.pb_rows.specs.Hull.{hull_of}
use Rattle.pb_rows.specs.Layer.{KeyRow, KeyLayer, IsLayer, IsFilled, layer_of}
use Rattle.pb_rows.specs.Viewed.{bounded, plain_view, viewed}
use Rattle.pb_rows.proofs.FilledLaws.{hull_if_filled}
use Rattle.pb_rows.proofs.ViewLaws.{mapped-plain_view}
use Rattle.pb_rows.proofs.ViewedForm.{whole_through_hull}
use Rattle.pb_compact.specs.Outputs.{bounds_within, cut_points, output_bounds, outputs_of}

-- with a row each other of its prefix that the layer has
abbrev pub HasAllOfAPrefix : KeyLayer → KeyLayer → Type 0
HasAllOfAPrefix layer output =
    (row other : KeyRow) → Contains output.rows row → Contains layer.rows other → prefix_of row.key ≡ prefix_of other.key → Contains
    output.rows other

pub passed_at : (p : KeyRow → Bool) (rows : List KeyRow) (row : KeyRow) (k : ℕ) → k < length rows → get_or rows k row ≡ row
    → p row ≡ true → Contains (filter p rows) row
passed_at p [] row k h e q = absurd (omega arith)
passed_at p (first ∷ rows) row zero h e q =
    subst (λ b. Contains (cond b (first ∷ filter p rows) (filter p rows)) row) (sym (ap p e ∙ q)) (0, omega arith, e)
passed_at p (first ∷ rows) row (suc k) h e q =
    let rest = passed_at p rows row k (omega arith) e q in
    let within : rest.0 < length (filter p rows) = rest.1 in
    elim (p first) as (λ b. Contains (cond b (first ∷ filter p rows) (filter p rows)) row) [
      | true ↦ (suc rest.0, omega arith, rest.2)
      | false ↦ rest
    ]

held_alike : (bounds : KeySpan) (a b : List ℕ) → prefix_of a ≡ prefix_of b → holds_key bounds a ≡ holds_key bounds b
held_alike bounds a b same =
    holds_key-ends bounds a ∙ (λ i. is_upto bounds.lo (same i) && is_below (same i) bounds.hi) ∙ sym (holds_key-ends bounds b)

bounded_together : (bounds : KeySpan) (layer : KeyLayer) → HasAllOfAPrefix layer (bounded bounds layer)
bounded_together bounds layer row other has stands same =
    let held = λ (r : KeyRow). holds_key bounds r.key in
    let here : held row ≡ true = All-contains (λ r. held r ≡ true) (filter held layer.rows) row (filter_passes held layer.rows) has in
    passed_at held layer.rows other stands.0 stands.1 stands.2 (sym (held_alike bounds row.key other.key same) ∙ here)

viewed_together : (bounds : KeySpan) (layer : KeyLayer) → HasAllOfAPrefix layer (viewed (plain_view bounds) layer)
unfolding viewed
viewed_together bounds layer =
    subst (λ l. HasAllOfAPrefix layer (bounded bounds l)) (sym (mapped-plain_view bounds layer)) (bounded_together bounds layer)

pub prefixes_stay : (layer : KeyLayer) → All (HasAllOfAPrefix layer) (outputs_of layer)
prefixes_stay layer =
    All-map (HasAllOfAPrefix layer) (λ b. viewed (plain_view b) layer) (output_bounds layer)
    (λ k d h. viewed_together (get_or (output_bounds layer) k d) layer)

-- ---- deletions alone

alone : (layer : KeyLayer) (found : Option KeySpan) → IsLayer layer → IsFilled layer → hull_of layer ≡ found
    → map (λ b. viewed (plain_view b) layer) (bounds_within [] found) ≡ layer ∷ []
alone layer None of filled is = absurd ((hull_if_filled layer).0 is filled)
alone layer (Some hull) of filled is = ap (λ l. l ∷ []) (whole_through_hull layer hull of is)

pub deletions_alone : (layer : KeyLayer) → IsLayer layer → IsFilled layer → layer.rows ≡ [] → outputs_of layer ≡ layer ∷ []
deletions_alone layer of filled none =
    ap (λ rows. map (λ b. viewed (plain_view b) layer) (bounds_within (cut_points rows) (hull_of layer))) none
    ∙ alone layer (hull_of layer) of filled refl

pub nothing_alone : outputs_of (layer_of [] []) ≡ []
unfolding hull_of
nothing_alone = refl
