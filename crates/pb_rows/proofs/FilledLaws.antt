-- Layers that say something, by their lists.
use Rattle.std.proofs.Common.{◌≡◌, ◌≤◌, List, [], ◌∷◌, length, true, false, cond, refl, sym, ap, subst, arith, inl, inr}
use Rattle.std.specs.Prelude.{◌↔◌, ◌⊎◌, None, filter, not}
use Rattle.std.specs.FinMap.Entries.{by_order}
use Rattle.std.specs.declared.cmp.Ordering.TheVariants.{Less, Equal, Greater}
use Rattle.pb_keys.specs.Key.{key_cmp}
use Rattle.pb_keys.specs.Order.{is_below}
use Rattle.pb_keys.specs.Span.{KeySpan, joined}
use Rattle.pb_rows.specs.Hull.{hull_of}
use Rattle.pb_rows.specs.Layer.{KeyRow, KeyLayer, IsFilled, layer_of}
use Rattle.pb_rows.specs.Over.{with_span, union_of, with_row, rows_over, over}
use Rattle.pb_rows.specs.Verdict.{is_covered}
use Rattle.pb_rows.proofs.HullLaws.{no_hull}

-- a layer is filled, or it is the empty one
pub filled_or_empty : (layer : KeyLayer) → IsFilled layer ⊎ (layer ≡ layer_of [] [])
filled_or_empty layer = by_lists layer.dels layer.rows
  where
    by_lists : (dels : List KeySpan) (rows : List KeyRow) → IsFilled (layer_of dels rows) ⊎ (layer_of dels rows ≡ layer_of [] [])
    by_lists [] [] = inr refl
    by_lists [] (r ∷ rs) = inl (omega arith)
    by_lists (s ∷ ss) rows = inl (omega arith)

pub empty_not_filled : IsFilled (layer_of [] []) → ⊥
empty_not_filled filled = absurd (omega arith)

pub hull_if_filled : (layer : KeyLayer) → (hull_of layer ≡ None) ↔ (IsFilled layer → ⊥)
hull_if_filled layer = (
  λ none filled. empty_not_filled (subst IsFilled ((no_hull layer).0 none) filled),
  λ bare. elim (filled_or_empty layer) [ inl filled ↦ absurd (bare filled) | inr empty ↦ (no_hull layer).1 empty ],
)

-- ---- put over another

some_span : (s : KeySpan) (ts : List KeySpan) → 1 ≤ length (with_span s ts)
some_span s [] = omega arith
some_span s (t ∷ ts) =
    elim (is_below s.hi t.lo) as (λ b. 1 ≤ length (cond b (s ∷ t ∷ ts) (cond (is_below t.hi s.lo) (t ∷ with_span s ts) (with_span (joined s t) ts)))) [
      | true ↦ omega arith
      | false ↦ elim (is_below t.hi s.lo) as (λ b. 1 ≤ length (cond b (t ∷ with_span s ts) (with_span (joined s t) ts))) [
        | true ↦ omega arith
        | false ↦ some_span (joined s t) ts
      ]
    ]

some_row : (row : KeyRow) (rows : List KeyRow) → 1 ≤ length (with_row row rows)
some_row row [] = omega arith
some_row row (s ∷ ss) =
    elim (key_cmp row.key s.key) as (λ o. 1 ≤ length (by_order o (row ∷ s ∷ ss) (row ∷ ss) (s ∷ with_row row ss))) [
      | Less ↦ omega arith
      | Equal ↦ omega arith
      | Greater ↦ omega arith
    ]

newer_fills : (dels : List KeySpan) (rows : List KeyRow) (older : KeyLayer) → IsFilled (layer_of dels rows) → IsFilled (over (layer_of dels rows) older)
unfolding over
newer_fills [] [] older filled = absurd (omega arith)
newer_fills [] (r ∷ rs) older filled = let some = some_row r (rows_over rs (filter (λ row. not (is_covered [] row.key)) older.rows)) in omega arith
newer_fills (s ∷ ss) rows older filled = let some = some_span s (union_of ss older.dels) in omega arith

all_kept : (rows : List KeyRow) → filter (λ row. not (is_covered [] row.key)) rows ≡ rows
all_kept [] = refl
all_kept (r ∷ rs) = ap (λ rest. r ∷ rest) (all_kept rs)

over_none : (older : KeyLayer) → over (layer_of [] []) older ≡ older
unfolding over
over_none older = ap (layer_of older.dels) (all_kept older.rows)

filled_of_both : (newer older : KeyLayer) → IsFilled newer ⊎ IsFilled older → IsFilled (over newer older)
filled_of_both newer older (inl filled) = newer_fills newer.dels newer.rows older filled
filled_of_both newer older (inr filled) =
    elim (filled_or_empty newer) [
      | inl first ↦ newer_fills newer.dels newer.rows older first
      | inr empty ↦ subst (λ l. IsFilled (over l older)) (sym empty) (subst IsFilled (sym (over_none older)) filled)
    ]

one_filled : (newer older : KeyLayer) → IsFilled (over newer older) → IsFilled newer ⊎ IsFilled older
one_filled newer older filled =
    elim (filled_or_empty newer) [
      | inl first ↦ inl first
      | inr empty ↦ inr (subst IsFilled (over_none older) (subst (λ l. IsFilled (over l older)) empty filled))
    ]

pub filled-over : (newer older : KeyLayer) → IsFilled (over newer older) ↔ (IsFilled newer ⊎ IsFilled older)
filled-over newer older = (one_filled newer older, filled_of_both newer older)
