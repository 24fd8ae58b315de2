-- The layer of commands with one more, and that it has something where there is a command.
use Rattle.std.proofs.Common.{◌≡◌, ◌≢◌, ◌+◌, List, [], ◌∷◌, ◌++◌, true, refl, ap, ◌∙◌, arith, inl, inr}
use Rattle.std.specs.Prelude.{filter}
use Rattle.std.proofs.lemmas.List.{map-append}
use Rattle.pb_keys.specs.Span.{KeySpan}
use Rattle.pb_memtable.specs.View.{all_changing, layer_of_all, size_of}
use Rattle.pb_rows.specs.Changing.{Changing}
use Rattle.pb_rows.specs.ChangingLayers.{layer_of_changing, layer_of_changes, with_changes}
use Rattle.pb_rows.specs.Layer.{KeyRow, KeyLayer, IsFilled, layer_of}
use Rattle.pb_rows.specs.Over.{over, with_row, with_span, uncovered}
use Rattle.pb_rows.proofs.CommandLaws.{last_over_others}
use Rattle.pb_rows.proofs.FilledLaws.{filled-over}
use Rattle.pb_wal.specs.Changes.{changing_of, length_of_changing}
use Rattle.pb_wal.specs.declared.entry.Change.{Change}
use Rattle.pb_wal.specs.declared.entry.Change.TheVariants.{Set, Del, DelRange}

pub all_changing-push : (changes : List Change) (change : Change)
    → all_changing (changes ++ change ∷ []) ≡ all_changing changes ++ changing_of change ∷ []
all_changing-push changes change = map-append changing_of changes (change ∷ [])

pub changes-push : (changes : List Change) (change : Change)
    → layer_of_all (changes ++ change ∷ []) ≡ over (layer_of_changing (changing_of change)) (layer_of_all changes)
changes-push changes change = ap layer_of_changes (all_changing-push changes change)
    ∙ last_over_others (all_changing changes) (changing_of change)

pub size_of-push : (changes : List Changing) (change : Changing)
    → size_of (changes ++ change ∷ []) ≡ size_of changes + length_of_changing change
size_of-push [] change = omega arith
size_of-push (first ∷ changes) change = omega (arith, size_of-push changes change)

-- ---- one command over a layer

all_pass : (rows : List KeyRow) → filter (λ row. true) rows ≡ rows
all_pass [] = refl
all_pass (row ∷ rows) = ap (λ rs. row ∷ rs) (all_pass rows)

pub over-row : (row : KeyRow) (layer : KeyLayer) → over (layer_of [] (row ∷ [])) layer ≡ layer_of layer.dels (with_row row layer.rows)
unfolding over
over-row row layer = ap (λ rows. layer_of layer.dels (with_row row rows)) (all_pass layer.rows)

pub over-span : (span : KeySpan) (layer : KeyLayer)
    → over (layer_of (span ∷ []) []) layer ≡ layer_of (with_span span layer.dels) (uncovered (span ∷ []) layer.rows)
unfolding over
over-span span layer = refl

-- ---- filled

one_fills : (change : Change) → IsFilled (layer_of_changing (changing_of change))
one_fills (Set key value) = omega arith
one_fills (Del key) = omega arith
one_fills (DelRange span) = omega arith

stays_filled : (layer : KeyLayer) (changes : List Change) → IsFilled layer → IsFilled (with_changes layer (all_changing changes))
stays_filled layer [] filled = filled
stays_filled layer (change ∷ changes) filled =
    let newer = layer_of_changing (changing_of change) in
    stays_filled (over newer layer) changes ((filled-over newer layer).1 (inr filled))

pub filled_if_some : (changes : List Change) → all_changing changes ≢ [] → IsFilled (layer_of_all changes)
filled_if_some [] some = absurd (some refl)
filled_if_some (change ∷ changes) some =
    let newer = layer_of_changing (changing_of change) in
    stays_filled (over newer (layer_of [] [])) changes ((filled-over newer (layer_of [] [])).1 (inl (one_fills change)))
