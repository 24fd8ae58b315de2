-- What the outputs of a compaction say as tables, and that their bounds don't overlap.
use Rattle.std.proofs.Common.{◌≡◌, ℕ, ◌+◌, ◌<◌, ◌≤◌, suc, List, [], ◌∷◌, length, Bool, true, false, refl, ap, sym, ◌∙◌, subst, arith, inl, inr}
use Rattle.std.proofs.lemmas.List.Elements.{All-head, All-tail, All-map}
use Rattle.std.specs.Prelude.{not, ◌&&◌, map, Some, None, All, unwrap_or}
use Rattle.std.specs.List.{AllPairs}
use Rattle.std.specs.Option.{option_or}
use Rattle.pb_keys.specs.Span.{KeySpan, span_of, overlap}
use Rattle.pb_keys.specs.View.{IsView}
use Rattle.pb_rows.specs.Hull.{hull_of, HullsApart}
use Rattle.pb_rows.specs.Layer.{KeyLayer, layer_of, IsFilled, IsLayer}
use Rattle.pb_rows.specs.Over.{over_all}
use Rattle.pb_rows.specs.Verdict.{verdict, verdicts}
use Rattle.pb_rows.specs.Viewed.{viewed, plain_view}
use Rattle.pb_rows.proofs.HullHolds.{shown_within}
use Rattle.pb_rows.proofs.HullLaws.{no_hull}
use Rattle.pb_rows.proofs.LayersOver.{layer-over_all}
use Rattle.pb_rows.proofs.LayeringLaws.{verdict-over_all}
use Rattle.pb_rows.proofs.ViewedForm.{viewed_is_layer}
use Rattle.pb_version.specs.Version.{TableView}
use Rattle.pb_version.specs.Edited.{physical_table}
use Rattle.pb_version.specs.InTurn.{tables_say}
use Rattle.pb_version.specs.Meaning.{layer_of_table}
use Rattle.pb_version.specs.Rules.{each_pair}
use Rattle.pb_compact.specs.Laws.{value_alone}
use Rattle.pb_compact.specs.Outputs.{has_value}
use Rattle.pb_compact.specs.Compacted.{OutputView, CompactionView, IsReadable, HoldsMerged, input_tables, merged_inputs, merged_of, output_hull, output_item}
use Rattle.pb_compact.proofs.FilledOutputs.{outputs_are_filled}
use Rattle.pb_compact.proofs.LayersCut.{some_rows}
use Rattle.pb_compact.proofs.LevelsAfter.{new_of}
use Rattle.pb_compact.proofs.Members.{In, contains, every, for_each, all_from, of_map}
use Rattle.pb_compact.proofs.OutputLaws.{outputs_say, outputs_are_apart}
use Rattle.pb_compact.proofs.Says.{is_beside}
use Rattle.pb_compact.proofs.ValueLaws.{values_say}

-- ---- an output has a hull

some_hull : (layer : KeyLayer) (none : KeySpan) → IsFilled layer → hull_of layer ≡ Some (unwrap_or (hull_of layer) none)
some_hull layer none filled =
    elim (hull_of layer) as (λ o. hull_of layer ≡ o → o ≡ Some (unwrap_or o none)) [
      | None ↦ λ e. let empty : layer ≡ layer_of [] [] = (no_hull layer).0 e in
          let some : 1 ≤ 0 = subst IsFilled empty filled in absurd (omega (arith, some))
      | Some hull ↦ λ _. refl
    ] refl

pub has_hull : (o : OutputView) → IsFilled o.layer → hull_of o.layer ≡ Some (output_hull o)
has_hull o filled = some_hull o.layer (span_of [] []) filled

-- ---- outputs as tables

abbrev pub layers_in : List OutputView → List KeyLayer
layers_in os = map (λ o. o.layer) os

module _ (layers : ℕ → KeyLayer) (m : ℕ) where
  abbrev tables : List OutputView → List TableView
  tables os = map physical_table (map (output_item m) os)

  tables_are_said : (os : List OutputView) (key : List ℕ) → All IsFilled (layers_in os) → All (λ o. layers o.number ≡ o.layer) os →
      tables_say layers (tables os) key ≡ verdicts (layers_in os) key
  tables_are_said [] key filled stored = refl
  tables_are_said (o ∷ os) key filled stored =
      let here = All-head (λ (p : OutputView). layers p.number ≡ p.layer) o os stored in
      let is : verdict (viewed (plain_view (output_hull o)) (layers o.number)) key ≡ verdict o.layer key =
      ap (λ l. verdict (viewed (plain_view (output_hull o)) l) key) here
      ∙ shown_within o.layer (output_hull o) key (has_hull o (All-head IsFilled o.layer (layers_in os) filled)) in
      λ i. option_or (is i) (tables_are_said os key (All-tail IsFilled o.layer (layers_in os) filled)
      (All-tail (λ (p : OutputView). layers p.number ≡ p.layer) o os stored) i)

all_layers : (P : KeyLayer → Type 0) (os : List OutputView) (p : OutputView) → All P (layers_in os) → In os p → P p.layer
all_layers P [] p all has = absurd has
all_layers P (o ∷ os) p all (inl same) = subst (λ (q : OutputView). P q.layer) same (All-head P o.layer (layers_in os) all)
all_layers P (o ∷ os) p all (inr later) = all_layers P os p (All-tail P o.layer (layers_in os) all) later

in_layers : (os : List OutputView) (p : OutputView) → In os p → In (layers_in os) p.layer
in_layers [] p has = absurd has
in_layers (o ∷ os) p (inl same) = inl (ap (λ (q : OutputView). q.layer) same)
in_layers (o ∷ os) p (inr later) = inr (in_layers os p later)

first_apart : (a : KeyLayer) (ls : List KeyLayer) (b : KeyLayer) → AllPairs HullsApart (a ∷ ls) → In ls b → HullsApart a b
first_apart a ls b apart has =
    let at = contains ls b has in
    let within : at.0 < length ls = at.1 in
    subst (HullsApart a) at.2 (apart 0 (suc at.0) b (omega arith) (omega arith))

later_apart : (a : KeyLayer) (ls : List KeyLayer) → AllPairs HullsApart (a ∷ ls) → AllPairs HullsApart ls
later_apart a ls apart = λ i j d h k. apart (suc i) (suc j) d (omega arith) (omega arith)

pub tables_beside : (m : ℕ) (os : List OutputView) → All IsFilled (layers_in os) → AllPairs HullsApart (layers_in os) →
    each_pair is_beside (map physical_table (map (output_item m) os)) ≡ true
tables_beside m [] filled apart = refl
tables_beside m (o ∷ os) filled apart = λ i.
    all_from (is_beside (physical_table (output_item m o))) (map physical_table (map (output_item m) os)) (λ t has.
    let item = of_map physical_table (map (output_item m) os) t has in
    let it = of_map (output_item m) os item.item item.is_in in
    let clear : overlap (output_hull o) (output_hull it.item) ≡ false =
    first_apart o.layer (layers_in os) it.item.layer apart (in_layers os it.item it.is_in) (output_hull o) (output_hull it.item)
    (has_hull o (All-head IsFilled o.layer (layers_in os) filled))
    (has_hull it.item (all_layers IsFilled os it.item (All-tail IsFilled o.layer (layers_in os) filled) it.is_in)) in
    subst (λ u. is_beside (physical_table (output_item m o)) u ≡ true) (ap physical_table it.image ∙ item.image) (ap not clear)) i
    && tables_beside m os (All-tail IsFilled o.layer (layers_in os) filled) (later_apart o.layer (layers_in os) apart) i

-- ---- the merged inputs

shown_layers : (layers : ℕ → KeyLayer) (ts : List TableView) → All (λ t. IsView t.view) ts → All (IsReadable layers) ts →
    All IsLayer (map (layer_of_table layers) ts)
shown_layers layers ts views readable = All-map IsLayer (layer_of_table layers) ts
    (for_each (λ t. IsLayer (layer_of_table layers t)) ts (λ t has.
    let is = every (IsReadable layers) ts t readable has in
    viewed_is_layer t.view (layers t.backing) (every (λ u. IsView u.view) ts t views has) is.layer is.within))

merged_is_layer : (keeps : Bool) (ls : List KeyLayer) → All IsLayer ls → IsLayer (merged_of keeps ls)
merged_is_layer true ls are = layer-over_all ls are
merged_is_layer false ls are = some_rows has_value [] (over_all ls) tt (layer-over_all ls are)

module _ (layers : ℕ → KeyLayer) (c : CompactionView) (views : All (λ t. IsView t.view) (input_tables c.chosen))
    (holds : HoldsMerged layers c) where
  pub in_form : IsLayer (merged_inputs layers c.chosen)
  in_form = merged_is_layer c.chosen.keeps_deletions (map (layer_of_table layers) (input_tables c.chosen))
      (shown_layers layers (input_tables c.chosen) views holds.readable)

  pub all_filled : All IsFilled (layers_in c.outputs)
  all_filled = subst (All IsFilled) (sym holds.merged) (outputs_are_filled (merged_inputs layers c.chosen) in_form)

  -- the outputs say what the merged inputs say
  pub new_say : (key : List ℕ) → tables_say layers (new_of c) key ≡ verdict (merged_inputs layers c.chosen) key
  new_say key =
      tables_are_said layers (c.chosen.level + 1) c.outputs key all_filled holds.stored
      ∙ ap (λ ls. verdicts ls key) holds.merged
      ∙ outputs_say (merged_inputs layers c.chosen) key in_form

  pub new_beside : each_pair is_beside (new_of c) ≡ true
  new_beside = tables_beside (c.chosen.level + 1) c.outputs all_filled
      (subst (AllPairs HullsApart) (sym holds.merged) (outputs_are_apart (merged_inputs layers c.chosen) in_form))

  pub inputs_say : (key : List ℕ) → verdict (over_all (map (layer_of_table layers) (input_tables c.chosen))) key ≡ tables_say layers
      (input_tables c.chosen) key
  inputs_say key = verdict-over_all (map (layer_of_table layers) (input_tables c.chosen)) key

  pub kept_say : (key : List ℕ) → c.chosen.keeps_deletions ≡ true →
      tables_say layers (new_of c) key ≡ tables_say layers (input_tables c.chosen) key
  kept_say key keeps =
      new_say key
      ∙ ap (λ b. verdict (merged_of b (map (layer_of_table layers) (input_tables c.chosen))) key) keeps
      ∙ inputs_say key

  pub values_are_said : (key : List ℕ) → c.chosen.keeps_deletions ≡ false →
      tables_say layers (new_of c) key ≡ value_alone (tables_say layers (input_tables c.chosen) key)
  values_are_said key drops =
      new_say key
      ∙ ap (λ b. verdict (merged_of b (map (layer_of_table layers) (input_tables c.chosen))) key) drops
      ∙ values_say (over_all (map (layer_of_table layers) (input_tables c.chosen))) key
      (layer-over_all (map (layer_of_table layers) (input_tables c.chosen))
      (shown_layers layers (input_tables c.chosen) views holds.readable))
      ∙ ap value_alone (inputs_say key)
