-- What a layer says when its deletions and deleted rows are left out.
use Rattle.std.proofs.Common.{◌≡◌, ℕ, List, [], ◌∷◌, Bool, true, false, cond, refl, sym, ap, ◌∙◌}
use Rattle.std.specs.Prelude.{Option, Some, None, filter, is_some}
use Rattle.std.specs.Option.{option_or}
use Rattle.std.specs.Ordering.{eq_by_cmp, is_eq}
use Rattle.std.specs.declared.cmp.Ordering.TheVariants.{Less}
use Rattle.std.proofs.lemmas.List.Elements.{All-head, All-tail}
use Rattle.pb_keys.specs.Key.{key_cmp}
use Rattle.pb_rows.specs.Layer.{KeyRow, KeyLayer, IsLayer}
use Rattle.pb_rows.specs.Verdict.{Verdict, row_verdict, is_covered, verdict}
use Rattle.pb_rows.proofs.RowLaws.{same_key}
use Rattle.pb_rows.proofs.RowsOver.{Follow, Rising, rising_from_rise}
use Rattle.pb_compact.specs.Laws.{value_alone}
use Rattle.pb_compact.specs.Outputs.{has_value, values_alone}

-- rows above a key have none of it
none_above : (key : List ℕ) (rows : List KeyRow) → Follow key rows → row_verdict rows key ≡ None
none_above key [] follow = refl
none_above key (row ∷ rows) follow =
    let P = λ (r : KeyRow). key_cmp key r.key ≡ Less in
    ap (λ o. cond (is_eq o) (Some row.value) (row_verdict rows key)) (All-head P row rows follow)
    ∙ none_above key rows (All-tail P row rows follow)

-- the first row is left out: a row of its key is none of the others
left_out : (row : KeyRow) (rows : List KeyRow) (key : List ℕ) → Follow row.key rows
    → value_alone (row_verdict rows key) ≡ value_alone (cond (eq_by_cmp key_cmp key row.key) (Some None) (row_verdict rows key))
left_out row rows key follow =
    elim (eq_by_cmp key_cmp key row.key) as (λ b. eq_by_cmp key_cmp key row.key ≡ b
    → value_alone (row_verdict rows key) ≡ value_alone (cond b (Some None) (row_verdict rows key))) [
      | true ↦ λ e. ap value_alone (ap (row_verdict rows) (same_key key row.key e) ∙ none_above row.key rows follow)
      | false ↦ λ e. refl
    ] refl

row_says : (row : KeyRow) (rows : List KeyRow) (key : List ℕ) (value : Option (List ℕ)) → row.value ≡ value → Follow row.key rows
    → row_verdict (filter has_value rows) key ≡ value_alone (row_verdict rows key)
    → row_verdict (cond (has_value row) (row ∷ filter has_value rows) (filter has_value rows)) key
    ≡ value_alone (row_verdict (row ∷ rows) key)
row_says row rows key None is follow same =
    ap (λ (v : Option (List ℕ)). row_verdict (cond (is_some v) (row ∷ filter has_value rows) (filter has_value rows)) key) is
    ∙ same ∙ left_out row rows key follow
    ∙ ap (λ (v : Option (List ℕ)). value_alone (cond (eq_by_cmp key_cmp key row.key) (Some v) (row_verdict rows key))) (sym is)
row_says row rows key (Some value) is follow same =
    ap (λ (v : Option (List ℕ)). row_verdict (cond (is_some v) (row ∷ filter has_value rows) (filter has_value rows)) key) is
    ∙ ap (λ (v : Option (List ℕ)). cond (eq_by_cmp key_cmp key row.key) (Some v) (row_verdict (filter has_value rows) key)) is
    ∙ elim (eq_by_cmp key_cmp key row.key) as
    (λ b. cond b (Some (Some value)) (row_verdict (filter has_value rows) key) ≡ value_alone
    (cond b (Some (Some value)) (row_verdict rows key))) [
      | true ↦ refl
      | false ↦ same
    ]
    ∙ ap (λ (v : Option (List ℕ)). value_alone (cond (eq_by_cmp key_cmp key row.key) (Some v) (row_verdict rows key))) (sym is)

values_of_rows : (rows : List KeyRow) (key : List ℕ) → Rising rows
    → row_verdict (filter has_value rows) key ≡ value_alone (row_verdict rows key)
values_of_rows [] key rising = refl
values_of_rows (row ∷ rows) key rising = row_says row rows key row.value refl rising.0 (values_of_rows rows key rising.1)

with_deletions : (found : Verdict) (covered : Bool)
    → option_or (value_alone found) None ≡ value_alone (option_or found (cond covered (Some None) None))
with_deletions None true = refl
with_deletions None false = refl
with_deletions (Some None) covered = refl
with_deletions (Some (Some value)) covered = refl

pub values_say : (layer : KeyLayer) (key : List ℕ) → IsLayer layer → verdict (values_alone layer) key ≡ value_alone (verdict layer key)
unfolding verdict
values_say layer key of =
    ap (λ found. option_or found None) (values_of_rows layer.rows key (rising_from_rise layer.rows of.rise))
    ∙ with_deletions (row_verdict layer.rows key) (is_covered layer.dels key)
