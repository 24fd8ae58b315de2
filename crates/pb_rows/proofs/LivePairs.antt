-- What a layer makes of nothing: the pairs of its rows that have a value.
use Rattle.std.proofs.Common.{◌≡◌, ℕ, List, [], ◌∷◌, ◌++◌, Bool, true, false, cond, refl, sym, ap, ◌∙◌, subst}
use Rattle.std.specs.Prelude.{Option, Some, None, unwrap_or, ◌&&◌, T}
use Rattle.std.specs.FinMap.{get, get-empty, get-entries, empty, entries, entries_sorted}
use Rattle.std.specs.FinMap.Entries.{find, below_all, is_sorted, same_entries}
use Rattle.std.specs.Option.{option_or}
use Rattle.std.specs.List.{flat_map}
use Rattle.std.specs.Ordering.{eq_by_cmp, is_lt}
use Rattle.std.specs.declared.cmp.Ordering.TheVariants.{Less}
use Rattle.std.proofs.lemmas.List.Elements.{All-head, All-tail}
use Rattle.pb_keys.specs.Key.{key_cmp}
use Rattle.pb_keys.specs.KeyLaws.{key_cmp_total, key_cmp_exact}
use Rattle.pb_rows.specs.Applied.{applied}
use Rattle.pb_rows.specs.ChangingLayers.{pairs_of, live_pairs}
use Rattle.pb_rows.specs.Layer.{KeyRow, KeyLayer, IsLayer}
use Rattle.pb_rows.specs.Verdict.{Verdict, row_verdict, is_covered, verdict}
use Rattle.pb_rows.proofs.RowLaws.{same_key}
use Rattle.pb_rows.proofs.RowsOver.{Follow, Rising, rising_from_rise}
use Rattle.pb_rows.proofs.SameRows.{none_below}
use Rattle.pb_rows.proofs.VerdictLaws.{get-applied}

abbrev live_of : List KeyRow → List (List ℕ × List ℕ)
live_of rows = flat_map (λ row. pairs_of row.key row.value) rows

-- ---- they rise

less_is_below : (a b : List ℕ) (rest : Bool) → key_cmp a b ≡ Less → rest ≡ true → (is_lt (key_cmp a b) && rest) ≡ true
less_is_below a b rest less h = ap (λ o. is_lt o && rest) less ∙ h

below_pairs : (key at : List ℕ) (value : Option (List ℕ)) (rest : List (List ℕ × List ℕ)) → key_cmp key at ≡ Less → below_all key_cmp key rest ≡ true → below_all key_cmp key (pairs_of at value ++ rest) ≡ true
below_pairs key at None rest less h = h
below_pairs key at (Some value) rest less h = less_is_below key at (below_all key_cmp key rest) less h

below_live : (key : List ℕ) (rows : List KeyRow) → Follow key rows → below_all key_cmp key (live_of rows) ≡ true
below_live key [] follow = refl
below_live key (row ∷ rows) follow =
    let P = λ (r : KeyRow). key_cmp key r.key ≡ Less in
    below_pairs key row.key row.value (live_of rows) (All-head P row rows follow) (below_live key rows (All-tail P row rows follow))

sorted_more : (key : List ℕ) (value : Option (List ℕ)) (rest : List (List ℕ × List ℕ)) → below_all key_cmp key rest ≡ true → is_sorted key_cmp rest ≡ true → is_sorted key_cmp (pairs_of key value ++ rest) ≡ true
sorted_more key None rest below h = h
sorted_more key (Some value) rest below h = ap (λ b. b && is_sorted key_cmp rest) below ∙ h

sorted_live : (rows : List KeyRow) → Rising rows → is_sorted key_cmp (live_of rows) ≡ true
sorted_live [] up = refl
sorted_live (row ∷ rows) up = sorted_more row.key row.value (live_of rows) (below_live row.key rows up.0) (sorted_live rows up.1)

-- ---- they have what the rows say

find_more : (key at : List ℕ) (value : Option (List ℕ)) (rest : List (List ℕ × List ℕ)) (found : Verdict) → find key_cmp key rest ≡ unwrap_or found None → (eq_by_cmp key_cmp key at ≡ true → found ≡ None) → find key_cmp key (pairs_of at value ++ rest) ≡ unwrap_or (cond (eq_by_cmp key_cmp key at) (Some value) found) None
find_more key at None rest found same none =
    elim (eq_by_cmp key_cmp key at) as (λ b. eq_by_cmp key_cmp key at ≡ b → find key_cmp key rest ≡ unwrap_or (cond b (Some None) found) None) [
      | true ↦ λ e. same ∙ ap (λ v. unwrap_or v None) (none e)
      | false ↦ λ e. same
    ] refl
find_more key at (Some value) rest found same none =
    elim (eq_by_cmp key_cmp key at) as (λ b. cond b (Some value) (find key_cmp key rest) ≡ unwrap_or (cond b (Some (Some value)) found) None) [
      | true ↦ refl
      | false ↦ same
    ]

find_live : (rows : List KeyRow) (key : List ℕ) → Rising rows → find key_cmp key (live_of rows) ≡ unwrap_or (row_verdict rows key) None
find_live [] key up = refl
find_live (row ∷ rows) key up =
    find_more key row.key row.value (live_of rows) (row_verdict rows key) (find_live rows key up.1)
    (λ e. none_below rows key (subst (λ k. Follow k rows) (sym (same_key key row.key e)) up.0))

deleted_is_none : (found : Verdict) (b : Bool) → unwrap_or (option_or found (cond b (Some None) None)) None ≡ unwrap_or found None
deleted_is_none (Some answer) b = refl
deleted_is_none None true = refl
deleted_is_none None false = refl

made_of_nothing : (layer : KeyLayer) (key : List ℕ) → get (applied layer (empty {R = key_cmp})) key ≡ unwrap_or (row_verdict layer.rows key) None
unfolding verdict
made_of_nothing layer key =
    get-applied layer empty key ∙ ap (unwrap_or (verdict layer key)) (get-empty key_cmp key)
    ∙ deleted_is_none (row_verdict layer.rows key) (is_covered layer.dels key)

pub entries-applied_empty : (layer : KeyLayer) → IsLayer layer → entries (applied layer empty) ≡ live_pairs layer
entries-applied_empty layer is =
    let up = rising_from_rise layer.rows is.rise in
    same_entries key_cmp key_cmp_total key_cmp_exact (entries (applied layer empty)) (live_of layer.rows) (entries_sorted (applied layer empty))
    (subst T (sym (sorted_live layer.rows up)) tt) (λ key. sym (get-entries (applied layer empty) key) ∙ made_of_nothing layer key ∙ sym (find_live layer.rows key up))
