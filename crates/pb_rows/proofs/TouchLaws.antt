-- Where a span isn't touched, the layer says nothing there.
use Rattle.std.proofs.Common.{◌≡◌, ℕ, List, [], ◌∷◌, Bool, true, false, cond, refl, sym, ap, ◌∙◌}
use Rattle.std.specs.Prelude.{Some, None, unwrap_or, ◌&&◌, ◌||◌}
use Rattle.std.specs.List.{list_any}
use Rattle.std.specs.Option.{option_or}
use Rattle.std.specs.Ordering.{eq_by_cmp}
use Rattle.std.specs.FinMap.{get}
use Rattle.pb_keys.specs.Key.{key_cmp}
use Rattle.pb_keys.specs.Map.{Map, without}
use Rattle.pb_keys.specs.Span.{KeySpan, holds_key, overlap}
use Rattle.pb_keys.proofs.MapFacts.{get-without, same_pairs}
use Rattle.pb_rows.specs.Applied.{applied}
use Rattle.pb_rows.specs.Hull.{hull_of}
use Rattle.pb_rows.specs.Layer.{KeyRow, KeyLayer}
use Rattle.pb_rows.specs.Touching.{touches}
use Rattle.pb_rows.specs.Verdict.{row_verdict, is_covered, verdict}
use Rattle.pb_rows.proofs.Bits.{neither}
use Rattle.pb_rows.proofs.HullHolds.{silent_outside}
use Rattle.pb_rows.proofs.RowLaws.{same_key}
use Rattle.pb_rows.proofs.VerdictLaws.{get-applied}
use Rattle.pb_rows.proofs.ViewLaws.{holds-apart}

rows_silent : (rows : List KeyRow) (span : KeySpan) (key : List ℕ) → list_any (λ row. holds_key span row.key) rows ≡ false → holds_key span key ≡ true → row_verdict rows key ≡ None
rows_silent [] span key none held = refl
rows_silent (row ∷ rows) span key none held =
    let parts = neither (holds_key span row.key) (list_any (λ r. holds_key span r.key) rows) none in
    elim (eq_by_cmp key_cmp key row.key) as (λ t. eq_by_cmp key_cmp key row.key ≡ t → cond t (Some row.value) (row_verdict rows key) ≡ None) [
      | true ↦ λ e. let so : holds_key span key ≡ false = ap (holds_key span) (same_key key row.key e) ∙ parts.first in cc
      | false ↦ λ e. rows_silent rows span key parts.second held
    ] refl

held_not : (b : Bool) → (true && b) ≡ false → b ≡ false
held_not true h = h
held_not false h = h

dels_silent : (dels : List KeySpan) (span : KeySpan) (key : List ℕ) → list_any (λ del. overlap span del) dels ≡ false → holds_key span key ≡ true → is_covered dels key ≡ false
dels_silent [] span key none held = refl
dels_silent (del ∷ dels) span key none held =
    let parts = neither (overlap span del) (list_any (λ d. overlap span d) dels) none in
    let first : holds_key del key ≡ false = held_not (holds_key del key) (ap (λ b. b && holds_key del key) (sym held) ∙ holds-apart span del key parts.first) in
    ap (λ b. b || is_covered dels key) first ∙ dels_silent dels span key parts.second held

pub silent_untouched : (layer : KeyLayer) (span : KeySpan) (key : List ℕ) → touches layer span ≡ false → holds_key span key ≡ true → verdict layer key ≡ None
unfolding verdict
silent_untouched layer span key none held =
    let parts = neither (list_any (λ row. holds_key span row.key) layer.rows) (list_any (λ del. overlap span del) layer.dels) none in
    λ i. option_or (rows_silent layer.rows span key parts.first held i) (cond (dels_silent layer.dels span key parts.second held i) (Some None) None)

-- ---- applied before or after

pub untouched_span : (layer : KeyLayer) (m : Map) (span : KeySpan) → touches layer span ≡ false → applied layer (without m span) ≡ without (applied layer m) span
untouched_span layer m span none = same_pairs (applied layer (without m span)) (without (applied layer m) span) (λ key.
    get-applied layer (without m span) key ∙ ap (unwrap_or (verdict layer key)) (get-without m span key)
    ∙ elim (holds_key span key) as (λ b. holds_key span key ≡ b → unwrap_or (verdict layer key) (cond b None (get m key)) ≡ cond b None (unwrap_or (verdict layer key) (get m key))) [
      | true ↦ λ e. ap (λ found. unwrap_or found None) (silent_untouched layer span key none e)
      | false ↦ λ e. refl
    ] refl
    ∙ ap (cond (holds_key span key) None) (sym (get-applied layer m key)) ∙ sym (get-without (applied layer m) span key))

pub untouched_layer : (a b : KeyLayer) (m : Map) (hull : KeySpan) → hull_of b ≡ Some hull → touches a hull ≡ false → applied a (applied b m) ≡ applied b (applied a m)
untouched_layer a b m hull is none = same_pairs (applied a (applied b m)) (applied b (applied a m)) (λ key.
    get-applied a (applied b m) key ∙ ap (unwrap_or (verdict a key)) (get-applied b m key)
    ∙ elim (holds_key hull key) as (λ t. holds_key hull key ≡ t → unwrap_or (verdict a key) (unwrap_or (verdict b key) (get m key)) ≡ unwrap_or (verdict b key) (unwrap_or (verdict a key) (get m key))) [
      | true ↦ λ e. let quiet = silent_untouched a hull key none e in
          ap (λ found. unwrap_or found (unwrap_or (verdict b key) (get m key))) quiet ∙ ap (λ found. unwrap_or (verdict b key) (unwrap_or found (get m key))) (sym quiet)
      | false ↦ λ e. let quiet = silent_outside b hull key is e in
          ap (λ found. unwrap_or (verdict a key) (unwrap_or found (get m key))) quiet ∙ ap (λ found. unwrap_or found (unwrap_or (verdict a key) (get m key))) (sym quiet)
    ] refl
    ∙ ap (unwrap_or (verdict b key)) (sym (get-applied a m key)) ∙ sym (get-applied b (applied a m) key))
