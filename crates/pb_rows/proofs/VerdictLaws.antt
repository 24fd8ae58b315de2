-- A layer applied, put over another, or one of a list, read at a key.
use Rattle.std.proofs.Common.{◌≡◌, ℕ, List, [], ◌∷◌, ◌++◌, Bool, true, false, cond, refl, sym, ap, ◌∙◌}
use Rattle.std.specs.Prelude.{not, ◌||◌, Option, Some, None, unwrap_or, filter}
use Rattle.std.specs.Option.{option_or}
use Rattle.std.specs.Ordering.{eq_by_cmp}
use Rattle.std.specs.FinMap.{get, get-retain_keys, get-insert, get-remove}
use Rattle.pb_keys.specs.Key.{key_cmp}
use Rattle.pb_keys.specs.KeyLaws.{key_cmp_total}
use Rattle.pb_keys.specs.Span.{KeySpan}
use Rattle.pb_keys.specs.Map.{Map}
use Rattle.pb_keys.proofs.SpanFacts.{alike_keys}
use Rattle.pb_rows.specs.Layer.{KeyRow, KeyLayer, layer_of}
use Rattle.pb_rows.specs.Verdict.{Verdict, row_verdict, is_covered, verdict, verdicts}
use Rattle.pb_rows.specs.Applied.{without_all, with_value, with_rows, applied, applied_newest_first}
use Rattle.pb_rows.specs.Over.{over}
use Rattle.pb_keys.proofs.Tests.{turned}
use Rattle.pb_rows.proofs.SpanLaws.{is_covered-union_of}
use Rattle.pb_rows.proofs.RowLaws.{row_verdict-rows_over, row_verdict-filter}

pub get-without_all : (m : Map) (spans : List KeySpan) (key : List ℕ) → get (without_all m spans) key ≡ cond (is_covered spans key) None (get m key)
get-without_all m spans key =
    get-retain_keys m (λ k. not (is_covered spans k)) key (alike_keys (λ k. not (is_covered spans k)) key) ∙ turned (is_covered spans key) (get m key) None

pub get-with_value : (m : Map) (at : List ℕ) (value : Option (List ℕ)) (key : List ℕ) → get (with_value m at value) key ≡ cond (eq_by_cmp key_cmp key at) value (get m key)
get-with_value m at None key = get-remove key_cmp_total m at key
get-with_value m at (Some value) key = get-insert key_cmp_total m at value key

pub get-with_rows : (m : Map) (rows : List KeyRow) (key : List ℕ) → get (with_rows m rows) key ≡ unwrap_or (row_verdict rows key) (get m key)
get-with_rows m [] key = refl
get-with_rows m (row ∷ rows) key =
    get-with_value (with_rows m rows) row.key row.value key
    ∙ elim (eq_by_cmp key_cmp key row.key) as (λ b. cond b row.value (get (with_rows m rows) key) ≡ unwrap_or (cond b (Some row.value) (row_verdict rows key)) (get m key)) [
      | true ↦ refl
      | false ↦ get-with_rows m rows key
    ]

rows_first : (found : Verdict) (b : Bool) (old : Option (List ℕ)) → unwrap_or found (cond b None old) ≡ unwrap_or (option_or found (cond b (Some None) None)) old
rows_first (Some answer) b old = refl
rows_first None true old = refl
rows_first None false old = refl

-- the layer's verdict, or else what the map has
pub get-applied : (layer : KeyLayer) (m : Map) (key : List ℕ) → get (applied layer m) key ≡ unwrap_or (verdict layer key) (get m key)
unfolding applied verdict
get-applied layer m key =
    get-with_rows (without_all m layer.dels) layer.rows key ∙ ap (unwrap_or (row_verdict layer.rows key)) (get-without_all m layer.dels key)
    ∙ rows_first (row_verdict layer.rows key) (is_covered layer.dels key) (get m key)

-- the newer rows, a newer deletion, the older rows, an older deletion
newer_first : (r s : Verdict) (a b : Bool) → option_or (option_or r (cond (not a) s None)) (cond (a || b) (Some None) None) ≡ option_or (option_or r (cond a (Some None) None)) (option_or s (cond b (Some None) None))
newer_first (Some answer) s a b = refl
newer_first None s true b = refl
newer_first None s false b = refl

-- that of the newer layer, or else that of the older
pub verdict-over : (newer older : KeyLayer) (key : List ℕ) → verdict (over newer older) key ≡ option_or (verdict newer key) (verdict older key)
unfolding verdict over
verdict-over newer older key =
    (λ i. option_or
    ((row_verdict-rows_over newer.rows (filter (λ row. not (is_covered newer.dels row.key)) older.rows) key
    ∙ ap (option_or (row_verdict newer.rows key)) (row_verdict-filter (λ k. not (is_covered newer.dels k)) older.rows key)) i)
    (cond (is_covered-union_of newer.dels older.dels key i) (Some None) None))
    ∙ newer_first (row_verdict newer.rows key) (row_verdict older.rows key) (is_covered newer.dels key) (is_covered older.dels key)

pub option_or_groups : {A : Type 0} (a b c : Option A) → option_or (option_or a b) c ≡ option_or a (option_or b c)
option_or_groups (Some x) b c = refl
option_or_groups None b c = refl

pub option_or_none : {A : Type 0} (a : Option A) → option_or a None ≡ a
option_or_none (Some x) = refl
option_or_none None = refl

-- those of the newer layers, or else those of the older
pub verdicts-append : (newer older : List KeyLayer) (key : List ℕ) → verdicts (newer ++ older) key ≡ option_or (verdicts newer key) (verdicts older key)
verdicts-append [] older key = refl
verdicts-append (layer ∷ newer) older key =
    ap (option_or (verdict layer key)) (verdicts-append newer older key) ∙ sym (option_or_groups (verdict layer key) (verdicts newer key) (verdicts older key))

pub one_after_other : (a b : Verdict) (old : Option (List ℕ)) → unwrap_or a (unwrap_or b old) ≡ unwrap_or (option_or a b) old
one_after_other (Some answer) b old = refl
one_after_other None b old = refl

pub get-applied_newest_first : (layers : List KeyLayer) (m : Map) (key : List ℕ) → get (applied_newest_first layers m) key ≡ unwrap_or (verdicts layers key) (get m key)
get-applied_newest_first [] m key = refl
get-applied_newest_first (layer ∷ older) m key =
    get-applied layer (applied_newest_first older m) key ∙ ap (unwrap_or (verdict layer key)) (get-applied_newest_first older m key)
    ∙ one_after_other (verdict layer key) (verdicts older key) (get m key)

-- ---- a verdict by its parts

pub verdict_by_row : (dels : List KeySpan) (rows : List KeyRow) (key : List ℕ) (value : Option (List ℕ)) → Some value ≡ row_verdict rows key → Some value ≡ verdict (layer_of dels rows) key
unfolding verdict
verdict_by_row dels rows key value is = ap (λ found. option_or found (cond (is_covered dels key) (Some None) None)) is

pub verdict_by_spans : (dels : List KeySpan) (rows : List KeyRow) (key : List ℕ) (spans : List KeySpan) → spans ≡ dels → None ≡ row_verdict rows key → cond (is_covered spans key) (Some None) None ≡ verdict (layer_of dels rows) key
unfolding verdict
verdict_by_spans dels rows key spans same none =
    ap (λ ss. cond (is_covered ss key) (Some None) None) same ∙ ap (λ found. option_or found (cond (is_covered dels key) (Some None) None)) none
