-- Layers in form put over one another: they stay in form, in any grouping they are the same.
use Rattle.std.proofs.Common.{◌≡◌, ℕ, List, [], ◌∷◌, Bool, true, false, cond, refl, sym, ap, ◌∙◌, arith}
use Rattle.std.specs.Prelude.{Some, None, All, filter, not, ◌||◌}
use Rattle.std.specs.Option.{option_or}
use Rattle.std.proofs.lemmas.List.Elements.{All-nil, All-head, All-tail, All-filter}
use Rattle.pb_keys.specs.Key.{IsKey}
use Rattle.pb_keys.specs.Span.{KeySpan, IsSpan}
use Rattle.pb_rows.specs.Layer.{KeyRow, KeyLayer, layer_of, IsLayer, IsShortRow, AreApart}
use Rattle.pb_rows.specs.Over.{union_of, rows_over, uncovered, over, over_all}
use Rattle.pb_rows.specs.Verdict.{Verdict, row_verdict, is_covered}
use Rattle.pb_keys.proofs.Tests.{either_groups}
use Rattle.pb_rows.proofs.NormalSpans.{normal_from_apart, spans_from_normal, apart_from_normal, normal-union_of, same_normal}
use Rattle.pb_rows.proofs.RowLaws.{row_verdict-rows_over, row_verdict-filter}
use Rattle.pb_rows.proofs.RowsOver.{all-rows_over, short_rows, rows_rise_over}
use Rattle.pb_rows.proofs.SameRows.{same_rows_by_verdict}
use Rattle.pb_rows.proofs.SpanLaws.{is_covered-union_of}

-- two lists of spans in form and apart that cover the same byte strings are equal
pub one_normal_form : (ss ts : List KeySpan) → All IsSpan ss → AreApart ss → All IsSpan ts → AreApart ts → ((key : List ℕ) → is_covered ss key ≡ is_covered ts key) → ss ≡ ts
one_normal_form ss ts are_s apart_s are_t apart_t alike = same_normal ss ts (normal_from_apart ss are_s apart_s) (normal_from_apart ts are_t apart_t) alike

-- ---- in form

pub empty_is_layer : IsLayer (layer_of [] [])
empty_is_layer = record {
  spans = All-nil IsSpan;
  apart = λ k d h. absurd (omega arith);
  keys = All-nil (λ row. IsKey row.key);
  rise = λ k d h. absurd (omega arith);
  short = All-nil IsShortRow;
}

pub layer-over : (newer older : KeyLayer) → IsLayer newer → IsLayer older → IsLayer (over newer older)
unfolding over
layer-over newer older new old =
    let uncovered = λ (row : KeyRow). not (is_covered newer.dels row.key) in
    let normal = normal-union_of newer.dels older.dels new.spans (normal_from_apart older.dels old.spans old.apart) in
    record {
      spans = spans_from_normal (union_of newer.dels older.dels) normal;
      apart = apart_from_normal (union_of newer.dels older.dels) normal;
      keys = all-rows_over (λ row. IsKey row.key) newer.rows (filter uncovered older.rows) new.keys (All-filter uncovered (λ row. IsKey row.key) older.rows old.keys);
      rise = rows_rise_over newer.dels newer.rows older.rows old.rise;
      short = short_rows newer.dels newer.rows older.rows new.short old.short;
    }

pub layer-over_all : (layers : List KeyLayer) → All IsLayer layers → IsLayer (over_all layers)
layer-over_all [] are = empty_is_layer
layer-over_all (layer ∷ older) are = layer-over layer (over_all older) (All-head IsLayer layer older are) (layer-over_all older (All-tail IsLayer layer older are))

-- ---- in any grouping

covered_groups : (a b c : List KeySpan) (key : List ℕ) → is_covered (union_of (union_of a b) c) key ≡ is_covered (union_of a (union_of b c)) key
covered_groups a b c key =
    is_covered-union_of (union_of a b) c key ∙ ap (λ t. t || is_covered c key) (is_covered-union_of a b key)
    ∙ either_groups (is_covered a key) (is_covered b key) (is_covered c key)
    ∙ ap (λ t. is_covered a key || t) (sym (is_covered-union_of b c key)) ∙ sym (is_covered-union_of a (union_of b c) key)

says-uncovered : (dels : List KeySpan) (rows : List KeyRow) (key : List ℕ) → row_verdict (uncovered dels rows) key ≡ cond (not (is_covered dels key)) (row_verdict rows key) None
says-uncovered dels rows key = row_verdict-filter (λ k. not (is_covered dels k)) rows key

-- what three lists of rows say, the third and then the second covered, and grouped the other way
three : (r s t : Verdict) (a b : Bool) → option_or (option_or r (cond (not a) s None)) (cond (not (a || b)) t None) ≡ option_or r (cond (not a) (option_or s (cond (not b) t None)) None)
three (Some answer) s t a b = refl
three None s t true b = refl
three None s t false b = refl

verdicts_group : (a b : List KeySpan) (r s t : List KeyRow) (key : List ℕ) → row_verdict (rows_over (rows_over r (uncovered a s)) (uncovered (union_of a b) t)) key ≡ row_verdict (rows_over r (uncovered a (rows_over s (uncovered b t)))) key
verdicts_group a b r s t key =
    row_verdict-rows_over (rows_over r (uncovered a s)) (uncovered (union_of a b) t) key
    ∙ (λ i. option_or
    ((row_verdict-rows_over r (uncovered a s) key ∙ ap (option_or (row_verdict r key)) (says-uncovered a s key)) i)
    ((says-uncovered (union_of a b) t key ∙ ap (λ c. cond (not c) (row_verdict t key) None) (is_covered-union_of a b key)) i))
    ∙ three (row_verdict r key) (row_verdict s key) (row_verdict t key) (is_covered a key) (is_covered b key)
    ∙ ap (λ found. option_or (row_verdict r key) (cond (not (is_covered a key)) found None))
    (sym (row_verdict-rows_over s (uncovered b t) key ∙ ap (option_or (row_verdict s key)) (says-uncovered b t key)))
    ∙ ap (option_or (row_verdict r key)) (sym (says-uncovered a (rows_over s (uncovered b t)) key))
    ∙ sym (row_verdict-rows_over r (uncovered a (rows_over s (uncovered b t))) key)

pub over-groups : (a b c : KeyLayer) → IsLayer a → IsLayer b → IsLayer c → over (over a b) c ≡ over a (over b c)
unfolding over
over-groups a b c is_a is_b is_c =
    let left = layer-over (over a b) c (layer-over a b is_a is_b) is_c in
    let right = layer-over a (over b c) is_a (layer-over b c is_b is_c) in
    let dels = one_normal_form (over (over a b) c).dels (over a (over b c)).dels left.spans left.apart right.spans right.apart (covered_groups a.dels b.dels c.dels) in
    let rows = same_rows_by_verdict (over (over a b) c).rows (over a (over b c)).rows left.rise right.rise (verdicts_group a.dels b.dels a.rows b.rows c.rows) in
    (λ i. layer_of (dels i) (rows i))
