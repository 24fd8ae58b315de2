-- Rising rows in front of an end, and from it on.
use Rattle.std.proofs.Common.{◌≡◌, ℕ, List, [], ◌∷◌, ◌++◌, take, drop, true, false, cond, refl, sym, ap, ◌∙◌, append_assoc}
use Rattle.std.specs.Prelude.{All, filter, not, ◌&&◌}
use Rattle.std.proofs.lemmas.List.Elements.{All-cons, All-head, All-tail, All-nil}
use Rattle.pb_keys.specs.Key.{prefix_of}
use Rattle.pb_keys.specs.Order.{is_below}
use Rattle.pb_keys.specs.Span.{holds_key, span_of}
use Rattle.pb_keys.proofs.KeyFacts.{prefixes_ascend}
use Rattle.pb_keys.proofs.OrderFacts.{below_chain, upto_chain}
use Rattle.pb_keys.proofs.SpanFacts.{holds_key-ends}
use Rattle.pb_rows.specs.Layer.{KeyRow}
use Rattle.pb_rows.proofs.RowsOver.{Follow, Rising}
use Rattle.pb_compact.specs.Cutting.{is_row_below, is_first_below}

-- ---- the rows that are left when the first isn't in front of the end

abbrev pub FromOn : List ℕ → List KeyRow → Type 0
FromOn end rows = All (λ row. is_row_below end row ≡ false) rows

from_first : (end : List ℕ) (row : KeyRow) (rows : List KeyRow) → is_row_below end row ≡ false → Follow row.key rows → FromOn end rows
from_first end row rows first follow k d h =
    upto_chain end (prefix_of row.key) _ first (prefixes_ascend row.key _ (follow k d h))

none_below : (end : List ℕ) (rows : List KeyRow) → FromOn end rows → filter (is_row_below end) rows ≡ []
none_below end [] from = refl
none_below end (row ∷ rows) from =
    let P = λ (r : KeyRow). is_row_below end r ≡ false in
    ap (λ b. cond b (row ∷ filter (is_row_below end) rows) (filter (is_row_below end) rows)) (All-head P row rows from)
    ∙ none_below end rows (All-tail P row rows from)

pub all_from : (end : List ℕ) (rows : List KeyRow) → FromOn end rows → filter (λ r. not (is_row_below end r)) rows ≡ rows
all_from end [] from = refl
all_from end (row ∷ rows) from =
    let P = λ (r : KeyRow). is_row_below end r ≡ false in
    let rest = filter (λ r. not (is_row_below end r)) rows in
    ap (λ b. cond (not b) (row ∷ rest) rest) (All-head P row rows from) ∙ ap (λ rs. row ∷ rs) (all_from end rows (All-tail P row rows from))

from_on : (end : List ℕ) (rows : List KeyRow) → Rising rows → is_first_below end rows ≡ false → FromOn end rows
from_on end [] rising first = All-nil (λ row. is_row_below end row ≡ false)
from_on end (row ∷ rows) rising first =
    All-cons (λ r. is_row_below end r ≡ false) row rows first (from_first end row rows first rising.0)

pub taken_whole : (end : List ℕ) (rows : List KeyRow) → Rising rows → is_first_below end rows ≡ false → filter (is_row_below end) rows ≡ []
taken_whole end rows rising first = none_below end rows (from_on end rows rising first)

pub left_whole : (end : List ℕ) (rows : List KeyRow) → Rising rows → is_first_below end rows ≡ false
    → filter (λ r. not (is_row_below end r)) rows ≡ rows
left_whole end rows rising first = all_from end rows (from_on end rows rising first)

-- ---- the first row moved out

pub first_taken : (end : List ℕ) (rows out moved left : List KeyRow) → is_first_below end rows ≡ true → moved ≡ out ++ take 1 rows
    → left ≡ drop 1 rows
    → moved ++ filter (is_row_below end) left ≡ out ++ filter (is_row_below end) rows
first_taken end [] out moved left first m l = cc
first_taken end (row ∷ rows) out moved left first m l =
    (λ i. m i ++ filter (is_row_below end) (l i))
    ∙ append_assoc out (row ∷ []) (filter (is_row_below end) rows)
    ∙ ap (λ b. out ++ cond b (row ∷ filter (is_row_below end) rows) (filter (is_row_below end) rows)) (sym first)

pub first_left : (end : List ℕ) (rows left : List KeyRow) → is_first_below end rows ≡ true → left ≡ drop 1 rows
    → filter (λ r. not (is_row_below end r)) left ≡ filter (λ r. not (is_row_below end r)) rows
first_left end [] left first l = cc
first_left end (row ∷ rows) left first l =
    let rest = filter (λ r. not (is_row_below end r)) rows in
    ap (filter (λ r. not (is_row_below end r))) l ∙ ap (λ b. cond (not b) (row ∷ rest) rest) (sym first)

-- ---- between a start and an end

held_between : (lo hi : List ℕ) (row : KeyRow) → (not (is_row_below lo row) && is_row_below hi row) ≡ holds_key (span_of lo hi) row.key
held_between lo hi row = sym (holds_key-ends (span_of lo hi) row.key)

pub rows_between : (lo hi : List ℕ) (rows : List KeyRow)
    → filter (is_row_below hi) (filter (λ r. not (is_row_below lo r)) rows) ≡ filter (λ r. holds_key (span_of lo hi) r.key) rows
rows_between lo hi [] = refl
rows_between lo hi (row ∷ rows) =
    let rest = filter (λ r. not (is_row_below lo r)) rows in
    let held = filter (λ r. holds_key (span_of lo hi) r.key) rows in
    elim (is_row_below lo row) as (λ b. is_row_below lo row ≡ b
    → filter (is_row_below hi) (cond (not b) (row ∷ rest) rest) ≡ cond (holds_key (span_of lo hi) row.key) (row ∷ held) held) [
      | true ↦ λ e. rows_between lo hi rows
          ∙ ap (λ b. cond b (row ∷ held) held) (ap (λ b. not b && is_row_below hi row) (sym e) ∙ held_between lo hi row)
      | false ↦ λ e. ap (λ rs. cond (is_row_below hi row) (row ∷ rs) rs) (rows_between lo hi rows)
          ∙ ap (λ b. cond b (row ∷ held) held) (ap (λ b. not b && is_row_below hi row) (sym e) ∙ held_between lo hi row)
    ] refl

-- from an end on, and then from a later one on
pub rows_from_later : (lo hi : List ℕ) (rows : List KeyRow) → is_below lo hi ≡ true
    → filter (λ r. not (is_row_below hi r)) (filter (λ r. not (is_row_below lo r)) rows) ≡ filter (λ r. not (is_row_below hi r)) rows
rows_from_later lo hi [] rises = refl
rows_from_later lo hi (row ∷ rows) rises =
    let rest = filter (λ r. not (is_row_below lo r)) rows in
    let far = filter (λ r. not (is_row_below hi r)) rows in
    elim (is_row_below lo row) as (λ b. is_row_below lo row ≡ b
    → filter (λ r. not (is_row_below hi r)) (cond (not b) (row ∷ rest) rest) ≡ cond (not (is_row_below hi row)) (row ∷ far) far) [
      | true ↦ λ e. rows_from_later lo hi rows rises
          ∙ ap (λ b. cond (not b) (row ∷ far) far) (sym (below_chain (prefix_of row.key) lo hi e rises))
      | false ↦ λ e. ap (λ rs. cond (not (is_row_below hi row)) (row ∷ rs) rs) (rows_from_later lo hi rows rises)
    ] refl
