-- Each output but the last is full, and isn't without the rows of its last prefix.
use Rattle.std.proofs.Common.{◌≡◌, ℕ, zero, suc, ◌+◌, ◌<◌, ◌≤◌, List, [], ◌∷◌, ◌++◌, length, get_or, Bool, true, false, cond, refl, sym, ap, ◌∙◌, subst, arith, append_assoc}
use Rattle.std.specs.Prelude.{All, filter, not, nat_le, ◌&&◌}
use Rattle.std.proofs.lemmas.Bool.{and_parts, leb-true, leb-false}
use Rattle.std.proofs.lemmas.List.{append-nil, get_or-map, length-map}
use Rattle.std.proofs.lemmas.List.Elements.{All-append, All-cons, All-head, All-nil, All-tail, filter-append}
use Rattle.pb_keys.specs.Key.{IsKey, prefix_of}
use Rattle.pb_keys.specs.Order.{is_below}
use Rattle.pb_keys.specs.Span.{KeySpan, span_of, holds_key}
use Rattle.pb_keys.proofs.Lists.{filter_all, filter_none}
use Rattle.pb_keys.proofs.OrderFacts.{below_chain, below_itself, same_bytes, upto_below, upto_chain}
use Rattle.pb_keys.proofs.SpanFacts.{holds_key-ends}
use Rattle.pb_rows.specs.Hull.{span_at}
use Rattle.pb_rows.specs.Layer.{KeyRow, KeyLayer, IsLayer}
use Rattle.pb_rows.specs.Viewed.{bounded, plain_view, viewed}
use Rattle.pb_rows.proofs.HullHolds.{LiesWithin}
use Rattle.pb_rows.proofs.RowsOver.{Rising, rising_from_rise}
use Rattle.pb_rows.proofs.ViewLaws.{mapped-plain_view}
use Rattle.pb_compact.specs.Cutting.{is_row_below}
use Rattle.pb_compact.specs.Laws.{AreFull, last_prefix}
use Rattle.pb_compact.specs.Outputs.{full_output, is_point, row_size, sizes_of, points_behind, cut_points, outputs_of, spans_to}
use Rattle.pb_compact.proofs.Bounds.{Goes, goes_on, rows_go}
use Rattle.pb_compact.proofs.LayersCut.{rows_within}
use Rattle.pb_compact.proofs.OutputLaws.{by_hull}

-- ---- lists

sizes-append : (xs ys : List KeyRow) → sizes_of (xs ++ ys) ≡ sizes_of xs + sizes_of ys
sizes-append [] ys = omega arith
sizes-append (x ∷ xs) ys = let rest = sizes-append xs ys in omega (arith, rest)

last-append : (prefix : List ℕ) (rows : List KeyRow) (row : KeyRow) → last_prefix prefix (rows ++ row ∷ []) ≡ prefix_of row.key
last-append prefix [] row = refl
last-append prefix (r ∷ rows) row = last-append (prefix_of r.key) rows row

-- ---- the rows since the last point

-- of a layer's rows: those before a start, those from there to a last prefix, and the others
pub record Since (all before seen rows : List KeyRow) (sum : ℕ) (lo last : List ℕ) : Type 0 where
  pub whole : all ≡ before ++ (seen ++ rows)
  pub lower : All (λ r. is_row_below lo r ≡ true) before
  pub from : All (λ r. is_row_below lo r ≡ false) seen
  pub upto : All (λ r. is_below last (prefix_of r.key) ≡ false) seen
  pub last_is : last_prefix [] seen ≡ last
  pub start : is_below last lo ≡ false
  pub sum_is : sizes_of seen ≡ sum
  pub low : sizes_of (filter (is_row_below last) seen) < full_output

held_is : (lo hi : List ℕ) (row : KeyRow) (a b : Bool) → is_row_below lo row ≡ a → is_row_below hi row ≡ b
    → holds_key (span_of lo hi) row.key ≡ (not a && b)
held_is lo hi row a b first second = holds_key-ends (span_of lo hi) row.key ∙ (λ i. not (first i) && second i)

-- what bounds up to a point hold are the rows since the start
since_held : (all before seen rows : List KeyRow) (sum : ℕ) (lo last hi : List ℕ) → Since all before seen rows sum lo last
    → is_below last hi ≡ true
    → All (λ r. is_row_below hi r ≡ false) rows → filter (λ r. holds_key (span_of lo hi) r.key) all ≡ seen
since_held all before seen rows sum lo last hi since rises behind =
    let held = λ (r : KeyRow). holds_key (span_of lo hi) r.key in
    let front = filter_none held before (λ k d h. held_is lo hi (get_or before k d) true _ (since.lower k d h) refl) in
    let middle = filter_all held seen (λ k d h.
    held_is lo hi (get_or seen k d) false true (since.from k d h)
    (upto_below (prefix_of (get_or seen k d).key) last hi (since.upto k d h) rises)) in
    let back = filter_none held rows (λ k d h.
    held_is lo hi (get_or rows k d) (is_row_below lo (get_or rows k d)) false refl (behind k d h)
    ∙ and_none (not (is_row_below lo (get_or rows k d)))) in
    ap (filter held) since.whole ∙ filter-append held before (seen ++ rows)
    ∙ (λ i. front i ++ (filter-append held seen rows ∙ (λ j. middle j ++ back j) ∙ append-nil seen) i)
  where
    and_none : (b : Bool) → (b && false) ≡ false
    and_none true = refl
    and_none false = refl

-- the next output begins with the row at the point
at_point : (all before seen rows : List KeyRow) (row : KeyRow) (sum : ℕ) (lo last : List ℕ) → Since all before seen (row ∷ rows) sum lo last
    → is_below last (prefix_of row.key) ≡ true
    → Since all (before ++ seen) (row ∷ []) rows (row_size row) (prefix_of row.key) (prefix_of row.key)
at_point all before seen rows row sum lo last since rises =
    let prefix = prefix_of row.key in
    let far : is_below lo prefix ≡ true = upto_below lo last prefix since.start rises in
    record {
      whole = since.whole ∙ sym (append_assoc before seen (row ∷ rows));
      lower = All-append (λ r. is_row_below prefix r ≡ true) before seen
          (λ k d h. below_chain (prefix_of (get_or before k d).key) lo prefix (since.lower k d h) far)
          (λ k d h. upto_below (prefix_of (get_or seen k d).key) last prefix (since.upto k d h) rises);
      from = All-cons (λ r. is_row_below prefix r ≡ false) row [] (below_itself prefix) (All-nil (λ r. is_row_below prefix r ≡ false));
      upto = All-cons (λ r. is_below prefix (prefix_of r.key) ≡ false) row [] (below_itself prefix)
          (All-nil (λ r. is_below prefix (prefix_of r.key) ≡ false));
      last_is = refl;
      start = below_itself prefix;
      sum_is = omega arith;
      low = subst (λ (rs : List KeyRow). sizes_of rs < full_output) (sym (filter_none (is_row_below prefix) (row ∷ [])
          (All-cons (λ r. is_row_below prefix r ≡ false) row [] (below_itself prefix) (All-nil (λ r. is_row_below prefix r ≡ false)))))
          (omega arith);
    }

-- with one more row of the last prefix, or of a higher one before the output is full
low_on : (seen : List KeyRow) (row : KeyRow) (sum : ℕ) (last : List ℕ) → sizes_of seen ≡ sum
    → sizes_of (filter (is_row_below last) seen) < full_output
    → All (λ r. is_below last (prefix_of r.key) ≡ false) seen → is_below (prefix_of row.key) last ≡ false
    → is_point sum last (prefix_of row.key) ≡ false
    → sizes_of (filter (is_row_below (prefix_of row.key)) (seen ++ row ∷ [])) < full_output
low_on seen row sum last is low upto from none =
    let prefix = prefix_of row.key in
    let end : filter (is_row_below prefix) (row ∷ []) ≡ [] = filter_none (is_row_below prefix) (row ∷ [])
    (All-cons (λ r. is_row_below prefix r ≡ false) row [] (below_itself prefix) (All-nil (λ r. is_row_below prefix r ≡ false))) in
    let parts : filter (is_row_below prefix) (seen ++ row ∷ []) ≡ filter (is_row_below prefix) seen =
    filter-append (is_row_below prefix) seen (row ∷ []) ∙ ap (λ rs. filter (is_row_below prefix) seen ++ rs) end
    ∙ append-nil (filter (is_row_below prefix) seen) in
    subst (λ (rs : List KeyRow). sizes_of rs < full_output) (sym parts)
    (elim (is_below last prefix) as (λ b. is_below last prefix ≡ b → sizes_of (filter (is_row_below prefix) seen) < full_output) [
      | true ↦ λ e.
          let fits : nat_le full_output sum ≡ false = first_fails (nat_le full_output sum) (is_below last prefix) e none in
          let few : sum < full_output = leb-false full_output sum fits in
          let same = filter_all (is_row_below prefix) seen
          (λ k d h. upto_below (prefix_of (get_or seen k d).key) last prefix (upto k d h) e) in
          subst (λ (rs : List KeyRow). sizes_of rs < full_output) (sym same) (subst (λ n. n < full_output) (sym is) few)
      | false ↦ λ e. subst (λ (p : List ℕ). sizes_of (filter (is_row_below p) seen) < full_output) (same_bytes last prefix e from) low
    ] refl)
  where
    first_fails : (a b : Bool) → b ≡ true → (a && b) ≡ false → a ≡ false
    first_fails true b h k = sym h ∙ k
    first_fails false b h k = refl

further : (all before seen rows : List KeyRow) (row : KeyRow) (sum : ℕ) (lo last : List ℕ) → Since all before seen (row ∷ rows) sum lo last
    → is_below (prefix_of row.key) last ≡ false → is_point sum last (prefix_of row.key) ≡ false
    → Since all before (seen ++ row ∷ []) rows (sum + row_size row) lo (prefix_of row.key)
further all before seen rows row sum lo last since from none =
    let prefix = prefix_of row.key in
    record {
      whole = since.whole ∙ ap (λ rs. before ++ rs) (sym (append_assoc seen (row ∷ []) rows));
      lower = since.lower;
      from = All-append (λ r. is_row_below lo r ≡ false) seen (row ∷ []) since.from
          (All-cons (λ r. is_row_below lo r ≡ false) row [] (upto_chain lo last prefix since.start from)
          (All-nil (λ r. is_row_below lo r ≡ false)));
      upto = All-append (λ r. is_below prefix (prefix_of r.key) ≡ false) seen (row ∷ [])
          (λ k d h. upto_chain (prefix_of (get_or seen k d).key) last prefix (since.upto k d h) from)
          (All-cons (λ r. is_below prefix (prefix_of r.key) ≡ false) row [] (below_itself prefix)
          (All-nil (λ r. is_below prefix (prefix_of r.key) ≡ false)));
      last_is = last-append [] seen row;
      start = upto_chain lo last prefix since.start from;
      sum_is = let parts = sizes-append seen (row ∷ []) in let same = since.sum_is in omega (arith, parts, same);
      low = low_on seen row sum last since.sum_is since.low since.upto from none;
    }

-- ---- all bounds but the last

abbrev pub ButLast : (KeySpan → Type 0) → List KeySpan → Type 0
ButLast P [] = Unit {0}
ButLast P (s ∷ []) = Unit {0}
ButLast P (s ∷ t ∷ ss) = P s × ButLast P (t ∷ ss)

one_more : (P : KeySpan → Type 0) (s : KeySpan) (ss : List KeySpan) → P s → ButLast P ss → ButLast P (s ∷ ss)
one_more P s [] h rest = tt
one_more P s (t ∷ ss) h rest = (h, rest)

at_place : (P : KeySpan → Type 0) (ss : List KeySpan) → ButLast P ss → (k : ℕ) (d : KeySpan) → k + 1 < length ss → P (get_or ss k d)
at_place P [] all k d h = absurd (omega arith)
at_place P (s ∷ []) all k d h = absurd (omega arith)
at_place P (s ∷ t ∷ ss) all zero d h = all.0
at_place P (s ∷ t ∷ ss) all (suc k) d h = at_place P (t ∷ ss) all.1 k d (omega arith)

full_at : (layer : KeyLayer) (before seen rows : List KeyRow) (sum : ℕ) (lo last hi : List ℕ)
    → Since layer.rows before seen rows sum lo last
    → is_below last hi ≡ true → full_output ≤ sum → All (λ r. is_row_below hi r ≡ false) rows
    → AreFull (viewed (plain_view (span_of lo hi)) layer).rows
unfolding viewed
full_at layer before seen rows sum lo last hi since rises full behind =
    let held = λ (r : KeyRow). holds_key (span_of lo hi) r.key in
    let same : filter held layer.rows ≡ seen = since_held layer.rows before seen rows sum lo last hi since rises behind in
    subst (λ (l : KeyLayer). AreFull (bounded (span_of lo hi) l).rows) (sym (mapped-plain_view (span_of lo hi) layer))
    (subst AreFull (sym same) (record {
      full = subst (λ n. full_output ≤ n) (sym since.sum_is) full;
      least = subst (λ (p : List ℕ). sizes_of (filter (is_row_below p) seen) < full_output) (sym since.last_is) since.low;
    }))

all_full : (layer : KeyLayer) (before seen rows : List KeyRow) (sum : ℕ) (lo last top : List ℕ)
    → Since layer.rows before seen rows sum lo last
    → Rising rows → All (Goes last top) rows
    → ButLast (λ s. AreFull (viewed (plain_view s) layer).rows) (spans_to lo (points_behind sum last rows ++ top ∷ []))
all_full layer before seen [] sum lo last top since rising goes = tt
all_full layer before seen (row ∷ rows) sum lo last top since rising goes =
    let P = λ (s : KeySpan). AreFull (viewed (plain_view s) layer).rows in
    let prefix = prefix_of row.key in
    let first = All-head (Goes last top) row rows goes in
    let later = goes_on last top row rows rising.0 (All-tail (Goes last top) row rows goes) in
    let cut = points_behind (row_size row) prefix rows in
    let on = points_behind (sum + row_size row) prefix rows in
    let behind = All-cons (λ r. is_row_below prefix r ≡ false) row rows (below_itself prefix) (λ k d h. (later k d h).from) in
    elim (is_point sum last prefix) as
    (λ b. is_point sum last prefix ≡ b → ButLast P (spans_to lo (cond b (prefix ∷ cut) on ++ top ∷ []))) [
      | true ↦ λ e. one_more P (span_of lo prefix) (spans_to prefix (cut ++ top ∷ []))
          (full_at layer before seen (row ∷ rows) sum lo last prefix since (and_parts _ _ e).1
          (leb-true full_output sum (and_parts _ _ e).0) behind)
          (all_full layer (before ++ seen) (row ∷ []) rows (row_size row) prefix prefix top
          (at_point layer.rows before seen rows row sum lo last since (and_parts _ _ e).1) rising.1 later)
      | false ↦ λ e. all_full layer before (seen ++ row ∷ []) rows (sum + row_size row) lo prefix top
          (further layer.rows before seen rows row sum lo last since first.from e) rising.1 later
    ] refl

from_start : (layer : KeyLayer) (hull : KeySpan) (rows : List KeyRow) → layer.rows ≡ rows → Rising rows → All (λ r. IsKey r.key) rows
    → All (λ r. LiesWithin hull (span_at r)) rows
    → ButLast (λ s. AreFull (viewed (plain_view s) layer).rows) (spans_to hull.lo (cut_points rows ++ hull.hi ∷ []))
from_start layer hull [] same rising keys within = tt
from_start layer hull (row ∷ rows) same rising keys within =
    let P = λ (r : KeyRow). LiesWithin hull (span_at r) in
    let here = All-head P row rows within in
    let prefix = prefix_of row.key in
    let none = All-cons (λ r. is_row_below prefix r ≡ false) row [] (below_itself prefix) (All-nil (λ r. is_row_below prefix r ≡ false)) in
    all_full layer [] (row ∷ []) rows (0 + row_size row) hull.lo prefix hull.hi (record {
      whole = same;
      lower = All-nil (λ r. is_row_below hull.lo r ≡ true);
      from = All-cons (λ r. is_row_below hull.lo r ≡ false) row [] here.lo (All-nil (λ r. is_row_below hull.lo r ≡ false));
      upto = All-cons (λ r. is_below prefix (prefix_of r.key) ≡ false) row [] (below_itself prefix)
          (All-nil (λ r. is_below prefix (prefix_of r.key) ≡ false));
      last_is = refl;
      start = here.lo;
      sum_is = omega arith;
      low = subst (λ (rs : List KeyRow). sizes_of rs < full_output) (sym (filter_none (is_row_below prefix) (row ∷ []) none)) (omega arith);
    }) rising.1 (rows_go hull row rows rising.0 (All-tail (λ r. IsKey r.key) row rows keys) (All-tail P row rows within))

pub outputs_are_full : (layer : KeyLayer) → IsLayer layer → (k : ℕ) (d : KeyLayer) → k + 1 < length (outputs_of layer)
    → AreFull (get_or (outputs_of layer) k d).rows
outputs_are_full layer of =
    by_hull (λ outputs. (k : ℕ) (d : KeyLayer) → k + 1 < length outputs → AreFull (get_or outputs k d).rows) layer
    (λ none k d h. absurd (omega arith)) (λ hull is k d h.
    let bounds = spans_to hull.lo (cut_points layer.rows ++ hull.hi ∷ []) in
    let shown = λ (s : KeySpan). viewed (plain_view s) layer in
    let inside : k + 1 < length bounds = omega (arith, h, length-map bounds shown) in
    let here : k < length bounds = omega arith in
    subst (λ (l : KeyLayer). AreFull l.rows) (sym (get_or-map shown bounds k hull d here))
    (at_place (λ s. AreFull (shown s).rows) bounds
    (from_start layer hull layer.rows refl (rising_from_rise layer.rows of.rise) of.keys (rows_within layer hull is)) k hull inside))
