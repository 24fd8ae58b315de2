-- The rows whose keys a span holds, and the parts of deletions within it, by the places of its ends.
use Rattle.std.proofs.Common.{◌≡◌, ℕ, ◌+◌, ◌-◌, ◌<◌, ◌≤◌, List, [], ◌∷◌, ◌++◌, length, get_or, take, drop, true, false, refl, sym, ap, ◌∙◌, subst, arith, inl, inr}
use Rattle.std.specs.Prelude.{All, filter, not, ◌&&◌}
use Rattle.std.specs.List.{between}
use Rattle.std.specs.List.Sorted.{IsPartitionedBy, IsPartitionPoint}
use Rattle.std.proofs.lemmas.Bool.{cases_lt, not-true}
use Rattle.std.proofs.lemmas.Grind.{flat_map-append}
use Rattle.std.proofs.lemmas.List.{append-nil, take-map, drop-map, get_or-drop, get_or-take, length-take-le, length-drop}
use Rattle.std.proofs.lemmas.List.Edits.{split_between, get_or-between, length-between}
use Rattle.std.proofs.lemmas.List.Elements.{All-head, All-tail, filter-append}
use Rattle.pb_keys.specs.Order.{is_below}
use Rattle.pb_keys.specs.Span.{KeySpan, IsSpan, holds_key}
use Rattle.pb_keys.proofs.Lists.{filter_all, filter_none}
use Rattle.pb_keys.proofs.OrderFacts.{below_chain, below_upto}
use Rattle.pb_keys.proofs.SpanFacts.{holds_key-ends}
use Rattle.pb_memtable.specs.Search.{AreOverlapped, AreWithin, change_at, row_of_change, rows_at}
use Rattle.pb_memtable.proofs.Covering.{held_behind}
use Rattle.pb_memtable.proofs.Placing.{prefix_below, prefix_not_below}
use Rattle.pb_rows.specs.Layer.{KeyRow, KeyLayer, AreApart, Rise}
use Rattle.pb_rows.specs.Viewed.{bounded, cut_to, part_within, plain_view, viewed}
use Rattle.pb_rows.proofs.LookLaws.{is_span_below, spans_follow, begins_behind}
use Rattle.pb_rows.proofs.Parts.{no_part_before, no_part_behind}
use Rattle.pb_rows.proofs.RowsOver.{rising_from_rise, rise_from_rising, rising-filter}
use Rattle.pb_rows.proofs.ViewLaws.{mapped-plain_view}
use Rattle.pb_wal.specs.declared.entry.Change.{Change}

pub rows_at-between : (changes : List Change) (places : List ℕ) (from to : ℕ)
    → rows_at changes (between from to places) ≡ between from to (rows_at changes places)
rows_at-between changes places from to =
    let f = λ (place : ℕ). row_of_change (change_at changes place) in
    sym (take-map f (to - from) (drop from places)) ∙ ap (take (to - from)) (sym (drop-map f from places))

pub rows-held : (rows : List KeyRow) (span : KeySpan) (from to : ℕ) → AreWithin span rows from to
    → filter (λ row. holds_key span row.key) rows ≡ between from to rows
rows-held rows span from to are =
    let p = λ (row : KeyRow). holds_key span row.key in
    let is = are.in_form in
    let rises : from ≤ to = are.rises in
    let to_within : to ≤ length rows = are.ends.within in
    let front : filter p (take from rows) ≡ [] = filter_none p (take from rows) (λ k d h.
    let len : length (take from rows) ≡ from = length-take-le from rows are.starts.within in
    let here : k < from = omega arith in
    subst (λ row. p row ≡ false) (sym (get_or-take from rows k d here))
    (begins_behind span (get_or rows k d).key (prefix_below rows span.lo from is.lo are.starts k d here))) in
    let middle : filter p (between from to rows) ≡ between from to rows = filter_all p (between from to rows) (λ k d h.
    let len : length (between from to rows) ≡ to - from = length-between rows from to to_within in
    let here : from + k < to = omega arith in
    let row = get_or rows (from + k) d in
    subst (λ row. p row ≡ true) (sym (get_or-between rows from to k d here))
    (holds_key-ends span row.key
    ∙ (λ i. not (prefix_not_below rows span.lo from is.lo are.starts (from + k) d (omega arith)
    (omega arith) i) && prefix_below rows span.hi to is.hi are.ends (from + k) d here i))) in
    let behind : filter p (drop to rows) ≡ [] = filter_none p (drop to rows) (λ k d h.
    let inside : to + k < length rows = omega (arith, length-drop to rows) in
    subst (λ row. p row ≡ false) (sym (get_or-drop to rows k d))
    (held_behind span (get_or rows (to + k) d).key (prefix_not_below rows span.hi to is.hi are.ends (to + k) d (omega arith) inside))) in
    ap (filter p) (split_between rows from to rises) ∙ filter-append p (take from rows) (between from to rows ++ drop to rows)
    ∙ (λ i. front i ++ (filter-append p (between from to rows) (drop to rows) ∙ (λ j. middle j ++ behind j)
    ∙ append-nil (between from to rows)) i)

pub rise-held : (rows : List KeyRow) (span : KeySpan) → Rise rows → Rise (filter (λ row. holds_key span row.key) rows)
rise-held rows span rise =
    let p = λ (row : KeyRow). holds_key span row.key in
    rise_from_rising (filter p rows) (rising-filter p rows (rising_from_rise rows rise))

pub bounded-plain : (span : KeySpan) (layer : KeyLayer) → bounded span layer ≡ viewed (plain_view span) layer
unfolding viewed
bounded-plain span layer = ap (bounded span) (sym (mapped-plain_view span layer))

-- ---- deletions

no_parts : (span : KeySpan) (dels : List KeySpan) → All (λ del. part_within span del ≡ []) dels → cut_to span dels ≡ []
no_parts span [] none = refl
no_parts span (del ∷ dels) none =
    let P = λ (d : KeySpan). part_within span d ≡ [] in
    (λ i. All-head P del dels none i ++ no_parts span dels (All-tail P del dels none) i)

pub parts-between : (span : KeySpan) (dels : List KeySpan) (from to : ℕ) → AreOverlapped span dels from to
    → cut_to span (between from to dels) ≡ cut_to span dels
parts-between span dels from to are =
    let rises : from ≤ to = are.rises in
    let within : to ≤ length dels = are.within in
    let P = λ (del : KeySpan). part_within span del ≡ [] in
    let front : cut_to span (take from dels) ≡ [] = no_parts span (take from dels) (λ k d h.
    let len : length (take from dels) ≡ from = length-take-le from dels (omega arith) in
    let here : k < from = omega arith in
    subst P (sym (get_or-take from dels k d here)) (no_part_before span (get_or dels k d) (are.front k d here))) in
    let behind : cut_to span (drop to dels) ≡ [] = no_parts span (drop to dels) (λ k d h.
    let inside : to + k < length dels = omega (arith, length-drop to dels) in
    subst P (sym (get_or-drop to dels k d)) (no_part_behind span (get_or dels (to + k) d) (are.back (to + k) d (omega arith) inside))) in
    sym (ap (cut_to span) (split_between dels from to rises)
    ∙ flat_map-append (part_within span) (take from dels) (between from to dels ++ drop to dels)
    ∙ (λ i. front i ++ (flat_map-append (part_within span) (between from to dels) (drop to dels)
    ∙ (λ j. cut_to span (between from to dels) ++ behind j) ∙ append-nil (cut_to span (between from to dels))) i))

-- ---- halving finds the places

pub starts_are_parted : (spans : List KeySpan) (bytes : List ℕ) → All IsSpan spans → AreApart spans
    → IsPartitionedBy (λ s. is_below s.lo bytes) spans
starts_are_parted spans bytes are apart i j d h k below =
    elim (cases_lt i j) [
      | inl before ↦
          let s = get_or spans i d in let t = get_or spans j d in
          let f = spans_follow spans are apart i j d before k in
          below_chain s.lo t.lo bytes (below_chain s.lo s.hi t.lo (are i d (omega arith)).rises f.apart) below
      | inr past ↦ let same : j ≡ i = omega arith in subst (λ n. is_below (get_or spans n d).lo bytes ≡ true) same below
    ]

pub overlapped_between : (span : KeySpan) (dels : List KeySpan) (from to : ℕ) → IsSpan span → All IsSpan dels → from ≤ length dels
    → to ≤ length dels → IsPartitionPoint (λ d. is_span_below span.lo d ≡ true) (λ d. is_span_below span.lo d ≡ false) dels from
    → IsPartitionPoint (λ d. is_below d.lo span.hi ≡ true) (λ d. is_below d.lo span.hi ≡ false) dels to → AreOverlapped span dels from to
overlapped_between span dels from to is are from_within to_within starts ends = record {
  rises = elim (cases_lt to from) [
    | inl below ↦
        let one = get_or dels to span in
        let low : is_below span.lo one.hi ≡ false = not-true (is_below span.lo one.hi) (starts.0 to span (omega arith) below) in
        let high : is_below one.lo span.hi ≡ false = ends.1 to span (omega arith) (omega arith) in
        let start : is_below one.lo span.lo ≡ true = below_upto one.lo one.hi span.lo (are to span (omega arith)).rises low in
        let also : is_below one.lo span.hi ≡ true = below_chain one.lo span.lo span.hi start is.rises in
        absurd (cc)
    | inr upto ↦ upto
  ];
  within = to_within;
  front = λ k d h. not-true (is_below span.lo (get_or dels k d).hi) (starts.0 k d (omega arith) h);
  back = λ k d h within. ends.1 k d h within;
}
