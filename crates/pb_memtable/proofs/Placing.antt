-- A row in its place, and the rows that a span holds.
use Rattle.std.proofs.Common.{◌≡◌, ℕ, suc, ◌+◌, ◌-◌, ◌<◌, ◌≤◌, List, [], ◌∷◌, ◌++◌, length, get_or, set, take, drop, Bool, true, false, refl, sym, ap, ◌∙◌, subst, arith, inl, inr}
use Rattle.std.specs.Prelude.{All, filter, not, ◌&&◌, ◌||◌}
use Rattle.std.specs.List.{insert, between}
use Rattle.std.specs.Cmp.{tied_itself}
use Rattle.std.specs.declared.cmp.Ordering.{Ordering}
use Rattle.std.specs.declared.cmp.Ordering.TheVariants.{Less, Equal, Greater}
use Rattle.std.specs.FinMap.Entries.{by_order}
use Rattle.std.specs.Ordering.{is_lt, ordering_then}
use Rattle.std.proofs.lemmas.Bool.{cases_lt}
use Rattle.std.proofs.lemmas.List.{map-append, take-map, drop-map, map-set, set_split, take-append-drop, drop_more, get_or-drop, get_or-take, length-take-le, length-drop, drop_all}
use Rattle.std.proofs.lemmas.List.Edits.{split_between, get_or-between, length-between}
use Rattle.std.proofs.lemmas.List.Elements.{All-cons, All-head, All-tail, All-weaker, All-append, All-take, All-drop, All-set, filter-append}
use Rattle.pb_keys.proofs.Tests.{or_false}
use Rattle.pb_keys.specs.Key.{key_cmp, prefix_of, suffix_of, suffix_start}
use Rattle.pb_keys.specs.KeyLaws.{key_cmp_total, key_cmp_exact}
use Rattle.pb_keys.specs.Order.{bytes_cmp, is_below}
use Rattle.pb_keys.specs.Span.{KeySpan, IsSpan, IsEnd, holds_key}
use Rattle.pb_keys.proofs.KeyFacts.{suffix_start_is}
use Rattle.pb_keys.proofs.Lists.{filter_all, filter_none}
use Rattle.pb_keys.proofs.OrderFacts.{below_chain, less, none_below_none}
use Rattle.pb_keys.proofs.SpanFacts.{holds_key-ends}
use Rattle.pb_memtable.specs.Search.{IsPlaceOf, IsRowPlace, IsRow, change_at, row_of_change, rows_at}
use Rattle.pb_memtable.proofs.IndexLaws.{change_new, place_more, place_new, rows_more}
use Rattle.pb_rows.proofs.NormalSpans.{end_is_prefix}
use Rattle.pb_rangedel.proofs.RowMerging.{front_row, drop_follows}
use Rattle.pb_rows.proofs.RowsOver.{turned_greater, turned_less}
use Rattle.pb_rows.specs.Layer.{KeyRow, Rise}
use Rattle.pb_rows.specs.Over.{with_row, uncovered}
use Rattle.pb_wal.specs.declared.entry.Change.{Change}

-- ---- a row put among others

with_row_behind : (row : KeyRow) (front rest : List KeyRow) → All (λ r. key_cmp row.key r.key ≡ Greater) front → with_row row (front ++ rest) ≡ front ++ with_row row rest
with_row_behind row [] rest below = refl
with_row_behind row (r ∷ front) rest below =
    let P = λ (s : KeyRow). key_cmp row.key s.key ≡ Greater in
    ap (λ o. by_order o (row ∷ r ∷ (front ++ rest)) (row ∷ (front ++ rest)) (r ∷ with_row row (front ++ rest))) (All-head P r front below)
    ∙ ap (λ rows. r ∷ rows) (with_row_behind row front rest (All-tail P r front below))

front_below : (row : KeyRow) (rows : List KeyRow) (at : ℕ) → IsPlaceOf row.key rows at → All (λ r. key_cmp row.key r.key ≡ Greater) (take at rows)
front_below row rows at place k d h =
    let len : length (take at rows) ≡ at = length-take-le at rows place.within in
    let here : k < at = omega arith in
    subst (λ r. key_cmp row.key r.key ≡ Greater) (sym (get_or-take at rows k d here))
    (turned_less (get_or rows k d).key row.key (less (key_cmp (get_or rows k d).key row.key) (place.parted.0 k d (omega (arith, place.within)) here)))

-- where no row has the key
pub with_row-inserted : (row : KeyRow) (rows : List KeyRow) (at : ℕ) (d : KeyRow) → Rise rows → IsPlaceOf row.key rows at → (at < length rows → (get_or rows at d).key ≡ row.key → ⊥) → with_row row rows ≡ insert rows at row
with_row-inserted row rows at d rise place other =
    let follow = drop_follows row.key rows at d rise (λ h.
    above (get_or rows at d).key row.key (place.parted.1 at d (omega arith) h) (other h)) in
    ap (with_row row) (sym (take-append-drop at rows)) ∙ with_row_behind row (take at rows) (drop at rows) (front_below row rows at place)
    ∙ ap (λ rest. take at rows ++ rest) (front_row row (drop at rows) follow)
  where
    above : (a b : List ℕ) → is_lt (key_cmp a b) ≡ false → (a ≡ b → ⊥) → key_cmp b a ≡ Less
    above a b h differ =
        elim (key_cmp a b) as (λ o. key_cmp a b ≡ o → is_lt o ≡ false → key_cmp b a ≡ Less) [
          | Less ↦ λ e g. cc
          | Equal ↦ λ e g. absurd (differ (key_cmp_exact a b e))
          | Greater ↦ λ e g. turned_greater a b e
        ] refl h

-- where a row has the key
pub with_row-set : (row : KeyRow) (rows : List KeyRow) (at : ℕ) (d : KeyRow) → IsPlaceOf row.key rows at → at < length rows → (get_or rows at d).key ≡ row.key → with_row row rows ≡ set rows at row
with_row-set row rows at d place within same =
    let r = get_or rows at d in
    let tie : key_cmp row.key r.key ≡ Equal = subst (λ key. key_cmp row.key key ≡ Equal) (sym same) (tied_itself key_cmp_total row.key) in
    let next : at + 1 ≡ suc at = omega arith in
    ap (with_row row) (sym (take-append-drop at rows)) ∙ with_row_behind row (take at rows) (drop at rows) (front_below row rows at place)
    ∙ ap (λ rest. take at rows ++ with_row row rest) (drop_more rows at d within)
    ∙ ap (λ o. take at rows ++ by_order o (row ∷ r ∷ drop (at + 1) rows) (row ∷ drop (at + 1) rows) (r ∷ with_row row (drop (at + 1) rows))) tie
    ∙ ap (λ n. take at rows ++ row ∷ drop n rows) next ∙ sym (set_split rows at row within)

-- ---- the same among places

rows_of_more : (changes : List Change) (change : Change) (front : List ℕ) (rest : List ℕ) → All (IsRowPlace changes) front → All (IsRowPlace changes) rest → rows_at (changes ++ change ∷ []) (front ++ length changes ∷ rest) ≡ rows_at changes front ++ row_of_change change ∷ rows_at changes rest
rows_of_more changes change front rest in_front in_rest =
    map-append (λ place. row_of_change (change_at (changes ++ change ∷ []) place)) front (length changes ∷ rest)
    ∙ (λ i. rows_more changes change front in_front i ++ row_of_change (change_new changes change i) ∷ rows_more changes change rest in_rest i)

pub rows-inserted : (changes : List Change) (change : Change) (places : List ℕ) (at : ℕ) → All (IsRowPlace changes) places → rows_at (changes ++ change ∷ []) (insert places at (length changes)) ≡ insert (rows_at changes places) at (row_of_change change)
rows-inserted changes change places at are =
    let f = λ (place : ℕ). row_of_change (change_at changes place) in
    rows_of_more changes change (take at places) (drop at places) (All-take (IsRowPlace changes) at places are) (All-drop (IsRowPlace changes) at places are)
    ∙ (λ i. sym (take-map f at places) i ++ row_of_change change ∷ sym (drop-map f at places) i)

pub rows-set : (changes : List Change) (change : Change) (places : List ℕ) (at : ℕ) → All (IsRowPlace changes) places → at < length places → rows_at (changes ++ change ∷ []) (set places at (length changes)) ≡ set (rows_at changes places) at (row_of_change change)
rows-set changes change places at are within =
    map-set (λ place. row_of_change (change_at (changes ++ change ∷ []) place)) places at (length changes)
    ∙ (λ i. set (rows_more changes change places are i) at (row_of_change (change_new changes change i)))

pub places-inserted : (changes : List Change) (change : Change) (places : List ℕ) (at : ℕ) → IsRow change → All (IsRowPlace changes) places → All (IsRowPlace (changes ++ change ∷ [])) (insert places at (length changes))
places-inserted changes change places at is are =
    let P = IsRowPlace (changes ++ change ∷ []) in
    let all = All-weaker (IsRowPlace changes) P (place_more changes change) places are in
    All-append P (take at places) (length changes ∷ drop at places) (All-take P at places all) (All-cons P (length changes) (drop at places) (place_new changes change is) (All-drop P at places all))

pub places-set : (changes : List Change) (change : Change) (places : List ℕ) (at : ℕ) → IsRow change → All (IsRowPlace changes) places → All (IsRowPlace (changes ++ change ∷ [])) (set places at (length changes))
places-set changes change places at is are =
    let P = IsRowPlace (changes ++ change ∷ []) in
    All-set P places at (length changes) (place_new changes change is) (All-weaker (IsRowPlace changes) P (place_more changes change) places are)

-- ---- the rows that a span holds

-- the end of a span is a key without a suffix
pub end_without_suffix : (bytes : List ℕ) → IsEnd bytes → suffix_of bytes ≡ []
end_without_suffix bytes is =
    let at : length bytes ≡ suffix_start bytes = suffix_start_is bytes (length bytes) (omega arith) (λ k h. is.plain k 0 h) (λ h. absurd (omega arith)) in
    drop_all (suffix_start bytes) bytes (omega arith)

first_decides : (o p : Ordering) → is_lt p ≡ false → is_lt (ordering_then o p) ≡ is_lt o
first_decides Less p h = refl
first_decides Equal p h = h
first_decides Greater p h = refl

-- a key is below the end of a span where its prefix is
below_end : (key bytes : List ℕ) → IsEnd bytes → is_lt (key_cmp key bytes) ≡ is_below (prefix_of key) bytes
unfolding key_cmp
below_end key bytes is =
    (λ i. is_lt (ordering_then (bytes_cmp (prefix_of key) (end_is_prefix bytes is i)) (bytes_cmp (suffix_of key) (end_without_suffix bytes is i))))
    ∙ first_decides (bytes_cmp (prefix_of key) bytes) (bytes_cmp (suffix_of key) []) (none_below_none (suffix_of key))

pub prefix_below : (rows : List KeyRow) (bytes : List ℕ) (at : ℕ) → IsEnd bytes → IsPlaceOf bytes rows at → (k : ℕ) (d : KeyRow) → k < at → is_below (prefix_of (get_or rows k d).key) bytes ≡ true
prefix_below rows bytes at is place k d h = sym (below_end (get_or rows k d).key bytes is) ∙ place.parted.0 k d (omega (arith, place.within)) h

pub prefix_not_below : (rows : List KeyRow) (bytes : List ℕ) (at : ℕ) → IsEnd bytes → IsPlaceOf bytes rows at → (k : ℕ) (d : KeyRow) → at ≤ k → k < length rows → is_below (prefix_of (get_or rows k d).key) bytes ≡ false
prefix_not_below rows bytes at is place k d h within = sym (below_end (get_or rows k d).key bytes is) ∙ place.parted.1 k d h within

behind_both : (a b : Bool) → a ≡ true → not (not a && b) ≡ true
behind_both true b h = refl
behind_both false b h = cc

past_both : (a b : Bool) → b ≡ false → not (not a && b) ≡ true
past_both true b h = refl
past_both false true h = cc
past_both false false h = refl

in_both : (a b : Bool) → a ≡ false → b ≡ true → not (not a && b) ≡ false
in_both true b h k = cc
in_both false true h k = refl
in_both false false h k = cc

left_out : (span : KeySpan) (key : List ℕ) → not (holds_key span key || false) ≡ not (not (is_below (prefix_of key) span.lo) && is_below (prefix_of key) span.hi)
left_out span key = ap not (or_false (holds_key span key) ∙ holds_key-ends span key)

pub rows-uncovered : (rows : List KeyRow) (span : KeySpan) (from to : ℕ) → IsSpan span → IsPlaceOf span.lo rows from → IsPlaceOf span.hi rows to → from ≤ to → uncovered (span ∷ []) rows ≡ take from rows ++ drop to rows
rows-uncovered rows span from to is starts ends rises =
    let p = λ (row : KeyRow). not (holds_key span row.key || false) in
    let to_within : to ≤ length rows = ends.within in
    let from_within : from ≤ length rows = starts.within in
    let front : filter p (take from rows) ≡ take from rows = filter_all p (take from rows) (λ k d h.
    let len : length (take from rows) ≡ from = length-take-le from rows from_within in
    let here : k < from = omega arith in
    subst (λ row. p row ≡ true) (sym (get_or-take from rows k d here))
    (left_out span (get_or rows k d).key ∙ behind_both _ (is_below (prefix_of (get_or rows k d).key) span.hi) (prefix_below rows span.lo from is.lo starts k d here))) in
    let middle : filter p (between from to rows) ≡ [] = filter_none p (between from to rows) (λ k d h.
    let len : length (between from to rows) ≡ to - from = length-between rows from to to_within in
    let here : from + k < to = omega arith in
    subst (λ row. p row ≡ false) (sym (get_or-between rows from to k d here))
    (left_out span (get_or rows (from + k) d).key
    ∙ in_both _ _ (prefix_not_below rows span.lo from is.lo starts (from + k) d (omega arith) (omega arith)) (prefix_below rows span.hi to is.hi ends (from + k) d here))) in
    let behind : filter p (drop to rows) ≡ drop to rows = filter_all p (drop to rows) (λ k d h.
    let inside : to + k < length rows = omega (arith, length-drop to rows) in
    subst (λ row. p row ≡ true) (sym (get_or-drop to rows k d))
    (left_out span (get_or rows (to + k) d).key ∙ past_both (is_below (prefix_of (get_or rows (to + k) d).key) span.lo) _ (prefix_not_below rows span.hi to is.hi ends (to + k) d (omega arith) inside))) in
    ap (filter p) (split_between rows from to rises) ∙ filter-append p (take from rows) (between from to rows ++ drop to rows)
    ∙ (λ i. front i ++ (filter-append p (between from to rows) (drop to rows) ∙ (λ j. middle j ++ behind j)) i)

pub ends_rise : (rows : List KeyRow) (span : KeySpan) (from to : ℕ) → IsSpan span → IsPlaceOf span.lo rows from → IsPlaceOf span.hi rows to → from ≤ to
ends_rise rows span from to is starts ends =
    elim (cases_lt to from) [
      | inl below ↦
          let d : KeyRow = row_of_nothing in
          let low : is_below (prefix_of (get_or rows to d).key) span.lo ≡ true = prefix_below rows span.lo from is.lo starts to d below in
          let high : is_below (prefix_of (get_or rows to d).key) span.hi ≡ false = prefix_not_below rows span.hi to is.hi ends to d (omega arith) (omega (arith, starts.within)) in
          let also : is_below (prefix_of (get_or rows to d).key) span.hi ≡ true = below_chain (prefix_of (get_or rows to d).key) span.lo span.hi low is.rises in
          absurd (cc)
      | inr upto ↦ upto
    ]
  where
    row_of_nothing : KeyRow
    row_of_nothing = row_of_change (change_at [] 0)

pub rows-dropped : (changes : List Change) (places : List ℕ) (from to : ℕ) → rows_at changes (take from places ++ drop to places) ≡ take from (rows_at changes places) ++ drop to (rows_at changes places)
rows-dropped changes places from to =
    let f = λ (place : ℕ). row_of_change (change_at changes place) in
    map-append f (take from places) (drop to places) ∙ (λ i. sym (take-map f from places) i ++ sym (drop-map f to places) i)
