-- Free levels: what no table of theirs overlaps, and how a loop counts them.
use Rattle.std.proofs.Common.{◌≡◌, ℕ, ◌+◌, ◌<◌, ◌≤◌, zero, suc, List, [], ◌∷◌, Bool, true, false, cond, length, refl, ap, ◌∙◌, arith}
use Rattle.std.proofs.lemmas.List.Elements.{All-nil, All-cons, All-contains}
use Rattle.std.proofs.lemmas.Bool.{and_parts, or_parts, not-true}
use Rattle.std.specs.Prelude.{◌&&◌, ◌||◌, slice_index_or, Option, Some, All}
use Rattle.std.specs.List.{list_any}
use Rattle.pb_keys.specs.Order.{is_below, is_upto, lesser, greater}
use Rattle.pb_keys.specs.Span.{KeySpan, span_of, overlap}
use Rattle.pb_keys.proofs.EndFacts.{below-lesser}
use Rattle.pb_keys.proofs.OrderFacts.{upto_chain}
use Rattle.pb_keys.proofs.SpanFacts.{upto_greater, overlap_turns}
use Rattle.pb_span_cases.specs.Remainder.{remains}
use Rattle.pb_version.specs.Version.{TableView, VersionView}
use Rattle.pb_version.specs.Above.{lies_within}
use Rattle.pb_version.proofs.Levels.{any_append}
use Rattle.pb_ingest.specs.Levels.{rests_of, meets, free_levels, level_without, IsRest}

-- ---- tests and spans

pub none_pass : {X : Type 0} (q : X → Bool) (xs : List X) → list_any q xs ≡ false → All (λ x. q x ≡ false) xs
none_pass q [] e = All-nil (λ x. q x ≡ false)
none_pass q (x ∷ xs) e =
    let parts = or_parts (q x) (list_any q xs) e in
    All-cons (λ y. q y ≡ false) x xs parts.0 (none_pass q xs parts.1)

-- ---- free levels

first_free : (b : Bool) (n : ℕ) → 0 < cond b 0 (1 + n) → b ≡ false
first_free true n h = absurd (omega (arith, h))
first_free false n h = refl

later_free : (b : Bool) (l n : ℕ) → suc l < cond b 0 (1 + n) → l < n
later_free true l n h = absurd (omega (arith, h))
later_free false l n h = omega (arith, h)

-- a free level has no table that meets the hull
pub free_level : (cut : Option KeySpan) (hull : KeySpan) (ls : List (List TableView)) (l : ℕ) → l < free_levels cut hull ls →
    list_any (meets cut hull) (slice_index_or ls l []) ≡ false
free_level cut hull [] l h = absurd (omega (arith, h))
free_level cut hull (ts ∷ ls) zero h = first_free (list_any (meets cut hull) ts) (free_levels cut hull ls) h
free_level cut hull (ts ∷ ls) (suc l) h = free_level cut hull ls l (later_free (list_any (meets cut hull) ts) l (free_levels cut hull ls) h)

one_more : (b : Bool) (n m : ℕ) → n ≤ m → cond b 0 (1 + n) ≤ suc m
one_more true n m h = omega arith
one_more false n m h = omega (arith, h)

pub free_within : (cut : Option KeySpan) (hull : KeySpan) (ls : List (List TableView)) → free_levels cut hull ls ≤ length ls
free_within cut hull [] = omega arith
free_within cut hull (ts ∷ ls) = one_more (list_any (meets cut hull) ts) (free_levels cut hull ls) (length ls) (free_within cut hull ls)

pub level_within : (v : VersionView) (cut : Option KeySpan) (hull : KeySpan) → length v.levels ≡ 7 → level_without v cut hull ≤ 6
level_within v cut hull seven = omega (arith, free_within cut hull v.levels, seven)

-- what stays of a table of such a level doesn't overlap the hull
pub rest_apart : (cut : Option KeySpan) (hull : KeySpan) (tables : List TableView) (t : TableView) → list_any (meets cut hull) tables ≡ false →
    IsRest cut tables t → overlap hull t.view.bounds ≡ false
rest_apart cut hull tables t none rest =
    let of_table = All-contains (λ u. meets cut hull u ≡ false) tables rest.table (none_pass (meets cut hull) tables none) rest.stood in
    let each = none_pass (λ s. overlap s hull) (rests_of cut rest.table.view.bounds) of_table in
    overlap_turns hull t.view.bounds
    ∙ All-contains (λ s. overlap s hull ≡ false) (rests_of cut rest.table.view.bounds) t.view.bounds each rest.bounds

-- ---- counting on

pub stops_here : (cut : Option KeySpan) (hull : KeySpan) (ts : List TableView) (ls : List (List TableView)) → list_any (meets cut hull) ts ≡ true →
    free_levels cut hull (ts ∷ ls) ≡ 0
stops_here cut hull ts ls e = ap (λ b. cond b 0 (1 + free_levels cut hull ls)) e

pub free_here : (cut : Option KeySpan) (hull : KeySpan) (ts : List TableView) (ls : List (List TableView)) → list_any (meets cut hull) ts ≡ false →
    free_levels cut hull (ts ∷ ls) ≡ 1 + free_levels cut hull ls
free_here cut hull ts ls e = ap (λ b. cond b 0 (1 + free_levels cut hull ls)) e

-- ---- inside the cut

both_false : (a b : Bool) → a ≡ false → (a && b) ≡ false
both_false true b e = cc
both_false false b e = refl

second_false : (a b : Bool) → b ≡ false → (a && b) ≡ false
second_false true b e = e
second_false false b e = refl

one_apart : (b : Bool) (s hull : KeySpan) → overlap s hull ≡ false → list_any (λ rest. overlap rest hull) (cond b (s ∷ []) []) ≡ false
one_apart true s hull e = ap (λ x. x || false) e
one_apart false s hull e = refl

no_rest_meets : (cut hull bounds : KeySpan) → lies_within hull cut ≡ true → list_any (λ rest. overlap rest hull) (remains bounds cut) ≡ false
unfolding overlap
no_rest_meets cut hull bounds within =
    let both = and_parts (is_upto cut.lo hull.lo) (is_upto hull.hi cut.hi) within in
    let from : is_below hull.lo cut.lo ≡ false = not-true (is_below hull.lo cut.lo) both.0 in
    let to : is_below cut.hi hull.hi ≡ false = not-true (is_below cut.hi hull.hi) both.1 in
    let before : overlap (span_of bounds.lo (lesser bounds.hi cut.lo)) hull ≡ false =
    second_false (is_below bounds.lo hull.hi) (is_below hull.lo (lesser bounds.hi cut.lo))
    (below-lesser hull.lo bounds.hi cut.lo ∙ second_false (is_below hull.lo bounds.hi) (is_below hull.lo cut.lo) from) in
    let behind : overlap (span_of (greater cut.hi bounds.lo) bounds.hi) hull ≡ false =
    both_false (is_below (greater cut.hi bounds.lo) hull.hi) (is_below hull.lo bounds.hi)
    (upto_chain hull.hi cut.hi (greater cut.hi bounds.lo) to (upto_greater cut.hi bounds.lo)) in
    any_append (λ rest. overlap rest hull) (cond (is_below bounds.lo cut.lo) (span_of bounds.lo (lesser bounds.hi cut.lo) ∷ []) [])
    (cond (is_below cut.hi bounds.hi) (span_of (greater cut.hi bounds.lo) bounds.hi ∷ []) [])
    ∙ (λ i.
    one_apart (is_below bounds.lo cut.lo) (span_of bounds.lo (lesser bounds.hi cut.lo)) hull before i
    || one_apart (is_below cut.hi bounds.hi) (span_of (greater cut.hi bounds.lo) bounds.hi) hull behind i)

none_meets : (cut hull : KeySpan) (ts : List TableView) → lies_within hull cut ≡ true → list_any (meets (Some cut) hull) ts ≡ false
none_meets cut hull [] within = refl
none_meets cut hull (t ∷ ts) within = λ i. no_rest_meets cut hull t.view.bounds within i || none_meets cut hull ts within i

all_free : (cut hull : KeySpan) (ls : List (List TableView)) → lies_within hull cut ≡ true → free_levels (Some cut) hull ls ≡ length ls
all_free cut hull [] within = refl
all_free cut hull (ts ∷ ls) within =
    free_here (Some cut) hull ts ls (none_meets cut hull ts within) ∙ one_longer (free_levels (Some cut) hull ls) (length ls) (all_free cut hull ls within)
  where
    one_longer : (n m : ℕ) → n ≡ m → 1 + n ≡ suc m
    one_longer n m e = omega (arith, e)

pub inside_is_free : (v : VersionView) (cut hull : KeySpan) → length v.levels ≡ 7 → lies_within hull cut ≡ true → level_without v (Some cut) hull ≡ 6
inside_is_free v cut hull seven within = omega (arith, all_free cut hull v.levels within, seven)
