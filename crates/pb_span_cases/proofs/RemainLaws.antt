-- What remains of a table beside a cut, and that it is what the parts of a line are.
use Rattle.std.proofs.Common.{◌≡◌, ℕ, ◌≤◌, List, [], ◌∷◌, ◌++◌, length, Bool, true, false, cond, refl, sym, ap, ◌∙◌, ◌&&◌, ◌||◌, arith}
use Rattle.std.specs.Prelude.{All, not}
use Rattle.std.specs.List.{list_any}
use Rattle.std.specs.Option.{option_to_list}
use Rattle.std.proofs.lemmas.List.{append-nil}
use Rattle.std.proofs.lemmas.List.Elements.{All-cons, All-nil, All-append}
use Rattle.pb_keys.specs.Key.{prefix_of}
use Rattle.pb_keys.specs.Order.{is_below, lesser, greater}
use Rattle.pb_keys.specs.Span.{KeySpan, IsSpan, span_of, holds_key}
use Rattle.pb_keys.proofs.EndFacts.{below-lesser, below-greater, greater_first, greater_second, lesser_first, lesser_second, lesser_is_end, greater_is_end}
use Rattle.pb_keys.proofs.OrderFacts.{below_one_way, below_upto, upto_below}
use Rattle.pb_span_cases.specs.Remainder.{remains, ends_of}
use Rattle.pb_span_cases.proofs.Remainders.{left_by, right_by, left_part, right_part}
use Rattle.pb_keys.proofs.Tests.{or_false}
use Rattle.std.proofs.lemmas.Bool.{and_from}

-- ---- the keys: of a key's prefix p whether it is below each of four ends

-- a span that is there only where a test holds
held_where : (t : Bool) (s : KeySpan) (rest : List KeySpan) (key : List ℕ) → list_any (λ part. holds_key part key) (cond t (s ∷ []) [] ++ rest) ≡ ((t && holds_key s key) || list_any (λ part. holds_key part key) rest)
held_where true s rest key = refl
held_where false s rest key = refl

-- a, b: below the table's ends; c, d: below the cut's; s: whether the table begins below the cut; e: whether it ends above it
of_both : (a b c d s e : Bool) → (a ≡ false → c ≡ true → s ≡ true) → (d ≡ false → b ≡ true → e ≡ true)
    → ((s && (not a && (b && c))) || (e && (not (d || a) && b))) ≡ ((not a && b) && not (not c && d))
of_both true b c true true true h k = refl
of_both true b c true true false h k = refl
of_both true b c true false true h k = refl
of_both true b c true false false h k = refl
of_both true b c false true true h k = refl
of_both true b c false true false h k = refl
of_both true b c false false true h k = refl
of_both true b c false false false h k = refl
of_both false true true d true e h k = refl
of_both false true true d false e h k = cc (h refl refl)
of_both false true false true true true h k = refl
of_both false true false true true false h k = refl
of_both false true false true false true h k = refl
of_both false true false true false false h k = refl
of_both false true false false true true h k = refl
of_both false true false false true false h k = cc (k refl refl)
of_both false true false false false true h k = refl
of_both false true false false false false h k = cc (k refl refl)
of_both false false c true true true h k = refl
of_both false false c true true false h k = refl
of_both false false c true false true h k = refl
of_both false false c true false false h k = refl
of_both false false c false true true h k = refl
of_both false false c false true false h k = refl
of_both false false c false false true h k = refl
of_both false false c false false false h k = refl

pub held_by_remains : (table cut : KeySpan) (key : List ℕ) → list_any (λ part. holds_key part key) (remains table cut) ≡ (holds_key table key && not (holds_key cut key))
unfolding holds_key
held_by_remains table cut key =
    let p = prefix_of key in
    let s = is_below table.lo cut.lo in
    let e = is_below cut.hi table.hi in
    let front = span_of table.lo (lesser table.hi cut.lo) in
    let behind = span_of (greater cut.hi table.lo) table.hi in
    held_where s front (cond e (behind ∷ []) []) key
    ∙ ap (λ r. (s && holds_key front key) || r) (ap (list_any (λ part. holds_key part key)) (sym (append-nil (cond e (behind ∷ []) []))) ∙ held_where e behind [] key ∙ or_false (e && holds_key behind key))
    ∙ (λ i. (s && (not (is_below p table.lo) && below-lesser p table.hi cut.lo i)) || (e && (not (below-greater p cut.hi table.lo i) && is_below p table.hi)))
    ∙ of_both (is_below p table.lo) (is_below p table.hi) (is_below p cut.lo) (is_below p cut.hi) s e
    (λ a c. upto_below table.lo p cut.lo a c) (λ d b. upto_below cut.hi p table.hi d b)

-- ---- the form

front_in_form : (table cut : KeySpan) → IsSpan table → IsSpan cut → is_below table.lo cut.lo ≡ true → IsSpan (span_of table.lo (lesser table.hi cut.lo))
front_in_form table cut table_is cut_is s = record {
  lo = table_is.lo;
  hi = lesser_is_end table.hi cut.lo table_is.hi cut_is.lo;
  rises = below-lesser table.lo table.hi cut.lo ∙ and_from (is_below table.lo table.hi) (is_below table.lo cut.lo) table_is.rises s;
}

behind_in_form : (table cut : KeySpan) → IsSpan table → IsSpan cut → is_below cut.hi table.hi ≡ true → IsSpan (span_of (greater cut.hi table.lo) table.hi)
behind_in_form table cut table_is cut_is e = record {
  lo = greater_is_end cut.hi table.lo cut_is.hi table_is.lo;
  hi = table_is.hi;
  rises = elim (is_below cut.hi table.lo) as (λ t. is_below (cond t table.lo cut.hi) table.hi ≡ true) [ true ↦ table_is.rises | false ↦ e ];
}

one_where : (t : Bool) (s : KeySpan) → (t ≡ true → IsSpan s) → All IsSpan (cond t (s ∷ []) [])
one_where true s is = All-cons IsSpan s [] (is refl) (All-nil IsSpan)
one_where false s is = All-nil IsSpan

pub remains_in_form : (table cut : KeySpan) → IsSpan table → IsSpan cut → All IsSpan (remains table cut)
remains_in_form table cut table_is cut_is =
    All-append IsSpan (cond (is_below table.lo cut.lo) (span_of table.lo (lesser table.hi cut.lo) ∷ []) []) (cond (is_below cut.hi table.hi) (span_of (greater cut.hi table.lo) table.hi ∷ []) [])
    (one_where (is_below table.lo cut.lo) (span_of table.lo (lesser table.hi cut.lo)) (front_in_form table cut table_is cut_is))
    (one_where (is_below cut.hi table.hi) (span_of (greater cut.hi table.lo) table.hi) (behind_in_form table cut table_is cut_is))

at_most : (s e : Bool) (f b : KeySpan) → length (cond s (f ∷ []) [] ++ cond e (b ∷ []) []) ≤ 2
at_most true true f b = omega arith
at_most true false f b = omega arith
at_most false true f b = omega arith
at_most false false f b = omega arith

pub remains_at_most_two : (table cut : KeySpan) → length (remains table cut) ≤ 2
remains_at_most_two table cut = at_most (is_below table.lo cut.lo) (is_below cut.hi table.hi) (span_of table.lo (lesser table.hi cut.lo)) (span_of (greater cut.hi table.lo) table.hi)

-- ---- the parts of a line

-- the lists of what a table's tests and what the ends' order name
abbrev named : Bool → Bool → KeySpan → KeySpan → List KeySpan
named s e table cut = cond s (span_of table.lo (lesser table.hi cut.lo) ∷ []) [] ++ cond e (span_of (greater cut.hi table.lo) table.hi ∷ []) []

abbrev lined : Bool → Bool → Bool → KeySpan → KeySpan → List KeySpan
lined overlaps s e table cut = option_to_list (ends_of (left_by overlaps s) table cut) ++ option_to_list (ends_of (right_by overlaps e) table cut)

-- the table and the cut overlap
both_overlap : (s e : Bool) (table cut : KeySpan) → is_below table.lo cut.hi ≡ true → is_below cut.lo table.hi ≡ true → lined true s e table cut ≡ named s e table cut
both_overlap s e table cut first second =
    let hi : cut.lo ≡ lesser table.hi cut.lo = sym (lesser_second table.hi cut.lo (below_one_way cut.lo table.hi second)) in
    let lo : cut.hi ≡ greater cut.hi table.lo = sym (greater_first cut.hi table.lo (below_one_way table.lo cut.hi first)) in
    each_part s e table cut (lesser table.hi cut.lo) (greater cut.hi table.lo) hi lo
  where
    each_part : (s e : Bool) (table cut : KeySpan) (h l : List ℕ) → cut.lo ≡ h → cut.hi ≡ l → lined true s e table cut ≡ cond s (span_of table.lo h ∷ []) [] ++ cond e (span_of l table.hi ∷ []) []
    each_part true true table cut h l hi lo = λ i. span_of table.lo (hi i) ∷ span_of (lo i) table.hi ∷ []
    each_part true false table cut h l hi lo = λ i. span_of table.lo (hi i) ∷ []
    each_part false true table cut h l hi lo = λ i. span_of (lo i) table.hi ∷ []
    each_part false false table cut h l hi lo = refl

-- the table begins at the cut's end or behind it
lies_behind : (table cut : KeySpan) → IsSpan table → IsSpan cut → is_below table.lo cut.hi ≡ false → table ∷ [] ≡ named (is_below table.lo cut.lo) (is_below cut.hi table.hi) table cut
lies_behind table cut table_is cut_is h =
    let s : is_below table.lo cut.lo ≡ false = below_one_way cut.lo table.lo (below_upto cut.lo cut.hi table.lo cut_is.rises h) in
    let e : is_below cut.hi table.hi ≡ true = upto_below cut.hi table.lo table.hi h table_is.rises in
    let lo : greater cut.hi table.lo ≡ table.lo = greater_second cut.hi table.lo h in
    sym ((λ i. named (s i) (e i) table cut) ∙ (λ i. span_of (lo i) table.hi ∷ []))

-- the table ends at the cut's start or before it
lies_before : (table cut : KeySpan) → IsSpan table → IsSpan cut → is_below cut.lo table.hi ≡ false → table ∷ [] ≡ named (is_below table.lo cut.lo) (is_below cut.hi table.hi) table cut
lies_before table cut table_is cut_is h =
    let s : is_below table.lo cut.lo ≡ true = below_upto table.lo table.hi cut.lo table_is.rises h in
    let e : is_below cut.hi table.hi ≡ false = below_one_way table.hi cut.hi (upto_below table.hi cut.lo cut.hi h cut_is.rises) in
    let hi : lesser table.hi cut.lo ≡ table.hi = lesser_first table.hi cut.lo h in
    sym ((λ i. named (s i) (e i) table cut) ∙ (λ i. span_of table.lo (hi i) ∷ []))

pub parts_are_remains : (table cut : KeySpan) → IsSpan table → IsSpan cut
    → option_to_list (ends_of (left_part table cut) table cut) ++ option_to_list (ends_of (right_part table cut) table cut) ≡ remains table cut
parts_are_remains table cut table_is cut_is =
    by_overlap (is_below table.lo cut.hi) (is_below cut.lo table.hi) refl refl
  where
    by_overlap : (first second : Bool) → is_below table.lo cut.hi ≡ first → is_below cut.lo table.hi ≡ second → lined (first && second) (is_below table.lo cut.lo) (is_below cut.hi table.hi) table cut ≡ named (is_below table.lo cut.lo) (is_below cut.hi table.hi) table cut
    by_overlap true true f g = both_overlap (is_below table.lo cut.lo) (is_below cut.hi table.hi) table cut f g
    by_overlap true false f g = lies_before table cut table_is cut_is g
    by_overlap false second f g = lies_behind table cut table_is cut_is f
