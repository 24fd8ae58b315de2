-- What a cut leaves, by the order of the ends.
use Rattle.std.proofs.Common.{◌≡◌, ℕ, List, Bool, true, false, refl, Some, None, ◌&&◌, ◌||◌}
use Rattle.std.specs.Prelude.{not, if◌then◌else◌, IfSome}
use Rattle.std.proofs.lemmas.Bool.{and_parts, not-true}
use Rattle.pb_keys.specs.Key.{prefix_of}
use Rattle.pb_keys.specs.Order.{is_below, is_upto}
use Rattle.pb_keys.specs.Span.{KeySpan, IsSpan, holds_key, overlap}
use Rattle.pb_keys.proofs.OrderFacts.{below_chain, below_one_way, below_upto, upto_below, upto_chain}
use Rattle.pb_span_cases.specs.Remainder.{Remains, ends_of}
use Rattle.pb_span_cases.specs.declared.table.Part.{Part}
use Rattle.pb_span_cases.specs.declared.table.Part.TheVariants.{Nothing, Whole, LoToCut, CutToHi}

-- what stays in front of the cut and behind it, by whether the spans overlap and which begins and ends first
abbrev pub left_by : Bool → Bool → Part
left_by overlaps before = if overlaps then (if before then LoToCut else Nothing) else Whole

abbrev pub right_by : Bool → Bool → Part
right_by overlaps after = if overlaps && after then CutToHi else Nothing

abbrev pub left_part : KeySpan → KeySpan → Part
left_part table cut = left_by (is_below table.lo cut.hi && is_below cut.lo table.hi) (is_below table.lo cut.lo)

abbrev pub right_part : KeySpan → KeySpan → Part
right_part table cut = right_by (is_below table.lo cut.hi && is_below cut.lo table.hi) (is_below cut.hi table.hi)

-- ---- four tests of a key: it is not below the table's start (la), below the table's end (ha), below the cut's
-- start (pb), below the cut's end (hb)

both_parts : (la ha pb hb : Bool) → (pb ≡ true → ha ≡ true) → (hb ≡ false → la ≡ true)
    → ((la && pb) || (not hb && ha)) ≡ ((la && ha) && not (not pb && hb))
both_parts true true true hb h k = refl
both_parts true false true hb h k = absurd (cc (h refl))
both_parts true true false true h k = refl
both_parts true true false false h k = refl
both_parts true false false true h k = refl
both_parts true false false false h k = refl
both_parts false ha pb false h k = absurd (cc (k refl))
both_parts false ha pb true h k = refl

left_alone : (la ha pb hb : Bool) → (pb ≡ true → ha ≡ true) → (ha ≡ true → hb ≡ true)
    → ((la && pb) || false) ≡ ((la && ha) && not (not pb && hb))
left_alone true true true hb h k = refl
left_alone true false true hb h k = absurd (cc (h refl))
left_alone true true false true h k = refl
left_alone true true false false h k = absurd (cc (k refl))
left_alone true false false hb h k = refl
left_alone false ha pb hb h k = refl

right_alone : (la ha pb hb : Bool) → (la ≡ true → pb ≡ false) → (hb ≡ false → la ≡ true)
    → (false || (not hb && ha)) ≡ ((la && ha) && not (not pb && hb))
right_alone true ha true hb h k = absurd (cc (h refl))
right_alone true true false true h k = refl
right_alone true true false false h k = refl
right_alone true false false true h k = refl
right_alone true false false false h k = refl
right_alone false ha pb false h k = absurd (cc (k refl))
right_alone false ha pb true h k = refl

none_left : (la ha pb hb : Bool) → (la ≡ true → pb ≡ false) → (ha ≡ true → hb ≡ true)
    → (false || false) ≡ ((la && ha) && not (not pb && hb))
none_left true ha true hb h k = absurd (cc (h refl))
none_left true false false hb h k = refl
none_left true true false true h k = refl
none_left true true false false h k = absurd (cc (k refl))
none_left false ha pb hb h k = refl

all_left : (la ha pb hb : Bool) → (la ≡ true → ha ≡ true → pb ≡ false → hb ≡ true → ⊥)
    → ((la && ha) || false) ≡ ((la && ha) && not (not pb && hb))
all_left true true true hb h = refl
all_left true true false true h = absurd (h refl refl refl refl)
all_left true true false false h = refl
all_left true false pb hb h = refl
all_left false ha pb hb h = refl

-- ---- the same of spans and a prefix p

-- below the cut's start, which is below the table's end
to_end : (table cut : KeySpan) (p : List ℕ) → is_below cut.lo table.hi ≡ true → is_below p cut.lo ≡ true → is_below p table.hi ≡ true
to_end table cut p overlaps off = below_chain p cut.lo table.hi off overlaps

-- at or above the cut's end, which is above the table's start
from_start : (table cut : KeySpan) (p : List ℕ) → is_below table.lo cut.hi ≡ true → is_below p cut.hi ≡ false → is_upto table.lo p ≡ true
from_start table cut p overlaps off =
    let up = below_upto table.lo cut.hi p overlaps off in
    rw (below_one_way table.lo p up) refl

-- the table begins at or behind the cut's start
cut_begins : (table cut : KeySpan) (p : List ℕ) → is_below table.lo cut.lo ≡ false → is_upto table.lo p ≡ true → is_below p cut.lo ≡ false
cut_begins table cut p later from = upto_chain cut.lo table.lo p later (not-true (is_below p table.lo) from)

-- the table ends at or before the cut's end
cut_ends : (table cut : KeySpan) (p : List ℕ) → is_below cut.hi table.hi ≡ false → is_below p table.hi ≡ true → is_below p cut.hi ≡ true
cut_ends table cut p earlier to = below_upto p table.hi cut.hi to earlier

-- spans that don't overlap share no prefix
apart : (table cut : KeySpan) (p : List ℕ) → (is_below table.lo cut.hi && is_below cut.lo table.hi) ≡ false
    → is_upto table.lo p ≡ true → is_below p table.hi ≡ true → is_below p cut.lo ≡ false → is_below p cut.hi ≡ true → ⊥
apart table cut p off la ha pb hb =
    let first = upto_below table.lo p cut.hi (not-true (is_below p table.lo) la) hb in
    let second = upto_below cut.lo p table.hi pb ha in
    let both : (is_below table.lo cut.hi && is_below cut.lo table.hi) ≡ true = rw (first, second) refl in
    cc

-- the parts by the four answers
remains_by : (overlaps before after : Bool) (table cut : KeySpan)
    → (is_below table.lo cut.hi && is_below cut.lo table.hi) ≡ overlaps → is_below table.lo cut.lo ≡ before → is_below cut.hi table.hi ≡ after
    → Remains table cut (ends_of (left_by overlaps before) table cut) (ends_of (right_by overlaps after) table cut)
unfolding holds_key
remains_by false before after table cut o b f key =
    all_left _ _ _ _ (apart table cut (prefix_of key) o)
remains_by true true true table cut o b f key =
    let both = and_parts _ _ o in
    both_parts _ _ _ _ (to_end table cut (prefix_of key) both.1) (from_start table cut (prefix_of key) both.0)
remains_by true true false table cut o b f key =
    let both = and_parts _ _ o in
    left_alone _ _ _ _ (to_end table cut (prefix_of key) both.1) (cut_ends table cut (prefix_of key) f)
remains_by true false true table cut o b f key =
    let both = and_parts _ _ o in
    right_alone _ _ _ _ (cut_begins table cut (prefix_of key) b) (from_start table cut (prefix_of key) both.0)
remains_by true false false table cut o b f key =
    none_left _ _ _ _ (cut_begins table cut (prefix_of key) b) (cut_ends table cut (prefix_of key) f)

pub parts_remain : (table cut : KeySpan) → Remains table cut (ends_of (left_part table cut) table cut) (ends_of (right_part table cut) table cut)
parts_remain table cut = remains_by _ _ _ table cut refl refl refl

-- ---- the parts are spans

left_in_form_by : (overlaps before : Bool) (table cut : KeySpan) → IsSpan table → IsSpan cut → is_below table.lo cut.lo ≡ before
    → IfSome (ends_of (left_by overlaps before) table cut) IsSpan
left_in_form_by false before table cut table_is cut_is b = table_is
left_in_form_by true true table cut table_is cut_is b = record { lo = table_is.lo; hi = cut_is.lo; rises = b }
left_in_form_by true false table cut table_is cut_is b = tt

pub left_in_form : (table cut : KeySpan) → IsSpan table → IsSpan cut → IfSome (ends_of (left_part table cut) table cut) IsSpan
left_in_form table cut table_is cut_is = left_in_form_by _ _ table cut table_is cut_is refl

right_in_form_by : (overlaps after : Bool) (table cut : KeySpan) → IsSpan table → IsSpan cut → is_below cut.hi table.hi ≡ after
    → IfSome (ends_of (right_by overlaps after) table cut) IsSpan
right_in_form_by false after table cut table_is cut_is f = tt
right_in_form_by true true table cut table_is cut_is f = record { lo = cut_is.hi; hi = table_is.hi; rises = f }
right_in_form_by true false table cut table_is cut_is f = tt

pub right_in_form : (table cut : KeySpan) → IsSpan table → IsSpan cut → IfSome (ends_of (right_part table cut) table cut) IsSpan
right_in_form table cut table_is cut_is = right_in_form_by _ _ table cut table_is cut_is refl

-- a table that the cut doesn't overlap stays whole
pub whole_part : (table cut : KeySpan) → overlap table cut ≡ false
    → (ends_of (left_part table cut) table cut ≡ Some table) × (ends_of (right_part table cut) table cut ≡ None)
unfolding overlap
whole_part table cut off = (rw off refl, rw off refl)
