-- The table, computed once over its lines, and what that says of each line.
use Rattle.std.proofs.Common.{◌≡◌, ℕ, zero, suc, ◌<◌, List, [], ◌∷◌, length, Bool, true, false, refl, sym, ap, ◌∙◌, ◌&&◌, arith, subst}
use Rattle.std.proofs.lemmas.List.{get_or_default}
use Rattle.std.specs.List.{list_all, slice_index_or}
use Rattle.std.proofs.lemmas.Bool.{and_parts}
use Rattle.std.specs.Cmp.Lexicographic.{nat_list_cmp_total}
use Rattle.std.specs.Ordering.{is_lt, is_gt, ordering_reverse}
use Rattle.std.specs.declared.cmp.Ordering.{Ordering}
use Rattle.std.specs.declared.cmp.Ordering.TheVariants.{Less, Equal, Greater}
use Rattle.pb_keys.specs.Order.{bytes_cmp, is_below}
use Rattle.pb_keys.specs.Span.{KeySpan, IsSpan}
use Rattle.pb_span_cases.specs.Relation.{IsCase}
use Rattle.pb_span_cases.specs.Remainder.{IsLine, ends_of, case_place}
use Rattle.pb_span_cases.specs.Signs.{Signs, signs_of}
use Rattle.pb_span_cases.specs.declared.relations.Rel.{Rel}
use Rattle.pb_span_cases.specs.declared.relations.Rel.TheVariants as rels
use Rattle.pb_span_cases.specs.declared.table.Case.{Case}
use Rattle.pb_span_cases.specs.declared.table.Part.{Part}
use Rattle.pb_span_cases.specs.declared.table.Part.TheVariants.{Nothing, Whole, LoToCut, CutToHi}
use Rattle.pb_span_cases.specs.declared.table.TheConstants.{CASES}
use Rattle.pb_span_cases.proofs.Remainders.{left_by, right_by, left_part, right_part}
use Rattle.pb_span_cases.proofs.SignFacts.{signs, signs-case, exactly_one_case}

abbrev same_part : Part → Part → Bool
same_part Nothing Nothing = true
same_part Whole Whole = true
same_part LoToCut LoToCut = true
same_part CutToHi CutToHi = true
same_part _ _ = false

-- a line names the parts that its relation's comparisons ask for
abbrev overlaps_by : Signs → Bool
overlaps_by s = is_gt s.back && is_gt s.front

abbrev is_right : Case → Bool
is_right line =
    same_part line.left (left_by (overlaps_by (signs_of line.rel)) (is_lt (signs_of line.rel).starts))
    && same_part line.right (right_by (overlaps_by (signs_of line.rel)) (is_gt (signs_of line.rel).ends))

-- the test, over all thirteen lines
pub table_is_right : list_all is_right CASES.lines ≡ true
table_is_right = refl

-- what a test of every line says of one of them
passes : (test : Case → Bool) (lines : List Case) (k : ℕ) (line : Case) → k < length lines → list_all test lines ≡ true
    → test (slice_index_or lines k line) ≡ true
passes test [] k line within all = absurd (omega arith)
passes test (first ∷ lines) zero line within all = (and_parts (test first) (list_all test lines) all).0
passes test (first ∷ lines) (suc k) line within all =
    passes test lines k line (omega arith) (and_parts (test first) (list_all test lines) all).1

line_is_right : (line : Case) → IsLine line → is_right line ≡ true
unfolding IsLine
line_is_right line (k, within, is_line) =
    ap is_right (sym is_line) ∙ passes is_right CASES.lines k line within table_is_right

same_part_is : (p q : Part) → same_part p q ≡ true → p ≡ q
same_part_is Nothing Nothing h = refl
same_part_is Whole Whole h = refl
same_part_is LoToCut LoToCut h = refl
same_part_is CutToHi CutToHi h = refl
same_part_is p q h = absurd (cc)

turned : (o : Ordering) → is_gt (ordering_reverse o) ≡ is_lt o
turned Less = refl
turned Equal = refl
turned Greater = refl

greater-is_below : (x y : List ℕ) → is_gt (bytes_cmp y x) ≡ is_below x y
greater-is_below x y = ap is_gt (nat_list_cmp_total.antisymm y x) ∙ turned (bytes_cmp x y)

-- the comparisons say whether the spans overlap
overlaps_by-signs : (table cut : KeySpan) → overlaps_by (signs table cut) ≡ (is_below table.lo cut.hi && is_below cut.lo table.hi)
overlaps_by-signs table cut =
    λ i. greater-is_below table.lo cut.hi i && greater-is_below cut.lo table.hi i

-- the line whose relation holds names the parts that stay
pub line-left : (line : Case) (table cut : KeySpan) → IsSpan table → IsSpan cut → IsLine line → IsCase line.rel table cut
    → line.left ≡ left_part table cut
line-left line table cut table_is cut_is listed holds =
    let tests = and_parts _ _ (line_is_right line listed) in
    let same = signs-case line.rel table cut table_is.rises cut_is.rises holds in
    same_part_is _ _ tests.0
    ∙ ap (λ (s : Signs). left_by (overlaps_by s) (is_lt s.starts)) (sym same)
    ∙ ap (λ (overlaps : Bool). left_by overlaps (is_below table.lo cut.lo)) (overlaps_by-signs table cut)

pub line-right : (line : Case) (table cut : KeySpan) → IsSpan table → IsSpan cut → IsLine line → IsCase line.rel table cut
    → line.right ≡ right_part table cut
line-right line table cut table_is cut_is listed holds =
    let tests = and_parts _ _ (line_is_right line listed) in
    let same = signs-case line.rel table cut table_is.rises cut_is.rises holds in
    same_part_is _ _ tests.1
    ∙ ap (λ (s : Signs). right_by (overlaps_by s) (is_gt s.ends)) (sym same)
    ∙ (λ i. right_by (overlaps_by-signs table cut i) (greater-is_below cut.hi table.hi i))

-- a line names what stays
pub record NamesParts (line : Case) (table cut : KeySpan) : Type 0 where
  pub left : ends_of line.left table cut ≡ ends_of (left_part table cut) table cut
  pub right : ends_of line.right table cut ≡ ends_of (right_part table cut) table cut

pub names_parts : (line : Case) (rel : Rel) (table cut : KeySpan) → IsSpan table → IsSpan cut → IsLine line → line.rel ≡ rel → IsCase rel table cut
    → NamesParts line table cut
names_parts line rel table cut table_is cut_is listed named holds =
    let its_case : IsCase line.rel table cut = rw named holds in
    record {
      left = ap (λ (part : Part). ends_of part table cut) (line-left line table cut table_is cut_is listed its_case);
      right = ap (λ (part : Part). ends_of part table cut) (line-right line table cut table_is cut_is listed its_case);
    }

-- the line in the place of a relation is its own
pub named_line : (r : Rel) (other : Case) → (slice_index_or CASES.lines (case_place r) other).rel ≡ r
named_line rels.Before other = refl
named_line rels.Meets other = refl
named_line rels.After other = refl
named_line rels.MetBy other = refl
named_line rels.Equal other = refl
named_line rels.Starts other = refl
named_line rels.During other = refl
named_line rels.Finishes other = refl
named_line rels.StartedBy other = refl
named_line rels.FinishedBy other = refl
named_line rels.Overlaps other = refl
named_line rels.OverlappedBy other = refl
named_line rels.Contains other = refl

pub case_place-below : (r : Rel) → case_place r < 13
case_place-below rels.Before = omega arith
case_place-below rels.Meets = omega arith
case_place-below rels.After = omega arith
case_place-below rels.MetBy = omega arith
case_place-below rels.Equal = omega arith
case_place-below rels.Starts = omega arith
case_place-below rels.During = omega arith
case_place-below rels.Finishes = omega arith
case_place-below rels.StartedBy = omega arith
case_place-below rels.FinishedBy = omega arith
case_place-below rels.Overlaps = omega arith
case_place-below rels.OverlappedBy = omega arith
case_place-below rels.Contains = omega arith

pub listed_line : (r : Rel) (other : Case) → IsLine (slice_index_or CASES.lines (case_place r) other)
unfolding IsLine
listed_line rels.Before other = (0, omega arith, refl)
listed_line rels.Meets other = (1, omega arith, refl)
listed_line rels.After other = (2, omega arith, refl)
listed_line rels.MetBy other = (3, omega arith, refl)
listed_line rels.Equal other = (4, omega arith, refl)
listed_line rels.Starts other = (5, omega arith, refl)
listed_line rels.During other = (6, omega arith, refl)
listed_line rels.Finishes other = (7, omega arith, refl)
listed_line rels.StartedBy other = (8, omega arith, refl)
listed_line rels.FinishedBy other = (9, omega arith, refl)
listed_line rels.Overlaps other = (10, omega arith, refl)
listed_line rels.OverlappedBy other = (11, omega arith, refl)
listed_line rels.Contains other = (12, omega arith, refl)

-- ---- one line, and no other

abbrev IsAtPlace : Case → Type 0
IsAtPlace line = line ≡ slice_index_or CASES.lines (case_place line.rel) line

abbrev EachAtPlace : List Case → Type 0
EachAtPlace [] = Unit {0}
EachAtPlace (line ∷ lines) = IsAtPlace line × EachAtPlace lines

-- the lines stand in the order of their relations
all_at_place : EachAtPlace CASES.lines
all_at_place = (refl, (refl, (refl, (refl, (refl, (refl, (refl, (refl, (refl, (refl, (refl, (refl, (refl, tt)))))))))))))

one_of_each : (lines : List Case) (k : ℕ) (line : Case) → k < length lines → EachAtPlace lines → IsAtPlace (slice_index_or lines k line)
one_of_each [] k line within all = absurd (omega arith)
one_of_each (first ∷ lines) zero line within all = all.0
one_of_each (first ∷ lines) (suc k) line within all = one_of_each lines k line (omega arith) all.1

is_at_place : (line : Case) → IsLine line → IsAtPlace line
unfolding IsLine
is_at_place line (k, within, is_line) = subst IsAtPlace is_line (one_of_each CASES.lines k line within all_at_place)

-- lines of one relation are one
same_line : (a b : Case) → IsLine a → IsLine b → a.rel ≡ b.rel → a ≡ b
same_line a b a_is b_is same =
    is_at_place a a_is ∙ ap (λ rel. slice_index_or CASES.lines (case_place rel) a) same
    ∙ get_or_default CASES.lines (case_place b.rel) a b (case_place-below b.rel) ∙ sym (is_at_place b b_is)

-- every two spans meet exactly one line
pub exactly_one_line : (a b : KeySpan) → IsSpan a → IsSpan b → (line : Case) × IsLine line × IsCase line.rel a b × ((other : Case) → IsLine other → IsCase other.rel a b → other ≡ line)
exactly_one_line a b a_is b_is =
    let found = exactly_one_case a b a_is b_is in
    let none : Case = record { rel = found.0; left = Nothing; right = Nothing } in
    let line = slice_index_or CASES.lines (case_place found.0) none in
    let named : line.rel ≡ found.0 = named_line found.0 none in (
      line,
      listed_line found.0 none,
      subst (λ rel. IsCase rel a b) (sym named) found.1,
      λ other listed holds. same_line other line listed (listed_line found.0 none) (found.2 other.rel holds ∙ sym named),
    )
