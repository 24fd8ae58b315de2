-- What stays of a span within bounds, by their relation.
use Rattle.std.proofs.Common.{◌≡◌, [], ◌∷◌, false, ap, ◌∙◌, subst, inl, inr}
use Rattle.std.specs.Prelude.{◌⊎◌}
use Rattle.pb_keys.specs.Order.{is_below}
use Rattle.pb_keys.specs.Span.{KeySpan, IsSpan, span_of}
use Rattle.pb_keys.proofs.OrderFacts.{below_itself, below_one_way}
use Rattle.pb_rows.specs.Viewed.{part_within}
use Rattle.pb_span_cases.specs.Relation.{IsCase}
use Rattle.pb_span_cases.specs.declared.relations.Rel.{Rel}
use Rattle.pb_span_cases.specs.declared.relations.Rel.TheVariants as rels
use Rattle.pb_rows.proofs.Parts.{no_part_before, no_part_behind, whole_part, bounds_part, front_part, back_part}

at_case : (rel other : Rel) (span bounds : KeySpan) → IsCase rel span bounds → rel ≡ other → IsCase other span bounds
at_case rel other span bounds holds is = subst (λ r. IsCase r span bounds) is holds

same_end : (a b : KeySpan) → a.hi ≡ b.hi → is_below b.hi a.hi ≡ false
same_end a b e = ap (is_below b.hi) e ∙ below_itself b.hi

same_end_turned : (a b : KeySpan) → a.hi ≡ b.hi → is_below a.hi b.hi ≡ false
same_end_turned a b e = ap (λ hi. is_below hi b.hi) e ∙ below_itself b.hi

same_start : (a b : KeySpan) → a.lo ≡ b.lo → is_below a.lo b.lo ≡ false
same_start a b e = ap (λ lo. is_below lo b.lo) e ∙ below_itself b.lo

same_start_turned : (a b : KeySpan) → a.lo ≡ b.lo → is_below b.lo a.lo ≡ false
same_start_turned a b e = ap (is_below b.lo) e ∙ below_itself b.lo

pub none_stays : (rel : Rel) (span bounds : KeySpan) → IsCase rel span bounds → (rel ≡ rels.Before) ⊎ ((rel ≡ rels.Meets) ⊎ ((rel ≡ rels.After) ⊎ (rel ≡ rels.MetBy))) → part_within bounds span ≡ []
none_stays rel span bounds holds (inl is) = no_part_before bounds span (below_one_way span.hi bounds.lo (at_case rel rels.Before span bounds holds is))
none_stays rel span bounds holds (inr (inl is)) = no_part_before bounds span (ap (is_below bounds.lo) (at_case rel rels.Meets span bounds holds is) ∙ below_itself bounds.lo)
none_stays rel span bounds holds (inr (inr (inl is))) = no_part_behind bounds span (below_one_way bounds.hi span.lo (at_case rel rels.After span bounds holds is))
none_stays rel span bounds holds (inr (inr (inr is))) = no_part_behind bounds span (ap (is_below span.lo) (at_case rel rels.MetBy span bounds holds is) ∙ below_itself span.lo)

pub span_stays : (rel : Rel) (span bounds : KeySpan) → IsCase rel span bounds → IsSpan span → (rel ≡ rels.Equal) ⊎ ((rel ≡ rels.Starts) ⊎ ((rel ≡ rels.During) ⊎ (rel ≡ rels.Finishes))) → part_within bounds span ≡ span ∷ []
span_stays rel span bounds holds is_span (inl is) =
    let ends = at_case rel rels.Equal span bounds holds is in whole_part bounds span is_span (same_start span bounds ends.0) (same_end span bounds ends.1)
span_stays rel span bounds holds is_span (inr (inl is)) =
    let ends = at_case rel rels.Starts span bounds holds is in whole_part bounds span is_span (same_start span bounds ends.0) (below_one_way span.hi bounds.hi ends.1)
span_stays rel span bounds holds is_span (inr (inr (inl is))) =
    let ends = at_case rel rels.During span bounds holds is in whole_part bounds span is_span (below_one_way bounds.lo span.lo ends.0) (below_one_way span.hi bounds.hi ends.1)
span_stays rel span bounds holds is_span (inr (inr (inr is))) =
    let ends = at_case rel rels.Finishes span bounds holds is in whole_part bounds span is_span (below_one_way bounds.lo span.lo ends.0) (same_end span bounds ends.1)

pub bounds_stay : (rel : Rel) (span bounds : KeySpan) → IsCase rel span bounds → IsSpan bounds → (rel ≡ rels.StartedBy) ⊎ ((rel ≡ rels.FinishedBy) ⊎ (rel ≡ rels.Contains)) → part_within bounds span ≡ bounds ∷ []
bounds_stay rel span bounds holds is_bounds (inl is) =
    let ends = at_case rel rels.StartedBy span bounds holds is in bounds_part bounds span is_bounds (same_start_turned span bounds ends.0) (below_one_way bounds.hi span.hi ends.1)
bounds_stay rel span bounds holds is_bounds (inr (inl is)) =
    let ends = at_case rel rels.FinishedBy span bounds holds is in bounds_part bounds span is_bounds (below_one_way span.lo bounds.lo ends.0) (same_end_turned span bounds ends.1)
bounds_stay rel span bounds holds is_bounds (inr (inr is)) =
    let ends = at_case rel rels.Contains span bounds holds is in bounds_part bounds span is_bounds (below_one_way span.lo bounds.lo ends.0) (below_one_way bounds.hi span.hi ends.1)

pub front_stays : (rel : Rel) (span bounds : KeySpan) → IsCase rel span bounds → IsSpan span → rel ≡ rels.Overlaps → part_within bounds span ≡ span_of bounds.lo span.hi ∷ []
front_stays rel span bounds holds is_span is =
    let ends = at_case rel rels.Overlaps span bounds holds is in front_part bounds span is_span ends.0 ends.1 ends.2

pub back_stays : (rel : Rel) (span bounds : KeySpan) → IsCase rel span bounds → IsSpan span → rel ≡ rels.OverlappedBy → part_within bounds span ≡ span_of span.lo bounds.hi ∷ []
back_stays rel span bounds holds is_span is =
    let ends = at_case rel rels.OverlappedBy span bounds holds is in back_part bounds span is_span ends.0 ends.1 ends.2
