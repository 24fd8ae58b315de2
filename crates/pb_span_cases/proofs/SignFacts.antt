-- Which of the thirteen relations two spans have, by four comparisons of their ends.
use Rattle.std.proofs.Common.{◌≡◌, ℕ, List, refl, sym, ap, ◌∙◌}
use Rattle.std.specs.declared.cmp.Ordering.{Ordering}
use Rattle.std.specs.declared.cmp.Ordering.TheVariants.{Less, Equal, Greater}
use Rattle.std.specs.Cmp.{tied_itself}
use Rattle.std.specs.Cmp.Lexicographic.{nat_list_cmp_total}
use Rattle.std.specs.Ordering.{is_lt, ordering_reverse}
use Rattle.pb_keys.specs.Order.{bytes_cmp, is_below}
use Rattle.pb_keys.specs.KeyLaws.{bytes_cmp_exact}
use Rattle.pb_keys.specs.Span.{KeySpan, IsSpan}
use Rattle.pb_keys.proofs.OrderFacts.{below_chain, less}
use Rattle.pb_span_cases.specs.Relation.{◌≺◌, IsCase}
use Rattle.pb_span_cases.specs.Signs.{Signs, signs_of}
use Rattle.pb_span_cases.specs.declared.relations.Rel.{Rel}
use Rattle.pb_span_cases.specs.declared.relations.Rel.TheVariants as rels

-- ---- the order of ends

pub below : (x y : List ℕ) → x ≺ y → bytes_cmp x y ≡ Less
below x y h = less (bytes_cmp x y) h

pub above : (x y : List ℕ) → y ≺ x → bytes_cmp x y ≡ Greater
above x y h = nat_list_cmp_total.antisymm x y ∙ ap ordering_reverse (below y x h)

pub alike : (x y : List ℕ) → x ≡ y → bytes_cmp x y ≡ Equal
alike x y e = ap (bytes_cmp x) (sym e) ∙ tied_itself nat_list_cmp_total x

pub chain : (x y z : List ℕ) → x ≺ y → y ≺ z → x ≺ z
chain x y z h k = below_chain x y z h k

start_at : (x y z : List ℕ) → x ≡ y → y ≺ z → x ≺ z
start_at x y z e h = ap (λ (w : List ℕ). is_below w z) e ∙ h

end_at : (x y z : List ℕ) → x ≺ y → y ≡ z → x ≺ z
end_at x y z h e = ap (λ (w : List ℕ). is_below x w) (sym e) ∙ h

-- ---- the four comparisons

abbrev pub signs : KeySpan → KeySpan → Signs
signs a b = record {
  front = bytes_cmp a.hi b.lo;
  back = bytes_cmp b.hi a.lo;
  starts = bytes_cmp a.lo b.lo;
  ends = bytes_cmp a.hi b.hi;
}

same_signs : (a b : KeySpan) (s : Signs) → bytes_cmp a.hi b.lo ≡ s.front → bytes_cmp b.hi a.lo ≡ s.back
    → bytes_cmp a.lo b.lo ≡ s.starts → bytes_cmp a.hi b.hi ≡ s.ends → signs a b ≡ s
same_signs a b s front back starts ends = λ i. record { front = front i; back = back i; starts = starts i; ends = ends i }

-- where a relation holds, the comparisons are its own
pub signs-case : (r : Rel) (a b : KeySpan) → a.lo ≺ a.hi → b.lo ≺ b.hi → IsCase r a b → signs a b ≡ signs_of r
signs-case rels.Before a b a_rises b_rises is = same_signs a b (signs_of rels.Before)
    (below a.hi b.lo is)
    (above b.hi a.lo (chain a.lo a.hi b.hi a_rises (chain a.hi b.lo b.hi is b_rises)))
    (below a.lo b.lo (chain a.lo a.hi b.lo a_rises is))
    (below a.hi b.hi (chain a.hi b.lo b.hi is b_rises))
signs-case rels.Meets a b a_rises b_rises is = same_signs a b (signs_of rels.Meets)
    (alike a.hi b.lo is)
    (above b.hi a.lo (chain a.lo a.hi b.hi a_rises (start_at a.hi b.lo b.hi is b_rises)))
    (below a.lo b.lo (end_at a.lo a.hi b.lo a_rises is))
    (below a.hi b.hi (start_at a.hi b.lo b.hi is b_rises))
signs-case rels.After a b a_rises b_rises is = same_signs a b (signs_of rels.After)
    (above a.hi b.lo (chain b.lo b.hi a.hi b_rises (chain b.hi a.lo a.hi is a_rises)))
    (below b.hi a.lo is)
    (above a.lo b.lo (chain b.lo b.hi a.lo b_rises is))
    (above a.hi b.hi (chain b.hi a.lo a.hi is a_rises))
signs-case rels.MetBy a b a_rises b_rises is = same_signs a b (signs_of rels.MetBy)
    (above a.hi b.lo (chain b.lo b.hi a.hi b_rises (start_at b.hi a.lo a.hi is a_rises)))
    (alike b.hi a.lo is)
    (above a.lo b.lo (end_at b.lo b.hi a.lo b_rises is))
    (above a.hi b.hi (start_at b.hi a.lo a.hi is a_rises))
signs-case rels.Equal a b a_rises b_rises is = same_signs a b (signs_of rels.Equal)
    (above a.hi b.lo (end_at b.lo b.hi a.hi b_rises (sym is.1)))
    (above b.hi a.lo (end_at a.lo a.hi b.hi a_rises is.1))
    (alike a.lo b.lo is.0)
    (alike a.hi b.hi is.1)
signs-case rels.Starts a b a_rises b_rises is = same_signs a b (signs_of rels.Starts)
    (above a.hi b.lo (start_at b.lo a.lo a.hi (sym is.0) a_rises))
    (above b.hi a.lo (chain a.lo a.hi b.hi a_rises is.1))
    (alike a.lo b.lo is.0)
    (below a.hi b.hi is.1)
signs-case rels.During a b a_rises b_rises is = same_signs a b (signs_of rels.During)
    (above a.hi b.lo (chain b.lo a.lo a.hi is.0 a_rises))
    (above b.hi a.lo (chain a.lo a.hi b.hi a_rises is.1))
    (above a.lo b.lo is.0)
    (below a.hi b.hi is.1)
signs-case rels.Finishes a b a_rises b_rises is = same_signs a b (signs_of rels.Finishes)
    (above a.hi b.lo (end_at b.lo b.hi a.hi b_rises (sym is.1)))
    (above b.hi a.lo (end_at a.lo a.hi b.hi a_rises is.1))
    (above a.lo b.lo is.0)
    (alike a.hi b.hi is.1)
signs-case rels.StartedBy a b a_rises b_rises is = same_signs a b (signs_of rels.StartedBy)
    (above a.hi b.lo (chain b.lo b.hi a.hi b_rises is.1))
    (above b.hi a.lo (start_at a.lo b.lo b.hi is.0 b_rises))
    (alike a.lo b.lo is.0)
    (above a.hi b.hi is.1)
signs-case rels.FinishedBy a b a_rises b_rises is = same_signs a b (signs_of rels.FinishedBy)
    (above a.hi b.lo (end_at b.lo b.hi a.hi b_rises (sym is.1)))
    (above b.hi a.lo (end_at a.lo a.hi b.hi a_rises is.1))
    (below a.lo b.lo is.0)
    (alike a.hi b.hi is.1)
signs-case rels.Overlaps a b a_rises b_rises is = same_signs a b (signs_of rels.Overlaps)
    (above a.hi b.lo is.1)
    (above b.hi a.lo (chain a.lo a.hi b.hi a_rises is.2))
    (below a.lo b.lo is.0)
    (below a.hi b.hi is.2)
signs-case rels.OverlappedBy a b a_rises b_rises is = same_signs a b (signs_of rels.OverlappedBy)
    (above a.hi b.lo (chain b.lo b.hi a.hi b_rises is.2))
    (above b.hi a.lo is.1)
    (above a.lo b.lo is.0)
    (above a.hi b.hi is.2)
signs-case rels.Contains a b a_rises b_rises is = same_signs a b (signs_of rels.Contains)
    (above a.hi b.lo (chain b.lo b.hi a.hi b_rises is.1))
    (above b.hi a.lo (chain a.lo b.lo b.hi is.0 b_rises))
    (below a.lo b.lo is.0)
    (above a.hi b.hi is.1)

-- ---- one relation, and no other

abbrev pub shared_rel : Ordering → Ordering → Rel
shared_rel Less Less = rels.Overlaps
shared_rel Less Equal = rels.FinishedBy
shared_rel Less Greater = rels.Contains
shared_rel Equal Less = rels.Starts
shared_rel Equal Equal = rels.Equal
shared_rel Equal Greater = rels.StartedBy
shared_rel Greater Less = rels.During
shared_rel Greater Equal = rels.Finishes
shared_rel Greater Greater = rels.OverlappedBy

abbrev pub rel_of : Ordering → Ordering → Ordering → Ordering → Rel
rel_of Less back starts ends = rels.Before
rel_of Equal back starts ends = rels.Meets
rel_of Greater Less starts ends = rels.After
rel_of Greater Equal starts ends = rels.MetBy
rel_of Greater Greater starts ends = shared_rel starts ends

abbrev rel_of_signs : Signs → Rel
rel_of_signs s = rel_of s.front s.back s.starts s.ends

pub rel_of-signs_of : (r : Rel) → rel_of_signs (signs_of r) ≡ r
rel_of-signs_of rels.Before = refl
rel_of-signs_of rels.Meets = refl
rel_of-signs_of rels.After = refl
rel_of-signs_of rels.MetBy = refl
rel_of-signs_of rels.Equal = refl
rel_of-signs_of rels.Starts = refl
rel_of-signs_of rels.During = refl
rel_of-signs_of rels.Finishes = refl
rel_of-signs_of rels.StartedBy = refl
rel_of-signs_of rels.FinishedBy = refl
rel_of-signs_of rels.Overlaps = refl
rel_of-signs_of rels.OverlappedBy = refl
rel_of-signs_of rels.Contains = refl

pub is_less : (x y : List ℕ) → bytes_cmp x y ≡ Less → x ≺ y
is_less x y e = ap is_lt e

pub is_greater : (x y : List ℕ) → bytes_cmp x y ≡ Greater → y ≺ x
is_greater x y e = ap is_lt (nat_list_cmp_total.antisymm y x ∙ ap ordering_reverse e)

-- the comparisons name a relation that holds
pub case-found : (front back starts ends : Ordering) (a b : KeySpan) → bytes_cmp a.hi b.lo ≡ front → bytes_cmp b.hi a.lo ≡ back
    → bytes_cmp a.lo b.lo ≡ starts → bytes_cmp a.hi b.hi ≡ ends → IsCase (rel_of front back starts ends) a b
case-found Less back starts ends a b f k s e = is_less a.hi b.lo f
case-found Equal back starts ends a b f k s e = bytes_cmp_exact a.hi b.lo f
case-found Greater Less starts ends a b f k s e = is_less b.hi a.lo k
case-found Greater Equal starts ends a b f k s e = bytes_cmp_exact b.hi a.lo k
case-found Greater Greater Less Less a b f k s e = (is_less a.lo b.lo s, is_greater a.hi b.lo f, is_less a.hi b.hi e)
case-found Greater Greater Less Equal a b f k s e = (is_less a.lo b.lo s, bytes_cmp_exact a.hi b.hi e)
case-found Greater Greater Less Greater a b f k s e = (is_less a.lo b.lo s, is_greater a.hi b.hi e)
case-found Greater Greater Equal Less a b f k s e = (bytes_cmp_exact a.lo b.lo s, is_less a.hi b.hi e)
case-found Greater Greater Equal Equal a b f k s e = (bytes_cmp_exact a.lo b.lo s, bytes_cmp_exact a.hi b.hi e)
case-found Greater Greater Equal Greater a b f k s e = (bytes_cmp_exact a.lo b.lo s, is_greater a.hi b.hi e)
case-found Greater Greater Greater Less a b f k s e = (is_greater a.lo b.lo s, is_less a.hi b.hi e)
case-found Greater Greater Greater Equal a b f k s e = (is_greater a.lo b.lo s, bytes_cmp_exact a.hi b.hi e)
case-found Greater Greater Greater Greater a b f k s e = (is_greater a.lo b.lo s, is_greater b.hi a.lo k, is_greater a.hi b.hi e)

-- two relations that both hold are one
pub one_case : (r s : Rel) (a b : KeySpan) → a.lo ≺ a.hi → b.lo ≺ b.hi → IsCase r a b → IsCase s a b → r ≡ s
one_case r s a b a_rises b_rises is_r is_s =
    sym (rel_of-signs_of r)
    ∙ ap rel_of_signs (sym (signs-case r a b a_rises b_rises is_r) ∙ signs-case s a b a_rises b_rises is_s)
    ∙ rel_of-signs_of s

-- every two spans meet exactly one line
pub exactly_one_case : (a b : KeySpan) → IsSpan a → IsSpan b → (r : Rel) × IsCase r a b × ((other : Rel) → IsCase other a b → other ≡ r)
exactly_one_case a b a_is b_is =
    let found = case-found (bytes_cmp a.hi b.lo) (bytes_cmp b.hi a.lo) (bytes_cmp a.lo b.lo) (bytes_cmp a.hi b.hi) a b refl refl refl refl in
    (rel_of_signs (signs a b), found, λ other is. one_case other (rel_of_signs (signs a b)) a b a_is.rises b_is.rises is found)

pub only_case : (r : Rel) (a b : KeySpan) → IsSpan a → IsSpan b → IsCase r a b → (other : Rel) → IsCase other a b → other ≡ r
only_case r a b a_is b_is holds other is = one_case other r a b a_is.rises b_is.rises is holds

-- spans that share a prefix
pub shared_is : (r : Rel) (a b : KeySpan) (starts ends : Ordering) → bytes_cmp a.hi b.lo ≡ Greater → bytes_cmp b.hi a.lo ≡ Greater
    → bytes_cmp a.lo b.lo ≡ starts → bytes_cmp a.hi b.hi ≡ ends
    → signs_of r ≡ record { front = Greater; back = Greater; starts = starts; ends = ends } → IsCase r a b
shared_is r a b starts ends front back start_is end_is is =
    let named : r ≡ rel_of Greater Greater starts ends = sym (rel_of-signs_of r) ∙ ap rel_of_signs is in
    rw named (case-found Greater Greater starts ends a b front back start_is end_is)

-- what a comparison answered, of the ends that it was given
pub compared : (answer : Ordering) (x y a b : List ℕ) → answer ≡ bytes_cmp x y → x ≡ a → y ≡ b → bytes_cmp a b ≡ answer
compared answer x y a b is x_is y_is = sym (is ∙ (λ i. bytes_cmp (x_is i) (y_is i)))
