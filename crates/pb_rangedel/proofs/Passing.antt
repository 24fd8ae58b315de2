-- Spans that are passed, as the prefixes ascend.
use Rattle.std.proofs.Common.{◌≡◌, ℕ, ◌+◌, ◌<◌, Bor, List, [], ◌∷◌, length, get_or, drop, refl, true, false, ap, ◌∙◌, subst, sym, arith, inl, inr}
use Rattle.std.specs.Prelude.{All, not, Option, Some, None, IfSome, option_copied}
use Rattle.std.specs.List.{slice_get}
use Rattle.std.proofs.lemmas.Option.{slice_get-get_or, get_or_from_slice_get, slice_get_within, slice_get_past, slice_get_read}
use Rattle.std.specs.Slice.{IsItemAt}
use Rattle.std.specs.List.Sorted.{IsPartitionPoint}
use Rattle.std.proofs.lemmas.Bool.{cases_lt, not-true}
use Rattle.std.proofs.lemmas.List.{get_or_default}
use Rattle.pb_keys.specs.Key.{prefix_of}
use Rattle.pb_keys.specs.Order.{is_below, is_upto}
use Rattle.pb_keys.specs.Span.{KeySpan, IsSpan}
use Rattle.pb_keys.proofs.KeyFacts.{prefixes_ascend}
use Rattle.pb_keys.proofs.OrderFacts.{upto_chain}
use Rattle.pb_rangedel.specs.Spans.{EndUpto}
use Rattle.pb_rows.specs.Layer.{KeyRow, AreApart, Rise}
use Rattle.pb_rows.proofs.LookLaws.{is_span_below, spans_are_parted}
use Rattle.std.proofs.lemmas.Bool.{false_from_ne_true}

pub end_more : (bytes : List ℕ) (spans : List KeySpan) (n : ℕ) (s : KeySpan) → EndUpto bytes spans n → n < length spans → s ≡ get_or spans n s → is_upto s.hi bytes ≡ true → EndUpto bytes spans (n + 1)
end_more bytes spans n s before within s_is here k d h =
    elim (cases_lt k n) [
      | inl earlier ↦ before k d earlier
      | inr past ↦
          let place : n ≡ k = omega arith in
          let value : s ≡ get_or spans k d = subst (λ m. s ≡ get_or spans m d) place (s_is ∙ get_or_default spans n s d within) in
          subst (λ t. is_upto t.hi bytes ≡ true) value here
    ]

-- the place behind the passed spans parts the list
pub passed_part : (bytes : List ℕ) (spans : List KeySpan) (at : ℕ) → All IsSpan spans → AreApart spans → EndUpto bytes spans at → (at < length spans → (d : KeySpan) → is_upto (get_or spans at d).hi bytes ≡ false) → IsPartitionPoint (λ s. is_span_below bytes s ≡ true) (λ s. is_span_below bytes s ≡ false) spans at
passed_part bytes spans at are apart before stops = (
  λ k d within h. before k d h,
  λ k d h within. false_from_ne_true (is_upto (get_or spans k d).hi bytes) (λ e.
      let first : is_upto (get_or spans at d).hi bytes ≡ true = spans_are_parted spans bytes are apart at k d h within e in
      let other : is_upto (get_or spans at d).hi bytes ≡ false = stops (omega arith) d in
      cc),
)

-- spans that end before one row's prefix end before the next one's
pub passed_more : (dels : List KeySpan) (rows : List KeyRow) (at n : ℕ) → Rise rows → ((d : KeyRow) → at < length rows → EndUpto (prefix_of (get_or rows at d).key) dels n) → (d : KeyRow) → at + 1 < length rows → EndUpto (prefix_of (get_or rows (at + 1) d).key) dels n
passed_more dels rows at n rise before d within k e h =
    let up : is_below (prefix_of (get_or rows (at + 1) d).key) (prefix_of (get_or rows at d).key) ≡ false = prefixes_ascend (get_or rows at d).key (get_or rows (at + 1) d).key (rise at d within) in
    ap not (upto_chain (get_or dels k e).hi (prefix_of (get_or rows at d).key) (prefix_of (get_or rows (at + 1) d).key) (not-true _ (before d (omega arith) k e h)) up)

-- what is known of the row that comes next
pub passed_from : (dels : List KeySpan) (rows : List KeyRow) (at n : ℕ) (row : Option (Bor KeyRow)) → option_copied row ≡ slice_get rows at → IfSome row (λ r. EndUpto (prefix_of r.now.key) dels n) → (d : KeyRow) → at < length rows → EndUpto (prefix_of (get_or rows at d).key) dels n
passed_from dels rows at n None is known d within = cc (slice_get-get_or rows at d within)
passed_from dels rows at n (Some row) is known d within = subst (λ (r : KeyRow). EndUpto (prefix_of r.key) dels n) (sym (get_or_from_slice_get rows at row.now d (sym is))) known

pub passed_to : (dels : List KeySpan) (rows : List KeyRow) (at n : ℕ) (row : Option (Bor KeyRow)) → option_copied row ≡ slice_get rows at → ((d : KeyRow) → at < length rows → EndUpto (prefix_of (get_or rows at d).key) dels n) → IfSome row (λ r. EndUpto (prefix_of r.now.key) dels n)
passed_to dels rows at n None is known = tt
passed_to dels rows at n (Some row) is known = subst (λ (r : KeyRow). EndUpto (prefix_of r.key) dels n) (get_or_from_slice_get rows at row.now row.now (sym is)) (known row.now (slice_get_within rows at row.now (sym is)))

-- what is lent of a list
pub item_is : (rows : List KeyRow) (at : ℕ) (row : Option (Bor KeyRow)) → IsItemAt rows at row → option_copied row ≡ slice_get rows at
item_is rows at None is = sym (slice_get_past rows at is.3)
item_is rows at (Some row) is = sym (slice_get_read rows (length rows) at row.now refl is.3.0 is.1)

-- what is known of the first row, of the one behind it
pub passed_rest : (dels : List KeySpan) (rows rest : List KeyRow) (n : ℕ) → Rise rows → rest ≡ drop 1 rows → ((d : KeyRow) → 0 < length rows → EndUpto (prefix_of (get_or rows 0 d).key) dels n) → (d : KeyRow) → 0 < length rest → EndUpto (prefix_of (get_or rest 0 d).key) dels n
passed_rest dels [] rest n rise is known = λ d within. absurd (omega (arith, ap length is))
passed_rest dels (r ∷ rs) rest n rise is known =
    subst (λ (xs : List KeyRow). (d : KeyRow) → 0 < length xs → EndUpto (prefix_of (get_or xs 0 d).key) dels n) (sym is)
    (λ d within. passed_more dels (r ∷ rs) 0 n rise known d (omega arith))
