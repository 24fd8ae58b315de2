-- Which keys the bounds of outputs hold, and in which order they stand.
use Rattle.std.proofs.Common.{◌≡◌, ℕ, zero, suc, ◌<◌, List, [], ◌∷◌, ◌++◌, length, get_or, map, Bool, true, false, cond, refl, sym, ap, ◌∙◌, subst, arith}
use Rattle.std.specs.Prelude.{All, Some, None, not, ◌&&◌}
use Rattle.std.specs.Option.{option_or}
use Rattle.std.proofs.lemmas.List.Elements.{All-cons, All-nil, All-weaker}
use Rattle.pb_keys.specs.Key.{prefix_of}
use Rattle.pb_keys.specs.Order.{is_below}
use Rattle.pb_keys.specs.Span.{KeySpan, span_of, holds_key}
use Rattle.pb_keys.proofs.OrderFacts.{below_chain, below_itself, below_one_way, below_upto, upto_chain}
use Rattle.pb_keys.proofs.SpanFacts.{holds_key-ends}
use Rattle.pb_rows.specs.Layer.{KeyLayer}
use Rattle.pb_rows.specs.Verdict.{Verdict, verdict, verdicts}
use Rattle.pb_rows.specs.Viewed.{plain_view, viewed}
use Rattle.pb_rows.proofs.ViewLaws.{verdict-plain_view}
use Rattle.pb_compact.specs.Outputs.{spans_to}
use Rattle.pb_compact.proofs.Bounds.{AreSpans}

abbrev pub last_end : List ℕ → List (List ℕ) → List ℕ
last_end lo [] = lo
last_end lo (hi ∷ ends) = last_end hi ends

pub last_end-append : (lo top : List ℕ) (ends : List (List ℕ)) → last_end lo (ends ++ top ∷ []) ≡ top
last_end-append lo top [] = refl
last_end-append lo top (hi ∷ ends) = last_end-append hi top ends

pub upto_last : (lo : List ℕ) (ends : List (List ℕ)) → AreSpans lo ends → is_below (last_end lo ends) lo ≡ false
upto_last lo [] are = below_itself lo
upto_last lo (hi ∷ ends) are = upto_chain lo hi (last_end hi ends) (below_one_way lo hi (are.0).rises) (upto_last hi ends are.1)

-- ---- each key between the first start and the last end is held by one of them

-- a value before a middle, or from there to a last, where the middle lies between
pub record Split (first second whole : Bool) : Type 0 where
  pub apart : first ≡ true → second ≡ false
  pub first_within : first ≡ true → whole ≡ true
  pub second_within : second ≡ true → whole ≡ true
  pub neither : first ≡ false → second ≡ false → whole ≡ false

pub choose_split : (first second whole : Bool) (v : Verdict) → Split first second whole
    → option_or (cond first v None) (cond second v None) ≡ cond whole v None
choose_split true second whole v split =
    ap (λ b. option_or v (cond b v None)) (split.apart refl) ∙ or_none v ∙ ap (λ b. cond b v None) (sym (split.first_within refl))
  where
    or_none : (w : Verdict) → option_or w None ≡ w
    or_none None = refl
    or_none (Some x) = refl
choose_split false true whole v split = ap (λ b. cond b v None) (sym (split.second_within refl))
choose_split false false whole v split = ap (λ b. cond b v None) (sym (split.neither refl refl))

between : (p lo hi last : List ℕ) → is_below lo hi ≡ true → is_below last hi ≡ false
    → Split (not (is_below p lo) && is_below p hi) (not (is_below p hi) && is_below p last) (not (is_below p lo) && is_below p last)
between p lo hi last rises upto =
    elim (is_below p lo) as (λ a. is_below p lo ≡ a → Split (not a && is_below p hi) (not (is_below p hi) && is_below p last)
    (not a && is_below p last)) [
      | true ↦ λ low.
          let under : is_below p hi ≡ true = below_chain p lo hi low rises in
          record {
            apart = λ h. ap (λ b. not b && is_below p last) under;
            first_within = λ h. h;
            second_within = λ h. sym (ap (λ b. not b && is_below p last) under) ∙ h;
            neither = λ h k. refl;
          }
      | false ↦ λ low.
          elim (is_below p hi) as (λ b. is_below p hi ≡ b → Split b (not b && is_below p last) (is_below p last)) [
            | true ↦ λ under. record {
              apart = λ h. refl;
              first_within = λ h. below_upto p hi last under upto;
              second_within = λ h. below_upto p hi last under upto;
              neither = λ h k. cc;
            }
            | false ↦ λ over. record { apart = λ h. cc; first_within = λ h. cc; second_within = λ h. h; neither = λ h k. k }
          ] refl
    ] refl

pub split_at : (lo hi last key : List ℕ) → is_below lo hi ≡ true → is_below last hi ≡ false
    → Split (holds_key (span_of lo hi) key) (holds_key (span_of hi last) key) (holds_key (span_of lo last) key)
split_at lo hi last key rises upto =
    let ends = λ (a b : List ℕ). not (is_below (prefix_of key) a) && is_below (prefix_of key) b in
    subst (λ b. Split b (holds_key (span_of hi last) key) (holds_key (span_of lo last) key)) (sym (holds_key-ends (span_of lo hi) key))
    (subst (λ b. Split (ends lo hi) b (holds_key (span_of lo last) key)) (sym (holds_key-ends (span_of hi last) key))
    (subst (λ b. Split (ends lo hi) (ends hi last) b) (sym (holds_key-ends (span_of lo last) key))
    (between (prefix_of key) lo hi last rises upto)))

none_held : (lo key : List ℕ) → holds_key (span_of lo lo) key ≡ false
none_held lo key =
    holds_key-ends (span_of lo lo) key
    ∙ elim (is_below (prefix_of key) lo) as (λ b. (not b && b) ≡ false) [
      | true ↦ refl
      | false ↦ refl
    ]

pub spans_say : (layer : KeyLayer) (key lo : List ℕ) (ends : List (List ℕ)) → AreSpans lo ends
    → verdicts (map (λ bounds. viewed (plain_view bounds) layer) (spans_to lo ends)) key
    ≡ cond (holds_key (span_of lo (last_end lo ends)) key) (verdict layer key) None
spans_say layer key lo [] are = ap (λ b. cond b (verdict layer key) None) (sym (none_held lo key))
spans_say layer key lo (hi ∷ ends) are =
    let last = last_end hi ends in
    (λ i. option_or (verdict-plain_view (span_of lo hi) layer key i) (spans_say layer key hi ends are.1 i))
    ∙ choose_split (holds_key (span_of lo hi) key) (holds_key (span_of hi last) key) (holds_key (span_of lo last) key) (verdict layer key)
    (split_at lo hi last key (are.0).rises (upto_last hi ends are.1))

-- ---- in order

-- each begins at this start or behind it
begin_from : (lo : List ℕ) (ends : List (List ℕ)) → AreSpans lo ends → All (λ s. is_below s.lo lo ≡ false) (spans_to lo ends)
begin_from lo [] are = All-nil (λ s. is_below s.lo lo ≡ false)
begin_from lo (hi ∷ ends) are =
    All-cons (λ s. is_below s.lo lo ≡ false) (span_of lo hi) (spans_to hi ends) (below_itself lo)
    (All-weaker (λ s. is_below s.lo hi ≡ false) (λ s. is_below s.lo lo ≡ false)
    (λ s h. upto_chain lo hi s.lo (below_one_way lo hi (are.0).rises) h) (spans_to hi ends) (begin_from hi ends are.1))

-- each later one begins where an earlier one ends, or behind it
pub spans_rise : (lo : List ℕ) (ends : List (List ℕ)) → AreSpans lo ends → (i j : ℕ) (d : KeySpan) → i < j → j < length (spans_to lo ends)
    → is_below (get_or (spans_to lo ends) j d).lo (get_or (spans_to lo ends) i d).hi ≡ false
spans_rise lo [] are i j d h k = absurd (omega arith)
spans_rise lo (hi ∷ ends) are i zero d h k = absurd (omega arith)
spans_rise lo (hi ∷ ends) are zero (suc j) d h k = begin_from hi ends are.1 j d (omega arith)
spans_rise lo (hi ∷ ends) are (suc i) (suc j) d h k = spans_rise hi ends are.1 i j d (omega arith) (omega arith)

pub all_spans : (P : KeySpan → Type 0) (lo : List ℕ) (ends : List (List ℕ)) → AreSpans lo ends
    → ((s : KeySpan) → is_below s.lo lo ≡ false → is_below (last_end lo ends) s.hi ≡ false → is_below s.lo s.hi ≡ true → P s)
    → All P (spans_to lo ends)
all_spans P lo [] are f = All-nil P
all_spans P lo (hi ∷ ends) are f =
    All-cons P (span_of lo hi) (spans_to hi ends) (f (span_of lo hi) (below_itself lo) (upto_last hi ends are.1) (are.0).rises)
    (all_spans P hi ends are.1 (λ s from upto rises. f s (upto_chain lo hi s.lo (below_one_way lo hi (are.0).rises) from) upto rises))
