-- Hulls: of two lists, and of a list whose ends ascend.
use Rattle.std.proofs.Common.{◌≡◌, ℕ, suc, ◌-◌, ◌<◌, List, [], ◌∷◌, ◌++◌, length, get_or, true, false, refl, sym, ap, ◌∙◌, subst, arith, inl, inr}
use Rattle.std.specs.Prelude.{Option, Some, None, map, All, ◌↔◌, ◌&&◌, ◌||◌}
use Rattle.std.proofs.lemmas.Bool.{cases_lt}
use Rattle.std.proofs.lemmas.List.{get_or_default}
use Rattle.pb_keys.specs.Order.{is_below, end_above, lesser, greater}
use Rattle.pb_keys.specs.Key.{IsKey, prefix_of}
use Rattle.pb_keys.specs.Span.{KeySpan, IsSpan, span_of, joined}
use Rattle.pb_keys.proofs.OrderFacts.{below_itself, below_one_way, below_upto, below_chain, same_bytes}
use Rattle.pb_keys.proofs.KeyFacts.{prefixes_ascend, ends_above_ascend, prefixes_are_span}
use Rattle.pb_rows.specs.Layer.{KeyRow, KeyLayer, layer_of, AreApart, Rise}
use Rattle.pb_rows.specs.Hull.{either_hull, hull_of_spans, hull_of, span_at}
use Rattle.pb_keys.proofs.Tests.{both_groups, either_groups}
use Rattle.pb_rows.proofs.LookLaws.{rows_rise, spans_follow}
use Rattle.pb_keys.proofs.EndFacts.{below-lesser, below-greater, lesser_first, greater_second}

-- what the same bytes are below is the same
same_if_alike : (a b : List ℕ) → ((p : List ℕ) → is_below p a ≡ is_below p b) → a ≡ b
same_if_alike a b alike = same_bytes a b (sym (alike a) ∙ below_itself a) (alike b ∙ below_itself b)

lesser_groups : (a b c : List ℕ) → lesser (lesser a b) c ≡ lesser a (lesser b c)
lesser_groups a b c = same_if_alike (lesser (lesser a b) c) (lesser a (lesser b c)) (λ p.
    below-lesser p (lesser a b) c ∙ ap (λ t. t && is_below p c) (below-lesser p a b) ∙ both_groups (is_below p a) (is_below p b) (is_below p c)
    ∙ ap (λ t. is_below p a && t) (sym (below-lesser p b c)) ∙ sym (below-lesser p a (lesser b c)))

greater_groups : (a b c : List ℕ) → greater (greater a b) c ≡ greater a (greater b c)
greater_groups a b c = same_if_alike (greater (greater a b) c) (greater a (greater b c)) (λ p.
    below-greater p (greater a b) c ∙ ap (λ t. t || is_below p c) (below-greater p a b) ∙ either_groups (is_below p a) (is_below p b) (is_below p c)
    ∙ ap (λ t. is_below p a || t) (sym (below-greater p b c)) ∙ sym (below-greater p a (greater b c)))

pub joined_groups : (s t u : KeySpan) → joined (joined s t) u ≡ joined s (joined t u)
joined_groups s t u = λ i. span_of (lesser_groups s.lo t.lo u.lo i) (greater_groups s.hi t.hi u.hi i)

pub either_hull_groups : (a b c : Option KeySpan) → either_hull (either_hull a b) c ≡ either_hull a (either_hull b c)
either_hull_groups None b c = refl
either_hull_groups (Some s) None c = refl
either_hull_groups (Some s) (Some t) None = refl
either_hull_groups (Some s) (Some t) (Some u) = ap Some (joined_groups s t u)

pub hull_of_spans-append : (ss ts : List KeySpan) → hull_of_spans (ss ++ ts) ≡ either_hull (hull_of_spans ss) (hull_of_spans ts)
hull_of_spans-append [] ts = refl
hull_of_spans-append (s ∷ ss) ts = ap (either_hull (Some s)) (hull_of_spans-append ss ts) ∙ sym (either_hull_groups (Some s) (hull_of_spans ss) (hull_of_spans ts))

-- both ends of the second are at least those of the first
pub record Ascends (s t : KeySpan) : Type 0 where
  pub lo : is_below t.lo s.lo ≡ false
  pub hi : is_below t.hi s.hi ≡ false

-- spans made of a list whose ends ascend: from the start of the first to the end of the last
pub hull_at_ends : {X : Type 0} (f : X → KeySpan) (x : X) (xs : List X) → ((i j : ℕ) (d : X) → i < j → j < length (x ∷ xs) → Ascends (f (get_or (x ∷ xs) i d)) (f (get_or (x ∷ xs) j d))) → (d : X) → hull_of_spans (map f (x ∷ xs)) ≡ Some (span_of (f x).lo (f (get_or (x ∷ xs) (length xs) d)).hi)
hull_at_ends f x [] up d = refl
hull_at_ends f x (y ∷ ys) up d =
    let last = f (get_or (y ∷ ys) (length ys) d) in
    ap (either_hull (Some (f x))) (hull_at_ends f y ys (λ i j e h k. up (suc i) (suc j) e (omega arith) (omega arith)) d)
    ∙ (λ i. Some (span_of (lesser_first (f x).lo (f y).lo ((up 0 1 d (omega arith) (omega arith)).lo) i) (greater_second (f x).hi last.hi ((up 0 (suc (length ys)) d (omega arith) (omega arith)).hi) i)))

-- ---- the deletions of a layer

same_spans : (spans : List KeySpan) → map (λ s. s) spans ≡ spans
same_spans [] = refl
same_spans (s ∷ ss) = ap (λ r. s ∷ r) (same_spans ss)

spans_ascend : (spans : List KeySpan) → All IsSpan spans → AreApart spans → (i j : ℕ) (d : KeySpan) → i < j → j < length spans → Ascends (get_or spans i d) (get_or spans j d)
spans_ascend spans are apart i j d h k =
    let s = get_or spans i d in let t = get_or spans j d in
    let f = spans_follow spans are apart i j d h k in
    let rises : is_below s.lo s.hi ≡ true = (are i d (omega arith)).rises in
    let starts : is_below s.lo t.lo ≡ true = below_chain s.lo s.hi t.lo rises f.apart in
    let ends : is_below s.hi t.hi ≡ true = below_chain s.hi t.lo t.hi f.apart f.rises in
    record { lo = below_one_way s.lo t.lo starts; hi = below_one_way s.hi t.hi ends }

-- from the start of the first to the end of the last
pub hull_of_dels_is : (spans : List KeySpan) (first last : KeySpan) → All IsSpan spans → AreApart spans → 0 < length spans → first ≡ get_or spans 0 first → last ≡ get_or spans (length spans - 1) last → hull_of_spans spans ≡ Some (span_of first.lo last.hi)
hull_of_dels_is [] first last are apart some first_is last_is = absurd (omega arith)
hull_of_dels_is (s ∷ ss) first last are apart some first_is last_is =
    let place : suc (length ss) - 1 ≡ length ss = omega arith in
    ap hull_of_spans (sym (same_spans (s ∷ ss))) ∙ hull_at_ends (λ x. x) s ss (spans_ascend (s ∷ ss) are apart) last
    ∙ (λ i. Some (span_of (sym first_is i).lo (sym (subst (λ n. last ≡ get_or (s ∷ ss) n last) place last_is) i).hi))

pub dels_are_span : (spans : List KeySpan) (first last : KeySpan) → All IsSpan spans → AreApart spans → 0 < length spans → first ≡ get_or spans 0 first → last ≡ get_or spans (length spans - 1) last → IsSpan (span_of first.lo last.hi)
dels_are_span spans first last are apart some first_is last_is =
    let is_first : IsSpan first = subst IsSpan (sym first_is) (are 0 first some) in
    let is_last : IsSpan last = subst IsSpan (sym last_is) (are (length spans - 1) last (omega arith)) in
    let up : is_below last.hi first.hi ≡ false = elim (cases_lt 0 (length spans - 1)) [
      | inl more ↦
          let a = spans_ascend spans are apart 0 (length spans - 1) first more (omega arith) in
          let last_at : get_or spans (length spans - 1) first ≡ last = get_or_default spans (length spans - 1) first last (omega arith) ∙ sym last_is in
          (λ i. is_below (sym last_at i).hi (first_is i).hi) ∙ a.hi
      | inr one ↦
          let place : length spans - 1 ≡ 0 = omega arith in
          let same : last ≡ first = last_is ∙ ap (λ n. get_or spans n last) place ∙ get_or_default spans 0 last first some ∙ sym first_is in
          ap (λ s. is_below s.hi first.hi) same ∙ below_itself first.hi
    ] in
    record { lo = is_first.lo; hi = is_last.hi; rises = below_upto first.lo first.hi last.hi is_first.rises up }

-- ---- the rows of a layer

rows_ascend : (rows : List KeyRow) → Rise rows → (i j : ℕ) (d : KeyRow) → i < j → j < length rows → Ascends (span_at (get_or rows i d)) (span_at (get_or rows j d))
rows_ascend rows rise i j d h k =
    let r = get_or rows i d in let s = get_or rows j d in
    let up : is_below (prefix_of s.key) (prefix_of r.key) ≡ false = prefixes_ascend r.key s.key (rows_rise rows rise i j d h k) in
    record { lo = up; hi = ends_above_ascend (prefix_of r.key) (prefix_of s.key) up }

pub hull_of_rows_is : (rows : List KeyRow) (first last : KeyRow) → Rise rows → 0 < length rows → first ≡ get_or rows 0 first → last ≡ get_or rows (length rows - 1) last → hull_of_spans (map span_at rows) ≡ Some (span_of (prefix_of first.key) (end_above (prefix_of last.key)))
hull_of_rows_is [] first last rise some first_is last_is = absurd (omega arith)
hull_of_rows_is (r ∷ rs) first last rise some first_is last_is =
    let place : suc (length rs) - 1 ≡ length rs = omega arith in
    hull_at_ends span_at r rs (rows_ascend (r ∷ rs) rise) last
    ∙ (λ i. Some (span_of (prefix_of (sym first_is i).key) (end_above (prefix_of (sym (subst (λ n. last ≡ get_or (r ∷ rs) n last) place last_is) i).key))))

pub rows_are_span : (rows : List KeyRow) (first last : KeyRow) → All (λ row. IsKey row.key) rows → Rise rows → 0 < length rows → first ≡ get_or rows 0 first → last ≡ get_or rows (length rows - 1) last → IsSpan (span_of (prefix_of first.key) (end_above (prefix_of last.key)))
rows_are_span rows first last are rise some first_is last_is =
    let is_first : IsKey first.key = subst (λ r. IsKey r.key) (sym first_is) (are 0 first some) in
    let is_last : IsKey last.key = subst (λ r. IsKey r.key) (sym last_is) (are (length rows - 1) last (omega arith)) in
    let up : is_below (prefix_of last.key) (prefix_of first.key) ≡ false = elim (cases_lt 0 (length rows - 1)) [
      | inl more ↦
          let a = rows_ascend rows rise 0 (length rows - 1) first more (omega arith) in
          let last_at : get_or rows (length rows - 1) first ≡ last = get_or_default rows (length rows - 1) first last (omega arith) ∙ sym last_is in
          (λ i. is_below (prefix_of (sym last_at i).key) (prefix_of (first_is i).key)) ∙ a.lo
      | inr one ↦
          let place : length rows - 1 ≡ 0 = omega arith in
          let same : last ≡ first = last_is ∙ ap (λ n. get_or rows n last) place ∙ get_or_default rows 0 last first some ∙ sym first_is in
          ap (λ r. is_below (prefix_of r.key) (prefix_of first.key)) same ∙ below_itself (prefix_of first.key)
    ] in
    prefixes_are_span first.key last.key is_first is_last up

-- ---- none at all

some_hull : (s : KeySpan) (b : Option KeySpan) → either_hull (Some s) b ≡ None → ⊥
some_hull s None e = cc
some_hull s (Some t) e = cc

pub no_spans : (spans : List KeySpan) → hull_of_spans spans ≡ None → spans ≡ []
no_spans [] e = refl
no_spans (s ∷ ss) e = absurd (some_hull s (hull_of_spans ss) e)

-- the empty layer alone has no hull
pub no_hull : (layer : KeyLayer) → (hull_of layer ≡ None) ↔ (layer ≡ layer_of [] [])
unfolding hull_of
no_hull layer = (λ e. both_empty layer.dels layer.rows (no_spans (layer.dels ++ map span_at layer.rows) e), λ e. ap (λ l. hull_of_spans (l.dels ++ map span_at l.rows)) e)
  where
    both_empty : (dels : List KeySpan) (rows : List KeyRow) → dels ++ map span_at rows ≡ [] → layer_of dels rows ≡ layer_of [] []
    both_empty [] [] e = refl
    both_empty [] (r ∷ rs) e = cc
    both_empty (s ∷ ss) rows e = cc
