-- Parts stand where their tables stood, the left one first.
use Rattle.std.proofs.Common.{◌≡◌, ℕ, List, Bool, true, false, cond, refl, ap, sym, ◌∙◌, arith}
use Rattle.std.proofs.lemmas.Bool.Decides.{nat_tests}
use Rattle.std.specs.Prelude.{not, ◌&&◌, ◌||◌, ◌==◌, nat_lt}
use Rattle.pb_keys.specs.Order.{is_below, is_upto}
use Rattle.pb_keys.specs.Span.{overlap}
use Rattle.pb_keys.proofs.OrderFacts.{below_itself, below_one_way, below_chain, below_upto}
use Rattle.pb_version.specs.Version.{TableView}
use Rattle.pb_version.specs.Edited.{comes_before}
use Rattle.pb_version.specs.Rules.{are_apart, is_plain_view}
use Rattle.pb_version.proofs.Lists.{left, right}
use Rattle.pb_version.proofs.Kept.{rises, apart_bool}
use Rattle.pb_version.specs.Above.{lies_within}

-- what stands in the place of a table: of its rank, and within its bounds, which are no empty span
pub record StandsFor (t p : TableView) : Type 0 where
  pub rank : p.rank ≡ t.rank
  pub within : lies_within p.view.bounds t.view.bounds ≡ true
  pub rises : is_below p.view.bounds.lo p.view.bounds.hi ≡ true

-- ---- spans that don't overlap

not_true : (b : Bool) → not b ≡ true → b ≡ false
not_true true e = sym e
not_true false e = refl

-- of spans that don't overlap, the one that begins first ends before the other begins
ends_first : (tl th ul uh : List ℕ) → is_below tl ul ≡ true → is_below ul uh ≡ true → not (is_below tl uh && is_below ul th) ≡ true →
    is_below ul th ≡ false
ends_first tl th ul uh first up apart =
    let begun : is_below tl uh ≡ true = below_chain tl ul uh first up in
    not_true (is_below ul th) (ap (λ b. not (b && is_below ul th)) (sym begun) ∙ apart)

-- p.lo < p.hi <= t.hi <= u.lo <= q.lo
inside_first : (pl ph th ul ql : List ℕ) → is_below pl ph ≡ true → is_below th ph ≡ false → is_below ul th ≡ false →
    is_below ql ul ≡ false → is_below pl ql ≡ true
inside_first pl ph th ul ql up one two three =
    below_upto pl ul ql (below_upto pl th ul (below_upto pl ph th up one) two) three

parts_first : (t u p q : TableView) → StandsFor t p → StandsFor u q → is_below u.view.bounds.lo u.view.bounds.hi ≡ true →
    is_below t.view.bounds.lo u.view.bounds.lo ≡ true →
    not (is_below t.view.bounds.lo u.view.bounds.hi && is_below u.view.bounds.lo t.view.bounds.hi) ≡ true →
    is_below p.view.bounds.lo q.view.bounds.lo ≡ true
parts_first t u p q is_p is_q up first apart =
    let t_lo = t.view.bounds.lo in let t_hi = t.view.bounds.hi in let u_lo = u.view.bounds.lo in let u_hi = u.view.bounds.hi in
    let p_lo = p.view.bounds.lo in let p_hi = p.view.bounds.hi in let q_lo = q.view.bounds.lo in let q_hi = q.view.bounds.hi in
    inside_first p_lo p_hi t_hi u_lo q_lo is_p.rises
    (not_true (is_below t_hi p_hi) (right (is_upto t_lo p_lo) (is_upto p_hi t_hi) is_p.within))
    (ends_first t_lo t_hi u_lo u_hi first up apart)
    (not_true (is_below q_lo u_lo) (left (is_upto u_lo q_lo) (is_upto q_hi u_hi) is_q.within))

-- ---- one before the other

rank_or_start : (m n : ℕ) (x y : Bool) → (nat_lt n m || (n == m && x)) ≡ true → ((m == n) ≡ true → x ≡ true → y ≡ true) →
    (nat_lt n m || (n == m && y)) ≡ true
rank_or_start m n true true e f = e
rank_or_start m n false y e f = grind (arith, nat_tests)
rank_or_start m n true false e f =
    elim (m == n) as (λ b. (m == n) ≡ b → (nat_lt n m || (n == m && false)) ≡ true) [
      | true ↦ λ s. let bad : false ≡ true = f s refl in cc
      | false ↦ λ s. grind (arith, nat_tests)
    ] refl

-- what stands for t comes before what stands for u, where t came before u
pub part_before : (level : ℕ) (t u p q : TableView) → StandsFor t p → StandsFor u q → is_below u.view.bounds.lo u.view.bounds.hi ≡ true →
    comes_before level t u ≡ true → are_apart level t u ≡ true → comes_before level p q ≡ true
unfolding overlap
part_before level t u p q is_p is_q up =
    let starts = is_below t.view.bounds.lo u.view.bounds.lo in
    let then_starts = is_below p.view.bounds.lo q.view.bounds.lo in
    let meets = is_below t.view.bounds.lo u.view.bounds.hi && is_below u.view.bounds.lo t.view.bounds.hi in
    elim (level == 0) as (λ z.
    cond z (nat_lt u.rank t.rank || (u.rank == t.rank && starts)) starts ≡ true → ((z && not (t.rank == u.rank)) || not meets) ≡ true →
    cond z (nat_lt q.rank p.rank || (q.rank == p.rank && then_starts)) then_starts ≡ true) [
      | true ↦ λ e apart.
          (λ i. nat_lt (is_q.rank i) (is_p.rank i) || ((is_q.rank i) == (is_p.rank i) && then_starts))
          ∙ rank_or_start t.rank u.rank starts then_starts e
          (λ same first. parts_first t u p q is_p is_q up first (apart_bool t.rank u.rank meets apart same))
      | false ↦ λ e apart. parts_first t u p q is_p is_q up e apart
    ]

other_first : (m n : ℕ) (x y : Bool) → (nat_lt n m || (n == m && x)) ≡ true → (x ≡ true → y ≡ false) → (nat_lt m n || (m == n && y)) ≡ false
other_first m n true true e f = let bad : true ≡ false = f refl in cc
other_first m n true false e f = grind (arith, nat_tests)
other_first m n false y e f = grind (arith, nat_tests)

-- never both
pub before_one_way : (level : ℕ) (t u : TableView) → comes_before level t u ≡ true → comes_before level u t ≡ false
before_one_way level t u =
    let starts = is_below t.view.bounds.lo u.view.bounds.lo in
    let other = is_below u.view.bounds.lo t.view.bounds.lo in
    let turn : starts ≡ true → other ≡ false = below_one_way t.view.bounds.lo u.view.bounds.lo in
    elim (level == 0) as (λ z.
    cond z (nat_lt u.rank t.rank || (u.rank == t.rank && starts)) starts ≡ true →
    cond z (nat_lt t.rank u.rank || (t.rank == u.rank && other)) other ≡ false) [
      | true ↦ λ e. other_first t.rank u.rank starts other e turn
      | false ↦ turn
    ]

-- of one rank, the one that begins first
same_rank : (n : ℕ) (x : Bool) → x ≡ true → (nat_lt n n || (n == n && x)) ≡ true
same_rank n true e = grind (arith, nat_tests)
same_rank n false e = cc

pub starts_before : (level : ℕ) (p q : TableView) → p.rank ≡ q.rank → is_below p.view.bounds.lo q.view.bounds.lo ≡ true →
    comes_before level p q ≡ true
starts_before level p q rank first =
    let starts = is_below p.view.bounds.lo q.view.bounds.lo in
    elim (level == 0) as (λ z. cond z (nat_lt q.rank p.rank || (q.rank == p.rank && starts)) starts ≡ true) [
      | true ↦ (λ i. nat_lt q.rank (rank i) || (q.rank == rank i && starts)) ∙ same_rank q.rank starts first
      | false ↦ first
    ]

-- ---- the parts of a table

upto_itself : (a : List ℕ) → is_upto a a ≡ true
upto_itself a = ap not (below_itself a)

pub stands_itself : (t : TableView) → is_plain_view t.view ≡ true → StandsFor t t
stands_itself t e = record {
  rank = refl;
  within = λ i. upto_itself t.view.bounds.lo i && upto_itself t.view.bounds.hi i;
  rises =
      rises t e;
}
