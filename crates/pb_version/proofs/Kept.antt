-- What an edit that breaks no rule leaves in order, in form and below the reserved numbers.
use Rattle.std.proofs.Common.{◌≡◌, ℕ, List, [], ◌∷◌, Bool, true, false, cond, refl, ap, sym, ◌∙◌, arith}
use Rattle.std.proofs.lemmas.Bool.Decides.{nat_tests}
use Rattle.std.specs.Prelude.{not, ◌==◌, ◌&&◌, ◌||◌, nat_lt}
use Rattle.std.specs.List.{list_all, AllByRecursion}
use Rattle.std.proofs.lemmas.Bool.{eqb-true}
use Rattle.pb_keys.specs.Order.{is_below}
use Rattle.pb_keys.specs.Span.{overlap, is_span, is_end}
use Rattle.pb_keys.proofs.OrderFacts.{below_one_way, below_chain, upto_below}
use Rattle.pb_version.specs.Version.{TableView}
use Rattle.pb_version.specs.Edited.{comes_before}
use Rattle.pb_version.specs.Rules.{each_pair, are_apart, is_plain_view, has_no_parts}
use Rattle.pb_keys.specs.View.{is_mapping, is_view}
use Rattle.pb_version.proofs.Lists.{left, right}
use Rattle.pb_version.proofs.Commute.{Differ, AllDiffer, IsTransitive}

-- ---- tables in order

chain_bool : (a b c : ℕ) (x y z : Bool) → (x ≡ true → y ≡ true → z ≡ true) →
    (nat_lt b a || (b == a && x)) ≡ true → (nat_lt c b || (c == b && y)) ≡ true → (nat_lt c a || (c == a && z)) ≡ true
chain_bool a b c true true z f p q = let e : z ≡ true = f refl refl in grind (arith, nat_tests)
chain_bool a b c true false z f p q = grind (arith, nat_tests)
chain_bool a b c false true z f p q = grind (arith, nat_tests)
chain_bool a b c false false z f p q = grind (arith, nat_tests)

start_chain : (a b c : TableView) → is_below a.view.bounds.lo b.view.bounds.lo ≡ true → is_below b.view.bounds.lo c.view.bounds.lo ≡ true → is_below a.view.bounds.lo c.view.bounds.lo ≡ true
start_chain a b c h k = below_chain a.view.bounds.lo b.view.bounds.lo c.view.bounds.lo h k

pub tables_chain : (level : ℕ) → IsTransitive (comes_before level)
tables_chain level a b c =
    elim (level == 0) as (λ z.
    cond z (nat_lt b.rank a.rank || (b.rank == a.rank && is_below a.view.bounds.lo b.view.bounds.lo)) (is_below a.view.bounds.lo b.view.bounds.lo) ≡ true →
    cond z (nat_lt c.rank b.rank || (c.rank == b.rank && is_below b.view.bounds.lo c.view.bounds.lo)) (is_below b.view.bounds.lo c.view.bounds.lo) ≡ true →
    cond z (nat_lt c.rank a.rank || (c.rank == a.rank && is_below a.view.bounds.lo c.view.bounds.lo)) (is_below a.view.bounds.lo c.view.bounds.lo) ≡ true) [
      | true ↦ λ p q. chain_bool a.rank b.rank c.rank
          (is_below a.view.bounds.lo b.view.bounds.lo) (is_below b.view.bounds.lo c.view.bounds.lo) (is_below a.view.bounds.lo c.view.bounds.lo)
          (start_chain a b c) p q
      | false ↦ λ p q. start_chain a b c p q
    ]

same_rank : (m n : ℕ) (x y : Bool) → m ≡ n → y ≡ not x → (nat_lt m n || (true && y)) ≡ not (nat_lt n m || (n == m && x))
same_rank m n true y e s = grind (arith, nat_tests)
same_rank m n false y e s = grind (arith, nat_tests)

other_rank : (m n : ℕ) (x y : Bool) → (m == n) ≡ false → (nat_lt m n || (false && y)) ≡ not (nat_lt n m || (n == m && x))
other_rank m n true y e = grind (arith, nat_tests)
other_rank m n false y e = grind (arith, nat_tests)

differ_bool : (m n : ℕ) (x y : Bool) → ((m == n) ≡ true → y ≡ not x) → (nat_lt m n || (m == n && y)) ≡ not (nat_lt n m || (n == m && x))
differ_bool m n x y f =
    elim (m == n) as (λ b. (m == n) ≡ b → (nat_lt m n || (b && y)) ≡ not (nat_lt n m || (n == m && x))) [
      | true ↦ λ e. let s : y ≡ not x = f e in same_rank m n x y (eqb-true m n e) s
      | false ↦ λ e. other_rank m n x y e
    ] refl

pub view_span : (t : TableView) → is_plain_view t.view ≡ true → is_span t.view.bounds ≡ true
view_span t e = right (is_mapping t.view) (is_span t.view.bounds) (left (is_view t.view) (has_no_parts t.view) e)

pub rises : (t : TableView) → is_plain_view t.view ≡ true → is_below t.view.bounds.lo t.view.bounds.hi ≡ true
rises t e = right (is_end t.view.bounds.lo && is_end t.view.bounds.hi) (is_below t.view.bounds.lo t.view.bounds.hi) (view_span t e)

-- of spans that are not empty and don't overlap one starts below the other
starts_differ : (tl th ul uh : List ℕ) → is_below tl th ≡ true → is_below ul uh ≡ true → not (is_below tl uh && is_below ul th) ≡ true → is_below ul tl ≡ not (is_below tl ul)
starts_differ tl th ul uh p q no_overlap =
    elim (is_below tl ul) as (λ b. is_below tl ul ≡ b → is_below ul tl ≡ not b) [
      | true ↦ λ e. below_one_way tl ul e
      | false ↦ λ e.
          elim (is_below ul tl) as (λ b. is_below ul tl ≡ b → b ≡ true) [
            | true ↦ λ k. refl
            | false ↦ λ k.
                let one : is_below tl uh ≡ true = upto_below tl ul uh k q in
                let two : is_below ul th ≡ true = upto_below ul tl th e p in
                let bad : not (true && true) ≡ true = (λ i. not (sym one i && sym two i)) ∙ no_overlap in
                cc
          ] refl
    ] refl

pub apart_bool : (m n : ℕ) (o : Bool) → (not (m == n) || not o) ≡ true → (m == n) ≡ true → not o ≡ true
apart_bool m n o e s = sym (ap (λ b. not b || not o) s) ∙ e

start_differs : (t u : TableView) → is_plain_view t.view ≡ true → is_plain_view u.view ≡ true →
    not (is_below t.view.bounds.lo u.view.bounds.hi && is_below u.view.bounds.lo t.view.bounds.hi) ≡ true →
    is_below u.view.bounds.lo t.view.bounds.lo ≡ not (is_below t.view.bounds.lo u.view.bounds.lo)
start_differs t u p q e = starts_differ t.view.bounds.lo t.view.bounds.hi u.view.bounds.lo u.view.bounds.hi (rises t p) (rises u q) e

pub tables_differ : (level : ℕ) (t u : TableView) → is_plain_view t.view ≡ true → is_plain_view u.view ≡ true → are_apart level t u ≡ true → Differ (comes_before level) t u
unfolding overlap
tables_differ level t u p q =
    elim (level == 0) as (λ z.
    ((z && not (t.rank == u.rank)) || not (is_below t.view.bounds.lo u.view.bounds.hi && is_below u.view.bounds.lo t.view.bounds.hi)) ≡ true →
    cond z (nat_lt t.rank u.rank || (t.rank == u.rank && is_below u.view.bounds.lo t.view.bounds.lo)) (is_below u.view.bounds.lo t.view.bounds.lo)
    ≡ not (cond z (nat_lt u.rank t.rank || (u.rank == t.rank && is_below t.view.bounds.lo u.view.bounds.lo)) (is_below t.view.bounds.lo u.view.bounds.lo))) [
      | true ↦ λ e. differ_bool t.rank u.rank (is_below t.view.bounds.lo u.view.bounds.lo) (is_below u.view.bounds.lo t.view.bounds.lo)
          (λ s. start_differs t u p q
          (apart_bool t.rank u.rank (is_below t.view.bounds.lo u.view.bounds.hi && is_below u.view.bounds.lo t.view.bounds.hi) e s))
      | false ↦ λ e. start_differs t u p q e
    ]

differ_each : (level : ℕ) (t : TableView) (us : List TableView) → is_plain_view t.view ≡ true → list_all (λ u. is_plain_view u.view) us ≡ true → list_all (are_apart level t) us ≡ true → AllByRecursion (Differ (comes_before level) t) us
differ_each level t [] p v a = tt
differ_each level t (u ∷ us) p v a = (
  tables_differ level t u p (left (is_plain_view u.view) (list_all (λ w. is_plain_view w.view) us) v) (left (are_apart level t u) (list_all (are_apart level t) us) a),
  differ_each level t us p (right (is_plain_view u.view) (list_all (λ w. is_plain_view w.view) us) v) (right (are_apart level t u) (list_all (are_apart level t) us) a),
)

pub all_tables_differ : (level : ℕ) (ts : List TableView) → list_all (λ t. is_plain_view t.view) ts ≡ true → each_pair (are_apart level) ts ≡ true → AllDiffer (comes_before level) ts
all_tables_differ level [] v a = tt
all_tables_differ level (t ∷ ts) v a = (
  differ_each level t ts (left (is_plain_view t.view) (list_all (λ w. is_plain_view w.view) ts) v) (right (is_plain_view t.view) (list_all (λ w. is_plain_view w.view) ts) v) (left (list_all (are_apart level t) ts) (each_pair (are_apart level) ts) a),
  all_tables_differ level ts (right (is_plain_view t.view) (list_all (λ w. is_plain_view w.view) ts) v) (right (list_all (are_apart level t) ts) (each_pair (are_apart level) ts) a),
)

pub tables_differ_from : (level : ℕ) (ts us : List TableView) → list_all (λ t. is_plain_view t.view) ts ≡ true → list_all (λ t. is_plain_view t.view) us ≡ true →
    list_all (λ t. list_all (are_apart level t) us) ts ≡ true → AllByRecursion (λ t. AllByRecursion (Differ (comes_before level) t) us) ts
tables_differ_from level [] us v w a = tt
tables_differ_from level (t ∷ ts) us v w a = (
  differ_each level t us (left (is_plain_view t.view) (list_all (λ s. is_plain_view s.view) ts) v) w (left (list_all (are_apart level t) us) (list_all (λ s. list_all (are_apart level s) us) ts) a),
  tables_differ_from level ts us (right (is_plain_view t.view) (list_all (λ s. is_plain_view s.view) ts) v) w (right (list_all (are_apart level t) us) (list_all (λ s. list_all (are_apart level s) us) ts) a),
)
