-- Tables on top are apart from those under them, so an edit may add them.
use Rattle.std.proofs.Common.{◌≡◌, ℕ, ◌+◌, List, [], ◌∷◌, Bool, true, false, cond, refl, ◌∙◌, subst}
use Rattle.std.proofs.lemmas.Bool.{eqb-true, and_parts, or_left, or_right}
use Rattle.std.proofs.lemmas.List.Elements.{All-head, All-tail, All-weaker}
use Rattle.std.proofs.lemmas.List.Folds.{list_all-map}
use Rattle.std.specs.Prelude.{not, ◌==◌, ◌&&◌, ◌||◌, nat_lt, map, All}
use Rattle.std.specs.List.{filter, list_all}
use Rattle.pb_edit.specs.Edit.{PhysicalItem}
use Rattle.pb_keys.specs.Span.{overlap}
use Rattle.pb_version.specs.Version.{TableView}
use Rattle.pb_version.specs.Edited.{physical_table}
use Rattle.pb_version.specs.Rules.{each_pair, are_apart, are_all_apart}
use Rattle.pb_version.specs.Judged.{all_levels}
use Rattle.pb_version.specs.Adding.{tables_for, level_may_add, is_under, level_is_under, bounds_apart}
use Rattle.pb_version.proofs.Pairs.{pairs_filter, weaker, not_lower, lower_differs}

under_gives : (s n z r d : Bool) → s ≡ false → (r ≡ true → d ≡ true) → ((s || n) || ((z && z) && r)) ≡ true → ((z && d) || n) ≡ true
under_gives true n z r d f g e = cc
under_gives false true z r d f g e = or_right (z && d) true refl
under_gives false false true true d f g e = or_left d false (g refl)
under_gives false false true false d f g e = cc
under_gives false false false r d f g e = cc

under_apart : (l : ℕ) (t u : TableView) → is_under l t l u ≡ true → are_apart l t u ≡ true
under_apart l t u e =
    under_gives (nat_lt l l) (not (overlap t.view.bounds u.view.bounds)) (l == 0) (nat_lt u.rank t.rank) (not (t.rank == u.rank))
    (not_lower l) (lower_differs u.rank t.rank) e

-- new tables of one level are apart, where no two of the items overlap
each_apart_on : (l : ℕ) (p : PhysicalItem) (ps : List PhysicalItem) → list_all (bounds_apart p) ps ≡ true → list_all (are_apart l (physical_table p)) (map physical_table ps) ≡ true
each_apart_on l p ps e =
    list_all-map (are_apart l (physical_table p)) physical_table ps
    ∙ weaker (bounds_apart p) (λ q. are_apart l (physical_table p) (physical_table q)) (λ q d. or_right (l == 0 && not (p.rank == q.rank)) (bounds_apart p q) d) ps e

all_apart_on : (l : ℕ) (ps : List PhysicalItem) → each_pair bounds_apart ps ≡ true → are_all_apart l (map physical_table ps) ≡ true
all_apart_on l [] e = refl
all_apart_on l (p ∷ ps) e =
    let both = and_parts (list_all (bounds_apart p) ps) (each_pair bounds_apart ps) e in
    λ i. each_apart_on l p ps both.0 i && all_apart_on l ps both.1 i

-- and from those under them
from_under : (l : ℕ) (ts : List TableView) (ps : List PhysicalItem) → All (λ (p : PhysicalItem). level_is_under p.level (physical_table p) l ts ≡ true) ps →
    list_all (λ t. list_all (are_apart l t) ts) (tables_for ps l) ≡ true
from_under l ts [] all = refl
from_under l ts (p ∷ ps) all =
    let IsUnder = λ (q : PhysicalItem). level_is_under q.level (physical_table q) l ts ≡ true in
    let rest = filter (λ (q : PhysicalItem). q.level == l) ps in
    let later = from_under l ts ps (All-tail IsUnder p ps all) in
    elim (p.level == l) as (λ b. (p.level == l) ≡ b → list_all (λ t. list_all (are_apart l t) ts) (map physical_table (cond b (p ∷ rest) rest)) ≡ true) [
      | true ↦ λ e.
          let here : level_is_under l (physical_table p) l ts ≡ true =
          subst (λ n. level_is_under n (physical_table p) l ts ≡ true) (eqb-true p.level l e) (All-head IsUnder p ps all) in
          λ i. weaker (is_under l (physical_table p) l) (are_apart l (physical_table p)) (λ u d. under_apart l (physical_table p) u d) ts here i && later i
      | false ↦ λ _. later
    ] refl

pub levels_may_add : (ps : List PhysicalItem) → each_pair bounds_apart ps ≡ true → (k : ℕ) (ls : List (List TableView)) →
    All (λ (p : PhysicalItem). all_levels (level_is_under p.level (physical_table p)) k ls ≡ true) ps → all_levels (level_may_add ps) k ls ≡ true
levels_may_add ps apart k [] all = refl
levels_may_add ps apart k (ts ∷ ls) all =
    let Under = λ (p : PhysicalItem). all_levels (level_is_under p.level (physical_table p)) k (ts ∷ ls) ≡ true in
    let here = All-weaker Under (λ (p : PhysicalItem). level_is_under p.level (physical_table p) k ts ≡ true)
    (λ p e. (and_parts (level_is_under p.level (physical_table p) k ts) (all_levels (level_is_under p.level (physical_table p)) (k + 1) ls) e).0) ps all in
    let later = All-weaker Under (λ (p : PhysicalItem). all_levels (level_is_under p.level (physical_table p)) (k + 1) ls ≡ true)
    (λ p e. (and_parts (level_is_under p.level (physical_table p) k ts) (all_levels (level_is_under p.level (physical_table p)) (k + 1) ls) e).1) ps all in
    λ i.
    (all_apart_on k (filter (λ (p : PhysicalItem). p.level == k) ps) (pairs_filter bounds_apart (λ (p : PhysicalItem). p.level == k) ps apart) i && from_under k ts ps here i)
    && levels_may_add ps apart (k + 1) ls later i
