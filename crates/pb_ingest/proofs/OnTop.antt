-- A table on a free level is on top of what stays beside the cut.
use Rattle.std.proofs.Common.{◌≡◌, ℕ, ◌+◌, ◌<◌, ◌≤◌, suc, List, [], ◌∷◌, ◌++◌, Bool, true, false, refl, ap, sym, ◌∙◌, subst, arith, inl, inr, eq-eqb}
use Rattle.std.proofs.lemmas.Bool.{cases_lt, lt-ltb, or_left, or_right}
use Rattle.std.proofs.lemmas.List.Elements.{All-head, All-tail, All-contains, All-contains_itself, All-weaker}
use Rattle.std.specs.Prelude.{not, ◌==◌, ◌&&◌, ◌||◌, nat_lt, slice_index_or, Option, Some, None, All, Contains}
use Rattle.std.specs.List.{list_all}
use Rattle.std.specs.Option.{option_to_list}
use Rattle.pb_keys.specs.Span.{KeySpan, IsSpan, overlap}
use Rattle.pb_span_cases.specs.Remainder.{remains}
use Rattle.pb_span_cases.proofs.Remainders.{whole_part}
use Rattle.pb_span_cases.proofs.RemainLaws.{parts_are_remains}
use Rattle.pb_version.specs.Version.{TableView, VersionView, tables_of_level}
use Rattle.pb_version.specs.Judged.{all_levels}
use Rattle.pb_version.specs.Adding.{is_under, level_is_under, IsOnTop}
use Rattle.pb_ingest.specs.Levels.{rests_of, free_levels, level_without, IsRest, HasRests}
use Rattle.pb_ingest.proofs.FreeLevels.{free_level, rest_apart}

pub all_pass : {X : Type 0} (P : X → Type 0) (q : X → Bool) → ((x : X) → P x → q x ≡ true) → (xs : List X) → All P xs → list_all q xs ≡ true
all_pass P q gives [] all = refl
all_pass P q gives (x ∷ xs) all = λ i. gives x (All-head P x xs all) i && all_pass P q gives xs (All-tail P x xs all) i

-- ---- one table under another

all_three : (z y r : Bool) → z ≡ true → y ≡ true → r ≡ true → ((z && y) && r) ≡ true
all_three z y r e f g = λ i. (e i && f i) && g i

module _ (old : VersionView) (cut : Option KeySpan) (level : ℕ) (t : TableView)
    (newer : All (λ (u : TableView). u.rank < t.rank) (tables_of_level old 0)) (deep : level ≤ level_without old cut t.view.bounds) where
  -- on level 0, where no level is free
  older : (l : ℕ) (u : TableView) → l ≡ 0 → IsRest cut (tables_of_level old l) u → nat_lt u.rank t.rank ≡ true
  older l u first rest =
      let below : rest.table.rank < t.rank =
      All-contains (λ (w : TableView). w.rank < t.rank) (tables_of_level old 0) rest.table newer
      (subst (λ n. Contains (tables_of_level old n) rest.table) first rest.stood) in
      lt-ltb u.rank t.rank (omega (arith, below, rest.rank))

  rest_under : (l : ℕ) (u : TableView) → IsRest cut (tables_of_level old l) u → is_under level t l u ≡ true
  rest_under l u rest =
      let free = free_levels cut t.view.bounds old.levels in
      let deeper = nat_lt level l in
      let apart = not (overlap t.view.bounds u.view.bounds) in
      let newest = (l == 0 && level == 0) && nat_lt u.rank t.rank in
      elim (cases_lt level l) [
        | inl below ↦ or_left (deeper || apart) newest (or_left deeper apart (lt-ltb level l below))
        | inr upto ↦ elim (cases_lt l free) [
          | inl within ↦ or_left (deeper || apart) newest (or_right deeper apart
              (ap not (rest_apart cut t.view.bounds (tables_of_level old l) u (free_level cut t.view.bounds old.levels l within) rest)))
          | inr past ↦
              let first : l ≡ 0 = omega (arith, deep, upto, past) in
              let here : level ≡ 0 = omega (arith, deep, upto, past) in
              or_right (deeper || apart) newest
              (all_three (l == 0) (level == 0) (nat_lt u.rank t.rank) (eq-eqb l 0 first) (eq-eqb level 0 here) (older l u first rest))
        ]
      ]

  -- ---- all levels

  all_under : (k : ℕ) (ls : List (List TableView)) → ((l : ℕ) → level_is_under level t (k + l) (slice_index_or ls l []) ≡ true) →
      all_levels (level_is_under level t) k ls ≡ true
  all_under k [] each = refl
  all_under k (ts ∷ ls) each =
      let start : k + 0 ≡ k = omega arith in
      let here : level_is_under level t k ts ≡ true = subst (λ n. level_is_under level t n ts ≡ true) start (each 0) in
      λ i. here i && all_under (k + 1) ls (λ l.
      let next : k + suc l ≡ (k + 1) + l = omega arith in
      subst (λ n. level_is_under level t n (slice_index_or ls l []) ≡ true) next (each (suc l))) i

  pub on_top : (new : VersionView) → HasRests cut old new → IsOnTop new level t
  on_top new rests = all_under 0 new.levels (λ l.
      let same : l ≡ 0 + l = omega arith in
      subst (λ n. level_is_under level t n (tables_of_level new l) ≡ true) same
      (all_pass (IsRest cut (tables_of_level old l)) (is_under level t l) (λ u rest. rest_under l u rest) (tables_of_level new l) (rests.each l)))

-- ---- what stays of a version

pub rests_itself : (v : VersionView) → HasRests None v v
rests_itself v = record {
  each = λ level. All-weaker (Contains (tables_of_level v level)) (IsRest None (tables_of_level v level))
      (λ t has. record {
        table = t;
        stood = has;
        rank = refl;
        bounds = All-head (Contains (t.view.bounds ∷ [])) t.view.bounds [] (All-contains_itself (t.view.bounds ∷ []));
      }) (tables_of_level v level) (All-contains_itself (tables_of_level v level));
}

-- a span that the cut doesn't overlap stays whole
pub uncut_stays : (bounds cut : KeySpan) → IsSpan bounds → IsSpan cut → overlap bounds cut ≡ false → Contains (rests_of (Some cut) bounds) bounds
uncut_stays bounds cut is_bounds is_cut apart =
    let whole = whole_part bounds cut apart in
    let same : bounds ∷ [] ≡ remains bounds cut =
    sym (λ i. option_to_list (whole.0 i) ++ option_to_list (whole.1 i)) ∙ parts_are_remains bounds cut is_bounds is_cut in
    subst (λ ss. Contains ss bounds) same (All-head (Contains (bounds ∷ [])) bounds [] (All-contains_itself (bounds ∷ [])))
