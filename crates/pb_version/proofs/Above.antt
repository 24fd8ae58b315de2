-- What is added above: nothing by the same tables, a flush's table on level 0, and what two commands add one after the other.
use Rattle.std.proofs.Common.{◌≡◌, ℕ, ◌≤◌, ◌<◌, zero, suc, List, [], ◌∷◌, true, false, refl, ap, sym, ◌∙◌, subst, arith, inl, inr}
use Rattle.std.proofs.lemmas.Bool.{ltb-true, and_parts, not-true}
use Rattle.std.proofs.lemmas.List.Elements.{All-nil, All-cons, All-head, All-tail, All-contains, All-contains_itself, All-weaker}
use Rattle.std.specs.Prelude.{◌⊎◌, not, ◌&&◌, nat_lt, slice_index_or, All, Contains}
use Rattle.std.specs.List.{list_all}
use Rattle.pb_keys.specs.Order.{is_below, is_upto}
use Rattle.pb_keys.specs.Span.{KeySpan, overlap}
use Rattle.pb_keys.proofs.OrderFacts.{below_itself, upto_below, below_upto, upto_chain}
use Rattle.pb_version.specs.Version.{TableView, VersionView, tables_of_level}
use Rattle.pb_version.specs.Edited.{each_level, level_after, edited}
use Rattle.pb_version.specs.Flush.{flush_edit, flush_table}
use Rattle.pb_version.specs.Above.{lies_within, IsPartOf, ReplacesOne, IsNewest, IsClear, MayStand, AddsAbove, IsLater, ComesLater}
use Rattle.pb_version.proofs.Flushing.{first_level, levels_same_after}

-- ---- the same tables

all_stand : (old new : VersionView) (level : ℕ) (ts : List TableView) → All (Contains (tables_of_level old level)) ts → All (MayStand old new level) ts
all_stand old new level ts stood = All-weaker (Contains (tables_of_level old level)) (MayStand old new level) (λ t has. inl has) ts stood

pub same_above : (old new : VersionView) → old.levels ≡ new.levels → AddsAbove old new
same_above old new same = record {
  each = λ level. all_stand old new level (tables_of_level new level)
      (subst (λ ls. All (Contains (slice_index_or ls level [])) (slice_index_or new.levels level [])) (sym same)
      (All-contains_itself (tables_of_level new level)));
}

-- ---- a flush

all_lower : (rank : ℕ) (ts : List TableView) → list_all (λ (t : TableView). nat_lt t.rank rank) ts ≡ true → All (λ (t : TableView). t.rank < rank) ts
all_lower rank [] e = All-nil (λ (t : TableView). t.rank < rank)
all_lower rank (t ∷ ts) e =
    let both = and_parts (nat_lt t.rank rank) (list_all (λ (u : TableView). nat_lt u.rank rank) ts) e in
    All-cons (λ (u : TableView). u.rank < rank) t ts (ltb-true t.rank rank both.0) (all_lower rank ts both.1)

-- level 0 with the table in front, where there is a level
abbrev with_first : TableView → List (List TableView) → List (List TableView)
with_first t [] = []
with_first t (ts ∷ ls) = (t ∷ ts) ∷ ls

module _ (v new : VersionView) (t : TableView) where
  first_stands : (ls : List (List TableView)) → v.levels ≡ ls → new.levels ≡ with_first t ls →
      list_all (λ (u : TableView). nat_lt u.rank t.rank) (slice_index_or ls 0 []) ≡ true → (level : ℕ) →
      All (MayStand v new level) (slice_index_or (with_first t ls) level [])
  first_stands [] was is lower level = All-nil (MayStand v new level)
  first_stands (ts ∷ ls) was is lower zero =
      All-cons (MayStand v new 0) t ts
      (inr (inr (inl (record {
        first = refl;
        newest = subst (λ us. All (λ (u : TableView). u.rank < t.rank) (slice_index_or us 0 [])) (sym was) (all_lower t.rank ts lower);
      }))))
      (all_stand v new 0 ts (subst (λ us. All (Contains (slice_index_or us 0 [])) ts) (sym was) (All-contains_itself ts)))
  first_stands (ts ∷ ls) was is lower (suc level) =
      all_stand v new (suc level) (slice_index_or ls level [])
      (subst (λ us. All (Contains (slice_index_or us (suc level) [])) (slice_index_or ls level [])) (sym was)
      (All-contains_itself (slice_index_or ls level [])))

module _ (v : VersionView) (count log number size : ℕ) (hull : KeySpan) where
  levels_after_flush : (ls : List (List TableView)) → list_all (λ (t : TableView). nat_lt t.rank number) (slice_index_or ls 0 []) ≡ true →
      each_level (level_after v (flush_edit count log number size hull)) 0 ls ≡ with_first (flush_table number size hull) ls
  levels_after_flush [] lower = refl
  levels_after_flush (ts ∷ ls) lower = λ i.
      first_level v count log number size hull ts lower i ∷ levels_same_after v count log number size hull 1 ls (omega arith) i

  flushed_levels : list_all (λ (t : TableView). nat_lt t.rank number) (tables_of_level v 0) ≡ true →
      (edited v (flush_edit count log number size hull)).levels ≡ with_first (flush_table number size hull) v.levels
  unfolding edited
  flushed_levels lower = levels_after_flush v.levels lower

pub flush_above : (v : VersionView) (count log number size : ℕ) (hull : KeySpan) →
    list_all (λ (t : TableView). nat_lt t.rank number) (tables_of_level v 0) ≡ true → AddsAbove v (edited v (flush_edit count log number size hull))
flush_above v count log number size hull lower =
    let new = edited v (flush_edit count log number size hull) in
    let t = flush_table number size hull in
    let is : new.levels ≡ with_first t v.levels = flushed_levels v count log number size hull lower in
    record {
      each = λ level. subst (λ us. All (MayStand v new level) (slice_index_or us level [])) (sym is) (first_stands v new t v.levels refl is lower level);
    }

-- ---- one command after another

below_outer : (a b c : List ℕ) → is_upto a b ≡ true → is_below b c ≡ true → is_below a c ≡ true
below_outer a b c upto below = upto_below a b c (not-true (is_below b a) upto) below

below_inner : (a b c : List ℕ) → is_below a b ≡ true → is_upto b c ≡ true → is_below a c ≡ true
below_inner a b c below upto = below_upto a b c below (not-true (is_below c b) upto)

-- a part of a part is a part
within_within : (inner middle outer : KeySpan) → lies_within inner middle ≡ true → lies_within middle outer ≡ true → lies_within inner outer ≡ true
within_within inner middle outer one two =
    let first = and_parts (is_upto middle.lo inner.lo) (is_upto inner.hi middle.hi) one in
    let second = and_parts (is_upto outer.lo middle.lo) (is_upto middle.hi outer.hi) two in
    λ i.
    ap not (upto_chain outer.lo middle.lo inner.lo (not-true (is_below middle.lo outer.lo) second.0) (not-true (is_below inner.lo middle.lo) first.0)) i
    && ap not (upto_chain inner.hi middle.hi outer.hi (not-true (is_below middle.hi inner.hi) first.1) (not-true (is_below outer.hi middle.hi) second.1)) i

part_of_part : (t u w : TableView) → IsPartOf u t → IsPartOf t w → IsPartOf u w
part_of_part t u w one two = record {
  rank = two.rank ∙ one.rank;
  backing = two.backing ∙ one.backing;
  within = within_within w.view.bounds t.view.bounds u.view.bounds two.within one.within;
}

-- what doesn't overlap a table doesn't overlap a part of it
part_is_clear : (part whole other : KeySpan) → lies_within part whole ≡ true → overlap whole other ≡ false → overlap part other ≡ false
unfolding overlap
part_is_clear part whole other within clear =
    let both = and_parts (is_upto whole.lo part.lo) (is_upto part.hi whole.hi) within in
    elim (overlap part other) as (λ b. overlap part other ≡ b → overlap part other ≡ false) [
      | true ↦ λ e.
          let meets = and_parts (is_below part.lo other.hi) (is_below other.lo part.hi) e in
          let bad : overlap whole other ≡ true =
          λ i. below_outer whole.lo part.lo other.hi both.0 meets.0 i && below_inner other.lo part.hi whole.hi meets.1 both.1 i in
          let worse : true ≡ false = sym bad ∙ clear in cc
      | false ↦ λ e. e
    ] refl

module _ (first middle last : VersionView) (one : AddsAbove first middle) (two : AddsAbove middle last) (later : ComesLater first middle last) where
  -- what stands in the first and in the last version stands between them
  stands_between : (level : ℕ) (u : TableView) → Contains (tables_of_level first level) u → Contains (tables_of_level last level) u →
      Contains (tables_of_level middle level) u
  stands_between level u stood stands =
      elim (All-contains (λ t. Contains (tables_of_level middle level) t ⊎ IsLater first middle last level t) (tables_of_level last level) u (later.each level) stands) [
        | inl has ↦ has
        | inr new ↦ absurd (new.new stood)
      ]

  stays_gone : (level : ℕ) (u : TableView) → Contains (tables_of_level first level) u → ¬ (Contains (tables_of_level middle level) u) →
      ¬ (Contains (tables_of_level last level) u)
  stays_gone level u stood gone stands = gone (stands_between level u stood stands)

  clear_of_both : (level : ℕ) (t : TableView) (clear : (u : TableView) (above : ℕ) → above ≤ level → Contains (tables_of_level first above) u →
      Contains (tables_of_level middle above) u → Contains (tables_of_level last above) u → overlap t.view.bounds u.view.bounds ≡ false) →
      1 ≤ level → IsClear first last level t
  clear_of_both level t clear deeper = record {
    deeper = deeper;
    clear = λ above within. each_clear above within (tables_of_level first above) (All-contains_itself (tables_of_level first above));
  }
    where
      each_clear : (above : ℕ) → above ≤ level → (us : List TableView) → All (Contains (tables_of_level first above)) us →
          All (λ u. Contains (tables_of_level last above) u → overlap t.view.bounds u.view.bounds ≡ false) us
      each_clear above within [] stood = All-nil (λ u. Contains (tables_of_level last above) u → overlap t.view.bounds u.view.bounds ≡ false)
      each_clear above within (u ∷ us) stood =
          All-cons (λ w. Contains (tables_of_level last above) w → overlap t.view.bounds w.view.bounds ≡ false) u us
          (λ stands. let was = All-head (Contains (tables_of_level first above)) u us stood in
          clear u above within was (stands_between above u was stands) stands)
          (each_clear above within us (All-tail (Contains (tables_of_level first above)) u us stood))

  -- a table of the middle version, or a part of one that went: what it was to the first it, or its part, is to the last
  as_before : (level : ℕ) (w t : TableView) → IsPartOf w t → Contains (tables_of_level middle level) w → MayStand first middle level w →
      (Contains (tables_of_level first level) w → MayStand first last level t) → MayStand first last level t
  as_before level w t part stood may old =
      elim may [
        | inl has ↦ old has
        | inr rest ↦ elim rest [
          | inl replaced ↦ inr (inl (record {
            table = replaced.table;
            stood = replaced.stood;
            gone = stays_gone level replaced.table replaced.stood replaced.gone;
            part = part_of_part w replaced.table t replaced.part part;
          }))
          | inr deeper ↦ elim deeper [
            | inl newest ↦ inr (inr (inl (record {
              first = newest.first;
              newest = subst (λ r. All (λ (u : TableView). u.rank < r) (tables_of_level first 0)) (sym part.rank) newest.newest;
            })))
            | inr clear ↦ inr (inr (inr (clear_of_both level t
                (λ u above within was between stands. part_is_clear t.view.bounds w.view.bounds u.view.bounds part.within
                (All-contains (λ x. Contains (tables_of_level middle above) x → overlap w.view.bounds x.view.bounds ≡ false) (tables_of_level first above) u
                (clear.clear above within) was between))
                clear.deeper)))
          ]
        ]
      ]

  part_of_itself : (t : TableView) → IsPartOf t t
  part_of_itself t = record {
    rank = refl;
    backing = refl;
    within = λ i. ap not (below_itself t.view.bounds.lo) i && ap not (below_itself t.view.bounds.hi) i;
  }

  stood_so : (level : ℕ) (t : TableView) → Contains (tables_of_level middle level) t → MayStand first middle level t
  stood_so level t has = All-contains (MayStand first middle level) (tables_of_level middle level) t (one.each level) has

  still_replaces : (level : ℕ) (t : TableView) → ReplacesOne middle last level t → MayStand first last level t
  still_replaces level t replaced =
      as_before level replaced.table t replaced.part replaced.stood (stood_so level replaced.table replaced.stood)
      (λ was. inr (inl (record { table = replaced.table; stood = was; gone = replaced.gone; part = replaced.part })))

  still_newest : (level : ℕ) (t : TableView) → Contains (tables_of_level last level) t → IsNewest middle level t → MayStand first last level t
  still_newest level t stands newest =
      elim (All-contains (λ u. Contains (tables_of_level middle level) u ⊎ IsLater first middle last level u) (tables_of_level last level) t (later.each level) stands) [
        | inl has ↦
            let below : t.rank < t.rank = All-contains (λ (u : TableView). u.rank < t.rank) (tables_of_level middle 0) t newest.newest
            (subst (λ n. Contains (tables_of_level middle n) t) newest.first has) in
            absurd (omega (arith, below))
        | inr new ↦ elim (new.rank newest.first) [
          | inl replaced ↦ still_replaces level t replaced
          | inr lower ↦ inr (inr (inl (record { first = newest.first; newest = lower })))
        ]
      ]

  still_clear : (level : ℕ) (t : TableView) → IsClear middle last level t → MayStand first last level t
  still_clear level t clear =
      inr (inr (inr (clear_of_both level t
      (λ u above within was between stands.
      All-contains (λ x. Contains (tables_of_level last above) x → overlap t.view.bounds x.view.bounds ≡ false) (tables_of_level middle above) u
      (clear.clear above within) between stands)
      clear.deeper)))

  stands_last : (level : ℕ) (t : TableView) → Contains (tables_of_level last level) t → MayStand middle last level t → MayStand first last level t
  stands_last level t stands may =
      elim may [
        | inl has ↦ as_before level t t (part_of_itself t) has (stood_so level t has) (λ was. inl was)
        | inr rest ↦ elim rest [
          | inl replaced ↦ still_replaces level t replaced
          | inr deeper ↦ elim deeper [
            | inl newest ↦ still_newest level t stands newest
            | inr clear ↦ still_clear level t clear
          ]
        ]
      ]

  all_stand_last : (level : ℕ) (ts : List TableView) → All (Contains (tables_of_level last level)) ts → All (MayStand middle last level) ts →
      All (MayStand first last level) ts
  all_stand_last level [] has may = All-nil (MayStand first last level)
  all_stand_last level (t ∷ ts) has may =
      All-cons (MayStand first last level) t ts
      (stands_last level t (All-head (Contains (tables_of_level last level)) t ts has) (All-head (MayStand middle last level) t ts may))
      (all_stand_last level ts (All-tail (Contains (tables_of_level last level)) t ts has) (All-tail (MayStand middle last level) t ts may))

  pub joined_above : AddsAbove first last
  joined_above = record { each = λ level. all_stand_last level (tables_of_level last level) (All-contains_itself (tables_of_level last level)) (two.each level) }
