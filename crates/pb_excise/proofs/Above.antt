-- An excise adds nothing above what stays: each table that it leaves stood there, or is a part of one that went.
use Rattle.std.proofs.Common.{◌≡◌, ℕ, ◌+◌, ◌<◌, ◌≤◌, List, [], ◌∷◌, Bool, true, false, cond, length, zero, suc, refl, ap, sym, ◌∙◌, subst, arith, inl, inr}
use Rattle.std.proofs.lemmas.List.Elements.{All-nil, All-cons, All-head, All-tail, All-append, All-contains, All-contains_itself}
use Rattle.std.specs.Prelude.{not, ◌&&◌, nat_lt, slice_index_or, All, Contains}
use Rattle.std.specs.List.{list_all}
use Rattle.std.proofs.lemmas.Bool.{ltb-true}
use Rattle.pb_keys.specs.Order.{is_below, is_upto, lesser, greater}
use Rattle.pb_keys.specs.Span.{KeySpan, span_of, overlap}
use Rattle.pb_keys.proofs.OrderFacts.{below_itself, below_one_way}
use Rattle.pb_span_cases.specs.Remainder.{remains}
use Rattle.pb_version.specs.Version.{TableView, VersionView, tables_of_level}
use Rattle.pb_version.proofs.Lists.{left, right}
use Rattle.pb_version.proofs.Levels.{list_all_flattened, test_on}
use Rattle.pb_excise.specs.Excised.{parts_of, part_table, numbered_parts, left_of, parts_count, excised_tables, excised_levels, excised}
use Rattle.pb_version.specs.Above.{lies_within, MayStand, AddsAbove}
use Rattle.pb_excise.specs.Unused.{AreUnusedFrom}

-- ---- parts lie within their table

upto_itself : (a : List ℕ) → is_upto a a ≡ true
upto_itself a = ap not (below_itself a)

lesser_upto : (a b : List ℕ) → is_upto (lesser a b) a ≡ true
lesser_upto a b =
    elim (is_below b a) as (λ t. is_below b a ≡ t → is_upto (cond t b a) a ≡ true) [
      | true ↦ λ e. ap not (below_one_way b a e)
      | false ↦ λ e. upto_itself a
    ] refl

upto_greater : (a b : List ℕ) → is_upto b (greater a b) ≡ true
upto_greater a b =
    elim (is_below a b) as (λ t. is_below a b ≡ t → is_upto b (cond t b a) ≡ true) [
      | true ↦ λ e. upto_itself b
      | false ↦ λ e. ap not e
    ] refl

one_within : (c : Bool) (s outer : KeySpan) → lies_within s outer ≡ true →
    All (λ part. lies_within part outer ≡ true) (cond c (s ∷ []) [])
one_within true s outer e = All-cons (λ part. lies_within part outer ≡ true) s [] e (All-nil (λ part. lies_within part outer ≡ true))
one_within false s outer e = All-nil (λ part. lies_within part outer ≡ true)

pub remains_within : (table cut : KeySpan) → All (λ part. lies_within part table ≡ true) (remains table cut)
remains_within table cut =
    All-append (λ part. lies_within part table ≡ true)
    (cond (is_below table.lo cut.lo) (span_of table.lo (lesser table.hi cut.lo) ∷ []) [])
    (cond (is_below cut.hi table.hi) (span_of (greater cut.hi table.lo) table.hi ∷ []) [])
    (one_within (is_below table.lo cut.lo) (span_of table.lo (lesser table.hi cut.lo)) table
    (λ i. upto_itself table.lo i && lesser_upto table.hi cut.lo i))
    (one_within (is_below cut.hi table.hi) (span_of (greater cut.hi table.lo) table.hi) table
    (λ i. upto_greater cut.hi table.lo i && upto_itself table.hi i))

-- ---- a level of what is left

-- the number from which the parts of this level are numbered
abbrev pub first_on : KeySpan → ℕ → List (List TableView) → ℕ → ℕ
first_on cut first [] level = first
first_on cut first (ts ∷ ls) zero = first
first_on cut first (ts ∷ ls) (suc level) = first_on cut (first + parts_count cut ts) ls level

pub tables_on : (cut : KeySpan) (first : ℕ) (ls : List (List TableView)) (level : ℕ) →
    slice_index_or (excised_levels cut first ls) level [] ≡ excised_tables cut (first_on cut first ls level) (slice_index_or ls level [])
tables_on cut first [] level = refl
tables_on cut first (ts ∷ ls) zero = refl
tables_on cut first (ts ∷ ls) (suc level) = tables_on cut (first + parts_count cut ts) ls level

pub first_on_rises : (cut : KeySpan) (first : ℕ) (ls : List (List TableView)) (level : ℕ) → first ≤ first_on cut first ls level
first_on_rises cut first [] level = omega arith
first_on_rises cut first (ts ∷ ls) zero = omega arith
first_on_rises cut first (ts ∷ ls) (suc level) = omega (arith, first_on_rises cut (first + parts_count cut ts) ls level)

-- ---- a table that the cut overlaps is gone

module _ (cut : KeySpan) (t : TableView) (is_cut : overlap t.view.bounds cut ≡ true) where
  abbrev IsOther : TableView → Type 0
  IsOther u = u ≡ t → ⊥

  parts_other : (u : TableView) (n : ℕ) (parts : List KeySpan) → t.number < n → All IsOther (numbered_parts u n parts)
  parts_other u n [] h = All-nil IsOther
  parts_other u n (part ∷ parts) h =
      All-cons IsOther (part_table u n part) (numbered_parts u (n + 1) parts)
      (λ e. let same : n ≡ t.number = ap (λ (w : TableView). w.number) e in absurd (omega (arith, same)))
      (parts_other u (n + 1) parts (omega arith))

  left_other : (u : TableView) (n : ℕ) → t.number < n → All IsOther (left_of cut n u)
  left_other u n h =
      elim (overlap u.view.bounds cut) as (λ b. overlap u.view.bounds cut ≡ b →
      All IsOther (cond b (numbered_parts u n (remains u.view.bounds cut)) (u ∷ []))) [
        | true ↦ λ _. parts_other u n (remains u.view.bounds cut) h
        | false ↦ λ apart. All-cons IsOther u []
            (λ e. let bad : true ≡ false = sym is_cut ∙ ap (λ (w : TableView). overlap w.view.bounds cut) (sym e) ∙ apart in cc)
            (All-nil IsOther)
      ] refl

  tables_other : (n : ℕ) (us : List TableView) → t.number < n → All IsOther (excised_tables cut n us)
  tables_other n [] h = All-nil IsOther
  tables_other n (u ∷ us) h =
      All-append IsOther (left_of cut n u) (excised_tables cut (n + length (parts_of cut u)) us)
      (left_other u n h) (tables_other (n + length (parts_of cut u)) us (omega arith))

-- ---- each table that is left

module _ (old : VersionView) (cut : KeySpan) (first level : ℕ) (unused : AreUnusedFrom old first) where
  abbrev new : VersionView
  new = excised old cut first

  abbrev Stands : TableView → Type 0
  Stands = MayStand old new level

  new_tables : tables_of_level new level ≡ excised_tables cut (first_on cut first old.levels level) (tables_of_level old level)
  unfolding excised
  new_tables = tables_on cut first old.levels level

  numbers : list_all (λ (t : TableView). nat_lt t.number first) (tables_of_level old level) ≡ true
  numbers = test_on (λ t. nat_lt t.number first) old.levels level
      (sym (list_all_flattened (λ (t : TableView). nat_lt t.number first) old.levels) ∙ unused.tables)

  is_gone : (t : TableView) → overlap t.view.bounds cut ≡ true → nat_lt t.number first ≡ true →
      ¬ (Contains (tables_of_level new level) t)
  is_gone t is_cut below has =
      let low : t.number < first_on cut first old.levels level =
      omega (arith, ltb-true t.number first below, first_on_rises cut first old.levels level) in
      All-contains (λ u. u ≡ t → ⊥) (tables_of_level new level) t
      (subst (All (λ u. u ≡ t → ⊥)) (sym new_tables)
      (tables_other cut t is_cut (first_on cut first old.levels level) (tables_of_level old level) low)) has refl

  parts_stand : (t : TableView) (n : ℕ) (parts : List KeySpan) → Contains (tables_of_level old level) t →
      ¬ (Contains (tables_of_level new level) t) →
      All (λ part. lies_within part t.view.bounds ≡ true) parts → All Stands (numbered_parts t n parts)
  parts_stand t n [] stood gone within = All-nil Stands
  parts_stand t n (part ∷ parts) stood gone within =
      All-cons Stands (part_table t n part) (numbered_parts t (n + 1) parts)
      (inr (inl (record {
        table = t;
        stood = stood;
        gone = gone;
        part = record { rank = refl; backing = refl; within = All-head (λ s. lies_within s t.view.bounds ≡ true) part parts within };
      })))
      (parts_stand t (n + 1) parts stood gone (All-tail (λ s. lies_within s t.view.bounds ≡ true) part parts within))

  left_stand : (t : TableView) (n : ℕ) → Contains (tables_of_level old level) t → nat_lt t.number first ≡ true →
      All Stands (left_of cut n t)
  left_stand t n stood below =
      elim (overlap t.view.bounds cut) as (λ b. overlap t.view.bounds cut ≡ b →
      All Stands (cond b (numbered_parts t n (remains t.view.bounds cut)) (t ∷ []))) [
        | true ↦ λ is_cut.
            parts_stand t n (remains t.view.bounds cut) stood (is_gone t is_cut below) (remains_within t.view.bounds cut)
        | false ↦ λ _. All-cons Stands t [] (inl stood) (All-nil Stands)
      ] refl

  tables_stand : (n : ℕ) (ts : List TableView) → All (Contains (tables_of_level old level)) ts →
      list_all (λ (t : TableView). nat_lt t.number first) ts ≡ true → All Stands (excised_tables cut n ts)
  tables_stand n [] stood below = All-nil Stands
  tables_stand n (t ∷ ts) stood below =
      All-append Stands (left_of cut n t) (excised_tables cut (n + length (parts_of cut t)) ts)
      (left_stand t n (All-head (Contains (tables_of_level old level)) t ts stood)
      (left (nat_lt t.number first) (list_all (λ u. nat_lt u.number first) ts) below))
      (tables_stand (n + length (parts_of cut t)) ts (All-tail (Contains (tables_of_level old level)) t ts stood)
      (right (nat_lt t.number first) (list_all (λ u. nat_lt u.number first) ts) below))

  pub level_stands : All Stands (tables_of_level new level)
  level_stands = subst (All Stands) (sym new_tables)
      (tables_stand (first_on cut first old.levels level) (tables_of_level old level)
      (All-contains_itself (tables_of_level old level)) numbers)

pub adds_above : (v : VersionView) (cut : KeySpan) (first : ℕ) → AreUnusedFrom v first → AddsAbove v (excised v cut first)
adds_above v cut first unused = record { each = λ level. level_stands v cut first level unused }
