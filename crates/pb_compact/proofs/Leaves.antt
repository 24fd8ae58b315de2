-- An edit that takes the inputs of a compaction and the backings that go with them, and adds nothing, breaks no rule.
use Rattle.std.proofs.Common.{◌≡◌, ◌≢◌, ℕ, ◌+◌, ◌≤◌, zero, suc, List, [], ◌∷◌, length, Bool, true, false, cond, refl, ap, sym, ◌∙◌, subst, arith, inl, inr, eq-eqb, length-append}
use Rattle.std.proofs.lemmas.Bool.{or_right}
use Rattle.std.proofs.lemmas.Bool.Decides.{nat_tests}
use Rattle.std.proofs.lemmas.List.Folds.{list_all-map}
use Rattle.std.specs.Prelude.{◌⊎◌, not, ◌&&◌, ◌||◌, ◌==◌, nat_lt, nat_le, map, filter, slice_index_or, Some, None, Contains}
use Rattle.std.specs.List.{list_any, list_all}
use Rattle.pb_edit.specs.Edit.{DeletedItem, CreatedItem, VersionEdit}
use Rattle.pb_edit.specs.Grammar.{deleted_below}
use Rattle.pb_version.specs.declared.broken.Broken.TheVariants.{V1, V4, V6, V7, V8, V9}
use Rattle.pb_version.specs.Version.{TableView, VersionView, tables_of_level, all_tables, flattened}
use Rattle.pb_version.specs.Edited.{each_level, level_after, new_tables_of_level, backings_after, edited}
use Rattle.pb_version.specs.Judged.{all_levels, any_level, is_gone, keeps_its_backing, keep_their_backings, is_still_shown, is_shown_by, orphans_no_backing, orphan_no_backing}
use Rattle.pb_version.specs.Rules.{has_number, has_backing, has_its_backing, is_listed, level_keeps_v4, keeps_v1, keeps_v4, keeps_v6, keeps_v7, keeps_v8, keeps_v9, first_broken}
use Rattle.pb_version.specs.State.{IsVersion}
use Rattle.pb_version.proofs.Lists.{same_number, list_all_all_placed}
use Rattle.pb_version.proofs.Levels.{flattened_cons, list_all_flattened, all_each, test_on}
use Rattle.pb_version.proofs.Ruled.{OnLevels, news, v6, v7}
use Rattle.pb_compact.specs.Chosen.{Fits}
use Rattle.pb_compact.specs.Compacted.{CompactionView, is_input, is_shown_beside, freed, input_item, compaction_edit}
use Rattle.pb_compact.proofs.LevelsAfter.{deleted_is, staying_are, others}
use Rattle.pb_compact.proofs.Members.{found, in_list, every, any_of, all_of, all_from, none_of, of_map, of_filter}

-- ---- each level

from_place : (p : ℕ → List TableView → Bool) (k : ℕ) (ls : List (List TableView)) → ((j : ℕ) → p (k + j) (slice_index_or ls j []) ≡ true) →
    all_levels p k ls ≡ true
from_place p k [] holds = refl
from_place p k (ts ∷ ls) holds =
    let same : k + 0 ≡ k = omega arith in
    λ i. subst (λ n. p n ts ≡ true) same (holds 0) i
    && from_place p (k + 1) ls (λ j. let next : k + suc j ≡ k + 1 + j = omega arith in
    subst (λ n. p n (slice_index_or ls j []) ≡ true) next (holds (suc j))) i

pub from_each : (p : ℕ → List TableView → Bool) (ls : List (List TableView)) →
    ((level : ℕ) → p level (slice_index_or ls level []) ≡ true) →
    all_levels p 0 ls ≡ true
from_each p ls holds = from_place p 0 ls (λ j. let same : j ≡ 0 + j = omega arith in
    subst (λ n. p n (slice_index_or ls j []) ≡ true) same (holds j))

none_at : (p : ℕ → List TableView → Bool) → ((level : ℕ) → p level [] ≡ false) → (k : ℕ) (ls : List (List TableView)) (j : ℕ) →
    any_level p k ls ≡ false → p (k + j) (slice_index_or ls j []) ≡ false
none_at p none k [] j e = none (k + j)
none_at p none k (ts ∷ ls) zero e =
    let same : k ≡ k + 0 = omega arith in
    subst (λ n. p n ts ≡ false) same (first_false (p k ts) (any_level p (k + 1) ls) e)
  where
    first_false : (a b : Bool) → (a || b) ≡ false → a ≡ false
    first_false true b e = cc
    first_false false b e = refl
none_at p none k (ts ∷ ls) (suc j) e =
    let same : k + 1 + j ≡ k + suc j = omega arith in
    subst (λ n. p n (slice_index_or ls j []) ≡ false) same (none_at p none (k + 1) ls j (later_false (p k ts) (any_level p (k + 1) ls) e))
  where
    later_false : (a b : Bool) → (a || b) ≡ false → b ≡ false
    later_false true b e = cc
    later_false false b e = e

none_on : (p : ℕ → List TableView → Bool) → ((level : ℕ) → p level [] ≡ false) → (ls : List (List TableView)) (level : ℕ) →
    any_level p 0 ls ≡ false → p level (slice_index_or ls level []) ≡ false
none_on p none ls level e =
    let same : 0 + level ≡ level = omega arith in
    subst (λ n. p n (slice_index_or ls level []) ≡ false) same (none_at p none 0 ls level e)

-- ---- the backings that are listed

removed_are : (s : ℕ → Bool) (bs : List CreatedItem) (n : ℕ) → has_backing bs n ≡ true → s n ≡ false →
    is_listed (map (λ (b : CreatedItem). b.number) (filter (λ (b : CreatedItem). not (s b.number)) bs)) n ≡ true
removed_are s [] n some free = cc
removed_are s (b ∷ bs) n some free =
    let rest = filter (λ (d : CreatedItem). not (s d.number)) bs in
    elim (b.number == n) as (λ t. (b.number == n) ≡ t → (t || has_backing bs n) ≡ true →
    is_listed (map (λ (d : CreatedItem). d.number) (cond (not (s b.number)) (b ∷ rest) rest)) n ≡ true) [
      | true ↦ λ e _.
          let stays : s b.number ≡ false = ap s (same_number b.number n e) ∙ free in
          ap (λ t. is_listed (map (λ (d : CreatedItem). d.number) (cond (not t) (b ∷ rest) rest)) n) stays
          ∙ ap (λ t. t || is_listed (map (λ (d : CreatedItem). d.number) rest) n) e
      | false ↦ λ e later.
          let there : is_listed (map (λ (d : CreatedItem). d.number) rest) n ≡ true = removed_are s bs n later free in
          elim (s b.number) as (λ t. is_listed (map (λ (d : CreatedItem). d.number) (cond (not t) (b ∷ rest) rest)) n ≡ true) [
            | true ↦ there
            | false ↦ or_right (b.number == n) (is_listed (map (λ (d : CreatedItem). d.number) rest) n) there
          ]
    ] refl some

record IsListedOf (s : ℕ → Bool) (bs : List CreatedItem) (n : ℕ) : Type 0 where
  stood : has_backing bs n ≡ true
  free : s n ≡ false

of_removed : (s : ℕ → Bool) (bs : List CreatedItem) (n : ℕ) →
    is_listed (map (λ (b : CreatedItem). b.number) (filter (λ (b : CreatedItem). not (s b.number)) bs)) n ≡ true → IsListedOf s bs n
of_removed s bs n listed =
    let it = found (λ m. m == n) (map (λ (b : CreatedItem). b.number) (filter (λ (b : CreatedItem). not (s b.number)) bs)) listed in
    let image = of_map (λ (b : CreatedItem). b.number) (filter (λ (b : CreatedItem). not (s b.number)) bs) it.item it.is_in in
    let both = of_filter (λ (b : CreatedItem). not (s b.number)) bs image.item image.is_in in
    let number : image.item.number ≡ n = image.image ∙ same_number it.item n it.passes in
    record {
      stood = any_of (λ (b : CreatedItem). b.number == n) bs image.item both.is_in (eq-eqb image.item.number n number);
      free = sym (ap s number) ∙ not_true (s image.item.number) both.passes;
    }
  where
    not_true : (b : Bool) → not b ≡ true → b ≡ false
    not_true true e = cc
    not_true false e = refl

-- ---- fewer tables

filter_fewer : {X : Type 0} (p : X → Bool) (xs : List X) → length (filter p xs) ≤ length xs
filter_fewer p [] = omega arith
filter_fewer p (x ∷ xs) =
    elim (p x) as (λ b. length (cond b (x ∷ filter p xs) (filter p xs)) ≤ suc (length xs)) [
      | true ↦ omega (arith, filter_fewer p xs)
      | false ↦ omega (arith, filter_fewer p xs)
    ]

few_still : (n m : ℕ) → nat_le n 4096 ≡ true → m ≤ n → nat_le m 4096 ≡ true
few_still n m e h = grind (arith, nat_tests)

-- ---- V8

begun_fits : (format : ℕ) (fits : Bool) → format ≢ 0 → (format == 0 || fits) ≡ true → fits ≡ true
begun_fits format true begun e = refl
begun_fits format false begun e = grind (arith, nat_tests)

same_five : (a n f g l : ℕ) → (nat_le f a && nat_lt l n && g == 1) ≡ true →
    ((nat_le a a && nat_le n n && nat_le f f && nat_le g g) && (nat_le f a && nat_lt l n && g == 1) && (not (g == 0) || false)) ≡ true
same_five a n f g l e = grind (arith, nat_tests)

-- ---- the rules

module _ (v : VersionView) (c : CompactionView) where
  abbrev pub base : VersionEdit
  base = record (compaction_edit c) { physical = [] }

  -- nothing is new
  no_new : (level : ℕ) (ts : List TableView) → level_after v base level ts ≡ others v c level ts
  no_new level ts = staying_are v c level ts

  pub no_new_levels : (k : ℕ) (ls : List (List TableView)) → each_level (level_after v base) k ls ≡ each_level (others v c) k ls
  no_new_levels k [] = refl
  no_new_levels k (ts ∷ ls) = λ i. no_new k ts i ∷ no_new_levels (k + 1) ls i

  gone_is : (level : ℕ) (t : TableView) → is_gone base.deleted level t ≡ is_input c.chosen level t
  gone_is = deleted_is v c

  module _ (is : IsVersion v) (fits : Fits v c.chosen) (free : c.freed ≡ freed v c.chosen) where
    on : OnLevels base
    on = record { physical = tt; virtuals = tt }

    all_v1 : keeps_v1 v base ≡ true
    all_v1 =
        list_all_all_placed (λ (d : DeletedItem). has_number (tables_of_level v d.level) d.number) deleted_below
        (map input_item c.chosen.inputs) []
        ∙ (λ i. (list_all-map (λ (d : DeletedItem). has_number (tables_of_level v d.level) d.number) input_item c.chosen.inputs
        ∙ all_from (λ (input : ℕ × TableView). has_number (tables_of_level v input.0) input.1.number) c.chosen.inputs (λ input has.
        any_of (λ (t : TableView). t.number == input.1.number) (tables_of_level v input.0) input.1
        (in_list (tables_of_level v input.0) input.1
        (every (λ (j : ℕ × TableView). Contains (tables_of_level v j.0) j.1) c.chosen.inputs input fits.stand has))
        (eq-eqb input.1.number input.1.number refl))) i && true)

    all_v4 : keeps_v4 v base ≡ true
    all_v4 = from_each (level_keeps_v4 v base) v.levels (λ j. refl)

    -- whether a table that stays shows the backing
    abbrev beside : ℕ → ℕ → List TableView → Bool
    beside n level ts = list_any (λ t. t.is_virtual && t.backing == n && not (is_input c.chosen level t)) ts

    still_is : (n : ℕ) → any_level (is_still_shown base.deleted n) 0 v.levels ≡ is_shown_beside v c.chosen n
    still_is n = ap (λ f. any_level f 0 v.levels)
        (λ i level ts. list_any (λ (t : TableView). t.is_virtual && t.backing == n && not (gone_is level t i)) ts)

    goes : (level : ℕ) (t : TableView) (n : ℕ) → (t.is_virtual && t.backing == n && not (is_input c.chosen level t)) ≡ false →
        t.is_virtual ≡ true →
        t.backing ≡ n → is_input c.chosen level t ≡ true
    goes level t n none virtual same = input_of t.is_virtual (t.backing == n) (is_input c.chosen level t) none virtual
        (eq-eqb t.backing n same)
      where
        input_of : (a b d : Bool) → (a && b && not d) ≡ false → a ≡ true → b ≡ true → d ≡ true
        input_of a b true e f g = refl
        input_of true true false e f g = cc
        input_of true false false e f g = cc
        input_of false b false e f g = cc

    keeps_here : (level : ℕ) → keep_their_backings base.deleted base.removed level (tables_of_level v level) ≡ true
    keeps_here level = all_from (keeps_its_backing base.deleted base.removed level) (tables_of_level v level) (λ t has.
        kept t.is_virtual (is_listed base.removed t.backing) (is_gone base.deleted level t) (λ virtual listed.
        let it = of_removed (is_shown_beside v c.chosen) v.backings t.backing (sym (ap (λ ns. is_listed ns t.backing) free) ∙ listed) in
        let none = none_of (λ (u : TableView). u.is_virtual && u.backing == t.backing && not (is_input c.chosen level u))
        (tables_of_level v level) t has
        (none_on (beside t.backing) (λ l. refl) v.levels level it.free) in
        gone_is level t ∙ goes level t t.backing none virtual refl))
      where
        kept : (a b d : Bool) → (a ≡ true → b ≡ true → d ≡ true) → (not a || not b || d) ≡ true
        kept true true d f = f refl refl
        kept true false d f = refl
        kept false b d f = refl

    all_v6 : keeps_v6 v base ≡ true
    all_v6 = v6 v base on is ∙ (λ i.
        (all_each (list_all (has_its_backing (backings_after v base))) (λ l ts. new_tables_of_level v base l) 0 v.levels
        ∙ from_each (λ l ts. list_all (has_its_backing (backings_after v base)) (new_tables_of_level v base l)) v.levels (λ j. refl)) i
        && from_each (keep_their_backings base.deleted base.removed) v.levels keeps_here i)

    orphans_here : (level : ℕ) → orphan_no_backing v.levels base.deleted base.removed (news v base) level (tables_of_level v level) ≡ true
    orphans_here level = all_from (orphans_no_backing v.levels base.deleted base.removed (news v base) level) (tables_of_level v level)
        (λ t has.
        shown_or_listed t.is_virtual (is_gone base.deleted level t) (is_listed base.removed t.backing)
        (is_shown_by (news v base) t.backing)
        (any_level (is_still_shown base.deleted t.backing) 0 v.levels) (λ virtual.
        let backed = all_of (has_its_backing v.backings) (tables_of_level v level) t
        (test_on (has_its_backing v.backings) v.levels level
        (sym (list_all_flattened (has_its_backing v.backings) v.levels) ∙ is.backed)) has in
        let stood : has_backing v.backings t.backing ≡ true = ap (λ b. not b || has_backing v.backings t.backing) (sym virtual) ∙ backed in
        either (is_shown_beside v c.chosen t.backing) (λ none.
        ap (λ ns. is_listed ns t.backing) free ∙ removed_are (is_shown_beside v c.chosen) v.backings t.backing stood none)
        (still_is t.backing)))
      where
        shown_or_listed : (a g r s d : Bool) → (a ≡ true → (r ≡ true) ⊎ (d ≡ true)) → (not a || not g || r || (s || d)) ≡ true
        shown_or_listed false g r s d f = refl
        shown_or_listed true false r s d f = refl
        shown_or_listed true true true s d f = refl
        shown_or_listed true true false true d f = refl
        shown_or_listed true true false false d f = elim (f refl) [ inl bad ↦ cc | inr e ↦ e ]

        either : (b : Bool) {r d : Bool} → (b ≡ false → r ≡ true) → d ≡ b → (r ≡ true) ⊎ (d ≡ true)
        either true f same = inr same
        either false f same = inl (f refl)

    all_v7 : keeps_v7 v base ≡ true
    all_v7 = v7 v base is on ∙ (λ i.
        (ap (list_all (has_backing v.backings)) free ∙ all_from (has_backing v.backings) (freed v c.chosen) (λ n has.
        let listed = any_of (λ m. m == n) (freed v c.chosen) n has (eq-eqb n n refl) in
        let it = of_removed (is_shown_beside v c.chosen) v.backings n listed in it.stood)) i
        && true
        && from_each (orphan_no_backing v.levels base.deleted base.removed (news v base)) v.levels orphans_here i)

    module _ (begun : v.five.format ≢ 0) where
      all_v8 : keeps_v8 v base ≡ true
      all_v8 = same_five v.five.accepted v.five.next v.five.flushed v.five.format v.five.log
          (begun_fits v.five.format (nat_le v.five.flushed v.five.accepted && nat_lt v.five.log v.five.next && v.five.format == 1) begun is.fits)

      fewer : (k : ℕ) (ls : List (List TableView)) → length (flattened (each_level (others v c) k ls)) ≤ length (flattened ls)
      fewer k [] = omega arith
      fewer k (ts ∷ ls) = omega (
        arith,
        ap length (flattened_cons (others v c k ts) (each_level (others v c) (k + 1) ls)),
        length-append (others v c k ts) (flattened (each_level (others v c) (k + 1) ls)),
        filter_fewer (λ t. not (is_input c.chosen k t)) ts,
        fewer (k + 1) ls,
        ap length (flattened_cons ts ls),
        length-append ts (flattened ls),
      )

      all_v9 : keeps_v9 v base ≡ true
      unfolding edited
      all_v9 = few_still (length (all_tables v)) (length (flattened (each_level (level_after v base) 0 v.levels))) is.few
          (subst (λ ls. length (flattened ls) ≤ length (all_tables v)) (sym (no_new_levels 0 v.levels)) (fewer 0 v.levels))

      -- V2, V3 and V5 speak of what is new
      pub unbroken : first_broken v base ≡ None
      unfolding first_broken
      unbroken = λ i.
          cond (not (all_v1 i)) (Some V1)
          (cond (not (all_v4 i)) (Some V4)
          (cond (not (all_v6 i)) (Some V6)
          (cond (not (all_v7 i)) (Some V7)
          (cond (not (all_v8 i)) (Some V8)
          (cond (not (all_v9 i)) (Some V9) None)))))
