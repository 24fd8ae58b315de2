-- No table after a compaction has the number of an input.
use Rattle.std.proofs.Common.{◌≡◌, ℕ, ◌+◌, zero, suc, List, [], ◌∷◌, ◌++◌, Bool, true, false, refl, ap, sym, ◌∙◌, subst, arith, inl, inr, eq-eqb}
use Rattle.std.specs.Prelude.{◌⊎◌, not, ◌&&◌, ◌||◌, ◌==◌, map, slice_index_or, All, Contains}
use Rattle.std.specs.List.{list_any, list_all}
use Rattle.pb_version.specs.Version.{TableView, VersionView, tables_of_level, all_tables, flattened}
use Rattle.pb_version.specs.Edited.{comes_before, each_level, level_after, new_tables_of_level, physical_table, staying}
use Rattle.pb_version.specs.Rules.{each_pair, has_number}
use Rattle.pb_version.specs.State.{other_number}
use Rattle.pb_version.proofs.Lists.{left, right, same_number, list_any_all_placed}
use Rattle.pb_version.proofs.Levels.{flattened_cons}
use Rattle.pb_version.proofs.SnapshotSpelling.{pairs_back}
use Rattle.pb_compact.specs.Chosen.{Fits}
use Rattle.pb_compact.specs.Compacted.{OutputView, CompactionView, AreInPlace, MayInstall, is_input, output_item, compacted}
use Rattle.pb_compact.proofs.LevelsAfter.{new_of, others, edit, staying_are, new_here, new_elsewhere, levels_are}
use Rattle.pb_compact.proofs.Members.{In, found, in_list, every, for_each, any_of, all_of, of_map, of_filter, in_first, in_second}

-- ---- a level of what is made level by level

each_on : (f : ℕ → List TableView → List TableView) (k : ℕ) (ls : List (List TableView)) (level : ℕ) →
    (slice_index_or (each_level f k ls) level [] ≡ f (k + level) (slice_index_or ls level [])) ⊎ (slice_index_or
    (each_level f k ls) level [] ≡ [])
each_on f k [] level = inr refl
each_on f k (ts ∷ ls) zero = let same : k ≡ k + 0 = omega arith in inl (ap (λ n. f n ts) same)
each_on f k (ts ∷ ls) (suc level) =
    let same : k + 1 + level ≡ k + suc level = omega arith in
    elim (each_on f (k + 1) ls level) [
      | inl is ↦ inl (is ∙ ap (λ n. f n (slice_index_or ls level [])) same)
      | inr none ↦ inr none
    ]

on_level : (f : ℕ → List TableView → List TableView) (ls : List (List TableView)) (level : ℕ) →
    (slice_index_or (each_level f 0 ls) level [] ≡ f level (slice_index_or ls level [])) ⊎ (slice_index_or (each_level f 0 ls) level []
    ≡ [])
on_level f ls level =
    let same : 0 + level ≡ level = omega arith in
    elim (each_on f 0 ls level) [
      | inl is ↦ inl (is ∙ ap (λ n. f n (slice_index_or ls level [])) same)
      | inr none ↦ inr none
    ]

-- ---- numbers on two levels

pub in_flattened : (ls : List (List TableView)) (level : ℕ) (t : TableView) → In (slice_index_or ls level []) t → In (flattened ls) t
in_flattened [] level t has = has
in_flattened (ts ∷ ls) zero t has = subst (λ us. In us t) (sym (flattened_cons ts ls)) (in_first ts (flattened ls) t has)
in_flattened (ts ∷ ls) (suc level) t has =
    subst (λ us. In us t) (sym (flattened_cons ts ls)) (in_second ts (flattened ls) t (in_flattened ls level t has))

across : {X : Type 0} (r : X → X → Bool) (xs ys : List X) (x y : X) → each_pair r (xs ++ ys) ≡ true → In xs x → In ys y → r x y ≡ true
across r [] ys x y e in_x in_y = absurd in_x
across r (z ∷ zs) ys x y e (inl same) in_y =
    sym (ap (λ w. r w y) same) ∙ all_of (r z) (zs ++ ys) y (left (list_all (r z) (zs ++ ys)) (each_pair r (zs ++ ys)) e)
    (in_second zs ys y in_y)
across r (z ∷ zs) ys x y e (inr later) in_y = across r zs ys x y (right (list_all (r z) (zs ++ ys)) (each_pair r (zs ++ ys)) e) later in_y

turn_number : (t u : TableView) → (t.number == u.number) ≡ true → (u.number == t.number) ≡ true
turn_number t u e = eq-eqb u.number t.number (sym (same_number t.number u.number e))

not_other : (t u : TableView) → other_number t u ≡ true → (t.number == u.number) ≡ true → ⊥
not_other t u other same = let bad : not true ≡ true = sym (ap not (turn_number t u same)) ∙ other in cc

-- tables on different levels have different numbers
pub one_level : (ls : List (List TableView)) (a b : ℕ) (t u : TableView) → each_pair other_number (flattened ls) ≡ true →
    In (slice_index_or ls a []) t → In (slice_index_or ls b []) u → (t.number == u.number) ≡ true → a ≡ b
one_level [] a b t u e in_t in_u same = absurd in_t
one_level (ts ∷ ls) zero zero t u e in_t in_u same = refl
one_level (ts ∷ ls) zero (suc b) t u e in_t in_u same =
    absurd (not_other t u (across other_number ts (flattened ls) t u (sym (ap (each_pair other_number) (flattened_cons ts ls)) ∙ e) in_t
    (in_flattened ls b u in_u)) same)
one_level (ts ∷ ls) (suc a) zero t u e in_t in_u same =
    absurd (not_other u t (across other_number ts (flattened ls) u t (sym (ap (each_pair other_number) (flattened_cons ts ls)) ∙ e) in_u
    (in_flattened ls a t in_t)) (turn_number t u same))
one_level (ts ∷ ls) (suc a) (suc b) t u e in_t in_u same =
    ap suc (one_level ls a b t u (pairs_back other_number ts (flattened ls)
    (sym (ap (each_pair other_number) (flattened_cons ts ls)) ∙ e)) in_t in_u same)

-- ---- the levels after a compaction

pub none_passes : {X : Type 0} (p : X → Bool) (xs : List X) → ((x : X) → In xs x → p x ≡ true → ⊥) → list_any p xs ≡ false
none_passes p xs none =
    elim (list_any p xs) as (λ b. list_any p xs ≡ b → b ≡ false) [
      | true ↦ λ e. let it = found p xs e in absurd (none it.item it.is_in it.passes)
      | false ↦ λ _. refl
    ] refl

module _ (v : VersionView) (c : CompactionView) (place : AreInPlace v) (fits : Fits v c.chosen) (may : MayInstall v c)
    (input : ℕ × TableView) (is_in : In c.chosen.inputs input) where
  stood : In (tables_of_level v input.0) input.1
  stood = in_list (tables_of_level v input.0) input.1
      (every (λ (i : ℕ × TableView). Contains (tables_of_level v i.0) i.1) c.chosen.inputs input fits.stand is_in)

  -- its number is no output's
  not_new : has_number (new_of c) input.1.number ≡ false
  not_new = none_passes (λ (t : TableView). t.number == input.1.number) (new_of c) (λ t has same.
      let item = of_map physical_table (map (output_item (c.chosen.level + 1)) c.outputs) t has in
      let it = of_map (output_item (c.chosen.level + 1)) c.outputs item.item item.is_in in
      let number : input.1.number ≡ it.item.number =
      sym (same_number t.number input.1.number same) ∙ sym (ap (λ (u : TableView). u.number) (ap physical_table it.image ∙ item.image)) in
      let fresh = all_of (λ (o : OutputView). not (has_number (all_tables v) o.number)) c.outputs it.item may.tables it.is_in in
      let used : has_number (all_tables v) it.item.number ≡ true =
      any_of (λ (u : TableView). u.number == it.item.number) (all_tables v) input.1 (in_flattened v.levels input.0 input.1 stood)
      (eq-eqb input.1.number it.item.number number) in
      let bad : not true ≡ true = sym (ap not used) ∙ fresh in cc)

  not_new_on : (level : ℕ) → has_number (new_tables_of_level v (edit v c) level) input.1.number ≡ false
  not_new_on level =
      elim (c.chosen.level + 1 == level) as (λ b. (c.chosen.level + 1 == level) ≡ b →
      has_number (new_tables_of_level v (edit v c) level) input.1.number ≡ false) [
        | true ↦ λ e. subst (λ l. has_number (new_tables_of_level v (edit v c) l) input.1.number ≡ false)
            (same_number (c.chosen.level + 1) level e)
            (ap (λ ts. has_number ts input.1.number) (new_here v c) ∙ not_new)
        | false ↦ λ e. ap (λ ts. has_number ts input.1.number) (new_elsewhere v c level e)
      ] refl

  gone_from : (level : ℕ) → has_number (others v c level (tables_of_level v level)) input.1.number ≡ false
  gone_from level = none_passes (λ (t : TableView). t.number == input.1.number) (others v c level (tables_of_level v level)) (λ t has same.
      let both = of_filter (λ (u : TableView). not (is_input c.chosen level u)) (tables_of_level v level) t has in
      let here : level ≡ input.0 = one_level v.levels level input.0 t input.1 place.numbered both.is_in stood same in
      let is : is_input c.chosen level t ≡ true =
      any_of (λ (i : ℕ × TableView). i.0 == level && i.1.number == t.number) c.chosen.inputs input is_in
      (λ i. eq-eqb input.0 level (sym here) i && turn_number t input.1 same i) in
      let bad : not true ≡ true = sym (ap not is) ∙ both.passes in cc)

  gone_after : (level : ℕ) → has_number (level_after v (edit v c) level (tables_of_level v level)) input.1.number ≡ false
  gone_after level =
      list_any_all_placed (λ (t : TableView). t.number == input.1.number) (comes_before level) (new_tables_of_level v (edit v c) level)
      (staying (edit v c) level (tables_of_level v level))
      ∙ (λ i. not_new_on level i || (ap (λ ts. has_number ts input.1.number) (staying_are v c level (tables_of_level v level))
      ∙ gone_from level) i)

  pub gone_everywhere : (level : ℕ) → has_number (tables_of_level (compacted v c) level) input.1.number ≡ false
  gone_everywhere level =
      ap (λ ls. has_number (slice_index_or ls level []) input.1.number) (levels_are v c)
      ∙ elim (on_level (level_after v (edit v c)) v.levels level) [
        | inl is ↦ ap (λ ts. has_number ts input.1.number) is ∙ gone_after level
        | inr none ↦ ap (λ ts. has_number ts input.1.number) none
      ]

pub none_left : (v : VersionView) (c : CompactionView) → AreInPlace v → Fits v c.chosen → MayInstall v c → (level : ℕ) →
    All (λ input. has_number (tables_of_level (compacted v c) level) input.1.number ≡ false) c.chosen.inputs
none_left v c place fits may level = for_each
    (λ (input : ℕ × TableView). has_number (tables_of_level (compacted v c) level) input.1.number ≡ false)
    c.chosen.inputs (λ input has. gone_everywhere v c place fits may input has level)
