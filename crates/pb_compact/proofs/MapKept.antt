-- The map after a compaction is the map before, key by key: levels above say what they said, the inputs' say stands in the outputs, and
-- what was deleted and is dropped is absent below.
use Rattle.std.proofs.Common.{◌≡◌, ℕ, ◌+◌, ◌<◌, ◌≤◌, zero, suc, List, [], ◌∷◌, ◌++◌, length, Bool, true, false, cond, drop, refl, ap, sym, ◌∙◌, subst, arith, inl, inr}
use Rattle.std.proofs.lemmas.Bool.{not-true}
use Rattle.std.proofs.lemmas.Bool.Decides.{nat_tests}
use Rattle.std.proofs.lemmas.List.{drop_more, get_or-drop}
use Rattle.std.specs.Prelude.{◌⊎◌, not, ◌&&◌, ◌||◌, ◌==◌, nat_lt, map, filter, slice_index_or, Some, None, All, Contains, unwrap_or}
use Rattle.std.specs.List.{list_all}
use Rattle.std.specs.Option.{option_or}
use Rattle.std.specs.FinMap.{empty, get, get-empty}
use Rattle.pb_keys.specs.Key.{key_cmp}
use Rattle.pb_keys.specs.Map.{Map}
use Rattle.pb_keys.specs.Span.{holds_key, overlap}
use Rattle.pb_keys.specs.View.{IsView, is_view}
use Rattle.pb_keys.proofs.Forms.{view_says}
use Rattle.pb_keys.proofs.MapFacts.{same_pairs}
use Rattle.pb_keys.proofs.SpanFacts.{overlap_turns}
use Rattle.pb_keys.proofs.Tests.{second_is_false}
use Rattle.pb_rows.specs.Layer.{KeyLayer}
use Rattle.pb_rows.specs.Verdict.{Verdict}
use Rattle.pb_rows.proofs.VerdictLaws.{get-applied_newest_first}
use Rattle.pb_rows.proofs.ViewLaws.{holds-apart}
use Rattle.pb_version.specs.Version.{TableView, VersionView, tables_of_level, all_tables}
use Rattle.pb_version.specs.Edited.{comes_before, starts_below, each_level, level_after, physical_table}
use Rattle.pb_version.specs.InTurn.{tables_say, levels_say}
use Rattle.pb_version.specs.Meaning.{layer_of_table, map_of}
use Rattle.pb_version.specs.Rules.{each_pair, are_apart, are_all_apart, has_no_parts, is_plain_view}
use Rattle.pb_version.specs.State.{other_number}
use Rattle.pb_version.proofs.InTurn.{levels_in_turn, none_says}
use Rattle.pb_version.proofs.Levels.{list_all_flattened, test_on}
use Rattle.pb_version.proofs.Lists.{left, same_number}
use Rattle.pb_version.proofs.MeaningLaws.{map_of-newest_first}
use Rattle.pb_version.proofs.OnTop.{all_append}
use Rattle.pb_compact.specs.Laws.{value_alone}
use Rattle.pb_compact.specs.Chosen.{AreInTurn, Fits, IsInput, IsBesideAll, IsNewerThanAll}
use Rattle.pb_compact.specs.Compacted.{CompactionView, AreInPlace, HoldsMerged, input_tables, is_input, judged, output_hull, output_hulls, output_item, compacted}
use Rattle.pb_compact.proofs.Chosen.{first_numbers, second_numbers, tables_are, first_is_input, second_is_input, is_input_of, one_number, picked, no_input_elsewhere}
use Rattle.pb_compact.proofs.Judging.{out_of_the_way}
use Rattle.pb_compact.proofs.LevelsAfter.{on_each, numbered_on, levels_same, new_of, others, edit, level_without, level_with_new, level_elsewhere, levels_are}
use Rattle.pb_compact.proofs.Members.{In, found, in_list, every, for_each, all_of, all_from, into_map, of_map, of_filter, in_first, in_second, pairs_give}
use Rattle.pb_compact.proofs.Says.{is_beside, may_part, parts_say, all_placed_say, held_or_not, HoldsIt}
use Rattle.pb_compact.proofs.Written.{new_beside, kept_say, values_are_said}

-- ---- verdicts

-- deletions are kept: what the inputs say moves from two levels to one
moves : (a f s b d : Verdict) → option_or (option_or a f) (option_or (option_or s b) d)
    ≡ option_or a (option_or (option_or (option_or f s) b) d)
moves (Some said) f s b d = refl
moves None (Some said) s b d = refl
moves None None s b d = refl

-- deletions are dropped, and nothing else is said on the next level or below
drops : (a f s : Verdict) → unwrap_or (option_or (option_or a f) (option_or (option_or s None) None)) None
    ≡ unwrap_or (option_or a (option_or (option_or (value_alone (option_or f s)) None) None)) None
drops (Some said) f s = refl
drops None (Some None) s = refl
drops None (Some (Some value)) s = refl
drops None None (Some None) = refl
drops None None (Some (Some value)) = refl
drops None None None = refl

-- the inputs say nothing
says_none : (a b d : Verdict) → option_or (option_or a None) (option_or (option_or None b) d)
    ≡ option_or a (option_or (option_or (value_alone None) b) d)
says_none (Some said) b d = refl
says_none None b d = refl

under : (a b c : Verdict) → unwrap_or b None ≡ unwrap_or c None → unwrap_or (option_or a b) None ≡ unwrap_or (option_or a c) None
under (Some said) b c same = refl
under None b c same = same

-- ---- the tables of both levels

not_not : (b : Bool) → not (not b) ≡ b
not_not true = refl
not_not false = refl

others_clear : (a b c : Bool) → (a ≡ true → b ≡ false → c ≡ true) → ((not a || not (not b)) || c) ≡ true
others_clear true true c f = refl
others_clear true false c f = f refl refl
others_clear false b c f = refl

inputs_clear : (a b c : Bool) → (a ≡ false → b ≡ true → c ≡ true) → ((a || not b) || c) ≡ true
inputs_clear true b c f = refl
inputs_clear false true c f = f refl refl
inputs_clear false false c f = refl

not_newer : (m n : ℕ) (b : Bool) → (nat_lt n m || (n == m && b)) ≡ true → m < n → ⊥
not_newer m n b e h = grind (arith, nat_tests)

next_deep : (n : ℕ) → (n + 1 == 0) ≡ false
next_deep n = grind (arith, nat_tests)

below_next : (k n : ℕ) → k < n → (n == k) ≡ false
below_next k n h = grind (arith, nat_tests)

below_second : (k n : ℕ) → k < n → (n + 1 == k) ≡ false
below_second k n h = grind (arith, nat_tests)

above_first : (n level : ℕ) → n + 2 ≤ level → (n == level) ≡ false
above_first n level h = grind (arith, nat_tests)

above_second : (n level : ℕ) → n + 2 ≤ level → (n + 1 == level) ≡ false
above_second n level h = grind (arith, nat_tests)

next_differs : (n : ℕ) → (n + 1 == n) ≡ false
next_differs n = grind (arith, nat_tests)

module _ (v : VersionView) (c : CompactionView) (place : AreInPlace v) (fits : Fits v c.chosen) where
  abbrev first_level : ℕ
  first_level = c.chosen.level

  abbrev turn : AreInTurn c.chosen
  turn = fits.in_turn

  pub apart_on : (level : ℕ) → are_all_apart level (tables_of_level v level) ≡ true
  apart_on level = on_each are_all_apart (λ l. refl) v.levels level place.apart

  pub sorted_on : (level : ℕ) → each_pair (comes_before level) (tables_of_level v level) ≡ true
  sorted_on level = on_each (λ l ts. each_pair (comes_before l) ts) (λ l. refl) v.levels level place.sorted

  pub own_numbers : (level : ℕ) → each_pair other_number (tables_of_level v level) ≡ true
  own_numbers level = numbered_on v.levels level place.numbered

  pub stands : (level : ℕ) (t : TableView) → In c.chosen.inputs (level, t) → In (tables_of_level v level) t
  stands level t has = in_list (tables_of_level v level) t
      (every (λ (i : ℕ × TableView). Contains (tables_of_level v i.0) i.1) c.chosen.inputs (level, t) fits.stand has)

  -- the inputs' views are in form, as all of the version
  pub input_views : All (λ t. IsView t.view) (input_tables c.chosen)
  input_views = for_each (λ t. IsView t.view) (input_tables c.chosen) (λ t has.
      let it = of_map (λ (i : ℕ × TableView). i.1) c.chosen.inputs t has in
      let plain = all_of (λ (u : TableView). is_plain_view u.view) (tables_of_level v it.item.0) it.item.1
      (test_on (λ (u : TableView). is_plain_view u.view) v.levels it.item.0
      (sym (list_all_flattened (λ (u : TableView). is_plain_view u.view) v.levels) ∙ place.views)) (stands it.item.0 it.item.1 it.is_in) in
      subst (λ (u : TableView). IsView u.view) it.image
      (view_says it.item.1.view (left (is_view it.item.1.view) (has_no_parts it.item.1.view) plain)))

  pub firsts_picked : filter (λ t. is_input c.chosen first_level t) (tables_of_level v first_level) ≡ turn.firsts
  firsts_picked =
      ap (λ p. filter p (tables_of_level v first_level)) (λ i t. first_numbers c.chosen turn t i)
      ∙ picked first_level turn.firsts (tables_of_level v first_level) turn.first_order (sorted_on first_level) (own_numbers first_level)
      (λ t has. stands first_level t (first_is_input c.chosen turn t has))

  pub seconds_picked : filter (λ t. is_input c.chosen (first_level + 1) t) (tables_of_level v (first_level + 1)) ≡ turn.seconds
  seconds_picked =
      ap (λ p. filter p (tables_of_level v (first_level + 1))) (λ i t. second_numbers c.chosen turn t i)
      ∙ picked (first_level + 1) turn.seconds (tables_of_level v (first_level + 1)) turn.second_order (sorted_on (first_level + 1))
      (own_numbers (first_level + 1))
      (λ t has. stands (first_level + 1) t (second_is_input c.chosen turn t has))

  first_of : (t : TableView) → In (tables_of_level v first_level) t → is_input c.chosen first_level t ≡ true → In turn.firsts t
  first_of t has input =
      let it = found (λ (u : TableView). u.number == t.number) turn.firsts (sym (first_numbers c.chosen turn t) ∙ input) in
      subst (In turn.firsts) (one_number (tables_of_level v first_level) it.item t (own_numbers first_level)
      (stands first_level it.item (first_is_input c.chosen turn it.item it.is_in)) has it.passes)
      it.is_in

  -- on level 0 no other table comes behind an input
  newer : (t u : TableView) → first_level ≡ 0 → In (tables_of_level v first_level) t → In (tables_of_level v first_level) u →
      is_input c.chosen first_level t ≡ true → is_input c.chosen first_level u ≡ false →
      t.rank < u.rank
  newer t u zero_is in_t in_u input other =
      elim (every (λ w. IsInput c.chosen 0 w ⊎ IsNewerThanAll c.chosen w) (tables_of_level v 0) u (fits.newest zero_is)
      (subst (λ l. In (tables_of_level v l) u) zero_is in_u)) [
        | inl is ↦
            let bad : true ≡ false = sym (is_input_of c.chosen 0 u is) ∙ ap (λ l. is_input c.chosen l u) (sym zero_is) ∙ other in cc
        | inr above ↦ every (λ (i : ℕ × TableView). i.0 ≡ 0 → i.1.rank < u.rank) c.chosen.inputs (first_level, t) above
            (first_is_input c.chosen turn t (first_of t in_t input)) zero_is
      ]

  beside_here : (t u : TableView) → In (tables_of_level v first_level) t → In (tables_of_level v first_level) u →
      are_apart first_level t u ≡ true → comes_before first_level t u ≡ true →
      is_input c.chosen first_level t ≡ true → is_input c.chosen first_level u ≡ false → is_beside t u ≡ true
  beside_here t u in_t in_u apart before input other =
      elim (first_level == 0) as (λ z. (first_level == 0) ≡ z → ((z && not (t.rank == u.rank)) || is_beside t u) ≡ true →
      cond z (nat_lt u.rank t.rank || (u.rank == t.rank && starts_below t u)) (starts_below t u) ≡ true → is_beside t u ≡ true) [
        | true ↦ λ e _ first. absurd (not_newer t.rank u.rank (starts_below t u) first
            (newer t u (same_number first_level 0 e) in_t in_u input other))
        | false ↦ λ _ clear _. clear
      ] refl apart before

  pub may_part_first : each_pair (may_part (λ t. not (is_input c.chosen first_level t))) (tables_of_level v first_level) ≡ true
  may_part_first = pairs_give (are_apart first_level) (comes_before first_level) (may_part (λ t. not (is_input c.chosen first_level t)))
      (tables_of_level v first_level)
      (λ t u in_t in_u apart before. others_clear (is_input c.chosen first_level t) (is_input c.chosen first_level u) (is_beside t u)
      (beside_here t u in_t in_u apart before))
      (apart_on first_level) (sorted_on first_level)

  next_beside : (t u : TableView) → are_apart (first_level + 1) t u ≡ true → is_beside t u ≡ true
  next_beside t u apart = ap (λ b. (b && not (t.rank == u.rank)) || is_beside t u) (sym (next_deep first_level)) ∙ apart

  pub may_part_second : each_pair (may_part (λ t. is_input c.chosen (first_level + 1) t)) (tables_of_level v (first_level + 1)) ≡ true
  may_part_second = pairs_give (are_apart (first_level + 1)) (are_apart (first_level + 1))
      (may_part (λ t. is_input c.chosen (first_level + 1) t)) (tables_of_level v (first_level + 1))
      (λ t u _ _ apart _. inputs_clear (is_input c.chosen (first_level + 1) t) (is_input c.chosen (first_level + 1) u) (is_beside t u)
      (λ _ _. next_beside t u apart))
      (apart_on (first_level + 1)) (apart_on (first_level + 1))

  -- the new tables are beside those of their level that stay
  pub new_clear : judged v c.chosen (output_hulls c) ≡ None →
      list_all (λ t. list_all (is_beside t) (others v c (first_level + 1) (tables_of_level v (first_level + 1)))) (new_of c) ≡ true
  new_clear well = all_from (λ t. list_all (is_beside t) (others v c (first_level + 1) (tables_of_level v (first_level + 1)))) (new_of c)
      (λ t has.
      let item = of_map physical_table (map (output_item (first_level + 1)) c.outputs) t has in
      let it = of_map (output_item (first_level + 1)) c.outputs item.item item.is_in in
      all_from (is_beside t) (others v c (first_level + 1) (tables_of_level v (first_level + 1))) (λ u in_u.
      let both = of_filter (λ w. not (is_input c.chosen (first_level + 1) w)) (tables_of_level v (first_level + 1)) u in_u in
      let clear : overlap u.view.bounds (output_hull it.item) ≡ false =
      out_of_the_way v c.chosen (output_hulls c) well u both.is_in (not-true (is_input c.chosen (first_level + 1) u) both.passes)
      (output_hull it.item)
      (into_map output_hull c.outputs it.item it.is_in) in
      subst (λ w. is_beside w u ≡ true) (ap physical_table it.image ∙ item.image)
      (ap not (overlap_turns (output_hull it.item) u.view.bounds ∙ clear))))

  module _ (well : judged v c.chosen (output_hulls c) ≡ None) (layers : ℕ → KeyLayer) (holds : HoldsMerged layers c) (key : List ℕ) where
    abbrev say : List TableView → Verdict
    say ts = tables_say layers ts key

    abbrev first_others : Verdict
    first_others = say (others v c first_level (tables_of_level v first_level))

    abbrev second_others : Verdict
    second_others = say (others v c (first_level + 1) (tables_of_level v (first_level + 1)))

    first_says : say (tables_of_level v first_level) ≡ option_or first_others (say turn.firsts)
    first_says =
        parts_say layers key (λ t. not (is_input c.chosen first_level t)) (tables_of_level v first_level) may_part_first
        ∙ ap (λ p. option_or first_others (say (filter p (tables_of_level v first_level))))
        (λ i t. not_not (is_input c.chosen first_level t) i)
        ∙ ap (λ ts. option_or first_others (say ts)) firsts_picked

    second_says : say (tables_of_level v (first_level + 1)) ≡ option_or (say turn.seconds) second_others
    second_says =
        parts_say layers key (λ t. is_input c.chosen (first_level + 1) t) (tables_of_level v (first_level + 1)) may_part_second
        ∙ ap (λ ts. option_or (say ts) second_others) seconds_picked

    first_then : say (level_after v (edit v c) first_level (tables_of_level v first_level)) ≡ first_others
    first_then = ap say (level_without v c first_level (tables_of_level v first_level) (next_differs first_level))

    second_then : say (level_after v (edit v c) (first_level + 1) (tables_of_level v (first_level + 1)))
        ≡ option_or (say (new_of c)) second_others
    second_then =
        ap say (level_with_new v c (tables_of_level v (first_level + 1)))
        ∙ all_placed_say layers key (first_level + 1) (new_of c) (others v c (first_level + 1) (tables_of_level v (first_level + 1)))
        (new_beside layers c input_views holds) (new_clear well)

    inputs_are : say (input_tables c.chosen) ≡ option_or (say turn.firsts) (say turn.seconds)
    inputs_are = ap say (tables_are c.chosen turn) ∙ all_append layers key turn.firsts turn.seconds

    -- ---- where deletions are dropped and an input's bounds hold the key

    abbrev Outside : TableView → Type 0
    Outside t = holds_key t.view.bounds key ≡ false

    outside : (t i : TableView) → holds_key i.view.bounds key ≡ true → overlap t.view.bounds i.view.bounds ≡ false → Outside t
    outside t i held apart =
        second_is_false (holds_key i.view.bounds key) (holds_key t.view.bounds key)
        (holds-apart i.view.bounds t.view.bounds key (overlap_turns i.view.bounds t.view.bounds ∙ apart)) held

    module _ (dropped : c.chosen.keeps_deletions ≡ false) (held : HoldsIt layers key (input_tables c.chosen)) where
      other_outside : (level : ℕ) → first_level < level → (t : TableView) → In (tables_of_level v level) t →
          is_input c.chosen level t ≡ false → Outside t
      other_outside level deeper t has other =
          elim (every (λ w. IsInput c.chosen level w ⊎ IsBesideAll c.chosen w) (tables_of_level v level) t
          (fits.clear dropped level deeper) has) [
            | inl is ↦ let bad : true ≡ false = sym (is_input_of c.chosen level t is) ∙ other in cc
            | inr clear ↦
                let it = of_map (λ (i : ℕ × TableView). i.1) c.chosen.inputs held.table held.is_in in
                outside t held.table held.holds
                (subst (λ (w : TableView). overlap t.view.bounds w.view.bounds ≡ false) it.image
                (every (λ (i : ℕ × TableView). overlap t.view.bounds i.1.view.bounds ≡ false) c.chosen.inputs it.item clear it.is_in))
          ]

      next_is_silent : second_others ≡ None
      next_is_silent = none_says layers key (others v c (first_level + 1) (tables_of_level v (first_level + 1)))
          (for_each Outside (others v c (first_level + 1) (tables_of_level v (first_level + 1))) (λ t has.
          let both = of_filter (λ w. not (is_input c.chosen (first_level + 1) w)) (tables_of_level v (first_level + 1)) t has in
          other_outside (first_level + 1) (omega arith) t both.is_in (not-true (is_input c.chosen (first_level + 1) t) both.passes)))

      level_silent : (level : ℕ) → first_level + 2 ≤ level → All Outside (tables_of_level v level)
      level_silent level deep = for_each Outside (tables_of_level v level) (λ t has.
          other_outside level (omega arith) t has (no_input_elsewhere c.chosen turn level t (above_first first_level level deep)
          (above_second first_level level deep)))

      deeper_are_silent : levels_say layers (drop (first_level + 2) v.levels) key ≡ None
      deeper_are_silent = levels_silent (drop (first_level + 2) v.levels) (λ j.
          subst (All Outside) (sym (get_or-drop (first_level + 2) v.levels j [])) (level_silent (first_level + 2 + j) (omega arith)))
        where
          levels_silent : (ls : List (List TableView)) → ((j : ℕ) → All Outside (slice_index_or ls j [])) → levels_say layers ls key ≡ None
          levels_silent [] all = refl
          levels_silent (ts ∷ ls) all =
              (λ i. option_or (none_says layers key ts (all 0) i) (levels_say layers ls key))
              ∙ levels_silent ls (λ j. all (suc j))

    -- ---- both levels and those below

    abbrev below_say : Verdict
    below_say = levels_say layers (drop (first_level + 2) v.levels) key

    abbrev before : Verdict
    before = option_or (say (tables_of_level v first_level)) (option_or (say (tables_of_level v (first_level + 1))) below_say)

    abbrev after : Verdict
    after = option_or (say (level_after v (edit v c) first_level (tables_of_level v first_level)))
        (option_or (say (level_after v (edit v c) (first_level + 1) (tables_of_level v (first_level + 1)))) below_say)

    before_is : before ≡ option_or (option_or first_others (say turn.firsts))
        (option_or (option_or (say turn.seconds) second_others) below_say)
    before_is = λ i. option_or (first_says i) (option_or (second_says i) below_say)

    after_is : (o : Verdict) → say (new_of c) ≡ o → after ≡ option_or first_others (option_or (option_or o second_others) below_say)
    after_is o is = λ i. option_or (first_then i) (option_or ((second_then ∙ ap (λ w. option_or w second_others) is) i) below_say)

    with_deletions : c.chosen.keeps_deletions ≡ true → before ≡ after
    with_deletions keeps =
        before_is ∙ moves first_others (say turn.firsts) (say turn.seconds) second_others below_say
        ∙ sym (after_is (option_or (say turn.firsts) (say turn.seconds)) (kept_say layers c input_views holds key keeps ∙ inputs_are))

    module _ (dropped : c.chosen.keeps_deletions ≡ false) where
      values : say (new_of c) ≡ value_alone (say (input_tables c.chosen))
      values = values_are_said layers c input_views holds key dropped

      where_held : HoldsIt layers key (input_tables c.chosen) → unwrap_or before None ≡ unwrap_or after None
      where_held held =
          let none = next_is_silent dropped held in
          let below = deeper_are_silent dropped held in
          ap (λ o. unwrap_or o None) before_is
          ∙ (λ i. unwrap_or (option_or (option_or first_others (say turn.firsts))
          (option_or (option_or (say turn.seconds) (none i)) (below i))) None)
          ∙ drops first_others (say turn.firsts) (say turn.seconds)
          ∙ sym (ap (λ o. unwrap_or o None) (after_is (value_alone (option_or (say turn.firsts) (say turn.seconds)))
          (values ∙ ap value_alone inputs_are))
          ∙ (λ i. unwrap_or (option_or first_others
          (option_or (option_or (value_alone (option_or (say turn.firsts) (say turn.seconds))) (none i)) (below i))) None))

      where_not : All Outside (input_tables c.chosen) → before ≡ after
      where_not none =
          let silent = none_says layers key (input_tables c.chosen) none in
          let each = subst (All Outside) (tables_are c.chosen turn) none in
          let firsts = none_says layers key turn.firsts
          (for_each Outside turn.firsts (λ t has. every Outside (turn.firsts ++ turn.seconds) t each
          (in_first turn.firsts turn.seconds t has))) in
          let seconds = none_says layers key turn.seconds
          (for_each Outside turn.seconds (λ t has. every Outside (turn.firsts ++ turn.seconds) t each
          (in_second turn.firsts turn.seconds t has))) in
          before_is
          ∙ (λ i. option_or (option_or first_others (firsts i)) (option_or (option_or (seconds i) second_others) below_say))
          ∙ says_none first_others second_others below_say
          ∙ sym (after_is (value_alone None) (values ∙ ap value_alone silent))

    both_levels : unwrap_or before None ≡ unwrap_or after None
    both_levels =
        elim c.chosen.keeps_deletions as (λ b. c.chosen.keeps_deletions ≡ b → unwrap_or before None ≡ unwrap_or after None) [
          | true ↦ λ keeps. ap (λ o. unwrap_or o None) (with_deletions keeps)
          | false ↦ λ dropped. elim (held_or_not layers key (input_tables c.chosen)) [
            | inl held ↦ where_held dropped held
            | inr none ↦ ap (λ o. unwrap_or o None) (where_not dropped none)
          ]
        ] refl

    -- ---- all levels

    abbrev from : ℕ → List (List TableView)
    from k = drop k v.levels

    deeper_same : each_level (level_after v (edit v c)) (first_level + 2) (from (first_level + 2)) ≡ from (first_level + 2)
    deeper_same = levels_same (level_after v (edit v c)) (first_level + 2) (from (first_level + 2)) (λ level ts deep.
        level_elsewhere v c turn level ts (above_first first_level level deep) (above_second first_level level deep))

    abbrev ls_say : List (List TableView) → Verdict
    ls_say ls = levels_say layers ls key

    module _ (within : first_level + 1 < length v.levels) where
      at_level : unwrap_or (ls_say (each_level (level_after v (edit v c)) first_level (from first_level))) None ≡ unwrap_or
          (ls_say (from first_level)) None
      at_level =
          let first : from first_level ≡ tables_of_level v first_level ∷ from (first_level + 1) = drop_more v.levels first_level []
          (omega arith) in
          let second : from (first_level + 1) ≡ tables_of_level v (first_level + 1) ∷ from (first_level + 1 + 1) = drop_more v.levels
          (first_level + 1) [] within in
          let two : first_level + 1 + 1 ≡ first_level + 2 = omega arith in
          let are : from first_level ≡ tables_of_level v first_level ∷ tables_of_level v (first_level + 1) ∷ from (first_level + 2) =
          first ∙ ap (λ ls. tables_of_level v first_level ∷ ls) (second ∙ ap (λ k. tables_of_level v (first_level + 1) ∷ from k) two) in
          let deeper : each_level (level_after v (edit v c)) (first_level + 1 + 1) (from (first_level + 2)) ≡ from (first_level + 2) =
          ap (λ k. each_level (level_after v (edit v c)) k (from (first_level + 2))) two ∙ deeper_same in
          ap (λ ls. unwrap_or (ls_say (each_level (level_after v (edit v c)) first_level ls)) None) are
          ∙ ap (λ ls. unwrap_or (option_or (say (level_after v (edit v c) first_level (tables_of_level v first_level)))
          (option_or (say (level_after v (edit v c) (first_level + 1) (tables_of_level v (first_level + 1)))) (ls_say ls))) None) deeper
          ∙ sym both_levels
          ∙ sym (ap (λ ls. unwrap_or (ls_say ls) None) are)

      -- from a level that is so many above
      above_level : (n k : ℕ) → k + n ≡ first_level →
          unwrap_or (ls_say (each_level (level_after v (edit v c)) k (from k))) None ≡ unwrap_or (ls_say (from k)) None
      above_level zero k is =
          let same : first_level ≡ k = omega (arith, is) in
          subst (λ m. unwrap_or (ls_say (each_level (level_after v (edit v c)) m (from m))) None ≡ unwrap_or
          (ls_say (from m)) None) same at_level
      above_level (suc n) k is =
          let lower : k < first_level = omega (arith, is) in
          let first : from k ≡ tables_of_level v k ∷ from (k + 1) = drop_more v.levels k [] (omega (arith, lower, within)) in
          let here : level_after v (edit v c) k (tables_of_level v k) ≡ tables_of_level v k =
          level_elsewhere v c turn k (tables_of_level v k) (below_next k first_level lower) (below_second k first_level lower) in
          ap (λ ls. unwrap_or (ls_say (each_level (level_after v (edit v c)) k ls)) None) first
          ∙ ap (λ ts. unwrap_or (option_or (say ts) (ls_say (each_level (level_after v (edit v c)) (k + 1) (from (k + 1))))) None) here
          ∙ under (say (tables_of_level v k)) (ls_say (each_level (level_after v (edit v c)) (k + 1) (from (k + 1))))
          (ls_say (from (k + 1)))
          (above_level n (k + 1) (omega (arith, is)))
          ∙ sym (ap (λ ls. unwrap_or (ls_say ls) None) first)

      pub same_at_key : unwrap_or (ls_say (each_level (level_after v (edit v c)) 0 v.levels)) None ≡ unwrap_or (ls_say v.levels) None
      same_at_key = above_level first_level 0 (omega arith)

-- ---- the map

abbrev nothing : Map
nothing = empty

says_at : (v : VersionView) (layers : ℕ → KeyLayer) (key : List ℕ) →
    get (map_of v layers) key ≡ unwrap_or (levels_say layers v.levels key) None
says_at v layers key =
    ap (λ m. get m key) (map_of-newest_first v layers)
    ∙ get-applied_newest_first (map (layer_of_table layers) (all_tables v)) nothing key
    ∙ (λ i. unwrap_or (levels_in_turn v layers key i) (get-empty key_cmp key i))

pub map_kept : (v : VersionView) (c : CompactionView) (layers : ℕ → KeyLayer) → AreInPlace v → c.chosen.level + 1 < length v.levels →
    Fits v c.chosen →
    judged v c.chosen (output_hulls c) ≡ None → HoldsMerged layers c → map_of (compacted v c) layers ≡ map_of v layers
map_kept v c layers place within fits well holds = same_pairs (map_of (compacted v c) layers) (map_of v layers) (λ key.
    says_at (compacted v c) layers key
    ∙ ap (λ ls. unwrap_or (levels_say layers ls key) None) (levels_are v c)
    ∙ same_at_key v c place fits well layers holds key within
    ∙ sym (says_at v layers key))
