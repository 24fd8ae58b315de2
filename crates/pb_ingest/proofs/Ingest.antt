-- An ingest breaks no rule but the last, adds its tables above, and its map is that of its layers applied.
use Rattle.std.proofs.Common.{◌≡◌, ℕ, ◌+◌, ◌<◌, ◌≤◌, List, [], ◌∷◌, true, false, cond, length, ap, ◌∙◌, arith, inl, inr}
use Rattle.std.proofs.lemmas.Bool.{eqb-true, cases_lt}
use Rattle.std.proofs.lemmas.List.Elements.{All-nil, All-cons, All-head, All-tail, All-map, All-weaker, All-contains, All-contains_itself, recursion_from_All}
use Rattle.std.proofs.Math.Nat.{min-le_right}
use Rattle.std.specs.Prelude.{◌⊎◌, ◌==◌, ◌&&◌, nat_le, map, if◌then◌else◌, Option, Some, None, All, Contains}
use Rattle.pb_edit.specs.Edit.{PhysicalItem, VersionEdit}
use Rattle.pb_edit.specs.Grammar.{physical_below}
use Rattle.pb_keys.specs.Span.{KeySpan, IsSpan, span_of, overlap}
use Rattle.pb_rows.specs.Applied.{applied_in_turn}
use Rattle.pb_rows.specs.Hull.{HaveSameLayers}
use Rattle.pb_rows.specs.Layer.{KeyLayer}
use Rattle.pb_version.specs.declared.broken.Broken.TheVariants.{V9}
use Rattle.pb_version.specs.Version.{TableView, VersionView, tables_of_level, all_tables}
use Rattle.pb_version.specs.Edited.{physical_table, edited}
use Rattle.pb_version.specs.Rules.{is_reserved, first_broken}
use Rattle.pb_version.specs.Meaning.{map_of}
use Rattle.pb_version.specs.Adding.{more_tables, with_tables, is_unused, MayAdd, IsOnTop, StandsOnTop, layers_of}
use Rattle.pb_version.specs.Above.{MayStand, AddsAbove, IsLater, ComesLater}
use Rattle.pb_version.proofs.Above.{joined_above}
use Rattle.pb_version.proofs.Adding.{come_last, more_rules}
use Rattle.pb_version.proofs.OnTop.{in_any_order}
use Rattle.pb_version.proofs.Pairs.{weaker}
use Rattle.pb_ingest.specs.Levels.{level_without, IsRest, HasRests}
use Rattle.pb_ingest.specs.Planned.{WrittenTable, item_of, items_of, IsNewer, AreNew, AreApart, IsWritten, HasItsHull}
use Rattle.pb_ingest.proofs.FreeLevels.{free_level, rest_apart, level_within}
use Rattle.pb_ingest.proofs.OnTop.{on_top}
use Rattle.pb_ingest.proofs.Planning.{items_pass, items_each, items_distinct, items_apart, as_many_items}
use Rattle.pb_ingest.proofs.Apart.{levels_may_add}
use Rattle.pb_ingest.proofs.WithTables.{levels_after, tables_more, with_each, passes_each, no_table, all_placed_there, made_there}

module _ (v : VersionView) (cut : Option KeySpan) (written : List WrittenTable) (edit : VersionEdit)
    (rests : HasRests cut v (edited v edit)) (new : AreNew v edit written) where
  abbrev after : VersionView
  after = edited v edit

  abbrev ps : List PhysicalItem
  ps = items_of v cut written

  abbrev on_top_there : PhysicalItem → Type 0
  on_top_there p = IsOnTop after p.level (physical_table p)

  pub all_on_top : All (λ (p : PhysicalItem). IsOnTop after p.level (physical_table p)) ps
  all_on_top = items_each v cut on_top_there written
      (All-weaker (IsNewer v) (λ w. on_top_there (item_of v cut w))
      (λ w newer. on_top v cut (item_of v cut w).level (physical_table (item_of v cut w)) newer (min-le_right w.level (level_without v cut w.hull)) after rests)
      written new.newer)

  -- ---- the rules

  may_add : AreApart written → All IsWritten written → MayAdd v edit ps
  may_add apart is = record {
    distinct = items_distinct v cut written new.distinct;
    unused = items_pass v cut (λ (p : PhysicalItem). is_unused v edit p.number) written new.unused;
    reserved = items_pass v cut (λ (p : PhysicalItem). is_reserved v edit p.number && is_reserved v edit p.rank) written
        (weaker (λ (w : WrittenTable). is_reserved v edit w.number) (λ (w : WrittenTable). is_reserved v edit w.number && is_reserved v edit w.number) (λ w e i. e i && e i) written new.reserved);
    spans = items_each v cut (λ (p : PhysicalItem). IsSpan (span_of p.lo p.hi)) written
        (All-weaker IsWritten (λ (w : WrittenTable). IsSpan w.hull) (λ w form. form.hull) written is);
    apart = levels_may_add ps (items_apart v cut written apart) 0 after.levels all_on_top;
  }

  pub breaks_no_rule : length v.levels ≡ 7 → edit.physical ≡ [] → first_broken v edit ≡ None → AreApart written → All IsWritten written →
      first_broken v (more_tables edit ps) ≡ (if nat_le (length (all_tables after) + length written) 4096 then None else Some V9)
  breaks_no_rule levels alone unbroken apart is =
      more_rules v edit alone ps unbroken (may_add apart is)
      ∙ ap (λ n. cond (nat_le n 4096) None (Some V9))
      (tables_more after ps (levels_after v edit ∙ levels)
      (recursion_from_All (λ (p : PhysicalItem). p.level ≤ 6) ps (items_each v cut (λ (p : PhysicalItem). p.level ≤ 6) written (all_within levels)))
      ∙ ap (λ n. length (all_tables after) + n) (as_many_items v cut written))
    where
      all_within : length v.levels ≡ 7 → All (λ w. (item_of v cut w).level ≤ 6) written
      all_within levels = All-weaker (IsNewer v) (λ w. (item_of v cut w).level ≤ 6)
          (λ w newer. omega (arith, min-le_right w.level (level_without v cut w.hull), level_within v cut w.hull levels)) written new.newer

  -- ---- what is added above

  abbrev last : VersionView
  last = with_tables after ps

  -- on level 0 newer than all, and deeper clear of what stays
  stands_above : (level : ℕ) (w : WrittenTable) → IsNewer v w → ((item_of v cut w).level == level) ≡ true → MayStand after last level (physical_table (item_of v cut w))
  stands_above level w newer on =
      let at : (item_of v cut w).level ≡ level = eqb-true (item_of v cut w).level level on in
      elim (cases_lt level 1) [
        | inl low ↦
            inr (inr (inl (record {
              first = omega (arith, low);
              newest = All-weaker (IsRest cut (tables_of_level v 0)) (λ u. u.rank < w.number)
                  (λ u rest. omega (arith, rest.rank, All-contains (λ (t : TableView). t.rank < w.number) (tables_of_level v 0) rest.table newer rest.stood))
                  (tables_of_level after 0) (rests.each 0);
            })))
        | inr deep ↦
            inr (inr (inr (record {
              deeper = deep;
              clear = λ above within. All-weaker (IsRest cut (tables_of_level v above))
                  (λ u. Contains (tables_of_level last above) u → overlap w.hull u.view.bounds ≡ false)
                  (λ u rest _. rest_apart cut w.hull (tables_of_level v above) u
                  (free_level cut w.hull v.levels above (omega (arith, at, deep, within, min-le_right w.level (level_without v cut w.hull)))) rest)
                  (tables_of_level after above) (rests.each above);
            })))
      ]

  adds_here : AddsAbove after last
  adds_here = record {
    each = λ level. with_each (MayStand after last level) after ps level
        (All-weaker (Contains (tables_of_level after level)) (MayStand after last level) (λ t has. inl has) (tables_of_level after level) (All-contains_itself (tables_of_level after level)))
        (items_each v cut (λ (p : PhysicalItem). (p.level == level) ≡ true → MayStand after last level (physical_table p)) written
        (All-weaker (IsNewer v) (λ w. ((item_of v cut w).level == level) ≡ true → MayStand after last level (physical_table (item_of v cut w)))
        (λ w newer. stands_above level w newer) written new.newer));
  }

  -- newer than all of level 0, and of a number that nothing has
  abbrev IsUnusedNewer : WrittenTable → Type 0
  IsUnusedNewer w = IsNewer v w × (is_unused v edit w.number ≡ true)

  both_each : (ws : List WrittenTable) → All (IsNewer v) ws → All (λ (w : WrittenTable). is_unused v edit w.number ≡ true) ws → All IsUnusedNewer ws
  both_each [] newer unused = All-nil IsUnusedNewer
  both_each (w ∷ ws) newer unused =
      All-cons IsUnusedNewer w ws
      (All-head (IsNewer v) w ws newer, All-head (λ (x : WrittenTable). is_unused v edit x.number ≡ true) w ws unused)
      (both_each ws (All-tail (IsNewer v) w ws newer) (All-tail (λ (x : WrittenTable). is_unused v edit x.number ≡ true) w ws unused))

  -- it stood there before, or is new to the first version too
  abbrev Comes : ℕ → TableView → Type 0
  Comes level t = Contains (tables_of_level after level) t ⊎ IsLater v after last level t

  comes_later : ComesLater v after last
  comes_later = record {
    each = λ level. with_each (Comes level) after ps level
        (All-weaker (Contains (tables_of_level after level)) (Comes level) (λ t has. inl has) (tables_of_level after level) (All-contains_itself (tables_of_level after level)))
        (items_each v cut (λ (p : PhysicalItem). (p.level == level) ≡ true → Comes level (physical_table p)) written
        (All-weaker IsUnusedNewer (λ w. ((item_of v cut w).level == level) ≡ true → Comes level (physical_table (item_of v cut w)))
        (λ w is _. inr (record {
          new = no_table v edit (physical_table (item_of v cut w)) level is.1;
          rank = λ _. inr is.0;
        })) written
        (both_each written new.newer (passes_each (λ (w : WrittenTable). is_unused v edit w.number) written new.unused))));
  }

  pub adds_above : AddsAbove v after → AddsAbove v (with_tables (edited v edit) (items_of v cut written))
  adds_above one = joined_above v after last one adds_here comes_later

  -- ---- the map

  module _ (layers : ℕ → KeyLayer) where
    abbrev of_item : PhysicalItem → KeyLayer
    of_item p = layers p.number

    abbrev of_table : WrittenTable → KeyLayer
    of_table w = layers w.number

    abbrev Stands : PhysicalItem → Type 0
    Stands = StandsOnTop after layers

    stands : length v.levels ≡ 7 → All (HasItsHull layers) written → All Stands ps
    stands levels hulls = items_each v cut Stands written (each written new.newer hulls)
      where
        each : (ws : List WrittenTable) → All (IsNewer v) ws → All (HasItsHull layers) ws → All (λ w. Stands (item_of v cut w)) ws
        each [] newer hulls = All-nil (λ w. Stands (item_of v cut w))
        each (w ∷ ws) newer hulls =
            let item = item_of v cut w in
            let deep = min-le_right w.level (level_without v cut w.hull) in
            All-cons (λ x. Stands (item_of v cut x)) w ws
            (record {
              level = omega (arith, deep, level_within v cut w.hull levels, levels_after v edit, levels);
              on_top = on_top v cut item.level (physical_table item) (All-head (IsNewer v) w ws newer) deep after rests;
              hull = All-head (HasItsHull layers) w ws hulls;
            })
            (each ws (All-tail (IsNewer v) w ws newer) (All-tail (HasItsHull layers) w ws hulls))

    same_layers : HaveSameLayers (layers_of layers ps) (map of_table written)
    same_layers layer = (
      λ has. All-contains (Contains (map of_table written)) (map of_item ps) layer
          (All-map (Contains (map of_table written)) of_item ps
          (items_each v cut (λ p. Contains (map of_table written) (of_item p)) written (made_there of_table written))) has,
      λ has. All-contains (Contains (map of_item ps)) (map of_table written) layer
          (All-map (Contains (map of_item ps)) of_table written (tables_there written (all_placed_there physical_below (map (item_of v cut) written) []))) has,
    )
      where
        tables_there : (ws : List WrittenTable) → All (Contains ps) (map (item_of v cut) ws) → All (λ w. Contains (map of_item ps) (of_table w)) ws
        tables_there [] all = All-nil (λ w. Contains (map of_item ps) (of_table w))
        tables_there (w ∷ ws) all =
            All-cons (λ x. Contains (map of_item ps) (of_table x)) w ws
            (All-contains (λ p. Contains (map of_item ps) (of_item p)) ps (item_of v cut w) (made_there of_item ps) (All-head (Contains ps) (item_of v cut w) (map (item_of v cut) ws) all))
            (tables_there ws (All-tail (Contains ps) (item_of v cut w) (map (item_of v cut) ws) all))

    pub is_applied : length v.levels ≡ 7 → edit.physical ≡ [] → AreApart written → All (HasItsHull layers) written →
        map_of (edited v (more_tables edit (items_of v cut written))) layers ≡ applied_in_turn (map (λ (w : WrittenTable). layers w.number) written) (map_of (edited v edit) layers)
    is_applied levels alone apart hulls =
        ap (λ w. map_of w layers) (come_last v edit alone ps)
        ∙ in_any_order after layers ps (map of_table written)
        (record { each = stands levels hulls; apart = items_apart v cut written apart }) same_layers
