-- The edit of a compaction breaks no rule but V9, and that one exactly where more than 4,096 tables stand then.
use Rattle.std.proofs.Common.{◌≡◌, ℕ, ◌+◌, List, [], ◌∷◌, length, Bool, true, false, refl, ap, sym, ◌∙◌, subst}
use Rattle.std.proofs.lemmas.List.Elements.{All-head, All-tail, All-nil, All-cons}
use Rattle.std.proofs.lemmas.List.Folds.{list_all-map}
use Rattle.std.specs.Prelude.{not, ◌&&◌, ◌||◌, ◌==◌, nat_lt, nat_le, map, if◌then◌else◌, Some, None, All}
use Rattle.std.specs.List.{list_all}
use Rattle.pb_edit.specs.Edit.{PhysicalItem}
use Rattle.pb_keys.specs.Span.{IsSpan, span_of}
use Rattle.pb_keys.specs.View.{IsView}
use Rattle.pb_rows.specs.Layer.{KeyLayer, IsFilled, IsLayer}
use Rattle.pb_rows.proofs.HullHolds.{hull_is_span}
use Rattle.pb_version.specs.declared.broken.Broken.TheVariants.{V9}
use Rattle.pb_version.specs.Version.{VersionView, tables_of_level, all_tables}
use Rattle.pb_version.specs.Edited.{each_level, physical_table, edited}
use Rattle.pb_version.specs.Adding.{tables_for, level_may_add, is_unused, MayAdd}
use Rattle.pb_version.specs.Rules.{are_apart, are_all_apart, are_distinct, has_number, has_backing, is_reserved, first_broken}
use Rattle.pb_version.specs.State.{IsVersion}
use Rattle.pb_version.proofs.Adding.{come_last, more_rules}
use Rattle.pb_version.proofs.KeptFacts.{both_all}
use Rattle.pb_version.proofs.Levels.{each_of_each}
use Rattle.pb_version.proofs.Lists.{same_number}
use Rattle.pb_version.proofs.Pairs.{weaker}
use Rattle.pb_compact.specs.Chosen.{Fits}
use Rattle.pb_compact.specs.Compacted.{OutputView, CompactionView, AreInPlace, HoldsMerged, MayInstall, freed, judged, input_tables, merged_inputs, output_hull, output_hulls, output_item, compaction_edit, compacted}
use Rattle.pb_compact.proofs.Leaves.{base, no_new_levels, from_each, unbroken}
use Rattle.pb_compact.proofs.LevelsAfter.{new_of, others, outputs_here, outputs_elsewhere}
use Rattle.pb_compact.proofs.MapKept.{input_views, new_clear}
use Rattle.pb_compact.proofs.Members.{pairs_give}
use Rattle.pb_compact.proofs.OutputLaws.{outputs_are_layers}
use Rattle.pb_compact.proofs.Says.{is_beside}
use Rattle.pb_compact.proofs.Written.{has_hull, layers_in, all_filled, in_form, new_beside}

-- what every version is
pub in_place : (v : VersionView) → IsVersion v → AreInPlace v
in_place v is = record { numbered = is.numbered; apart = is.apart; sorted = is.sorted; views = is.views }

numbers_of : (m : ℕ) (os : List OutputView) → map (λ (p : PhysicalItem). p.number) (map (output_item m) os) ≡ map (λ o. o.number) os
numbers_of m [] = refl
numbers_of m (o ∷ os) = ap (λ ns. o.number ∷ ns) (numbers_of m os)

hulls_are_spans : (m : ℕ) (os : List OutputView) → All IsLayer (layers_in os) → All IsFilled (layers_in os) →
    All (λ p. IsSpan (span_of p.lo p.hi)) (map (output_item m) os)
hulls_are_spans m [] layers filled = All-nil (λ (p : PhysicalItem). IsSpan (span_of p.lo p.hi))
hulls_are_spans m (o ∷ os) layers filled =
    All-cons (λ (p : PhysicalItem). IsSpan (span_of p.lo p.hi)) (output_item m o) (map (output_item m) os)
    (hull_is_span o.layer (output_hull o) (All-head IsLayer o.layer (layers_in os) layers)
    (has_hull o (All-head IsFilled o.layer (layers_in os) filled)))
    (hulls_are_spans m os (All-tail IsLayer o.layer (layers_in os) layers) (All-tail IsFilled o.layer (layers_in os) filled))

either_true : (a b : Bool) → b ≡ true → (a || b) ≡ true
either_true true b e = refl
either_true false b e = e

module _ (v : VersionView) (c : CompactionView) (layers : ℕ → KeyLayer) (is : IsVersion v) (fits : Fits v c.chosen)
    (well : judged v c.chosen (output_hulls c) ≡ None) (free : c.freed ≡ freed v c.chosen) (holds : HoldsMerged layers c)
    (may : MayInstall v c) where
  abbrev m : ℕ
  m = c.chosen.level + 1

  abbrev ps : List PhysicalItem
  ps = map (output_item m) c.outputs

  views : All (λ t. IsView t.view) (input_tables c.chosen)
  views = input_views v c (in_place v is) fits

  distinct : are_distinct (map (λ (p : PhysicalItem). p.number) ps) ≡ true
  distinct = ap are_distinct (numbers_of m c.outputs) ∙ may.distinct

  unused : list_all (λ (p : PhysicalItem). is_unused v (base v c) p.number) ps ≡ true
  unused =
      list_all-map (λ (p : PhysicalItem). is_unused v (base v c) p.number) (output_item m) c.outputs
      ∙ weaker (λ o. not (has_number (all_tables v) o.number) && not (has_backing v.backings o.number))
      (λ o. is_unused v (base v c) o.number)
      (λ o e. no_more (not (has_number (all_tables v) o.number)) (not (has_backing v.backings o.number)) e) c.outputs
      (both_all (λ o. not (has_number (all_tables v) o.number))
      (λ o. not (has_backing v.backings o.number)) c.outputs may.tables may.backings)
    where
      no_more : (a b : Bool) → (a && b) ≡ true → ((a && b && true) && true) ≡ true
      no_more true true e = refl
      no_more true false e = cc
      no_more false b e = cc

  reserved : list_all (λ (p : PhysicalItem). is_reserved v (base v c) p.number && is_reserved v (base v c) p.rank) ps ≡ true
  reserved =
      list_all-map (λ (p : PhysicalItem). is_reserved v (base v c) p.number && is_reserved v (base v c) p.rank) (output_item m) c.outputs
      ∙ weaker (λ o. nat_lt o.number v.five.next) (λ o. is_reserved v (base v c) o.number && is_reserved v (base v c) o.number)
      (λ o e i. e i && e i) c.outputs may.reserved

  spans : All (λ p. IsSpan (span_of p.lo p.hi)) ps
  spans = hulls_are_spans m c.outputs
      (subst (All IsLayer) (sym holds.merged) (outputs_are_layers (merged_inputs layers c.chosen) (in_form layers c views holds)))
      (all_filled layers c views holds)

  -- ---- apart on their level

  tables_here : tables_for ps m ≡ new_of c
  tables_here = ap (map physical_table) (outputs_here m c.outputs)

  apart_there : level_may_add ps m (others v c m (tables_of_level v m)) ≡ true
  apart_there =
      ap (λ ts. are_all_apart m ts && list_all (λ t. list_all (are_apart m t) (others v c m (tables_of_level v m))) ts) tables_here
      ∙ (λ i. pairs_give is_beside is_beside (are_apart m) (new_of c)
      (λ t u _ _ e _. either_true (m == 0 && not (t.rank == u.rank)) (is_beside t u) e) (new_beside layers c views holds)
      (new_beside layers c views holds) i
      && weaker (λ t. list_all (is_beside t) (others v c m (tables_of_level v m)))
      (λ t. list_all (are_apart m t) (others v c m (tables_of_level v m)))
      (λ t e. weaker (is_beside t) (are_apart m t) (λ u d. either_true (m == 0 && not (t.rank == u.rank)) (is_beside t u) d)
      (others v c m (tables_of_level v m)) e)
      (new_of c) (new_clear v c (in_place v is) fits well) i)

  apart_on : (level : ℕ) → level_may_add ps level (others v c level (tables_of_level v level)) ≡ true
  apart_on level =
      elim (m == level) as (λ b. (m == level) ≡ b → level_may_add ps level (others v c level (tables_of_level v level)) ≡ true) [
        | true ↦ λ e. subst (λ l. level_may_add ps l (others v c l (tables_of_level v l)) ≡ true) (same_number m level e) apart_there
        | false ↦ λ e. ap (λ ts. are_all_apart level ts && list_all
            (λ t. list_all (are_apart level t) (others v c level (tables_of_level v level))) ts)
            (ap (map physical_table) (outputs_elsewhere m level c.outputs e))
      ] refl

  apart : list_all (λ a. a) (each_level (level_may_add ps) 0 (edited v (base v c)).levels) ≡ true
  unfolding edited
  apart =
      ap (λ ls. list_all (λ a. a) (each_level (level_may_add ps) 0 ls)) (no_new_levels v c 0 v.levels)
      ∙ ap (list_all (λ a. a)) (each_of_each (level_may_add ps) (others v c) 0 v.levels)
      ∙ from_each (λ l ts. level_may_add ps l (others v c l ts)) v.levels apart_on

  may_add : MayAdd v (base v c) ps
  may_add = record { distinct = distinct; unused = unused; reserved = reserved; spans = spans; apart = apart }

  pub rules : first_broken v (compaction_edit c) ≡ (if nat_le (length (all_tables (compacted v c))) 4096 then None else Some V9)
  unfolding compacted
  rules =
      more_rules v (base v c) refl ps (unbroken v c is fits free may.begun) may_add
      ∙ ap (λ w. if nat_le (length (all_tables w)) 4096 then None else Some V9) (sym (come_last v (base v c) refl ps))

pub breaks_no_rule : (v : VersionView) (c : CompactionView) (layers : ℕ → KeyLayer) → IsVersion v → Fits v c.chosen →
    judged v c.chosen (output_hulls c) ≡ None → c.freed ≡ freed v c.chosen → HoldsMerged layers c → MayInstall v c →
    first_broken v (compaction_edit c) ≡ (if nat_le (length (all_tables (compacted v c))) 4096 then None else Some V9)
breaks_no_rule v c layers is fits well free holds may = rules v c layers is fits well free holds may
