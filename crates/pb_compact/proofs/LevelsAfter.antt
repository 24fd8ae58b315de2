-- The levels after a compaction: two of them change, of which one loses inputs, and one loses inputs and has the outputs placed into it.
use Rattle.std.proofs.Common.{◌≡◌, ℕ, ◌+◌, ◌≤◌, zero, suc, List, [], ◌∷◌, Bool, true, false, cond, refl, ap, sym, ◌∙◌, subst, arith, eq-eqb}
use Rattle.std.proofs.lemmas.List.{append-nil}
use Rattle.std.specs.Prelude.{not, ◌&&◌, ◌||◌, ◌==◌, map, filter, slice_index_or}
use Rattle.std.specs.List.{list_any, list_all}
use Rattle.pb_edit.specs.Edit.{DeletedItem, PhysicalItem, VersionEdit}
use Rattle.pb_edit.specs.Grammar.{deleted_below}
use Rattle.pb_keys.proofs.Tests.{or_false}
use Rattle.pb_version.specs.Version.{TableView, VersionView, flattened}
use Rattle.pb_version.specs.Edited.{all_placed, comes_before, each_level, is_deleted, staying, level_after, new_tables_of_level, physical_table, edited}
use Rattle.pb_version.specs.Rules.{each_pair}
use Rattle.pb_version.specs.State.{other_number}
use Rattle.pb_version.proofs.Lists.{left, right, always, filter_all, list_any_all_placed}
use Rattle.pb_version.proofs.Levels.{flattened_cons}
use Rattle.pb_version.proofs.SnapshotSpelling.{pairs_front, pairs_back}
use Rattle.pb_compact.specs.Chosen.{AreInTurn}
use Rattle.pb_compact.specs.Compacted.{OutputView, CompactionView, is_input, input_item, output_item, compaction_edit, compacted}
use Rattle.pb_compact.proofs.Chosen.{no_input_elsewhere}

-- ---- what holds of each level holds of one

at_each : (p : ℕ → List TableView → Bool) → ((level : ℕ) → p level [] ≡ true) → (k : ℕ) (ls : List (List TableView)) (level : ℕ) →
    list_all (λ b. b) (each_level p k ls) ≡ true → p (k + level) (slice_index_or ls level []) ≡ true
at_each p none k [] level e = none (k + level)
at_each p none k (ts ∷ ls) zero e =
    let same : k ≡ k + 0 = omega arith in
    subst (λ n. p n ts ≡ true) same (left (p k ts) (list_all (λ b. b) (each_level p (k + 1) ls)) e)
at_each p none k (ts ∷ ls) (suc level) e =
    let same : k + 1 + level ≡ k + suc level = omega arith in
    subst (λ n. p n (slice_index_or ls level []) ≡ true) same
    (at_each p none (k + 1) ls level (right (p k ts) (list_all (λ b. b) (each_level p (k + 1) ls)) e))

pub on_each : (p : ℕ → List TableView → Bool) → ((level : ℕ) → p level [] ≡ true) → (ls : List (List TableView)) (level : ℕ) →
    list_all (λ b. b) (each_level p 0 ls) ≡ true → p level (slice_index_or ls level []) ≡ true
on_each p none ls level e =
    let same : 0 + level ≡ level = omega arith in
    subst (λ n. p n (slice_index_or ls level []) ≡ true) same (at_each p none 0 ls level e)

pub numbered_on : (ls : List (List TableView)) (level : ℕ) → each_pair other_number (flattened ls) ≡ true →
    each_pair other_number (slice_index_or ls level []) ≡ true
numbered_on [] level e = refl
numbered_on (ts ∷ ls) zero e = pairs_front other_number ts (flattened ls) (sym (ap (each_pair other_number) (flattened_cons ts ls)) ∙ e)
numbered_on (ts ∷ ls) (suc level) e =
    numbered_on ls level (pairs_back other_number ts (flattened ls) (sym (ap (each_pair other_number) (flattened_cons ts ls)) ∙ e))

pub levels_same : (f : ℕ → List TableView → List TableView) (k : ℕ) (ls : List (List TableView)) →
    ((level : ℕ) (ts : List TableView) → k ≤ level → f level ts ≡ ts) → each_level f k ls ≡ ls
levels_same f k [] same = refl
levels_same f k (ts ∷ ls) same = λ i. same k ts (omega arith) i ∷ levels_same f (k + 1) ls (λ level us h. same level us (omega arith)) i

any_map : {X Y : Type 0} (p : Y → Bool) (f : X → Y) (xs : List X) → list_any p (map f xs) ≡ list_any (λ x. p (f x)) xs
any_map p f [] = refl
any_map p f (x ∷ xs) = ap (λ b. p (f x) || b) (any_map p f xs)

-- ---- the items of the outputs

pub outputs_here : (m : ℕ) (os : List OutputView) →
    filter (λ (p : PhysicalItem). p.level == m) (map (output_item m) os) ≡ map (output_item m) os
outputs_here m [] = refl
outputs_here m (o ∷ os) =
    ap (λ b. cond b (output_item m o ∷ filter (λ (p : PhysicalItem). p.level == m) (map (output_item m) os))
    (filter (λ (p : PhysicalItem). p.level == m) (map (output_item m) os))) (eq-eqb m m refl)
    ∙ ap (λ ps. output_item m o ∷ ps) (outputs_here m os)

pub outputs_elsewhere : (m level : ℕ) (os : List OutputView) → (m == level) ≡ false →
    filter (λ (p : PhysicalItem). p.level == level) (map (output_item m) os) ≡ []
outputs_elsewhere m level [] e = refl
outputs_elsewhere m level (o ∷ os) e =
    ap (λ b. cond b (output_item m o ∷ filter (λ (p : PhysicalItem). p.level == level) (map (output_item m) os))
    (filter (λ (p : PhysicalItem). p.level == level) (map (output_item m) os))) e
    ∙ outputs_elsewhere m level os e

-- the tables that the outputs make
abbrev pub new_of : CompactionView → List TableView
new_of c = map physical_table (map (output_item (c.chosen.level + 1)) c.outputs)

module _ (v : VersionView) (c : CompactionView) where
  abbrev pub edit : VersionEdit
  edit = compaction_edit c

  abbrev pub others : ℕ → List TableView → List TableView
  others level ts = filter (λ t. not (is_input c.chosen level t)) ts

  pub deleted_is : (level : ℕ) (t : TableView) → is_deleted edit level t ≡ is_input c.chosen level t
  deleted_is level t =
      list_any_all_placed (λ (d : DeletedItem). d.level == level && d.number == t.number) deleted_below (map input_item c.chosen.inputs) []
      ∙ or_false (list_any (λ (d : DeletedItem). d.level == level && d.number == t.number) (map input_item c.chosen.inputs))
      ∙ any_map (λ (d : DeletedItem). d.level == level && d.number == t.number) input_item c.chosen.inputs

  pub staying_are : (level : ℕ) (ts : List TableView) → staying edit level ts ≡ others level ts
  staying_are level ts = ap (λ p. filter p ts) (λ i t. not (deleted_is level t i))

  pub new_here : new_tables_of_level v edit (c.chosen.level + 1) ≡ new_of c
  new_here = append-nil (map physical_table (filter (λ (p : PhysicalItem). p.level == c.chosen.level + 1) edit.physical))
      ∙ ap (map physical_table) (outputs_here (c.chosen.level + 1) c.outputs)

  pub new_elsewhere : (level : ℕ) → (c.chosen.level + 1 == level) ≡ false → new_tables_of_level v edit level ≡ []
  new_elsewhere level e = append-nil (map physical_table (filter (λ (p : PhysicalItem). p.level == level) edit.physical))
      ∙ ap (map physical_table) (outputs_elsewhere (c.chosen.level + 1) level c.outputs e)

  pub level_without : (level : ℕ) (ts : List TableView) → (c.chosen.level + 1 == level) ≡ false →
      level_after v edit level ts ≡ others level ts
  level_without level ts e = λ i. all_placed (comes_before level) (new_elsewhere level e i) (staying_are level ts i)

  pub level_with_new : (ts : List TableView) →
      level_after v edit (c.chosen.level + 1) ts ≡ all_placed (comes_before (c.chosen.level + 1)) (new_of c)
      (others (c.chosen.level + 1) ts)
  level_with_new ts = λ i. all_placed (comes_before (c.chosen.level + 1)) (new_here i) (staying_are (c.chosen.level + 1) ts i)

  pub all_others : (turn : AreInTurn c.chosen) (level : ℕ) (ts : List TableView) → (c.chosen.level == level) ≡ false →
      (c.chosen.level + 1 == level) ≡ false →
      others level ts ≡ ts
  all_others turn level ts e d =
      ap (λ p. filter p ts) (λ i t. not (no_input_elsewhere c.chosen turn level t e d i)) ∙ filter_all (λ t. true) ts (always ts)

  pub level_elsewhere : (turn : AreInTurn c.chosen) (level : ℕ) (ts : List TableView) → (c.chosen.level == level) ≡ false →
      (c.chosen.level + 1 == level) ≡ false →
      level_after v edit level ts ≡ ts
  level_elsewhere turn level ts e d = level_without level ts d ∙ all_others turn level ts e d

  pub levels_are : (compacted v c).levels ≡ each_level (level_after v edit) 0 v.levels
  unfolding compacted edited
  levels_are = refl
