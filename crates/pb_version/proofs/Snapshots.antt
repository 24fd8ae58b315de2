-- The tables that a snapshot lists are those of its version, and placed again they stand as they did.
use Rattle.std.proofs.Common.{◌≡◌, ℕ, List, [], ◌∷◌, Bool, true, false, cond, length, suc, refl, ap, sym, ◌∙◌, subst}
use Rattle.std.specs.Prelude.{not, ◌==◌, map}
use Rattle.std.specs.List.{filter, list_all}
use Rattle.std.specs.Option.{unwrap_or}
use Rattle.std.proofs.lemmas.Bool.{eqb-true}
use Rattle.pb_edit.specs.Edit.{CreatedItem}
use Rattle.pb_edit.specs.Grammar.{physical_below, virtual_below}
use Rattle.pb_version.specs.Version.{TableView, size_of}
use Rattle.pb_version.specs.Edited.{comes_before, all_placed, physical_table, virtual_table, tables_of}
use Rattle.pb_version.specs.Rules.{each_pair, are_apart, is_plain_view, has_no_parts}
use Rattle.pb_keys.specs.View.{is_view}
use Rattle.pb_version.specs.State.{is_formed}
use Rattle.pb_version.specs.Snapshot.{physical_item, virtual_item, physical_items, virtual_items}
use Rattle.pb_version.proofs.Lists.{left, right}
use Rattle.pb_version.proofs.Pairs.{filter_keeps, pairs_filter}
use Rattle.pb_version.proofs.Kept.{tables_chain, all_tables_differ}
use Rattle.pb_version.proofs.Commute.{AllDiffer, all_placed_append, images_placed, placed_in_parts, sorted_stays}

-- ---- a table made of its own item

nothing : (bytes : List ℕ) → (length bytes == 0) ≡ true → [] ≡ bytes
nothing [] e = refl
nothing (b ∷ bs) e = let same : suc (length bs) ≡ 0 = eqb-true (suc (length bs)) 0 e in cc

no_prefix : (t : TableView) → is_plain_view t.view ≡ true → [] ≡ t.view.prefix
no_prefix t e = nothing t.view.prefix (left (length t.view.prefix == 0) (length t.view.suffix == 0) (right (is_view t.view) (has_no_parts t.view) e))

no_suffix : (t : TableView) → is_plain_view t.view ≡ true → [] ≡ t.view.suffix
no_suffix t e = nothing t.view.suffix (right (length t.view.prefix == 0) (length t.view.suffix == 0) (right (is_view t.view) (has_no_parts t.view) e))

-- the test of a virtual table, or that of a physical one
pub chosen : (v a b : Bool) → v ≡ true → cond v a b ≡ true → a ≡ true
chosen true a b e k = k
chosen false a b e k = cc

pub other_chosen : (v a b : Bool) → v ≡ false → cond v a b ≡ true → b ≡ true
other_chosen true a b e k = cc
other_chosen false a b e k = k

physical_again : (level : ℕ) (bs : List CreatedItem) (t : TableView) → t.is_virtual ≡ false → is_formed bs t ≡ true → is_plain_view t.view ≡ true → physical_table (physical_item level t) ≡ t
physical_again level bs t physical formed view =
    let backing : t.number ≡ t.backing =
    sym (eqb-true t.backing t.number (other_chosen t.is_virtual (unwrap_or (size_of bs t.backing) 0 == t.size) (t.backing == t.number) physical formed)) in
    λ i. record {
      number = t.number;
      rank = t.rank;
      backing = backing i;
      size = t.size;
      view = record { bounds = t.view.bounds; prefix = no_prefix t view i; suffix = no_suffix t view i };
      is_virtual = sym physical i;
    }

virtual_again : (level : ℕ) (bs : List CreatedItem) (t : TableView) → t.is_virtual ≡ true → is_formed bs t ≡ true → virtual_table bs (virtual_item level t) ≡ t
virtual_again level bs t is_virtual formed =
    let size : unwrap_or (size_of bs t.backing) 0 ≡ t.size =
    eqb-true (unwrap_or (size_of bs t.backing) 0) t.size (chosen t.is_virtual (unwrap_or (size_of bs t.backing) 0 == t.size) (t.backing == t.number) is_virtual formed) in
    λ i. record {
      number = t.number;
      rank = t.rank;
      backing = t.backing;
      size = size i;
      view = t.view;
      is_virtual = sym is_virtual i;
    }

physical_tables_again : (level : ℕ) (bs : List CreatedItem) (ts : List TableView) → list_all (is_formed bs) ts ≡ true → list_all (λ t. is_plain_view t.view) ts ≡ true →
    map physical_table (map (physical_item level) (filter (λ t. not t.is_virtual) ts)) ≡ filter (λ t. not t.is_virtual) ts
physical_tables_again level bs [] formed views = refl
physical_tables_again level bs (t ∷ ts) formed views =
    let later = physical_tables_again level bs ts (right (is_formed bs t) (list_all (is_formed bs) ts) formed) (right (is_plain_view t.view) (list_all (λ u. is_plain_view u.view) ts) views) in
    elim t.is_virtual as (λ b. t.is_virtual ≡ b →
    map physical_table (map (physical_item level) (cond (not b) (t ∷ filter (λ u. not u.is_virtual) ts) (filter (λ u. not u.is_virtual) ts)))
    ≡ cond (not b) (t ∷ filter (λ u. not u.is_virtual) ts) (filter (λ u. not u.is_virtual) ts)) [
      | true ↦ λ e. later
      | false ↦ λ e i.
          physical_again level bs t e (left (is_formed bs t) (list_all (is_formed bs) ts) formed) (left (is_plain_view t.view) (list_all (λ u. is_plain_view u.view) ts) views) i ∷ later i
    ] refl

virtual_tables_again : (level : ℕ) (bs : List CreatedItem) (ts : List TableView) → list_all (is_formed bs) ts ≡ true →
    map (virtual_table bs) (map (virtual_item level) (filter (λ t. t.is_virtual) ts)) ≡ filter (λ t. t.is_virtual) ts
virtual_tables_again level bs [] formed = refl
virtual_tables_again level bs (t ∷ ts) formed =
    let later = virtual_tables_again level bs ts (right (is_formed bs t) (list_all (is_formed bs) ts) formed) in
    elim t.is_virtual as (λ b. t.is_virtual ≡ b →
    map (virtual_table bs) (map (virtual_item level) (cond b (t ∷ filter (λ u. u.is_virtual) ts) (filter (λ u. u.is_virtual) ts)))
    ≡ cond b (t ∷ filter (λ u. u.is_virtual) ts) (filter (λ u. u.is_virtual) ts)) [
      | true ↦ λ e i. virtual_again level bs t e (left (is_formed bs t) (list_all (is_formed bs) ts) formed) i ∷ later i
      | false ↦ λ e. later
    ] refl

-- ---- all of them, placed

module _ (level : ℕ) (bs : List CreatedItem) (ts : List TableView) (formed : list_all (is_formed bs) ts ≡ true) (views : list_all (λ (t : TableView). is_plain_view t.view) ts ≡ true)
    (apart : each_pair (are_apart level) ts ≡ true) (sorted : each_pair (comes_before level) ts ≡ true) where
  parts_differ : (p : TableView → Bool) → AllDiffer (comes_before level) (filter p ts)
  parts_differ p = all_tables_differ level (filter p ts) (filter_keeps (λ (t : TableView). is_plain_view t.view) p ts views) (pairs_filter (are_apart level) p ts apart)

  -- the turn of the items, by number, doesn't matter
  physical_placed : (us : List TableView) → all_placed (comes_before level) (map physical_table (physical_items level ts)) us ≡ all_placed (comes_before level) (filter (λ t. not t.is_virtual) ts) us
  physical_placed us =
      images_placed (comes_before level) (tables_chain level) physical_table physical_below (map (physical_item level) (filter (λ t. not t.is_virtual) ts)) us
      (subst (AllDiffer (comes_before level)) (sym (physical_tables_again level bs ts formed views)) (parts_differ (λ t. not t.is_virtual)))
      ∙ ap (λ ps. all_placed (comes_before level) ps us) (physical_tables_again level bs ts formed views)

  virtual_placed : (us : List TableView) → all_placed (comes_before level) (map (virtual_table bs) (virtual_items level ts)) us ≡ all_placed (comes_before level) (filter (λ t. t.is_virtual) ts) us
  virtual_placed us =
      images_placed (comes_before level) (tables_chain level) (virtual_table bs) virtual_below (map (virtual_item level) (filter (λ t. t.is_virtual) ts)) us
      (subst (AllDiffer (comes_before level)) (sym (virtual_tables_again level bs ts formed)) (parts_differ (λ t. t.is_virtual)))
      ∙ ap (λ vs. all_placed (comes_before level) vs us) (virtual_tables_again level bs ts formed)

  pub placed_again : all_placed (comes_before level) (tables_of bs (physical_items level ts) (virtual_items level ts)) [] ≡ ts
  placed_again =
      all_placed_append (comes_before level) (map physical_table (physical_items level ts)) (map (virtual_table bs) (virtual_items level ts)) []
      ∙ physical_placed (all_placed (comes_before level) (map (virtual_table bs) (virtual_items level ts)) [])
      ∙ ap (all_placed (comes_before level) (filter (λ t. not t.is_virtual) ts)) (virtual_placed [])
      ∙ placed_in_parts (comes_before level) (tables_chain level) (λ (t : TableView). t.is_virtual) ts (all_tables_differ level ts views apart)
      ∙ sorted_stays (comes_before level) ts sorted
