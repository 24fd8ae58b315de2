-- V5, V6 and V7: the backings that come are those of physical tables that go, and afterwards exactly those stand that are shown.
use Rattle.std.proofs.Common.{◌≡◌, ℕ, ◌+◌, ◌≤◌, List, [], ◌∷◌, Bool, true, false, cond, length, refl, ap, sym, ◌∙◌, subst, arith, inl, inr}
use Rattle.std.proofs.lemmas.Bool.{eq-eqb, or_right}
use Rattle.std.specs.Prelude.{◌⊎◌, not, ◌&&◌, ◌||◌, ◌==◌, nat_lt}
use Rattle.std.specs.List.{filter, list_any, list_all}
use Rattle.pb_edit.specs.Edit.{CreatedItem}
use Rattle.pb_edit.specs.Grammar.{deleted_below, created_below}
use Rattle.pb_keys.specs.Span.{KeySpan, IsSpan, overlap}
use Rattle.pb_keys.proofs.Tests.{or_false}
use Rattle.pb_span_cases.specs.Remainder.{remains}
use Rattle.pb_version.specs.Version.{TableView, VersionView, all_tables, flattened}
use Rattle.pb_version.specs.Edited.{all_placed, each_level, is_deleted, edited}
use Rattle.pb_version.specs.Rules.{has_number, has_backing, has_its_backing, has_virtual, is_freed, is_freed_physical, is_backing_anew, keeps_v5, keeps_v6, keeps_v7}
use Rattle.pb_version.specs.State.{IsVersion, is_below_next}
use Rattle.pb_version.specs.Stored.{backing_of}
use Rattle.pb_version.proofs.Lists.{left, same_number, list_any_all_placed, list_all_all_placed}
use Rattle.pb_version.proofs.Levels.{flattened_cons}
use Rattle.pb_version.proofs.Pairs.{number_turned}
use Rattle.pb_excise.specs.Excised.{parts_of, numbered_parts, left_of, parts_count, excised_tables, excised_levels, is_carved, carved, excised}
use Rattle.pb_excise.specs.Planned.{is_cut, are_some, leaves_a_part, all_deleted, all_created, all_removed}
use Rattle.pb_excise.proofs.SameLists.{In, found, any_of, all_of, all_from, of_filter, into_filter, of_map, into_map, in_first, in_second}
use Rattle.pb_excise.proofs.Gone.{is_of, deleted_from, deleted_here, deleted_later}
use Rattle.pb_excise.proofs.Backings.{plain_backing, plain_free, virtual_backed, leaves_no_virtual}
use Rattle.pb_excise.proofs.Made.{all_levels_made, backings_made}
use Rattle.pb_excise.proofs.NewTables.{edit, of_append}

-- ---- V5

leaves_is_cut : (overlaps : Bool) (parts : List KeySpan) (v : Bool) → (not v && are_some (cond overlaps parts [])) ≡ true →
    overlaps ≡ true
leaves_is_cut true parts v e = refl
leaves_is_cut false parts true e = cc
leaves_is_cut false parts false e = cc

module _ (v : VersionView) (is : IsVersion v) (cut : KeySpan) (first accepted : ℕ) where
  abbrev ts : List TableView
  ts = all_tables v

  -- a physical table that leaves a part goes from its level
  goes_here : (k : ℕ) (us : List TableView) (ls : List (List TableView)) →
      ((level number : ℕ) → k ≤ level →
      list_any (is_of level number) (edit v is cut first accepted).deleted ≡ list_any (is_of level number) (deleted_from cut k (us ∷ ls))) →
      (t : TableView) → In us t → In ts t → leaves_a_part cut t ≡ true →
      is_freed_physical (edit v is cut first accepted) (backing_of t) k us ≡ true
  goes_here k us ls gone t here stood leaves =
      let cut_is = leaves_is_cut (overlap t.view.bounds cut) (remains t.view.bounds cut) t.is_virtual leaves in
      let physical = leaves_no_virtual v is cut t leaves in
      let goes : is_deleted (edit v is cut first accepted) k t ≡ true =
      gone k t.number (omega arith) ∙ deleted_here cut k t.number us ls
      ∙ any_of (λ (u : TableView). u.number == t.number) (filter (is_cut cut) us) t (into_filter (is_cut cut) us t here cut_is)
      (eq-eqb t.number t.number refl) in
      any_of (λ (u : TableView). is_deleted (edit v is cut first accepted) k u && not u.is_virtual && u.number == t.backing
      && u.size == t.size) us t here
      (λ i. goes i && not (physical i) && (number_turned t.number t.backing ∙ plain_backing v is t stood physical) i
      && eq-eqb t.size t.size refl i)

  goes_from : (k : ℕ) (ls : List (List TableView)) →
      ((level number : ℕ) → k ≤ level →
      list_any (is_of level number) (edit v is cut first accepted).deleted ≡ list_any (is_of level number) (deleted_from cut k ls)) →
      (t : TableView) → In (flattened ls) t → In ts t → leaves_a_part cut t ≡ true →
      list_any (λ goes. goes) (each_level (is_freed_physical (edit v is cut first accepted) (backing_of t)) k ls) ≡ true
  goes_from k [] gone t has stood leaves = absurd has
  goes_from k (us ∷ ls) gone t has stood leaves =
      let others = list_any (λ goes. goes) (each_level (is_freed_physical (edit v is cut first accepted) (backing_of t)) (k + 1) ls) in
      elim (of_append us (flattened ls) t (subst (λ ws. In ws t) (flattened_cons us ls) has)) [
        | inl here ↦ ap (λ b. b || others) (goes_here k us ls gone t here stood leaves)
        | inr later ↦ or_right (is_freed_physical (edit v is cut first accepted) (backing_of t) k us) others
            (goes_from (k + 1) ls
            (λ level number h. gone level number (omega arith) ∙ deleted_later cut k level number us ls (omega arith)) t later stood leaves)
      ]

  freed : (t : TableView) → In ts t → leaves_a_part cut t ≡ true → is_freed v (edit v is cut first accepted) (backing_of t) ≡ true
  freed t stood leaves = goes_from 0 v.levels
      (λ level number h. list_any_all_placed (is_of level number) deleted_below (all_deleted cut v) []
      ∙ or_false (list_any (is_of level number) (all_deleted cut v)))
      t stood stood leaves

  anew : (t : TableView) → In ts t → leaves_a_part cut t ≡ true → is_backing_anew v (edit v is cut first accepted) (backing_of t) ≡ true
  anew t stood leaves =
      let physical = leaves_no_virtual v is cut t leaves in
      let number = same_number t.backing t.number (plain_backing v is t stood physical) in
      let below : nat_lt t.backing v.five.next ≡ true =
      ap (λ n. nat_lt n v.five.next) number
      ∙ left (nat_lt t.number v.five.next) (nat_lt t.rank v.five.next) (all_of (is_below_next v.five.next) ts t is.below stood) in
      λ i.
      plain_free v is t stood physical i
      && ap (λ b. b || not (has_number ts t.backing)) (freed t stood leaves) i
      && below i

  pub all_v5 : keeps_v5 v (edit v is cut first accepted) ≡ true
  all_v5 =
      list_all_all_placed (is_backing_anew v (edit v is cut first accepted)) created_below (all_created cut v) []
      ∙ (λ i. all_from (is_backing_anew v (edit v is cut first accepted)) (all_created cut v) (λ c has.
      let it = of_map backing_of (filter (leaves_a_part cut) ts) c has in
      let both = of_filter (leaves_a_part cut) ts it.item it.is_in in
      sym (ap (is_backing_anew v (edit v is cut first accepted)) it.image) ∙ anew it.item both.is_in both.passes) i && true)

-- ---- where a table that is left is from

pub record IsLeftOf (cut : KeySpan) (ts : List TableView) (p : TableView) : Type 0 where
  pub table : TableView
  pub stood : In ts table
  pub backing : p.backing ≡ table.backing
  pub how : (table ≡ p) ⊎ (is_cut cut table ≡ true)

module _ (cut : KeySpan) where
  numbered_left : (all : List TableView) (t : TableView) → In all t → is_cut cut t ≡ true → (n : ℕ) (bs : List KeySpan) (p : TableView) →
      In (numbered_parts t n bs) p → IsLeftOf cut all p
  numbered_left all t stood e n [] p has = absurd has
  numbered_left all t stood e n (b ∷ bs) p (inl same) =
      record { table = t; stood = stood; backing = sym (ap (λ (u : TableView). u.backing) same); how = inr e }
  numbered_left all t stood e n (b ∷ bs) p (inr later) = numbered_left all t stood e (n + 1) bs p later

  itself_left : (all : List TableView) (t : TableView) → In all t → (p : TableView) → In (t ∷ []) p → IsLeftOf cut all p
  itself_left all t stood p (inl same) =
      record { table = t; stood = stood; backing = sym (ap (λ (u : TableView). u.backing) same); how = inl same }
  itself_left all t stood p (inr none) = absurd none

  table_left : (all : List TableView) (t : TableView) → In all t → (n : ℕ) (p : TableView) → In (left_of cut n t) p → IsLeftOf cut all p
  table_left all t stood n p =
      elim (overlap t.view.bounds cut) as (λ b. overlap t.view.bounds cut ≡ b →
      In (cond b (numbered_parts t n (remains t.view.bounds cut)) (t ∷ [])) p → IsLeftOf cut all p) [
        | true ↦ λ e has. numbered_left all t stood e n (remains t.view.bounds cut) p has
        | false ↦ λ _ has. itself_left all t stood p has
      ] refl

  tables_left : (all : List TableView) (n : ℕ) (ts : List TableView) → ((t : TableView) → In ts t → In all t) → (p : TableView) →
      In (excised_tables cut n ts) p → IsLeftOf cut all p
  tables_left all n [] inside p has = absurd has
  tables_left all n (t ∷ ts) inside p has =
      let next = n + length (parts_of cut t) in
      elim (of_append (left_of cut n t) (excised_tables cut next ts) p has) [
        | inl front ↦ table_left all t (inside t (inl refl)) n p front
        | inr back ↦ tables_left all next ts (λ u in_them. inside u (inr in_them)) p back
      ]

  levels_left : (all : List TableView) (n : ℕ) (ls : List (List TableView)) → ((t : TableView) → In (flattened ls) t → In all t) →
      (p : TableView) → In (flattened (excised_levels cut n ls)) p → IsLeftOf cut all p
  levels_left all n [] inside p has = absurd has
  levels_left all n (ts ∷ ls) inside p has =
      let next = n + parts_count cut ts in
      let deeper = excised_levels cut next ls in
      elim (of_append (excised_tables cut n ts) (flattened deeper) p
      (subst (λ us. In us p) (flattened_cons (excised_tables cut n ts) deeper) has)) [
        | inl front ↦ tables_left all n ts
            (λ t in_them. inside t (subst (λ us. In us t) (sym (flattened_cons ts ls)) (in_first ts (flattened ls) t in_them))) p front
        | inr back ↦ levels_left all next ls
            (λ t in_them. inside t (subst (λ us. In us t) (sym (flattened_cons ts ls)) (in_second ts (flattened ls) t in_them))) p back
      ]

-- ---- V6 and V7

has_in_filter : (s : ℕ → Bool) (bs : List CreatedItem) (n : ℕ) → has_backing bs n ≡ true → s n ≡ true →
    has_backing (filter (λ (b : CreatedItem). s b.number) bs) n ≡ true
has_in_filter s bs n e shown =
    let it = found (λ (b : CreatedItem). b.number == n) bs e in
    let passes : s it.item.number ≡ true = ap s (same_number it.item.number n it.passes) ∙ shown in
    any_of (λ (b : CreatedItem). b.number == n) (filter (λ (b : CreatedItem). s b.number) bs) it.item
    (into_filter (λ (b : CreatedItem). s b.number) bs it.item it.is_in passes) it.passes

filter_passes : {X : Type 0} (q : X → Bool) (xs : List X) → list_all q (filter q xs) ≡ true
filter_passes q xs = all_from q (filter q xs) (λ x has. let both = of_filter q xs x has in both.passes)

module _ (v : VersionView) (is : IsVersion v) (cut : KeySpan) (cut_is : IsSpan cut) (first accepted : ℕ) where
  -- the tables and the backings afterwards
  abbrev pub tables_then : List TableView
  tables_then = flattened (excised_levels cut first v.levels)

  abbrev backings_then : List CreatedItem
  backings_then = filter (λ (b : CreatedItem). has_virtual tables_then b.number) (all_placed created_below (carved cut v) v.backings)

  pub tables_after_are : all_tables (edited v (edit v is cut first accepted)) ≡ tables_then
  unfolding edited
  tables_after_are = ap flattened (all_levels_made v is cut cut_is first accepted)

  -- a table that shows a backing shows one that stood, or that of a physical table that is cut
  stood_or_carved : (t : TableView) → In tables_then t → t.is_virtual ≡ true →
      has_backing (all_placed created_below (carved cut v) v.backings) t.backing ≡ true
  stood_or_carved t has virtual_is =
      let it = levels_left cut (all_tables v) first v.levels (λ u in_them. in_them) t has in
      let here : (has_backing (carved cut v) t.backing || has_backing v.backings t.backing) ≡ true =
      elim it.table.is_virtual as (λ b. it.table.is_virtual ≡ b →
      (has_backing (carved cut v) t.backing || has_backing v.backings t.backing) ≡ true) [
        | true ↦ λ e. or_right (has_backing (carved cut v) t.backing) (has_backing v.backings t.backing)
            (ap (has_backing v.backings) it.backing ∙ virtual_backed v is it.table it.stood e)
        | false ↦ λ e. ap (λ b. b || has_backing v.backings t.backing) (is_carved_one it.table it.stood e it.backing it.how)
      ] refl in
      list_any_all_placed (λ (b : CreatedItem). b.number == t.backing) created_below (carved cut v) v.backings ∙ here
    where
      is_carved_one : (u : TableView) → In (all_tables v) u → u.is_virtual ≡ false → t.backing ≡ u.backing →
          (u ≡ t) ⊎ (is_cut cut u ≡ true) → has_backing (carved cut v) t.backing ≡ true
      is_carved_one u stood physical backing (inl same) =
          let bad : true ≡ false = sym virtual_is ∙ ap (λ (w : TableView). w.is_virtual) (sym same) ∙ physical in cc
      is_carved_one u stood physical backing (inr cuts) =
          any_of (λ (b : CreatedItem). b.number == t.backing) (carved cut v) (backing_of u)
          (into_map backing_of (filter (is_carved cut) (all_tables v)) u
          (into_filter (is_carved cut) (all_tables v) u stood (λ i. cuts i && not (physical i))))
          (eq-eqb u.backing t.backing (sym backing))

  then_backed : list_all (has_its_backing backings_then) tables_then ≡ true
  then_backed = all_from (has_its_backing backings_then) tables_then (λ t has.
      elim t.is_virtual as (λ b. t.is_virtual ≡ b → (not b || has_backing backings_then t.backing) ≡ true) [
        | true ↦ λ e.
            has_in_filter (has_virtual tables_then) (all_placed created_below (carved cut v) v.backings) t.backing (stood_or_carved t has e)
            (any_of (λ (u : TableView). u.is_virtual && u.backing == t.backing) tables_then t has
            (λ i. e i && eq-eqb t.backing t.backing refl i))
        | false ↦ λ _. refl
      ] refl)

  pub all_v6 : keeps_v6 v (edit v is cut first accepted) ≡ true
  all_v6 =
      (λ i. list_all (has_its_backing (backings_made v is cut cut_is first accepted i)) (tables_after_are i))
      ∙ then_backed

  abbrev unshown_then : CreatedItem → Bool
  unshown_then b = not (has_virtual (all_tables (excised v cut first)) b.number)

  removed_stood : list_all (has_backing v.backings) (all_removed cut first v) ≡ true
  removed_stood = all_from (has_backing v.backings) (all_removed cut first v) (λ n has.
      let it = of_map (λ (b : CreatedItem). b.number) (filter unshown_then v.backings) n has in
      let both = of_filter unshown_then v.backings it.item it.is_in in
      any_of (λ (b : CreatedItem). b.number == n) v.backings it.item both.is_in (eq-eqb it.item.number n it.image))

  pub all_v7 : keeps_v7 v (edit v is cut first accepted) ≡ true
  all_v7 = λ i.
      removed_stood i
      && ((λ j. list_all (λ (b : CreatedItem). has_virtual (tables_after_are j) b.number) (backings_made v is cut cut_is first accepted j))
      ∙ filter_passes (λ (b : CreatedItem). has_virtual tables_then b.number) (all_placed created_below (carved cut v) v.backings)) i
