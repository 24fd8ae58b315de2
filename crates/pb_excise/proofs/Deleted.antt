-- V1: what the edit of an excise deletes stands on its level.
use Rattle.std.proofs.Common.{◌≡◌, ℕ, ◌+◌, List, [], ◌∷◌, Bool, true, suc, refl, ap, sym, ◌∙◌, arith, inl, inr}
use Rattle.std.proofs.lemmas.Bool.{eq-eqb}
use Rattle.std.proofs.lemmas.List.Folds.{list_all-append}
use Rattle.std.specs.Prelude.{◌&&◌, ◌==◌, map, slice_index_or}
use Rattle.std.specs.List.{filter, list_all}
use Rattle.pb_edit.specs.Edit.{DeletedItem}
use Rattle.pb_edit.specs.Grammar.{deleted_below}
use Rattle.pb_keys.specs.Span.{KeySpan}
use Rattle.pb_version.specs.Version.{TableView, VersionView, tables_of_level}
use Rattle.pb_version.specs.Edited.{each_level}
use Rattle.pb_version.specs.Rules.{has_number, keeps_v1}
use Rattle.pb_version.proofs.Lists.{list_all_all_placed}
use Rattle.pb_version.proofs.Levels.{flattened_cons}
use Rattle.pb_excise.specs.Planned.{is_cut, deleted_item, deleted_items, all_deleted, excise_edit, with_count}
use Rattle.pb_excise.proofs.SameLists.{In, any_of, of_filter}
use Rattle.pb_excise.proofs.Gone.{deleted_from}

module _ (v : VersionView) (cut : KeySpan) where
  abbrev stands : DeletedItem → Bool
  stands d = has_number (tables_of_level v d.level) d.number

  items_stand : (level : ℕ) (ts : List TableView) → ts ≡ tables_of_level v level → (us : List TableView) →
      ((t : TableView) → In us t → In ts t) → list_all stands (map (deleted_item level) us) ≡ true
  items_stand level ts at [] inside = refl
  items_stand level ts at (u ∷ us) inside = λ i.
      (ap (λ ws. has_number ws u.number) (sym at)
      ∙ any_of (λ (t : TableView). t.number == u.number) ts u (inside u (inl refl)) (eq-eqb u.number u.number refl)) i
      && items_stand level ts at us (λ t has. inside t (inr has)) i

  levels_stand : (k : ℕ) (ls : List (List TableView)) → ((i : ℕ) → slice_index_or ls i [] ≡ tables_of_level v (k + i)) →
      list_all stands (deleted_from cut k ls) ≡ true
  levels_stand k [] at = refl
  levels_stand k (ts ∷ ls) at =
      let first : k + 0 ≡ k = omega arith in
      ap (list_all stands) (flattened_cons (deleted_items cut k ts) (each_level (deleted_items cut) (k + 1) ls))
      ∙ list_all-append stands (deleted_items cut k ts) (deleted_from cut (k + 1) ls)
      ∙ (λ i.
      items_stand k ts (at 0 ∙ ap (tables_of_level v) first) (filter (is_cut cut) ts)
      (λ t has. let both = of_filter (is_cut cut) ts t has in both.is_in) i
      && levels_stand (k + 1) ls (λ j. let next : k + suc j ≡ (k + 1) + j = omega arith in at (suc j) ∙ ap (tables_of_level v) next) i)

  pub all_v1 : (first accepted : ℕ) → keeps_v1 v (with_count accepted (excise_edit v cut first)) ≡ true
  all_v1 first accepted =
      list_all_all_placed stands deleted_below (all_deleted cut v) []
      ∙ (λ i. levels_stand 0 v.levels (λ j. let same : j ≡ 0 + j = omega arith in ap (tables_of_level v) same) i && true)
