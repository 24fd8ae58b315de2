-- The edit of an excise makes of a version what the excise leaves.
use Rattle.std.proofs.Common.{◌≡◌, ℕ, ◌+◌, ◌≤◌, List, [], ◌∷◌, Bool, true, false, cond, refl, ap, sym, ◌∙◌, subst, arith}
use Rattle.std.specs.Prelude.{not, ◌&&◌, ◌||◌, ◌==◌, map}
use Rattle.std.specs.List.{filter, list_any, list_all}
use Rattle.pb_edit.specs.Edit.{CreatedItem, VersionEdit}
use Rattle.pb_edit.specs.Grammar.{deleted_below, created_below}
use Rattle.pb_keys.specs.Span.{KeySpan, IsSpan}
use Rattle.pb_keys.proofs.Tests.{or_false}
use Rattle.pb_version.specs.Version.{TableView, VersionView, version_of, all_tables, flattened}
use Rattle.pb_version.specs.Edited.{all_placed, comes_before, each_level, level_after, staying, is_removed, backings_after, virtual_table, edited}
use Rattle.pb_version.specs.Rules.{each_pair, are_all_apart, has_backing, has_virtual, is_plain_view}
use Rattle.pb_version.specs.State.{IsVersion, other_number}
use Rattle.pb_version.proofs.Lists.{left, right, same_number, list_any_all_placed}
use Rattle.pb_version.proofs.Levels.{flattened_cons, list_all_flattened}
use Rattle.pb_version.proofs.SnapshotSpelling.{pairs_front, pairs_back}
use Rattle.pb_excise.specs.Excised.{parts_count, excised_tables, excised_levels, carved, excised}
use Rattle.pb_excise.specs.Planned.{is_cut, all_deleted, parts_from, parts_of_levels, excise_edit, with_count, at_count}
use Rattle.pb_excise.proofs.SameLists.{In, filter_same, in_first, in_second}
use Rattle.pb_excise.proofs.Placed.{placed_whole}
use Rattle.pb_excise.proofs.Gone.{is_of, deleted_from, deleted_here, deleted_later, cut_numbers, items_of, on, items_on_level, items_on_later, items_made}
use Rattle.pb_excise.proofs.Backings.{shown, part_size, levels_shown, goes, backings_left}

-- ---- pairs of a list that was joined

-- ---- the numbers that the edit removes

removed_first : (n m : ℕ) (s : ℕ → Bool) (rest : Bool) → s m ≡ true → (rest && not (s n)) ≡ ((m == n || rest) && not (s n))
removed_first n m s rest e =
    elim (m == n) as (λ b. (m == n) ≡ b → (rest && not (s n)) ≡ ((b || rest) && not (s n))) [
      | true ↦ λ same.
          let is : s n ≡ true = sym (ap s (same_number m n same)) ∙ e in
          ap (λ b. rest && not b) is ∙ and_false rest ∙ sym (ap not is)
      | false ↦ λ _. refl
    ] refl
  where
    and_false : (b : Bool) → (b && false) ≡ false
    and_false true = refl
    and_false false = refl

removed_more : (n m : ℕ) (s : ℕ → Bool) (rest : Bool) → s m ≡ false → (m == n || (rest && not (s n))) ≡ ((m == n || rest) && not (s n))
removed_more n m s rest e =
    elim (m == n) as (λ b. (m == n) ≡ b → (b || (rest && not (s n))) ≡ ((b || rest) && not (s n))) [
      | true ↦ λ same. sym (ap (λ b. not b) (sym (ap s (same_number m n same)) ∙ e))
      | false ↦ λ _. refl
    ] refl

pub removed_are : (s : ℕ → Bool) (bs : List CreatedItem) (n : ℕ) →
    list_any (λ m. m == n) (map (λ (b : CreatedItem). b.number) (filter (λ (b : CreatedItem). not (s b.number)) bs))
    ≡ (has_backing bs n && not (s n))
removed_are s [] n = refl
removed_are s (b ∷ bs) n =
    let others = filter (λ (c : CreatedItem). not (s c.number)) bs in
    elim (s b.number) as (λ t. s b.number ≡ t →
    list_any (λ m. m == n) (map (λ (c : CreatedItem). c.number) (cond (not t) (b ∷ others) others))
    ≡ ((b.number == n || has_backing bs n) && not (s n))) [
      | true ↦ λ e. removed_are s bs n ∙ removed_first n b.number s (has_backing bs n) e
      | false ↦ λ e. ap (λ r. b.number == n || r) (removed_are s bs n) ∙ removed_more n b.number s (has_backing bs n) e
    ] refl

module _ (v : VersionView) (is : IsVersion v) (cut : KeySpan) (cut_is : IsSpan cut) (first accepted : ℕ) where
  abbrev edit : VersionEdit
  edit = with_count accepted (excise_edit v cut first)

  -- ---- each level

  abbrev plain_tables : List TableView → Bool
  plain_tables ts = list_all (λ (t : TableView). is_plain_view t.view) ts

  -- the tables of these levels are those of a version, and the edit's lists say of them what they say of these levels alone
  record Levels (k n : ℕ) (ls : List (List TableView)) : Type 0 where
    apart : list_all (λ a. a) (each_level are_all_apart k ls) ≡ true
    sorted : list_all (λ s. s) (each_level (λ level ts. each_pair (comes_before level) ts) k ls) ≡ true
    views : list_all plain_tables ls ≡ true
    numbered : each_pair other_number (flattened ls) ≡ true
    inside : (t : TableView) → In (flattened ls) t → In (all_tables v) t
    gone : (level number : ℕ) → k ≤ level → list_any (is_of level number) edit.deleted ≡ list_any (is_of level number)
        (deleted_from cut k ls)
    items : (level : ℕ) → k ≤ level → on level edit.virtuals ≡ on level (items_of k (parts_of_levels cut n ls))

  levels_on : (k n : ℕ) (ts : List TableView) (ls : List (List TableView)) → Levels k n (ts ∷ ls) →
      Levels (k + 1) (n + parts_count cut ts) ls
  levels_on k n ts ls are = record {
    apart = right (are_all_apart k ts) (list_all (λ a. a) (each_level are_all_apart (k + 1) ls)) are.apart;
    sorted = right (each_pair (comes_before k) ts) (list_all (λ s. s) (each_level (λ level us. each_pair (comes_before level) us)
        (k + 1) ls)) are.sorted;
    views = right (plain_tables ts) (list_all plain_tables ls) are.views;
    numbered = pairs_back other_number ts (flattened ls) (sym (ap (each_pair other_number) (flattened_cons ts ls)) ∙ are.numbered);
    inside = λ t has. are.inside t (subst (λ us. In us t) (sym (flattened_cons ts ls)) (in_second ts (flattened ls) t has));
    gone = λ level number h. are.gone level number (omega arith) ∙ deleted_later cut k level number ts ls (omega arith);
    items = λ level h. are.items level (omega arith) ∙ items_on_later k level (parts_from cut n ts)
        (parts_of_levels cut (n + parts_count cut ts) ls) (omega arith);
  }

  level_made : (k n : ℕ) (ts : List TableView) (ls : List (List TableView)) → Levels k n (ts ∷ ls) →
      level_after v edit k ts ≡ excised_tables cut n ts
  level_made k n ts ls are =
      let numbered = pairs_front other_number ts (flattened ls) (sym (ap (each_pair other_number) (flattened_cons ts ls)) ∙ are.numbered) in
      let inside : (t : TableView) → In ts t → In (all_tables v) t =
      λ t has. are.inside t (subst (λ us. In us t) (sym (flattened_cons ts ls)) (in_first ts (flattened ls) t has)) in
      let new : map (virtual_table (shown v is cut)) (on k edit.virtuals) ≡ parts_from cut n ts =
      ap (map (virtual_table (shown v is cut))) (are.items k (omega arith)
      ∙ items_on_level k (parts_from cut n ts) (parts_of_levels cut (n + parts_count cut ts) ls))
      ∙ items_made (shown v is cut) cut k n ts (λ t has some. part_size v is cut t (inside t has) some) in
      let stay : staying edit k ts ≡ filter (λ t. not (is_cut cut t)) ts =
      filter_same (λ t. not (list_any (is_of k t.number) edit.deleted)) (λ t. not (is_cut cut t)) ts
      (λ t has. ap not (are.gone k t.number (omega arith) ∙ deleted_here cut k t.number ts ls ∙ cut_numbers cut ts numbered t has)) in
      (λ i. all_placed (comes_before k) (new i) (stay i))
      ∙ placed_whole cut cut_is k n ts (record {
        sorted = left (each_pair (comes_before k) ts) (list_all (λ s. s) (each_level (λ level us. each_pair (comes_before level) us)
            (k + 1) ls)) are.sorted;
        apart = left (are_all_apart k ts) (list_all (λ a. a) (each_level are_all_apart (k + 1) ls)) are.apart;
        views = left (plain_tables ts) (list_all plain_tables ls) are.views;
      })

  levels_made : (k n : ℕ) (ls : List (List TableView)) → Levels k n ls → each_level (level_after v edit) k ls ≡ excised_levels cut n ls
  levels_made k n [] are = refl
  levels_made k n (ts ∷ ls) are = λ i. level_made k n ts ls are i ∷ levels_made (k + 1) (n + parts_count cut ts) ls
      (levels_on k n ts ls are) i

  pub all_levels_made : each_level (level_after v edit) 0 v.levels ≡ excised_levels cut first v.levels
  all_levels_made = levels_made 0 first v.levels (record {
    apart = is.apart;
    sorted = is.sorted;
    views = sym (list_all_flattened (λ (t : TableView). is_plain_view t.view) v.levels) ∙ is.views;
    numbered = is.numbered;
    inside = λ t has. has;
    gone = λ level number h. list_any_all_placed (is_of level number) deleted_below (all_deleted cut v) []
        ∙ or_false (list_any (is_of level number) (all_deleted cut v));
    items = λ level h. refl;
  })

  -- ---- the backings

  pub removed_goes : (n : ℕ) → is_removed edit n ≡ goes v is cut n
  unfolding excised
  removed_goes n =
      removed_are (λ m. has_virtual (flattened (excised_levels cut first v.levels)) m) v.backings n
      ∙ ap (λ b. has_backing v.backings n && not b) (levels_shown v is cut first n v.levels)

  pub backings_made : backings_after v edit
      ≡ filter (λ (b : CreatedItem). has_virtual (flattened (excised_levels cut first v.levels)) b.number)
      (all_placed created_below (carved cut v) v.backings)
  backings_made =
      ap (λ p. filter p (shown v is cut)) (λ i (b : CreatedItem). not (removed_goes b.number i))
      ∙ backings_left v is cut
      ∙ sym (ap (λ p. filter p (all_placed created_below (carved cut v) v.backings))
      (λ i (b : CreatedItem). levels_shown v is cut first b.number v.levels i))

  pub makes : edited v edit ≡ at_count accepted (excised v cut first)
  unfolding edited excised
  makes = λ i. version_of (all_levels_made i) (backings_made i) (record v.five { accepted = accepted })
