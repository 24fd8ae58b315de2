-- The edit of an excise takes from each level the tables that are cut, and adds their parts there.
use Rattle.std.proofs.Common.{◌≡◌, ℕ, ◌+◌, ◌<◌, List, [], ◌∷◌, ◌++◌, Bool, true, false, length, refl, ap, sym, ◌∙◌, arith, inl, inr}
use Rattle.std.proofs.lemmas.Bool.Decides.{nat_tests}
use Rattle.std.proofs.lemmas.List.{append-nil, map-append}
use Rattle.std.specs.Prelude.{◌⊎◌, not, ◌&&◌, ◌||◌, ◌==◌, nat_lt, map}
use Rattle.std.specs.List.{filter, list_any, list_all}
use Rattle.std.specs.Option.{unwrap_or}
use Rattle.std.proofs.lemmas.List.Elements.{filter-append}
use Rattle.std.proofs.lemmas.Bool.{eq-eqb}
use Rattle.pb_edit.specs.Edit.{DeletedItem, VirtualItem, CreatedItem}
use Rattle.pb_keys.specs.Span.{KeySpan}
use Rattle.pb_keys.proofs.Tests.{same_tests, or_false}
use Rattle.pb_version.specs.Version.{TableView, flattened, size_of}
use Rattle.pb_version.specs.Edited.{each_level, virtual_table}
use Rattle.pb_version.specs.Rules.{each_pair, has_number}
use Rattle.pb_version.specs.Snapshot.{virtual_item}
use Rattle.pb_version.specs.State.{other_number}
use Rattle.pb_version.proofs.Lists.{filter_all}
use Rattle.pb_version.proofs.Levels.{flattened_cons, any_append}
use Rattle.pb_version.proofs.Pairs.{weaker, lower_differs}
use Rattle.pb_version.proofs.SnapshotSpelling.{levels_above}
use Rattle.pb_version.proofs.SnapshotRules.{filter_none}
use Rattle.pb_excise.specs.Excised.{parts_of, part_table, numbered_parts}
use Rattle.pb_excise.specs.Planned.{is_cut, deleted_item, deleted_items, parts_from, part_items, are_some}
use Rattle.pb_excise.proofs.SameLists.{In, found, any_of, pair_of, of_filter, into_filter}

equal_turned : (m n : ℕ) → (m == n) ≡ true → (n == m) ≡ true
equal_turned m n e = grind (arith, nat_tests)

lower_other : (m n : ℕ) → m < n → (m == n) ≡ false
lower_other m n h = grind (arith, nat_tests)

higher_other : (m n : ℕ) → m < n → (n == m) ≡ false
higher_other m n h = grind (arith, nat_tests)

-- ---- the deletions of a level

abbrev pub is_of : ℕ → ℕ → DeletedItem → Bool
is_of level number d = d.level == level && d.number == number

items_here : (level number : ℕ) (ts : List TableView) → list_any (is_of level number) (map (deleted_item level) ts) ≡ has_number ts number
items_here level number [] = refl
items_here level number (t ∷ ts) = λ i. (eq-eqb level level refl i && t.number == number) || items_here level number ts i

items_elsewhere : (level other number : ℕ) (ts : List TableView) → (level == other) ≡ false →
    list_any (is_of other number) (map (deleted_item level) ts) ≡ false
items_elsewhere level other number [] e = refl
items_elsewhere level other number (t ∷ ts) e = λ i. (e i && t.number == number) || items_elsewhere level other number ts e i

module _ (cut : KeySpan) where
  abbrev pub deleted_from : ℕ → List (List TableView) → List DeletedItem
  deleted_from k ls = flattened (each_level (deleted_items cut) k ls)

  both_parts : (k level number : ℕ) (ts : List TableView) (ls : List (List TableView)) →
      list_any (is_of level number) (deleted_from k (ts ∷ ls))
      ≡ (list_any (is_of level number) (deleted_items cut k ts) || list_any (is_of level number) (deleted_from (k + 1) ls))
  both_parts k level number ts ls =
      ap (list_any (is_of level number)) (flattened_cons (deleted_items cut k ts) (each_level (deleted_items cut) (k + 1) ls))
      ∙ any_append (is_of level number) (deleted_items cut k ts) (deleted_from (k + 1) ls)

  none_above : (k level number : ℕ) (ls : List (List TableView)) → level < k → list_any (is_of level number) (deleted_from k ls) ≡ false
  none_above k level number [] h = refl
  none_above k level number (ts ∷ ls) h =
      both_parts k level number ts ls
      ∙ (λ i. items_elsewhere k level number (filter (is_cut cut) ts) (higher_other level k h) i || none_above (k + 1) level number ls
      (omega arith) i)

  pub deleted_here : (k number : ℕ) (ts : List TableView) (ls : List (List TableView)) →
      list_any (is_of k number) (deleted_from k (ts ∷ ls)) ≡ has_number (filter (is_cut cut) ts) number
  deleted_here k number ts ls =
      both_parts k k number ts ls
      ∙ (λ i. items_here k number (filter (is_cut cut) ts) i || none_above (k + 1) k number ls (omega arith) i)
      ∙ or_false (has_number (filter (is_cut cut) ts) number)

  pub deleted_later : (k level number : ℕ) (ts : List TableView) (ls : List (List TableView)) → k < level →
      list_any (is_of level number) (deleted_from k (ts ∷ ls)) ≡ list_any (is_of level number) (deleted_from (k + 1) ls)
  deleted_later k level number ts ls h =
      both_parts k level number ts ls
      ∙ ap (λ b. b || list_any (is_of level number) (deleted_from (k + 1) ls)) (items_elsewhere k level number (filter (is_cut cut) ts)
      (lower_other k level h))

  -- of tables with numbers of their own, those that are cut have the number of one that is cut
  pub cut_numbers : (ts : List TableView) → each_pair other_number ts ≡ true → (t : TableView) → In ts t →
      has_number (filter (is_cut cut) ts) t.number ≡ is_cut cut t
  cut_numbers ts numbered t has = same_tests (has_number (filter (is_cut cut) ts) t.number) (is_cut cut t)
      (λ e.
      let it = found (λ (u : TableView). u.number == t.number) (filter (is_cut cut) ts) e in
      let both = of_filter (is_cut cut) ts it.item it.is_in in
      one_of it.item it.passes both.passes (pair_of other_number ts it.item t numbered both.is_in has))
      (λ e. any_of (λ (u : TableView). u.number == t.number) (filter (is_cut cut) ts) t (into_filter (is_cut cut) ts t has e)
      (eq-eqb t.number t.number refl))
    where
      one_of : (u : TableView) → (u.number == t.number) ≡ true → is_cut cut u ≡ true →
          (u ≡ t) ⊎ ((other_number u t ≡ true) ⊎ (other_number t u ≡ true)) → is_cut cut t ≡ true
      one_of u e is (inl same) = sym (ap (is_cut cut) same) ∙ is
      one_of u e is (inr (inl other)) = let bad : not true ≡ true = sym (ap not (equal_turned u.number t.number e)) ∙ other in cc
      one_of u e is (inr (inr other)) = let bad : not true ≡ true = sym (ap not e) ∙ other in cc

-- ---- the virtual tables of a level

pub on_level : (level : ℕ) (ps : List TableView) → list_all (λ (v : VirtualItem). v.level == level) (part_items level ps) ≡ true
on_level level [] = refl
on_level level (p ∷ ps) = λ i. eq-eqb level level refl i && on_level level ps i

not_later : (k l n : ℕ) → k < l → (n == k) ≡ true → not (n == l) ≡ true
not_later k l n h e = grind (arith, nat_tests)

abbrev pub items_of : ℕ → List (List TableView) → List VirtualItem
items_of k pss = flattened (each_level part_items k pss)

abbrev pub on : ℕ → List VirtualItem → List VirtualItem
on level items = filter (λ v. v.level == level) items

on_both : (k level : ℕ) (ps : List TableView) (pss : List (List TableView)) →
    on level (items_of k (ps ∷ pss)) ≡ on level (part_items k ps) ++ on level (items_of (k + 1) pss)
on_both k level ps pss =
    ap (on level) (flattened_cons (part_items k ps) (each_level part_items (k + 1) pss))
    ∙ filter-append (λ v. v.level == level) (part_items k ps) (items_of (k + 1) pss)

pub items_on_level : (k : ℕ) (ps : List TableView) (pss : List (List TableView)) → on k (items_of k (ps ∷ pss)) ≡ part_items k ps
items_on_level k ps pss =
    on_both k k ps pss
    ∙ (λ i. filter_all (λ v. v.level == k) (part_items k ps) (on_level k ps) i
    ++ filter_none (λ v. v.level == k) (items_of (k + 1) pss)
    (weaker (λ v. nat_lt k v.level) (λ v. not (v.level == k)) (λ v e. lower_differs k v.level e) (items_of (k + 1) pss)
    (levels_above (λ (v : VirtualItem). v.level) part_items on_level k (k + 1) pss (omega arith))) i)
    ∙ append-nil (part_items k ps)

pub items_on_later : (k level : ℕ) (ps : List TableView) (pss : List (List TableView)) → k < level →
    on level (items_of k (ps ∷ pss)) ≡ on level (items_of (k + 1) pss)
items_on_later k level ps pss h =
    on_both k level ps pss
    ∙ ap (λ xs. xs ++ on level (items_of (k + 1) pss))
    (filter_none (λ v. v.level == level) (part_items k ps) (weaker (λ v. v.level == k) (λ v. not (v.level == level))
    (λ v e. not_later k level v.level h e) (part_items k ps) (on_level k ps)))

-- ---- the tables that the items make

module _ (shown : List CreatedItem) where
  abbrev pub HasSize : TableView → Type 0
  HasSize t = unwrap_or (size_of shown t.backing) 0 ≡ t.size

  parts_made : (level : ℕ) (t : TableView) (n : ℕ) (parts : List KeySpan) → (are_some parts ≡ true → HasSize t) →
      map (virtual_table shown) (part_items level (numbered_parts t n parts)) ≡ numbered_parts t n parts
  parts_made level t n [] size = refl
  parts_made level t n (part ∷ parts) size = λ i.
      record (part_table t n part) { size = size refl i } ∷ parts_made level t (n + 1) parts (λ _. size refl) i

  pub items_made : (cut : KeySpan) (level n : ℕ) (ts : List TableView) → ((t : TableView) → In ts t → are_some (parts_of cut t) ≡ true →
      HasSize t) →
      map (virtual_table shown) (part_items level (parts_from cut n ts)) ≡ parts_from cut n ts
  items_made cut level n [] sizes = refl
  items_made cut level n (t ∷ ts) sizes =
      let m = n + length (parts_of cut t) in
      ap (map (virtual_table shown)) (map-append (virtual_item level) (numbered_parts t n (parts_of cut t)) (parts_from cut m ts))
      ∙ map-append (virtual_table shown) (part_items level (numbered_parts t n (parts_of cut t))) (part_items level (parts_from cut m ts))
      ∙ (λ i. parts_made level t n (parts_of cut t) (sizes t (inl refl)) i ++ items_made cut level m ts (λ u has. sizes u (inr has)) i)
