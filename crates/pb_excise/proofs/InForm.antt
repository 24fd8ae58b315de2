-- The edit of an excise, with a count, is an edit of the grammar.
use Rattle.std.proofs.Common.{◌≡◌, ℕ, ◌+◌, ◌<◌, ◌≤◌, ◌^◌, List, [], ◌∷◌, ◌++◌, Bool, true, false, cond, length, refl, ap, sym, ◌∙◌, subst, arith, inl, inr}
use Rattle.std.proofs.lemmas.Bool.Decides.{nat_tests}
use Rattle.std.proofs.lemmas.List.{map-append}
use Rattle.std.proofs.lemmas.List.Elements.{All-head, All-tail, filter-append}
use Rattle.std.proofs.lemmas.List.Folds.{list_all-append, list_all-map}
use Rattle.std.specs.Prelude.{not, ◌&&◌, ◌||◌, ◌==◌, nat_lt, nat_le, map, All}
use Rattle.std.specs.List.{filter, list_all, AllByRecursion}
use Rattle.std.proofs.lemmas.Bool.{le-leb}
use Rattle.pb_bytes.specs.Number.{IsNumber}
use Rattle.pb_edit.specs.Edit.{DeletedItem, VirtualItem, CreatedItem}
use Rattle.pb_edit.specs.Grammar.{IsField, IsDeleted, IsVirtual, IsCreated, IsEdit, deleted_below, virtual_below, created_below, edit_spelling}
use Rattle.pb_keys.specs.Span.{KeySpan, IsSpan, IsEnd, overlap}
use Rattle.pb_keys.specs.View.{is_view}
use Rattle.pb_keys.proofs.Forms.{span_says}
use Rattle.pb_span_cases.specs.Remainder.{remains}
use Rattle.pb_span_cases.proofs.RemainLaws.{remains_in_form}
use Rattle.pb_version.specs.Version.{TableView, VersionView, all_tables, flattened}
use Rattle.pb_version.specs.Edited.{all_placed, each_level}
use Rattle.pb_version.specs.Rules.{each_pair, has_backing, has_virtual, is_plain_view, has_no_parts}
use Rattle.pb_version.specs.Snapshot.{virtual_item}
use Rattle.pb_version.specs.State.{IsVersion, other_number, is_below_next}
use Rattle.pb_version.specs.Stored.{backing_of}
use Rattle.pb_version.proofs.Lists.{left, right, same_number}
use Rattle.pb_version.proofs.Levels.{flattened_cons}
use Rattle.pb_version.proofs.Kept.{view_span}
use Rattle.pb_version.proofs.Pairs.{weaker, pairs_filter}
use Rattle.pb_version.proofs.Commute.{Differ, AllDiffer, IsTransitive, each_all_placed, sorted_all_placed}
use Rattle.pb_version.proofs.Ruled.{of_backing}
use Rattle.pb_version.proofs.SnapshotSpelling.{ascends, chain_place, each_append, levels_above, no_field, lower_number, lower_place, pairs_append}
use Rattle.pb_excise.specs.Excised.{parts_of, part_table, numbered_parts, parts_count, excised}
use Rattle.pb_excise.specs.Planned.{is_cut, deleted_item, deleted_items, all_deleted, parts_from, parts_of_levels, part_items, all_parts, leaves_a_part, all_created, all_removed, excise_edit, with_count}
use Rattle.pb_excise.proofs.SameLists.{In, all_of, of_filter, of_map, in_first, in_second}
use Rattle.pb_excise.proofs.Drafts.{parts_count-append}
use Rattle.pb_excise.proofs.Gone.{deleted_from, items_of, on_level}
use Rattle.pb_excise.proofs.Backings.{created, created_sorted, virtual_backed, plain_backing}

-- ---- each element

each_from : {X : Type 0} (P : X → Type 0) (xs : List X) → ((x : X) → In xs x → P x) → AllByRecursion P xs
each_from P [] f = tt
each_from P (x ∷ xs) f = (f x (inl refl), each_from P xs (λ y has. f y (inr has)))

each_at : {X : Type 0} (P : X → Type 0) (xs : List X) (x : X) → AllByRecursion P xs → In xs x → P x
each_at P [] x all has = absurd has
each_at P (y ∷ ys) x all (inl same) = subst P same all.0
each_at P (y ∷ ys) x all (inr later) = each_at P ys x all.1 later

pairs_map : {X Y : Type 0} (r : Y → Y → Bool) (f : X → Y) (xs : List X) → each_pair r (map f xs) ≡ each_pair (λ x y. r (f x) (f y)) xs
pairs_map r f [] = refl
pairs_map r f (x ∷ xs) = λ i. list_all-map (r (f x)) f xs i && pairs_map r f xs i

-- ---- numbers and fields

is_lower : (m n : ℕ) → nat_lt m n ≡ true → m < n
is_lower m n e = grind (arith, nat_tests)

end_field : (bytes : List ℕ) → IsEnd bytes → IsField bytes
end_field bytes is = let within : length bytes ≤ 1025 = is.within in omega arith

-- ---- what goes

module _ (v : VersionView) (is : IsVersion v) where
  number_is : (t : TableView) → In (all_tables v) t → IsNumber t.number
  number_is t has = lower_number t.number v.five.next (left (nat_lt t.number v.five.next) (nat_lt t.rank v.five.next)
      (all_of (is_below_next v.five.next) (all_tables v) t is.below has)) is.numbers.next

  rank_is : (t : TableView) → In (all_tables v) t → IsNumber t.rank
  rank_is t has = lower_number t.rank v.five.next (right (nat_lt t.number v.five.next) (nat_lt t.rank v.five.next)
      (all_of (is_below_next v.five.next) (all_tables v) t is.below has)) is.numbers.next

  old_backing_is : (n : ℕ) → has_backing v.backings n ≡ true → IsNumber n
  old_backing_is n has = lower_number n v.five.next
      (of_backing (λ m. nat_lt m v.five.next) v.backings n has is.backings_below) is.numbers.next

  backing_is : (t : TableView) → In (all_tables v) t → IsNumber t.backing
  backing_is t has =
      elim t.is_virtual as (λ b. t.is_virtual ≡ b → IsNumber t.backing) [
        | true ↦ λ e. old_backing_is t.backing (virtual_backed v is t has e)
        | false ↦ λ e. subst (λ n. IsNumber n) (sym (same_number t.backing t.number (plain_backing v is t has e))) (number_is t has)
      ] refl

  view_is : (t : TableView) → In (all_tables v) t → is_plain_view t.view ≡ true
  view_is t has = all_of (λ (u : TableView). is_plain_view u.view) (all_tables v) t is.views has

  no_parts : (t : TableView) → In (all_tables v) t → has_no_parts t.view ≡ true
  no_parts t has = right (is_view t.view) (has_no_parts t.view) (view_is t has)

  module _ (cut : KeySpan) where
    deleted_each : (k : ℕ) (ts : List TableView) → k ≤ 6 → ((t : TableView) → In ts t → In (all_tables v) t) →
        AllByRecursion IsDeleted (deleted_items cut k ts)
    deleted_each k ts on inside = each_from IsDeleted (deleted_items cut k ts) (λ d has.
        let it = of_map (deleted_item k) (filter (is_cut cut) ts) d has in
        let both = of_filter (is_cut cut) ts it.item it.is_in in
        subst IsDeleted it.image (record { level = on; number = number_is it.item (inside it.item both.is_in) }))

    deleted_levels : (k : ℕ) (ls : List (List TableView)) → k + length ls ≤ 7 → ((t : TableView) → In (flattened ls) t →
        In (all_tables v) t) → AllByRecursion IsDeleted (deleted_from cut k ls)
    deleted_levels k [] h inside = tt
    deleted_levels k (ts ∷ ls) h inside =
        subst (AllByRecursion IsDeleted) (sym (flattened_cons (deleted_items cut k ts) (each_level (deleted_items cut) (k + 1) ls)))
        (each_append IsDeleted (deleted_items cut k ts) (deleted_from cut (k + 1) ls)
        (deleted_each k ts (omega arith)
        (λ t has. inside t (subst (λ us. In us t) (sym (flattened_cons ts ls)) (in_first ts (flattened ls) t has))))
        (deleted_levels (k + 1) ls (omega arith)
        (λ t has. inside t (subst (λ us. In us t) (sym (flattened_cons ts ls)) (in_second ts (flattened ls) t has)))))

    -- in order, by their numbers

    items_numbers : (k : ℕ) (us : List TableView) → map (λ (d : DeletedItem). d.number) (map (deleted_item k) us)
        ≡ map (λ (t : TableView). t.number) us
    items_numbers k [] = refl
    items_numbers k (u ∷ us) = ap (λ ns. u.number ∷ ns) (items_numbers k us)

    deleted_numbers : (k : ℕ) (ls : List (List TableView)) → map (λ (d : DeletedItem). d.number) (deleted_from cut k ls)
        ≡ map (λ (t : TableView). t.number) (filter (is_cut cut) (flattened ls))
    deleted_numbers k [] = refl
    deleted_numbers k (ts ∷ ls) =
        ap (map (λ (d : DeletedItem). d.number)) (flattened_cons (deleted_items cut k ts) (each_level (deleted_items cut) (k + 1) ls))
        ∙ map-append (λ (d : DeletedItem). d.number) (deleted_items cut k ts) (deleted_from cut (k + 1) ls)
        ∙ (λ i. items_numbers k (filter (is_cut cut) ts) i ++ deleted_numbers (k + 1) ls i)
        ∙ sym (ap (λ us. map (λ (t : TableView). t.number) (filter (is_cut cut) us)) (flattened_cons ts ls)
        ∙ ap (map (λ (t : TableView). t.number)) (filter-append (is_cut cut) ts (flattened ls))
        ∙ map-append (λ (t : TableView). t.number) (filter (is_cut cut) ts) (filter (is_cut cut) (flattened ls)))

    abbrev other_item : DeletedItem → DeletedItem → Bool
    other_item d e = not (e.number == d.number)

    deleted_apart : each_pair other_item (all_deleted cut v) ≡ true
    deleted_apart =
        sym (pairs_map (λ m n. not (n == m)) (λ (d : DeletedItem). d.number) (all_deleted cut v))
        ∙ ap (each_pair (λ m n. not (n == m))) (deleted_numbers 0 v.levels)
        ∙ pairs_map (λ m n. not (n == m)) (λ (t : TableView). t.number) (filter (is_cut cut) (all_tables v))
        ∙ pairs_filter other_number (is_cut cut) (all_tables v) is.numbered

    place_differs : (k m l n : ℕ) → not (n == m) ≡ true → (nat_lt l k || (l == k && nat_lt n m))
        ≡ not (nat_lt k l || (k == l && nat_lt m n))
    place_differs k m l n e = grind (arith, nat_tests)

    each_differs : (d : DeletedItem) (es : List DeletedItem) → list_all (other_item d) es ≡ true →
        AllByRecursion (Differ deleted_below d) es
    each_differs d [] all = tt
    each_differs d (e ∷ es) all = (
      place_differs d.level d.number e.level e.number (left (other_item d e) (list_all (other_item d) es) all),
      each_differs d es (right (other_item d e) (list_all (other_item d) es) all),
    )

    all_differ : (ds : List DeletedItem) → each_pair other_item ds ≡ true → AllDiffer deleted_below ds
    all_differ [] all = tt
    all_differ (d ∷ ds) all = (
      each_differs d ds (left (list_all (other_item d) ds) (each_pair other_item ds) all),
      all_differ ds (right (list_all (other_item d) ds) (each_pair other_item ds) all),
    )

    none_behind : (ds : List DeletedItem) → AllByRecursion (λ d. AllByRecursion (Differ deleted_below d) []) ds
    none_behind [] = tt
    none_behind (d ∷ ds) = (tt, none_behind ds)

    deleted_chain : IsTransitive deleted_below
    deleted_chain a b c p q = chain_place a.level b.level c.level a.number b.number c.number p q

    pub deleted_sorted : each_pair deleted_below (all_placed deleted_below (all_deleted cut v) []) ≡ true
    deleted_sorted = sorted_all_placed deleted_below deleted_chain (all_deleted cut v) [] (all_differ (all_deleted cut v) deleted_apart)
        (none_behind (all_deleted cut v)) refl

    -- ---- what comes

    record MayStand (t : TableView) : Type 0 where
      rank : IsNumber t.rank
      backing : IsNumber t.backing
      view : is_plain_view t.view ≡ true

    may_stand : (t : TableView) → In (all_tables v) t → MayStand t
    may_stand t has = record { rank = rank_is t has; backing = backing_is t has; view = view_is t has }

    part_is : (k m : ℕ) (t : TableView) (part : KeySpan) → k ≤ 6 → m < 2 ^ 62 → MayStand t → IsSpan part →
        IsVirtual (virtual_item k (part_table t m part))
    part_is k m t part on low may span =
        let parts = right (is_view t.view) (has_no_parts t.view) may.view in
        record {
          level = on;
          number = low;
          rank = may.rank;
          backing = may.backing;
          lo = end_field part.lo span.lo;
          hi = end_field part.hi span.hi;
          prefix = no_field t.view.prefix (left (length t.view.prefix == 0) (length t.view.suffix == 0) parts);
          suffix = no_field t.view.suffix (right (length t.view.prefix == 0) (length t.view.suffix == 0) parts);
        }

    numbered_are : (k m : ℕ) (t : TableView) (parts : List KeySpan) → k ≤ 6 → m + length parts ≤ 2 ^ 62 → MayStand t → All IsSpan parts →
        AllByRecursion IsVirtual (part_items k (numbered_parts t m parts))
    numbered_are k m t [] on low may spans = tt
    numbered_are k m t (part ∷ parts) on low may spans = (
      part_is k m t part on (omega arith) may (All-head IsSpan part parts spans),
      numbered_are k (m + 1) t parts on (omega arith) may (All-tail IsSpan part parts spans),
    )

    module _ (cut_is : IsSpan cut) where
      table_parts : (k m : ℕ) (t : TableView) → k ≤ 6 → m + length (parts_of cut t) ≤ 2 ^ 62 → MayStand t →
          AllByRecursion IsVirtual (part_items k (numbered_parts t m (parts_of cut t)))
      table_parts k m t on low may =
          elim (overlap t.view.bounds cut) as (λ b. m + length (cond b (remains t.view.bounds cut) []) ≤ 2 ^ 62 →
          AllByRecursion IsVirtual (part_items k (numbered_parts t m (cond b (remains t.view.bounds cut) [])))) [
            | true ↦ λ h. numbered_are k m t (remains t.view.bounds cut) on h may
                (remains_in_form t.view.bounds cut (span_says t.view.bounds (view_span t may.view)) cut_is)
            | false ↦ λ _. tt
          ] low

      level_parts : (k m : ℕ) (ts : List TableView) → k ≤ 6 → m + parts_count cut ts ≤ 2 ^ 62 →
          ((t : TableView) → In ts t → In (all_tables v) t) → AllByRecursion IsVirtual (part_items k (parts_from cut m ts))
      level_parts k m [] on low inside = tt
      level_parts k m (t ∷ ts) on low inside =
          subst (AllByRecursion IsVirtual)
          (sym (map-append (virtual_item k) (numbered_parts t m (parts_of cut t)) (parts_from cut (m + length (parts_of cut t)) ts)))
          (each_append IsVirtual (part_items k (numbered_parts t m (parts_of cut t)))
          (part_items k (parts_from cut (m + length (parts_of cut t)) ts))
          (table_parts k m t on (omega arith) (may_stand t (inside t (inl refl))))
          (level_parts k (m + length (parts_of cut t)) ts on (omega arith) (λ u has. inside u (inr has))))

      levels_parts : (k m : ℕ) (ls : List (List TableView)) → k + length ls ≤ 7 → m + parts_count cut (flattened ls) ≤ 2 ^ 62 →
          ((t : TableView) → In (flattened ls) t → In (all_tables v) t) →
          AllByRecursion IsVirtual (items_of k (parts_of_levels cut m ls))
      levels_parts k m [] h low inside = tt
      levels_parts k m (ts ∷ ls) h low inside =
          let n = m + parts_count cut ts in
          let both : parts_count cut (flattened (ts ∷ ls)) ≡ parts_count cut ts + parts_count cut (flattened ls) =
          ap (parts_count cut) (flattened_cons ts ls) ∙ parts_count-append cut ts (flattened ls) in
          subst (AllByRecursion IsVirtual)
          (sym (flattened_cons (part_items k (parts_from cut m ts)) (each_level part_items (k + 1) (parts_of_levels cut n ls))))
          (each_append IsVirtual (part_items k (parts_from cut m ts)) (items_of (k + 1) (parts_of_levels cut n ls))
          (level_parts k m ts (omega arith) (omega (arith, both))
          (λ t has. inside t (subst (λ us. In us t) (sym (flattened_cons ts ls)) (in_first ts (flattened ls) t has))))
          (levels_parts (k + 1) n ls (omega arith) (omega (arith, both))
          (λ t has. inside t (subst (λ us. In us t) (sym (flattened_cons ts ls)) (in_second ts (flattened ls) t has)))))

-- ---- the parts in order

upto_itself : (n : ℕ) → nat_le n n ≡ true
upto_itself n = grind (arith, nat_tests)

upto_next : (m n : ℕ) → nat_le (n + 1) m ≡ true → nat_lt n m ≡ true
upto_next m n e = grind (arith, nat_tests)

upto_more : (m n k : ℕ) → m ≤ n → nat_le n k ≡ true → nat_le m k ≡ true
upto_more m n k h e = grind (arith, nat_tests)

place_rises : (k m n : ℕ) → nat_lt m n ≡ true → (nat_lt k k || (k == k && nat_lt m n)) ≡ true
place_rises k m n e = grind (arith, nat_tests)

abbrev pub from : ℕ → TableView → Bool
from n p = nat_le n p.number

abbrev pub rise : TableView → TableView → Bool
rise p q = nat_lt p.number q.number

numbered_from : (t : TableView) (m n : ℕ) (parts : List KeySpan) → m ≤ n → list_all (from m) (numbered_parts t n parts) ≡ true
numbered_from t m n [] h = refl
numbered_from t m n (part ∷ parts) h = λ i. le-leb m n h i && numbered_from t m (n + 1) parts (omega arith) i

pub parts_are_from : (cut : KeySpan) (m n : ℕ) (ts : List TableView) → m ≤ n → list_all (from m) (parts_from cut n ts) ≡ true
parts_are_from cut m n [] h = refl
parts_are_from cut m n (t ∷ ts) h =
    list_all-append (from m) (numbered_parts t n (parts_of cut t)) (parts_from cut (n + length (parts_of cut t)) ts)
    ∙ (λ i. numbered_from t m n (parts_of cut t) h i && parts_are_from cut m (n + length (parts_of cut t)) ts (omega arith) i)

-- in front of parts with greater numbers
numbered_rise : (t : TableView) (n : ℕ) (parts : List KeySpan) (others : List TableView) → list_all (from (n + length parts)) others
    ≡ true → each_pair rise others ≡ true →
    each_pair rise (numbered_parts t n parts ++ others) ≡ true
numbered_rise t n [] others low up = up
numbered_rise t n (part ∷ parts) others low up =
    let low_next : list_all (from ((n + 1) + length parts)) others ≡ true =
    weaker (from (n + length (part ∷ parts))) (from ((n + 1) + length parts)) (λ p e. upto_more ((n + 1) + length parts)
    (n + length (part ∷ parts)) p.number (omega arith) e) others low in
    let behind : list_all (from (n + 1)) (numbered_parts t (n + 1) parts ++ others) ≡ true =
    list_all-append (from (n + 1)) (numbered_parts t (n + 1) parts) others
    ∙ (λ i. numbered_from t (n + 1) (n + 1) parts (omega arith) i
    && weaker (from (n + length (part ∷ parts))) (from (n + 1)) (λ p e. upto_more (n + 1) (n + length (part ∷ parts)) p.number
    (omega arith) e) others low i) in
    λ i. weaker (from (n + 1)) (rise (part_table t n part)) (λ p e. upto_next p.number n e)
    (numbered_parts t (n + 1) parts ++ others) behind i
    && numbered_rise t (n + 1) parts others low_next up i

pub parts_rise : (cut : KeySpan) (n : ℕ) (ts : List TableView) → each_pair rise (parts_from cut n ts) ≡ true
parts_rise cut n [] = refl
parts_rise cut n (t ∷ ts) =
    let m = n + length (parts_of cut t) in
    numbered_rise t n (parts_of cut t) (parts_from cut m ts) (parts_are_from cut m m ts (omega arith)) (parts_rise cut m ts)

items_rise : (k : ℕ) (ps : List TableView) → each_pair rise ps ≡ true → each_pair virtual_below (part_items k ps) ≡ true
items_rise k ps e =
    pairs_map virtual_below (virtual_item k) ps
    ∙ (λ i. each_pair (λ p q. level_itself (nat_lt p.number q.number) i) ps) ∙ e
  where
    level_itself : (b : Bool) → (nat_lt k k || (k == k && b)) ≡ b
    level_itself true = grind (arith, nat_tests)
    level_itself false = grind (arith, nat_tests)

levels_rise : (cut : KeySpan) (k n : ℕ) (ls : List (List TableView)) → each_pair virtual_below (items_of k (parts_of_levels cut n ls))
    ≡ true
levels_rise cut k n [] = refl
levels_rise cut k n (ts ∷ ls) =
    let m = n + parts_count cut ts in
    let deeper = items_of (k + 1) (parts_of_levels cut m ls) in
    ap (each_pair virtual_below) (flattened_cons (part_items k (parts_from cut n ts))
    (each_level part_items (k + 1) (parts_of_levels cut m ls)))
    ∙ pairs_append virtual_below (part_items k (parts_from cut n ts)) deeper
    (items_rise k (parts_from cut n ts) (parts_rise cut n ts))
    (levels_rise cut (k + 1) m ls)
    (weaker (λ x. x.level == k) (λ x. list_all (virtual_below x) deeper)
    (λ x here. weaker (λ y. nat_lt k y.level) (virtual_below x)
    (λ y there. lower_place x.level y.level x.number y.number (subst (λ l. nat_lt l y.level ≡ true)
    (sym (same_number x.level k here)) there))
    deeper (levels_above (λ (w : VirtualItem). w.level) part_items on_level k (k + 1) (parts_of_levels cut m ls) (omega arith)))
    (part_items k (parts_from cut n ts)) (on_level k (parts_from cut n ts)))

-- ---- the edit

module _ (v : VersionView) (is : IsVersion v) (cut : KeySpan) (cut_is : IsSpan cut) (first : ℕ) where
  each_created : AllByRecursion IsCreated (created v is cut)
  each_created = each_all_placed IsCreated created_below (all_created cut v) [] (each_from IsCreated (all_created cut v) (λ c has.
      let it = of_map backing_of (filter (leaves_a_part cut) (all_tables v)) c has in
      let both = of_filter (leaves_a_part cut) (all_tables v) it.item it.is_in in
      subst IsCreated it.image (record {
        number = backing_is v is it.item both.is_in;
        size = each_at (λ (t : TableView). IsNumber t.size) (all_tables v) it.item is.sizes both.is_in;
      }))) tt

  abbrev stays_unshown : CreatedItem → Bool
  stays_unshown b = not (has_virtual (all_tables (excised v cut first)) b.number)

  each_removed : AllByRecursion IsNumber (all_removed cut first v)
  each_removed = each_from IsNumber (all_removed cut first v) (λ n has.
      let it = of_map (λ (b : CreatedItem). b.number) (filter stays_unshown v.backings) n has in
      let both = of_filter stays_unshown v.backings it.item it.is_in in
      subst (λ m. IsNumber m) it.image
      (lower_number it.item.number v.five.next
      (all_of (λ (b : CreatedItem). nat_lt b.number v.five.next) v.backings it.item is.backings_below both.is_in) is.numbers.next))

  pub removed_sorted : each_pair nat_lt (all_removed cut first v) ≡ true
  removed_sorted =
      pairs_map nat_lt (λ (b : CreatedItem). b.number) (filter stays_unshown v.backings)
      ∙ pairs_filter created_below stays_unshown v.backings is.ascend

  pub in_form : first + parts_count cut (all_tables v) ≤ 2 ^ 62 → (accepted : ℕ) → IsNumber accepted →
      IsEdit (with_count accepted (excise_edit v cut first))
  unfolding edit_spelling
  in_form room accepted low = record {
    some = λ e. cc;
    accepted = low;
    next = tt;
    log = tt;
    flushed = tt;
    format = tt;
    deleted = record {
      each = each_all_placed IsDeleted deleted_below (all_deleted cut v) []
          (deleted_levels v is cut 0 v.levels (omega (arith, is.levels)) (λ t has. has)) tt;
      ascend = ascends deleted_below (all_placed deleted_below (all_deleted cut v) []) (deleted_sorted v is cut);
    };
    physical = record { each = tt; ascend = tt };
    virtuals = record {
      each = levels_parts v is cut cut_is 0 first v.levels (omega (arith, is.levels)) room (λ t has. has);
      ascend = ascends virtual_below (all_parts cut first v) (levels_rise cut 0 first v.levels);
    };
    created = record { each = each_created; ascend = ascends created_below (created v is cut) (created_sorted v is cut) };
    removed = record { each = each_removed; ascend = ascends nat_lt (all_removed cut first v) removed_sorted };
  }
