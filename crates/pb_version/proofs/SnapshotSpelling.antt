-- The snapshot of a version is an edit of the grammar.
use Rattle.std.proofs.Common.{◌≡◌, ℕ, ◌+◌, ◌≤◌, ◌<◌, List, [], ◌∷◌, ◌++◌, Bool, true, false, cond, length, refl, ap, sym, ◌∙◌, subst, arith, eq-eqb}
use Rattle.std.proofs.lemmas.Bool.Decides.{nat_tests}
use Rattle.std.proofs.lemmas.List.Folds.{list_all-append}
use Rattle.std.specs.Prelude.{not, ◌==◌, ◌&&◌, ◌||◌, nat_lt, nat_le, map}
use Rattle.std.specs.List.{filter, list_all, AllByRecursion}
use Rattle.std.proofs.Math.Bool.{and-true}
use Rattle.std.proofs.lemmas.Bool.{eqb-true, ltb-true}
use Rattle.pb_edit.specs.Edit.{PhysicalItem, VirtualItem, CreatedItem}
use Rattle.pb_edit.specs.Grammar.{IsField, IsPhysical, IsVirtual, IsCreated, Ascend, IsEdit, physical_below, virtual_below, created_below, edit_spelling}
use Rattle.pb_bytes.specs.Number.{IsNumber}
use Rattle.pb_version.specs.Version.{TableView, VersionView, all_tables, flattened}
use Rattle.pb_version.specs.Edited.{all_placed, each_level}
use Rattle.pb_version.specs.Rules.{each_pair, has_backing, has_its_backing, is_plain_view, has_no_parts}
use Rattle.pb_keys.specs.View.{is_view}
use Rattle.pb_keys.specs.Span.{is_end, has_no_at}
use Rattle.pb_version.specs.State.{IsVersion, IsSpellable, other_number, is_below_next}
use Rattle.pb_version.specs.Snapshot.{physical_item, virtual_item, physical_items, virtual_items, snapshot_of}
use Rattle.pb_version.proofs.Lists.{left, right, list_all_all_placed}
use Rattle.pb_version.proofs.Levels.{flattened_cons, list_all_flattened}
use Rattle.pb_version.proofs.Ruled.{of_backing}
use Rattle.pb_version.proofs.Kept.{view_span}
use Rattle.pb_version.proofs.KeptFacts.{both_all}
use Rattle.pb_version.proofs.Installing.{has_size, size_tests, sizes_tested}
use Rattle.pb_version.proofs.Pairs.{filter_keeps, pairs_filter, weaker}
use Rattle.pb_keys.proofs.Forms.{of_three}
use Rattle.pb_version.proofs.Commute.{Differ, AllDiffer, IsTransitive, each_filter, each_all_placed, sorted_all_placed}
use Rattle.pb_version.proofs.Spelling.{at_each}

-- ---- numbers and fields

pub lower_number : (m n : ℕ) → nat_lt m n ≡ true → IsNumber n → IsNumber m
lower_number m n e h = omega (arith, ltb-true m n e)

short : (some plain : Bool) (n : ℕ) → (some && nat_le n 1025 && plain) ≡ true → n ≤ 1025
short some plain n e = let within : nat_le n 1025 ≡ true = right some (nat_le n 1025) (left (some && nat_le n 1025) plain e) in grind (arith, nat_tests)

end_field : (bytes : List ℕ) → is_end bytes ≡ true → IsField bytes
end_field bytes e = omega (arith, short (nat_le 1 (length bytes)) (has_no_at bytes) (length bytes) e)

pub no_field : (bytes : List ℕ) → (length bytes == 0) ≡ true → IsField bytes
no_field bytes e = omega (arith, eqb-true (length bytes) 0 e)

record HasFields (t : TableView) : Type 0 where
  lo : IsField t.view.bounds.lo
  hi : IsField t.view.bounds.hi
  prefix : IsField t.view.prefix
  suffix : IsField t.view.suffix

has_fields : (t : TableView) → is_plain_view t.view ≡ true → HasFields t
has_fields t e =
    let parts = right (is_view t.view) (has_no_parts t.view) e in
    let ends = of_three (is_end t.view.bounds.lo) (is_end t.view.bounds.hi) _ (view_span t e) in
    record {
      lo = end_field t.view.bounds.lo ends.0;
      hi = end_field t.view.bounds.hi ends.1;
      prefix = no_field t.view.prefix (left (length t.view.prefix == 0) (length t.view.suffix == 0) parts);
      suffix = no_field t.view.suffix (right (length t.view.prefix == 0) (length t.view.suffix == 0) parts);
    }

-- ---- items

module _ (level : ℕ) (on : level ≤ 6) (bs : List CreatedItem) (next : ℕ) (next_is : IsNumber next) (bs_below : list_all (λ (b : CreatedItem). nat_lt b.number next) bs ≡ true) where
  physical_is : (t : TableView) → is_plain_view t.view ≡ true → is_below_next next t ≡ true → IsNumber t.size → IsPhysical (physical_item level t)
  physical_is t view below size =
      let fields = has_fields t view in
      record {
        level = on;
        number = lower_number t.number next (left (nat_lt t.number next) (nat_lt t.rank next) below) next_is;
        rank = lower_number t.rank next (right (nat_lt t.number next) (nat_lt t.rank next) below) next_is;
        size = size;
        lo = fields.lo;
        hi = fields.hi;
      }

  virtual_is : (t : TableView) → is_plain_view t.view ≡ true → is_below_next next t ≡ true → has_backing bs t.backing ≡ true → IsVirtual (virtual_item level t)
  virtual_is t view below backed =
      let fields = has_fields t view in
      record {
        level = on;
        number = lower_number t.number next (left (nat_lt t.number next) (nat_lt t.rank next) below) next_is;
        rank = lower_number t.rank next (right (nat_lt t.number next) (nat_lt t.rank next) below) next_is;
        backing = lower_number t.backing next (of_backing (λ n. nat_lt n next) bs t.backing backed bs_below) next_is;
        lo = fields.lo;
        hi = fields.hi;
        prefix = fields.prefix;
        suffix = fields.suffix;
      }

  each_physical : (ts : List TableView) → list_all (λ (t : TableView). is_plain_view t.view) ts ≡ true → list_all (is_below_next next) ts ≡ true →
      AllByRecursion (λ (t : TableView). IsNumber t.size) ts → AllByRecursion IsPhysical (map (physical_item level) ts)
  each_physical [] views below sizes = tt
  each_physical (t ∷ ts) views below sizes = (
    physical_is t (left (is_plain_view t.view) (list_all (λ u. is_plain_view u.view) ts) views) (left (is_below_next next t) (list_all (is_below_next next) ts) below) sizes.0,
    each_physical ts (right (is_plain_view t.view) (list_all (λ u. is_plain_view u.view) ts) views) (right (is_below_next next t) (list_all (is_below_next next) ts) below) sizes.1,
  )

  each_virtual : (ts : List TableView) → list_all (λ (t : TableView). is_plain_view t.view) ts ≡ true → list_all (is_below_next next) ts ≡ true →
      list_all (has_its_backing bs) ts ≡ true → AllByRecursion IsVirtual (map (virtual_item level) (filter (λ t. t.is_virtual) ts))
  each_virtual [] views below backed = tt
  each_virtual (t ∷ ts) views below backed =
      let later = each_virtual ts (right (is_plain_view t.view) (list_all (λ u. is_plain_view u.view) ts) views) (right (is_below_next next t) (list_all (is_below_next next) ts) below)
      (right (has_its_backing bs t) (list_all (has_its_backing bs) ts) backed) in
      elim t.is_virtual as (λ b. (not b || has_backing bs t.backing) ≡ true →
      AllByRecursion IsVirtual (map (virtual_item level) (cond b (t ∷ filter (λ u. u.is_virtual) ts) (filter (λ u. u.is_virtual) ts)))) [
        | true ↦ λ has. (
          virtual_is t (left (is_plain_view t.view) (list_all (λ u. is_plain_view u.view) ts) views) (left (is_below_next next t) (list_all (is_below_next next) ts) below) has,
          later,
        )
        | false ↦ λ _. later
      ] (left (has_its_backing bs t) (list_all (has_its_backing bs) ts) backed)

each_created : (next : ℕ) → IsNumber next → (bs : List CreatedItem) → list_all (λ (b : CreatedItem). nat_lt b.number next) bs ≡ true →
    AllByRecursion (λ (b : CreatedItem). IsNumber b.size) bs → AllByRecursion IsCreated bs
each_created next is [] below sizes = tt
each_created next is (b ∷ bs) below sizes = (
  record { number = lower_number b.number next (left (nat_lt b.number next) (list_all (λ c. nat_lt c.number next) bs) below) is; size = sizes.0 },
  each_created next is bs (right (nat_lt b.number next) (list_all (λ c. nat_lt c.number next) bs) below) sizes.1,
)

-- ---- items in order

pub ascends : {X : Type 0} (f : X → X → Bool) (xs : List X) → each_pair f xs ≡ true → Ascend f xs
ascends f [] e = tt
ascends f (x ∷ []) e = tt
ascends f (x ∷ y ∷ ys) e = (
  left (f x y) (list_all (f x) ys) (left (list_all (f x) (y ∷ ys)) (each_pair f (y ∷ ys)) e),
  ascends f (y ∷ ys) (right (list_all (f x) (y ∷ ys)) (each_pair f (y ∷ ys)) e),
)

pub chain_place : (k l m a b c : ℕ) → (nat_lt k l || (k == l && nat_lt a b)) ≡ true → (nat_lt l m || (l == m && nat_lt b c)) ≡ true → (nat_lt k m || (k == m && nat_lt a c)) ≡ true
chain_place k l m a b c p q = grind (arith, nat_tests)

physical_chain : IsTransitive physical_below
physical_chain a b c p q = chain_place a.level b.level c.level a.number b.number c.number p q

virtual_chain : IsTransitive virtual_below
virtual_chain a b c p q = chain_place a.level b.level c.level a.number b.number c.number p q

each_differs : {Y : Type 0} (f : Y → Y → Bool) (item : TableView → Y) → ((t u : TableView) → other_number t u ≡ true → Differ f (item t) (item u)) →
    (t : TableView) (us : List TableView) → list_all (other_number t) us ≡ true → AllByRecursion (Differ f (item t)) (map item us)
each_differs f item differ t [] e = tt
each_differs f item differ t (u ∷ us) e = (
  differ t u (left (other_number t u) (list_all (other_number t) us) e),
  each_differs f item differ t us (right (other_number t u) (list_all (other_number t) us) e),
)

all_differ : {Y : Type 0} (f : Y → Y → Bool) (item : TableView → Y) → ((t u : TableView) → other_number t u ≡ true → Differ f (item t) (item u)) →
    (ts : List TableView) → each_pair other_number ts ≡ true → AllDiffer f (map item ts)
all_differ f item differ [] e = tt
all_differ f item differ (t ∷ ts) e = (
  each_differs f item differ t ts (left (list_all (other_number t) ts) (each_pair other_number ts) e),
  all_differ f item differ ts (right (list_all (other_number t) ts) (each_pair other_number ts) e),
)

none_behind : {X : Type 0} (P : X → X → Type 0) (xs : List X) → AllByRecursion (λ x. AllByRecursion (P x) []) xs
none_behind P [] = tt
none_behind P (x ∷ xs) = (tt, none_behind P xs)

-- ---- items of all levels

pub each_append : {X : Type 0} (P : X → Type 0) (xs ys : List X) → AllByRecursion P xs → AllByRecursion P ys → AllByRecursion P (xs ++ ys)
each_append P [] ys a b = b
each_append P (x ∷ xs) ys a b = (a.0, each_append P xs ys a.1 b)

pub pairs_append : {X : Type 0} (r : X → X → Bool) (xs ys : List X) → each_pair r xs ≡ true → each_pair r ys ≡ true → list_all (λ x. list_all (r x) ys) xs ≡ true → each_pair r (xs ++ ys) ≡ true
pairs_append r [] ys e d c = d
pairs_append r (x ∷ xs) ys e d c = λ i.
    (list_all-append (r x) xs ys ∙ (λ j. left (list_all (r x) xs) (each_pair r xs) e j && left (list_all (r x) ys) (list_all (λ y. list_all (r y) ys) xs) c j)) i
    && pairs_append r xs ys (right (list_all (r x) xs) (each_pair r xs) e) d (right (list_all (r x) ys) (list_all (λ y. list_all (r y) ys) xs) c) i

pub pairs_front : {X : Type 0} (r : X → X → Bool) (xs ys : List X) → each_pair r (xs ++ ys) ≡ true → each_pair r xs ≡ true
pairs_front r [] ys e = refl
pairs_front r (x ∷ xs) ys e = λ i.
    left (list_all (r x) xs) (list_all (r x) ys) (sym (list_all-append (r x) xs ys) ∙ left (list_all (r x) (xs ++ ys)) (each_pair r (xs ++ ys)) e) i
    && pairs_front r xs ys (right (list_all (r x) (xs ++ ys)) (each_pair r (xs ++ ys)) e) i

pub pairs_back : {X : Type 0} (r : X → X → Bool) (xs ys : List X) → each_pair r (xs ++ ys) ≡ true → each_pair r ys ≡ true
pairs_back r [] ys e = e
pairs_back r (x ∷ xs) ys e = pairs_back r xs ys (right (list_all (r x) (xs ++ ys)) (each_pair r (xs ++ ys)) e)

all_physical_on : (level : ℕ) (ts : List TableView) → list_all (λ (p : PhysicalItem). p.level == level) (map (physical_item level) ts) ≡ true
all_physical_on level [] = refl
all_physical_on level (t ∷ ts) = λ i. eq-eqb level level refl i && all_physical_on level ts i

all_virtual_on : (level : ℕ) (ts : List TableView) → list_all (λ (v : VirtualItem). v.level == level) (map (virtual_item level) ts) ≡ true
all_virtual_on level [] = refl
all_virtual_on level (t ∷ ts) = λ i. eq-eqb level level refl i && all_virtual_on level ts i

pub physical_on : (level : ℕ) (ts : List TableView) → list_all (λ (p : PhysicalItem). p.level == level) (physical_items level ts) ≡ true
physical_on level ts =
    list_all_all_placed (λ (p : PhysicalItem). p.level == level) physical_below (map (physical_item level) (filter (λ t. not t.is_virtual) ts)) []
    ∙ and-true _ ∙ all_physical_on level (filter (λ t. not t.is_virtual) ts)

pub virtual_on : (level : ℕ) (ts : List TableView) → list_all (λ (v : VirtualItem). v.level == level) (virtual_items level ts) ≡ true
virtual_on level ts =
    list_all_all_placed (λ (v : VirtualItem). v.level == level) virtual_below (map (virtual_item level) (filter (λ t. t.is_virtual) ts)) []
    ∙ and-true _ ∙ all_virtual_on level (filter (λ t. t.is_virtual) ts)

on_above : (m k : ℕ) → (m == k) ≡ true → k ≤ m
on_above m k e = omega (arith, eqb-true m k e)

is_above : (l m k : ℕ) → k < l → (m == l) ≡ true → nat_lt k m ≡ true
is_above l m k h e = grind (arith, nat_tests)

-- items of a kind, each of its level
module _ {Y : Type 0} (level : Y → ℕ) (f : ℕ → List TableView → List Y) (on : (l : ℕ) (ts : List TableView) → list_all (λ y. level y == l) (f l ts) ≡ true) where
  pub levels_above : (k l : ℕ) (ls : List (List TableView)) → k < l → list_all (λ y. nat_lt k (level y)) (flattened (each_level f l ls)) ≡ true
  levels_above k l [] h = refl
  levels_above k l (ts ∷ ls) h =
      ap (list_all (λ y. nat_lt k (level y))) (flattened_cons (f l ts) (each_level f (l + 1) ls))
      ∙ list_all-append (λ y. nat_lt k (level y)) (f l ts) (flattened (each_level f (l + 1) ls))
      ∙ (λ i. weaker (λ y. level y == l) (λ y. nat_lt k (level y)) (λ y e. is_above l (level y) k h e) (f l ts) (on l ts) i && levels_above k (l + 1) ls (omega arith) i)

  module _ (below : Y → Y → Bool) (by_level : (x y : Y) → nat_lt (level x) (level y) ≡ true → below x y ≡ true)
      (sorted : (l : ℕ) (ts : List TableView) → each_pair other_number ts ≡ true → each_pair below (f l ts) ≡ true) where
    sorted_levels : (k : ℕ) (ls : List (List TableView)) → each_pair other_number (flattened ls) ≡ true → each_pair below (flattened (each_level f k ls)) ≡ true
    sorted_levels k [] e = refl
    sorted_levels k (ts ∷ ls) e =
        let numbered : each_pair other_number (ts ++ flattened ls) ≡ true = sym (ap (each_pair other_number) (flattened_cons ts ls)) ∙ e in
        ap (each_pair below) (flattened_cons (f k ts) (each_level f (k + 1) ls))
        ∙ pairs_append below (f k ts) (flattened (each_level f (k + 1) ls))
        (sorted k ts (pairs_front other_number ts (flattened ls) numbered))
        (sorted_levels (k + 1) ls (pairs_back other_number ts (flattened ls) numbered))
        (weaker (λ x. level x == k) (λ x. list_all (below x) (flattened (each_level f (k + 1) ls)))
        (λ x here. weaker (λ y. nat_lt k (level y)) (below x)
        (λ y there. by_level x y (subst (λ n. nat_lt n (level y) ≡ true) (sym (eqb-true (level x) k here)) there))
        (flattened (each_level f (k + 1) ls)) (levels_above k (k + 1) ls (omega arith))) (f k ts) (on k ts))

-- ---- the snapshot

placed_sorted : {Y : Type 0} (f : Y → Y → Bool) → IsTransitive f → (item : TableView → Y) → ((t u : TableView) → other_number t u ≡ true → Differ f (item t) (item u)) →
    (ts : List TableView) → each_pair other_number ts ≡ true → each_pair f (all_placed f (map item ts) []) ≡ true
placed_sorted f chain item differ ts e = sorted_all_placed f chain (map item ts) [] (all_differ f item differ ts e) (none_behind (Differ f) (map item ts)) refl

place_differs : (k m n : ℕ) → not (n == m) ≡ true → (nat_lt k k || (k == k && nat_lt n m)) ≡ not (nat_lt k k || (k == k && nat_lt m n))
place_differs k m n e = grind (arith, nat_tests)

pub lower_place : (k l m n : ℕ) → nat_lt k l ≡ true → (nat_lt k l || (k == l && nat_lt m n)) ≡ true
lower_place k l m n e = ap (λ b. b || (k == l && nat_lt m n)) e

physical_sorted : (l : ℕ) (ts : List TableView) → each_pair other_number ts ≡ true → each_pair physical_below (physical_items l ts) ≡ true
physical_sorted l ts e = placed_sorted physical_below physical_chain (physical_item l) (λ t u d. place_differs l t.number u.number d) (filter (λ t. not t.is_virtual) ts)
    (pairs_filter other_number (λ t. not t.is_virtual) ts e)

virtual_sorted : (l : ℕ) (ts : List TableView) → each_pair other_number ts ≡ true → each_pair virtual_below (virtual_items l ts) ≡ true
virtual_sorted l ts e = placed_sorted virtual_below virtual_chain (virtual_item l) (λ t u d. place_differs l t.number u.number d) (filter (λ t. t.is_virtual) ts)
    (pairs_filter other_number (λ t. t.is_virtual) ts e)

module _ (v : VersionView) (is : IsVersion v) where
  abbrev fits_in : TableView → Bool
  fits_in t = (is_plain_view t.view && is_below_next v.five.next t) && (has_size t && has_its_backing v.backings t)

  fits_view : (t : TableView) → fits_in t ≡ true → is_plain_view t.view ≡ true
  fits_view t e = left (is_plain_view t.view) (is_below_next v.five.next t) (left (is_plain_view t.view && is_below_next v.five.next t) (has_size t && has_its_backing v.backings t) e)

  fits_below : (t : TableView) → fits_in t ≡ true → is_below_next v.five.next t ≡ true
  fits_below t e = right (is_plain_view t.view) (is_below_next v.five.next t) (left (is_plain_view t.view && is_below_next v.five.next t) (has_size t && has_its_backing v.backings t) e)

  fits_size : (t : TableView) → fits_in t ≡ true → has_size t ≡ true
  fits_size t e = left (has_size t) (has_its_backing v.backings t) (right (is_plain_view t.view && is_below_next v.five.next t) (has_size t && has_its_backing v.backings t) e)

  fits_backing : (t : TableView) → fits_in t ≡ true → has_its_backing v.backings t ≡ true
  fits_backing t e = right (has_size t) (has_its_backing v.backings t) (right (is_plain_view t.view && is_below_next v.five.next t) (has_size t && has_its_backing v.backings t) e)

  physical_items_of : (k : ℕ) (ls : List (List TableView)) → k + length ls ≤ 7 → list_all (λ ts. list_all fits_in ts) ls ≡ true → AllByRecursion IsPhysical (flattened (each_level physical_items k ls))
  physical_items_of k [] h e = tt
  physical_items_of k (ts ∷ ls) h e =
      let here = left (list_all fits_in ts) (list_all (λ us. list_all fits_in us) ls) e in
      let sizes = sizes_tested ts (weaker fits_in has_size fits_size ts here) in
      subst (AllByRecursion IsPhysical) (sym (flattened_cons (physical_items k ts) (each_level physical_items (k + 1) ls)))
      (each_append IsPhysical (physical_items k ts) (flattened (each_level physical_items (k + 1) ls))
      (each_all_placed IsPhysical physical_below (map (physical_item k) (filter (λ t. not t.is_virtual) ts)) []
      (each_physical k (omega arith) v.backings v.five.next is.numbers.next is.backings_below (filter (λ t. not t.is_virtual) ts)
      (filter_keeps (λ (t : TableView). is_plain_view t.view) (λ t. not t.is_virtual) ts (weaker fits_in (λ (t : TableView). is_plain_view t.view) fits_view ts here))
      (filter_keeps (is_below_next v.five.next) (λ t. not t.is_virtual) ts (weaker fits_in (is_below_next v.five.next) fits_below ts here))
      (each_filter (λ (t : TableView). IsNumber t.size) (λ t. not t.is_virtual) ts sizes)) tt)
      (physical_items_of (k + 1) ls (omega arith) (right (list_all fits_in ts) (list_all (λ us. list_all fits_in us) ls) e)))

  virtual_items_of : (k : ℕ) (ls : List (List TableView)) → k + length ls ≤ 7 → list_all (λ ts. list_all fits_in ts) ls ≡ true → AllByRecursion IsVirtual (flattened (each_level virtual_items k ls))
  virtual_items_of k [] h e = tt
  virtual_items_of k (ts ∷ ls) h e =
      let here = left (list_all fits_in ts) (list_all (λ us. list_all fits_in us) ls) e in
      subst (AllByRecursion IsVirtual) (sym (flattened_cons (virtual_items k ts) (each_level virtual_items (k + 1) ls)))
      (each_append IsVirtual (virtual_items k ts) (flattened (each_level virtual_items (k + 1) ls))
      (each_all_placed IsVirtual virtual_below (map (virtual_item k) (filter (λ t. t.is_virtual) ts)) []
      (each_virtual k (omega arith) v.backings v.five.next is.numbers.next is.backings_below ts
      (weaker fits_in (λ (t : TableView). is_plain_view t.view) fits_view ts here) (weaker fits_in (is_below_next v.five.next) fits_below ts here)
      (weaker fits_in (has_its_backing v.backings) fits_backing ts here)) tt)
      (virtual_items_of (k + 1) ls (omega arith) (right (list_all fits_in ts) (list_all (λ us. list_all fits_in us) ls) e)))

  all_fit : list_all (λ ts. list_all fits_in ts) v.levels ≡ true
  all_fit =
      sym (list_all_flattened fits_in v.levels)
      ∙ both_all (λ t. is_plain_view t.view && is_below_next v.five.next t) (λ t. has_size t && has_its_backing v.backings t) (all_tables v)
      (both_all (λ (t : TableView). is_plain_view t.view) (is_below_next v.five.next) (all_tables v) is.views is.below)
      (both_all has_size (has_its_backing v.backings) (all_tables v) (size_tests (all_tables v) is.sizes) is.backed)

  each_physical_item : AllByRecursion IsPhysical (snapshot_of v).physical
  each_physical_item = physical_items_of 0 v.levels (omega (arith, is.levels)) all_fit

  each_virtual_item : AllByRecursion IsVirtual (snapshot_of v).virtuals
  each_virtual_item = virtual_items_of 0 v.levels (omega (arith, is.levels)) all_fit

  each_backing : AllByRecursion IsCreated v.backings
  each_backing = each_created v.five.next is.numbers.next v.backings is.backings_below is.backing_sizes

  pub snapshot_spellable : IsSpellable (snapshot_of v)
  snapshot_spellable = record {
    accepted = is.numbers.accepted;
    next = is.numbers.next;
    log = is.numbers.log;
    flushed = is.numbers.flushed;
    format = is.numbers.format;
    physical = at_each IsPhysical (snapshot_of v).physical each_physical_item;
    virtuals = at_each IsVirtual (snapshot_of v).virtuals each_virtual_item;
    created = at_each IsCreated v.backings each_backing;
    created_ascend = ascends created_below v.backings is.ascend;
  }

  pub snapshot_in_form : IsEdit (snapshot_of v)
  unfolding edit_spelling
  snapshot_in_form = record {
    some = λ e. cc;
    accepted = is.numbers.accepted;
    next = is.numbers.next;
    log = is.numbers.log;
    flushed = is.numbers.flushed;
    format = is.numbers.format;
    deleted = record { each = tt; ascend = tt };
    physical = record {
      each = each_physical_item;
      ascend = ascends physical_below (snapshot_of v).physical
          (sorted_levels (λ (p : PhysicalItem). p.level) physical_items physical_on physical_below (λ p q e. lower_place p.level q.level p.number q.number e) physical_sorted 0 v.levels is.numbered);
    };
    virtuals = record {
      each = each_virtual_item;
      ascend = ascends virtual_below (snapshot_of v).virtuals
          (sorted_levels (λ (w : VirtualItem). w.level) virtual_items virtual_on virtual_below (λ p q e. lower_place p.level q.level p.number q.number e) virtual_sorted 0 v.levels is.numbered);
    };
    created = record { each = each_backing; ascend = ascends created_below v.backings is.ascend };
    removed = record { each = tt; ascend = tt };
  }
