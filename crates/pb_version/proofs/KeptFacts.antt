-- What an edit that breaks no rule leaves of numbers and backings.
use Rattle.std.proofs.Common.{◌≡◌, ℕ, ◌≤◌, List, [], ◌∷◌, ◌++◌, length, Bool, true, false, cond, refl, ap, ◌∙◌, arith}
use Rattle.std.proofs.lemmas.Bool.Decides.{nat_tests}
use Rattle.std.proofs.lemmas.List.{map-append}
use Rattle.std.specs.Prelude.{not, ◌==◌, ◌&&◌, ◌||◌, nat_lt, nat_le, Option, Some, None, IfSome, map}
use Rattle.std.specs.List.{filter, list_any, list_all, AllByRecursion}
use Rattle.std.specs.Option.{unwrap_or}
use Rattle.std.proofs.lemmas.Bool.{eqb-true, not-true, or_parts}
use Rattle.pb_edit.specs.Edit.{PhysicalItem, VirtualItem, CreatedItem, VersionEdit}
use Rattle.pb_edit.specs.Grammar.{IsPhysical, IsCreated, created_below, Ascend}
use Rattle.pb_bytes.specs.Number.{IsNumber}
use Rattle.pb_version.specs.Version.{TableView, FiveNumbers, size_of}
use Rattle.pb_version.specs.Edited.{placed, all_placed, physical_table, virtual_table, tables_of, five_after}
use Rattle.pb_version.specs.Rules.{has_backing}
use Rattle.pb_version.specs.State.{AreNumbers, IsSpellable}
use Rattle.pb_version.proofs.Lists.{left, right}
use Rattle.pb_version.proofs.Commute.{Differ, AllDiffer, IsTransitive}

pub below_more : (n r a b : ℕ) → (nat_lt n a && nat_lt r a) ≡ true → nat_le a b ≡ true → (nat_lt n b && nat_lt r b) ≡ true
below_more n r a b e k = grind (arith, nat_tests)

pub below_more_one : (n a b : ℕ) → nat_lt n a ≡ true → nat_le a b ≡ true → nat_lt n b ≡ true
below_more_one n a b e k = grind (arith, nat_tests)

pub both_all : {X : Type 0} (p q : X → Bool) (xs : List X) → list_all p xs ≡ true → list_all q xs ≡ true → list_all (λ x. p x && q x) xs ≡ true
both_all p q [] e k = refl
both_all p q (x ∷ xs) e k = λ i.
    (left (p x) (list_all p xs) e i && left (q x) (list_all q xs) k i) && both_all p q xs (right (p x) (list_all p xs) e) (right (q x) (list_all q xs) k) i

pub any_gives : {X : Type 0} (p : X → Bool) (b : Bool) → ((x : X) → p x ≡ true → b ≡ true) → (xs : List X) → list_any p xs ≡ true → b ≡ true
any_gives p b gives [] e = cc
any_gives p b gives (x ∷ xs) e =
    elim (p x) as (λ t. p x ≡ t → (t || list_any p xs) ≡ true → b ≡ true) [
      | true ↦ λ k _. gives x k
      | false ↦ λ _ later. any_gives p b gives xs later
    ] refl e

-- ---- ranks of new tables

ranks_of_physical : (ps : List PhysicalItem) → map (λ (t : TableView). t.rank) (map physical_table ps) ≡ map (λ (p : PhysicalItem). p.rank) ps
ranks_of_physical [] = refl
ranks_of_physical (p ∷ ps) = ap (λ ns. p.rank ∷ ns) (ranks_of_physical ps)

ranks_of_virtual : (shown : List CreatedItem) (vs : List VirtualItem) → map (λ (t : TableView). t.rank) (map (virtual_table shown) vs) ≡ map (λ (v : VirtualItem). v.rank) vs
ranks_of_virtual shown [] = refl
ranks_of_virtual shown (v ∷ vs) = ap (λ ns. v.rank ∷ ns) (ranks_of_virtual shown vs)

pub ranks_of : (shown : List CreatedItem) (ps : List PhysicalItem) (vs : List VirtualItem) →
    map (λ (t : TableView). t.rank) (tables_of shown ps vs) ≡ map (λ (p : PhysicalItem). p.rank) ps ++ map (λ (v : VirtualItem). v.rank) vs
ranks_of shown ps vs =
    map-append (λ (t : TableView). t.rank) (map physical_table ps) (map (virtual_table shown) vs)
    ∙ (λ i. ranks_of_physical ps i ++ ranks_of_virtual shown vs i)

-- ---- backings in order

pub lower_chain : (a b c : ℕ) → nat_lt a b ≡ true → nat_lt b c ≡ true → nat_lt a c ≡ true
lower_chain a b c e k = grind (arith, nat_tests)

pub backings_chain : IsTransitive created_below
backings_chain a b c e k = lower_chain a.number b.number c.number e k

lower_differ : (m n : ℕ) → nat_lt m n ≡ true → nat_lt n m ≡ not (nat_lt m n)
lower_differ m n e = grind (arith, nat_tests)

other_differ : (m n : ℕ) → (m == n) ≡ false → nat_lt m n ≡ not (nat_lt n m)
other_differ m n e = grind (arith, nat_tests)

lower_each : (a b : CreatedItem) (cs : List CreatedItem) → created_below a b ≡ true → AllByRecursion (λ c. created_below b c ≡ true) cs → AllByRecursion (λ c. created_below a c ≡ true) cs
lower_each a b [] e all = tt
lower_each a b (c ∷ cs) e all = (backings_chain a b c e all.0, lower_each a b cs e all.1)

ascend_first : (c : CreatedItem) (cs : List CreatedItem) → Ascend created_below (c ∷ cs) → AllByRecursion (λ d. created_below c d ≡ true) cs
ascend_first c [] a = tt
ascend_first c (d ∷ ds) a = (a.0, lower_each c d ds a.0 (ascend_first d ds a.1))

ascend_tail : (c : CreatedItem) (cs : List CreatedItem) → Ascend created_below (c ∷ cs) → Ascend created_below cs
ascend_tail c [] a = tt
ascend_tail c (d ∷ ds) a = a.1

each_lower_differs : (c : CreatedItem) (ds : List CreatedItem) → AllByRecursion (λ d. created_below c d ≡ true) ds → AllByRecursion (Differ created_below c) ds
each_lower_differs c [] all = tt
each_lower_differs c (d ∷ ds) all = (lower_differ c.number d.number all.0, each_lower_differs c ds all.1)

pub ascending_differ : (cs : List CreatedItem) → Ascend created_below cs → AllDiffer created_below cs
ascending_differ [] a = tt
ascending_differ (c ∷ cs) a = (each_lower_differs c cs (ascend_first c cs a), ascending_differ cs (ascend_tail c cs a))

none_differs : (c : CreatedItem) (bs : List CreatedItem) → not (has_backing bs c.number) ≡ true → AllByRecursion (Differ created_below c) bs
none_differs c [] e = tt
none_differs c (b ∷ bs) e =
    elim (b.number == c.number) as (λ t. (b.number == c.number) ≡ t → not (t || has_backing bs c.number) ≡ true → AllByRecursion (Differ created_below c) (b ∷ bs)) [
      | true ↦ λ _ bad. cc
      | false ↦ λ k later. (other_differ b.number c.number k, none_differs c bs later)
    ] refl e

pub none_differ : (cs bs : List CreatedItem) → list_all (λ (c : CreatedItem). not (has_backing bs c.number)) cs ≡ true → AllByRecursion (λ c. AllByRecursion (Differ created_below c) bs) cs
none_differ [] bs e = tt
none_differ (c ∷ cs) bs e = (
  none_differs c bs (left (not (has_backing bs c.number)) (list_all (λ d. not (has_backing bs d.number)) cs) e),
  none_differ cs bs (right (not (has_backing bs c.number)) (list_all (λ d. not (has_backing bs d.number)) cs) e),
)

-- ---- sizes

passed : (r : Bool) (b : CreatedItem) (bs : List CreatedItem) (n : ℕ) → (b.number == n) ≡ false → size_of (cond (not r) (b ∷ bs) bs) n ≡ size_of bs n
passed true b bs n e = refl
passed false b bs n e = ap (λ t. cond t (Some b.size) (size_of bs n)) e

size_without : (rm : ℕ → Bool) (bs : List CreatedItem) (n : ℕ) → rm n ≡ false → size_of (filter (λ b. not (rm b.number)) bs) n ≡ size_of bs n
size_without rm [] n e = refl
size_without rm (b ∷ bs) n e =
    elim (b.number == n) as (λ t. (b.number == n) ≡ t →
    size_of (cond (not (rm b.number)) (b ∷ filter (λ c. not (rm c.number)) bs) (filter (λ c. not (rm c.number)) bs)) n ≡ cond t (Some b.size) (size_of bs n)) [
      | true ↦ λ k.
          let stays : rm b.number ≡ false = ap rm (eqb-true b.number n k) ∙ e in
          ap (λ r. size_of (cond (not r) (b ∷ filter (λ c. not (rm c.number)) bs) (filter (λ c. not (rm c.number)) bs)) n) stays
          ∙ ap (λ t. cond t (Some b.size) (size_of (filter (λ c. not (rm c.number)) bs) n)) k
      | false ↦ λ k.
          passed (rm b.number) b (filter (λ c. not (rm c.number)) bs) n k ∙ size_without rm bs n e
    ] refl

pub size_kept : (rm : ℕ → Bool) (bs : List CreatedItem) (n : ℕ) → not (rm n) ≡ true → size_of (filter (λ b. not (rm b.number)) bs) n ≡ size_of bs n
size_kept rm bs n e = size_without rm bs n (not-true (rm n) e)

size_placed : (f : CreatedItem → CreatedItem → Bool) (c : CreatedItem) (bs : List CreatedItem) (n : ℕ) → (c.number == n) ≡ false → size_of (placed f c bs) n ≡ size_of bs n
size_placed f c [] n e = ap (λ t. cond t (Some c.size) None) e
size_placed f c (b ∷ bs) n e =
    elim (f c b) as (λ t. size_of (cond t (c ∷ b ∷ bs) (b ∷ placed f c bs)) n ≡ size_of (b ∷ bs) n) [
      | true ↦ ap (λ t. cond t (Some c.size) (size_of (b ∷ bs) n)) e
      | false ↦ ap (λ o. cond (b.number == n) (Some b.size) o) (size_placed f c bs n e)
    ]

pub size_shown : (f : CreatedItem → CreatedItem → Bool) (cs bs : List CreatedItem) (n : ℕ) → has_backing cs n ≡ false → size_of (all_placed f cs bs) n ≡ size_of bs n
size_shown f [] bs n e = refl
size_shown f (c ∷ cs) bs n e =
    size_placed f c (all_placed f cs bs) n (or_parts (c.number == n) (has_backing cs n) e).0
    ∙ size_shown f cs bs n (or_parts (c.number == n) (has_backing cs n) e).1

pub size_number : (bs : List CreatedItem) (n : ℕ) → AllByRecursion (λ b. IsNumber b.size) bs → IsNumber (unwrap_or (size_of bs n) 0)
size_number [] n all = omega arith
size_number (b ∷ bs) n all =
    elim (b.number == n) as (λ t. IsNumber (unwrap_or (cond t (Some b.size) (size_of bs n)) 0)) [
      | true ↦ all.0
      | false ↦ size_number bs n all.1
    ]

physical_sizes : (ps : List PhysicalItem) → AllByRecursion IsPhysical ps → AllByRecursion (λ (t : TableView). IsNumber t.size) (map physical_table ps)
physical_sizes [] all = tt
physical_sizes (p ∷ ps) all = (all.0.size, physical_sizes ps all.1)

virtual_sizes : (bs : List CreatedItem) (vs : List VirtualItem) → AllByRecursion (λ b. IsNumber b.size) bs →
    AllByRecursion (λ (t : TableView). IsNumber t.size) (map (virtual_table bs) vs)
virtual_sizes bs [] all = tt
virtual_sizes bs (v ∷ vs) all = (size_number bs v.backing all, virtual_sizes bs vs all)

each_append : {X : Type 0} (P : X → Type 0) (xs ys : List X) → AllByRecursion P xs → AllByRecursion P ys → AllByRecursion P (xs ++ ys)
each_append P [] ys a b = b
each_append P (x ∷ xs) ys a b = (a.0, each_append P xs ys a.1 b)

pub sizes_of_new : (shown : List CreatedItem) (ps : List PhysicalItem) (vs : List VirtualItem) → AllByRecursion IsPhysical ps →
    AllByRecursion (λ b. IsNumber b.size) shown → AllByRecursion (λ (t : TableView). IsNumber t.size) (tables_of shown ps vs)
sizes_of_new shown ps vs physical sizes =
    each_append (λ (t : TableView). IsNumber t.size) (map physical_table ps) (map (virtual_table shown) vs) (physical_sizes ps physical) (virtual_sizes shown vs sizes)

pub created_sizes : (cs : List CreatedItem) → AllByRecursion IsCreated cs → AllByRecursion (λ (c : CreatedItem). IsNumber c.size) cs
created_sizes [] all = tt
created_sizes (c ∷ cs) all = (all.0.size, created_sizes cs all.1)

-- the edit's number, where it has one
number_after : (o : Option ℕ) (n : ℕ) → IfSome o IsNumber → IsNumber n → IsNumber (unwrap_or o n)
number_after None n said was = was
number_after (Some m) n said was = said

pub numbers_after : (five : FiveNumbers) (edit : VersionEdit) → AreNumbers five → IsSpellable edit → AreNumbers (five_after five edit)
numbers_after five edit were said = record {
  accepted = number_after edit.accepted five.accepted said.accepted were.accepted;
  next = number_after edit.next five.next said.next were.next;
  log = number_after edit.log five.log said.log were.log;
  flushed = number_after edit.flushed five.flushed said.flushed were.flushed;
  format = number_after edit.format five.format said.format were.format;
}

-- a list of one at most
pub short_ascends : (cs : List CreatedItem) → length cs ≤ 1 → Ascend created_below cs
short_ascends [] h = tt
short_ascends (c ∷ []) h = tt
short_ascends (c ∷ d ∷ ds) h = absurd (omega arith)
