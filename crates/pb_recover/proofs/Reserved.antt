-- What a version stores.
use Rattle.std.proofs.Common.{◌≡◌, ◌<◌, ℕ, Bool, true, false, cond, List, [], ◌∷◌, map, refl, sym, subst, arith}
use Rattle.std.specs.Prelude.{◌==◌, ◌&&◌, ◌||◌, nat_lt, not}
use Rattle.std.specs.List.{All, Contains, list_any}
use Rattle.std.specs.Option.{unwrap_or}
use Rattle.std.proofs.lemmas.Bool.{eqb-true}
use Rattle.std.proofs.lemmas.Bool.Decides.{nat_tests}
use Rattle.std.proofs.lemmas.List.Elements.{All-append, All-head, All-map, All-tail, All-weaker}
use Rattle.std.proofs.lemmas.List.Sums.{AllPass-from_list_all}
use Rattle.pb_edit.specs.Edit.{CreatedItem}
use Rattle.pb_version.specs.Rules.{has_backing, has_its_backing}
use Rattle.pb_version.specs.State.{IsVersion, is_below_next, is_formed}
use Rattle.pb_version.specs.Stored.{backing_of, stored_in}
use Rattle.pb_version.specs.Version.{TableView, VersionView, all_tables, size_of}
use Rattle.pb_folder.proofs.Lists.{All-both}

-- ---- one of a list

-- what follows of an element that passes, where each has a fact
any_all : {X : Type 0} (p : X → Bool) (P : X → Type 0) (Fact : Type 0) → ((x : X) → p x ≡ true → P x → Fact) → (xs : List X) → All P xs
    → list_any p xs ≡ true → Fact
any_all p P Fact step [] all is = absurd (cc)
any_all p P Fact step (x ∷ xs) all is =
    elim (p x) as (λ b. p x ≡ b → (b || list_any p xs) ≡ true → Fact) [
      | true ↦ λ passes _. step x passes (All-head P x xs all)
      | false ↦ λ _ rest. any_all p P Fact step xs (All-tail P x xs all) rest
    ] refl is

-- ---- numbers

module _ (version : VersionView) (form : IsVersion version) where
  IsLow : ℕ → Type 0
  IsLow n = n < version.five.next

  pub backings_low : All (λ (b : CreatedItem). b.number < version.five.next) version.backings
  backings_low =
      All-weaker (λ (b : CreatedItem). nat_lt b.number version.five.next ≡ true) (λ (b : CreatedItem). b.number < version.five.next)
      (λ b is. grind (arith, nat_tests)) version.backings
      (AllPass-from_list_all (λ (b : CreatedItem). nat_lt b.number version.five.next) version.backings form.backings_below)

  backing_low : (n : ℕ) → has_backing version.backings n ≡ true → n < version.five.next
  backing_low n =
      any_all (λ (b : CreatedItem). b.number == n) (λ (b : CreatedItem). b.number < version.five.next) (n < version.five.next)
      (λ b is low. subst (λ (k : ℕ). k < version.five.next) (eqb-true b.number n is) low) version.backings backings_low

  number_low : (number rank : ℕ) → (nat_lt number version.five.next && nat_lt rank version.five.next) ≡ true → number < version.five.next
  number_low number rank is = grind (arith, nat_tests)

  -- a physical table's backing has its number, and a virtual one's is a backing
  own_low : (t : TableView) (is_virtual : Bool)
      → cond is_virtual (unwrap_or (size_of version.backings t.backing) 0 == t.size) (t.backing == t.number) ≡ true
      → (not is_virtual || has_backing version.backings t.backing) ≡ true → t.number < version.five.next → t.backing < version.five.next
  own_low t true formed backed below = backing_low t.backing backed
  own_low t false formed backed below = subst (λ (k : ℕ). k < version.five.next) (sym (eqb-true t.backing t.number formed)) below

  table_low : (t : TableView) → is_formed version.backings t ≡ true
      → (has_its_backing version.backings t ≡ true) × (is_below_next version.five.next t ≡ true) → t.backing < version.five.next
  table_low t formed is = own_low t t.is_virtual formed is.0 (number_low t.number t.rank is.1)

  tables_low : All (λ (t : TableView). t.backing < version.five.next) (all_tables version)
  tables_low =
      let backed = AllPass-from_list_all (has_its_backing version.backings) (all_tables version) form.backed in
      let below = AllPass-from_list_all (is_below_next version.five.next) (all_tables version) form.below in
      All-both (λ t. is_formed version.backings t ≡ true)
      (λ t. (has_its_backing version.backings t ≡ true) × (is_below_next version.five.next t ≡ true))
      (λ t. t.backing < version.five.next) table_low (all_tables version)
      (AllPass-from_list_all (is_formed version.backings) (all_tables version) form.formed)
      (All-both (λ t. has_its_backing version.backings t ≡ true) (λ t. is_below_next version.five.next t ≡ true)
      (λ t. (has_its_backing version.backings t ≡ true) × (is_below_next version.five.next t ≡ true)) (λ t a b. (a, b)) (all_tables version)
      backed below)

  all_low : All (λ (item : CreatedItem). item.number < version.five.next) (stored_in version)
  all_low =
      All-append (λ (item : CreatedItem). item.number < version.five.next) (map backing_of (all_tables version)) version.backings
      (All-map (λ (item : CreatedItem). item.number < version.five.next) backing_of (all_tables version) tables_low) backings_low

-- each number is reserved
pub stored_below : (version : VersionView) → IsVersion version → (number : ℕ)
    → list_any (λ (item : CreatedItem). item.number == number) (stored_in version) ≡ true → number < version.five.next
stored_below version form number =
    any_all (λ (item : CreatedItem). item.number == number) (λ (item : CreatedItem). item.number < version.five.next)
    (number < version.five.next) (λ item is low. subst (λ (k : ℕ). k < version.five.next) (eqb-true item.number number is) low)
    (stored_in version) (all_low version form)
