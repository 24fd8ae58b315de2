-- What a look-up, an addition and a removal in the map are among the entries.
use Rattle.std.proofs.Common.{◌≡◌, ℕ, Bool, true, false, cond, List, [], ◌∷◌, ◌++◌, nat_eq, refl, sym, ap, ◌∙◌, subst, Option, Some, None, IfSome, is_some, slice_get, get_or}
use Rattle.std.specs.Prelude.{not, option_map, ◌||◌}
use Rattle.std.specs.List.{All, find, IsDistinct, AllByRecursion}
use Rattle.std.specs.Map.{keys_of, lookup, remove_entry}
use Rattle.std.proofs.lemmas.Bool.{eqb-true, eqb-false}
use Rattle.std.proofs.lemmas.List.{map-append}
use Rattle.std.proofs.lemmas.Option.{same_Some, slice_get_within, slice_get-get_or}
use Rattle.std.proofs.lemmas.List.Elements.{All-head, All-tail}
use Rattle.pb_payloads.specs.Catalogue.{Entries, dropped, is_of, stands}
use Rattle.pb_payloads.specs.Catalogued.{Standing}
use Rattle.pb_payloads.specs.Payloads.{standing_of}
use Rattle.pb_payloads.specs.declared.entry.Entry.{Entry}
use Rattle.pb_catalog.specs.Entered.{entered, entries_of}

same_test : (m n : ℕ) (a b : Bool) → nat_eq m n ≡ a → nat_eq n m ≡ b → a ≡ b
same_test m n true true h k = refl
same_test m n false false h k = refl
same_test m n true false h k = absurd (eqb-false n m k (sym (eqb-true m n h)))
same_test m n false true h k = absurd (eqb-false m n h (sym (eqb-true n m k)))

-- the map asks whether the number is the key's, and the definition whether the key's is the number
pub turned : (m n : ℕ) → nat_eq m n ≡ nat_eq n m
turned m n = same_test m n (nat_eq m n) (nat_eq n m) refl refl

pub found_among : (number : ℕ) (pairs : List (ℕ × Entry)) → option_map (λ entry. entry.1) (find (is_of number) (entries_of pairs)) ≡ option_map standing_of (lookup (nat_eq number) pairs)
found_among number [] = refl
found_among number (pair ∷ pairs) =
    ap (λ (b : Bool). option_map (λ entry. entry.1) (cond b (Some (entered pair)) (find (is_of number) (entries_of pairs)))) (turned pair.0 number)
    ∙ elim (nat_eq number pair.0) as (λ b. option_map (λ entry. entry.1) (cond b (Some (entered pair)) (find (is_of number) (entries_of pairs))) ≡ option_map standing_of (cond b (Some pair.1) (lookup (nat_eq number) pairs))) [
      | true ↦ refl
      | false ↦ found_among number pairs
    ]

pub stands_among : (number : ℕ) (pairs : List (ℕ × Entry)) → stands number (entries_of pairs) ≡ is_some (lookup (nat_eq number) pairs)
stands_among number [] = refl
stands_among number (pair ∷ pairs) =
    ap (λ (b : Bool). b || stands number (entries_of pairs)) (turned pair.0 number)
    ∙ elim (nat_eq number pair.0) as (λ b. (b || stands number (entries_of pairs)) ≡ is_some (cond b (Some pair.1) (lookup (nat_eq number) pairs))) [
      | true ↦ refl
      | false ↦ stands_among number pairs
    ]

none_of : (found : Option Entry) → is_some found ≡ false → found ≡ None
none_of None none = refl
none_of (Some entry) none = cc

pub absent_among : (number : ℕ) (pairs : List (ℕ × Entry)) → stands number (entries_of pairs) ≡ false → lookup (nat_eq number) pairs ≡ None
absent_among number pairs absent = none_of (lookup (nat_eq number) pairs) (sym (stands_among number pairs) ∙ absent)

pub added_among : (number : ℕ) (entry : Entry) (pairs : List (ℕ × Entry)) → entries_of (pairs ++ (number, entry) ∷ []) ≡ entries_of pairs ++ (number, standing_of entry) ∷ []
added_among number entry pairs = map-append entered pairs ((number, entry) ∷ [])

-- where no key is the number, nothing is dropped
all_stay : (number key : ℕ) (pairs : List (ℕ × Entry)) → number ≡ key → AllByRecursion (λ other. nat_eq key other ≡ false) (keys_of pairs) → dropped number (entries_of pairs) ≡ entries_of pairs
all_stay number key [] same apart = refl
all_stay number key (pair ∷ pairs) same apart =
    let other : nat_eq pair.0 number ≡ false = turned pair.0 number ∙ ap (λ (n : ℕ). nat_eq n pair.0) same ∙ apart.0 in
    let rest = all_stay number key pairs same apart.1 in
    ap (λ (b : Bool). cond (not b) (entered pair ∷ dropped number (entries_of pairs)) (dropped number (entries_of pairs))) other
    ∙ ap (λ es. entered pair ∷ es) rest

pub dropped_among : (number : ℕ) (pairs : List (ℕ × Entry)) → IsDistinct nat_eq (keys_of pairs) → entries_of (remove_entry (nat_eq number) pairs) ≡ dropped number (entries_of pairs)
unfolding IsDistinct
dropped_among number [] apart = refl
dropped_among number (pair ∷ pairs) apart =
    elim (nat_eq number pair.0) as (λ b. nat_eq number pair.0 ≡ b
    → entries_of (cond b pairs (pair ∷ remove_entry (nat_eq number) pairs)) ≡ cond (not b) (entered pair ∷ dropped number (entries_of pairs)) (dropped number (entries_of pairs))) [
      | true ↦ λ is. sym (all_stay number pair.0 pairs (eqb-true number pair.0 is) apart.0)
      | false ↦ λ is. ap (λ es. entered pair ∷ es) (dropped_among number pairs apart.1)
    ] refl
    ∙ ap (λ (b : Bool). cond (not b) (entered pair ∷ dropped number (entries_of pairs)) (dropped number (entries_of pairs))) (turned number pair.0)

-- ---- what an entry that was found is

option_is_some : {X Y : Type 0} (f : X → Y) (found : Option X) → is_some (option_map f found) ≡ is_some found
option_is_some f None = refl
option_is_some f (Some x) = refl

find_stands : (number : ℕ) (entries : Entries) → is_some (find (is_of number) entries) ≡ stands number entries
find_stands number [] = refl
find_stands number (entry ∷ entries) =
    elim (is_of number entry) as (λ b. is_some (cond b (Some entry) (find (is_of number) entries)) ≡ (b || stands number entries)) [
      | true ↦ refl
      | false ↦ find_stands number entries
    ]

pub entry_stands : (number : ℕ) (entries : Entries) (found : Option Entry) → option_map standing_of found ≡ option_map (λ entry. entry.1) (find (is_of number) entries)
    → is_some found ≡ stands number entries
entry_stands number entries found is =
    sym (option_is_some standing_of found) ∙ ap is_some is ∙ option_is_some (λ entry. entry.1) (find (is_of number) entries) ∙ find_stands number entries

-- the first of a number has this number
found_number : (P : ℕ × Standing → Type 0) (number : ℕ) (entries : Entries) → All P entries → IfSome (option_map (λ entry. entry.1) (find (is_of number) entries)) (λ standing. P (number, standing))
found_number P number [] all = tt
found_number P number (entry ∷ entries) all =
    elim (is_of number entry) as (λ b. is_of number entry ≡ b → IfSome (option_map (λ entry. entry.1) (cond b (Some entry) (find (is_of number) entries))) (λ standing. P (number, standing))) [
      | true ↦ λ is. subst (λ (n : ℕ). P (n, entry.1)) (eqb-true entry.0 number is) (All-head P entry entries all)
      | false ↦ λ is. found_number P number entries (All-tail P entry entries all)
    ] refl

some_standing : (P : Standing → Type 0) (found : Option Entry) → IfSome (option_map standing_of found) P → IfSome found (λ entry. P (standing_of entry))
some_standing P None has = has
some_standing P (Some entry) has = has

pub found_in_form : (P : ℕ × Standing → Type 0) (number : ℕ) (entries : Entries) (found : Option Entry) → option_map standing_of found ≡ option_map (λ entry. entry.1) (find (is_of number) entries)
    → All P entries → IfSome found (λ entry. P (number, standing_of entry))
found_in_form P number entries found is all =
    some_standing (λ standing. P (number, standing)) found
    (subst (λ (o : Option Standing). IfSome o (λ standing. P (number, standing))) (sym is) (found_number P number entries all))

pub at_in_form : {X : Type 0} (P : X → Type 0) (xs : List X) (place : ℕ) (x : X) → slice_get xs place ≡ Some x → All P xs → P x
at_in_form P xs place x is all =
    let within = slice_get_within xs place x is in
    subst P (same_Some (get_or xs place x) x (sym (slice_get-get_or xs place x within) ∙ is)) (all place x within)
