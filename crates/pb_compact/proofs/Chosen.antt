-- Inputs by level: what is an input there, and what of a level is.
use Rattle.std.proofs.Common.{◌≡◌, ℕ, ◌+◌, List, [], ◌∷◌, ◌++◌, Bool, true, false, cond, refl, ap, sym, ◌∙◌, subst, arith, inl, inr, eq-eqb}
use Rattle.std.proofs.lemmas.Bool.Decides.{nat_tests}
use Rattle.std.proofs.lemmas.List.{map-append}
use Rattle.std.specs.Prelude.{not, ◌&&◌, ◌||◌, ◌==◌, nat_lt, map, filter, Contains}
use Rattle.std.specs.List.{list_any}
use Rattle.pb_keys.specs.Order.{is_below}
use Rattle.pb_keys.proofs.OrderFacts.{below_itself}
use Rattle.pb_keys.proofs.Tests.{or_false}
use Rattle.pb_version.specs.Version.{TableView}
use Rattle.pb_version.specs.Edited.{comes_before}
use Rattle.pb_version.specs.Rules.{each_pair, has_number}
use Rattle.pb_version.specs.State.{other_number}
use Rattle.pb_version.proofs.Levels.{any_append}
use Rattle.pb_version.proofs.Pairs.{not_lower, pairs_filter}
use Rattle.pb_version.proofs.Kept.{tables_chain}
use Rattle.pb_compact.specs.Chosen.{Chosen, AreInTurn, at_level}
use Rattle.pb_compact.specs.Compacted.{input_tables, is_input}
use Rattle.pb_compact.proofs.Members.{In, found, any_of, in_list, in_first, in_second, into_map, of_filter, into_filter, pair_of, same_sorted}

-- ---- no table comes before itself

before_itself : (zero_level : Bool) (rank : ℕ) (lo : List ℕ) →
    cond zero_level (nat_lt rank rank || (rank == rank && is_below lo lo)) (is_below lo lo) ≡ false
before_itself true rank lo =
    (λ i. not_lower rank i || (rank == rank && below_itself lo i)) ∙ and_false (rank == rank)
  where
    and_false : (b : Bool) → (b && false) ≡ false
    and_false true = refl
    and_false false = refl
before_itself false rank lo = below_itself lo

pub not_before_itself : (level : ℕ) (t : TableView) → comes_before level t t ≡ false
not_before_itself level t = before_itself (level == 0) t.rank t.view.bounds.lo

-- ---- the inputs of a level, by number

same_level : (level : ℕ) (ts : List TableView) (t : TableView) →
    list_any (λ (input : ℕ × TableView). input.0 == level && input.1.number == t.number) (at_level level ts) ≡ has_number ts t.number
same_level level [] t = refl
same_level level (u ∷ us) t = λ i. (eq-eqb level level refl i && u.number == t.number) || same_level level us t i

other_level : (level other : ℕ) (ts : List TableView) (t : TableView) → (level == other) ≡ false →
    list_any (λ (input : ℕ × TableView). input.0 == other && input.1.number == t.number) (at_level level ts) ≡ false
other_level level other [] t e = refl
other_level level other (u ∷ us) t e = λ i. (e i && u.number == t.number) || other_level level other us t e i

next_differs : (n : ℕ) → (n + 1 == n) ≡ false
next_differs n = grind (arith, nat_tests)

differs_from_next : (n : ℕ) → (n == n + 1) ≡ false
differs_from_next n = grind (arith, nat_tests)

module _ (chosen : Chosen) (turn : AreInTurn chosen) where
  by_parts : (level : ℕ) (t : TableView) → is_input chosen level t
      ≡ (list_any (λ (input : ℕ × TableView). input.0 == level && input.1.number == t.number) (at_level chosen.level turn.firsts)
      || list_any (λ (input : ℕ × TableView). input.0 == level && input.1.number == t.number) (at_level (chosen.level + 1) turn.seconds))
  by_parts level t =
      ap (list_any (λ (input : ℕ × TableView). input.0 == level && input.1.number == t.number)) turn.inputs
      ∙ any_append (λ (input : ℕ × TableView). input.0 == level && input.1.number == t.number) (at_level chosen.level turn.firsts)
      (at_level (chosen.level + 1) turn.seconds)

  pub first_numbers : (t : TableView) → is_input chosen chosen.level t ≡ has_number turn.firsts t.number
  first_numbers t =
      by_parts chosen.level t
      ∙ (λ i. same_level chosen.level turn.firsts t i || other_level (chosen.level + 1) chosen.level turn.seconds t
      (next_differs chosen.level) i)
      ∙ or_false (has_number turn.firsts t.number)

  pub second_numbers : (t : TableView) → is_input chosen (chosen.level + 1) t ≡ has_number turn.seconds t.number
  second_numbers t =
      by_parts (chosen.level + 1) t
      ∙ (λ i. other_level chosen.level (chosen.level + 1) turn.firsts t (differs_from_next chosen.level) i || same_level
      (chosen.level + 1) turn.seconds t i)

  pub no_input_elsewhere : (level : ℕ) (t : TableView) → (chosen.level == level) ≡ false → (chosen.level + 1 == level) ≡ false →
      is_input chosen level t ≡ false
  no_input_elsewhere level t e d =
      by_parts level t
      ∙ (λ i. other_level chosen.level level turn.firsts t e i || other_level (chosen.level + 1) level turn.seconds t d i)

  tables_at : (level : ℕ) (ts : List TableView) → map (λ (input : ℕ × TableView). input.1) (at_level level ts) ≡ ts
  tables_at level [] = refl
  tables_at level (t ∷ ts) = ap (λ us. t ∷ us) (tables_at level ts)

  pub tables_are : input_tables chosen ≡ turn.firsts ++ turn.seconds
  tables_are =
      ap (map (λ (input : ℕ × TableView). input.1)) turn.inputs
      ∙ map-append (λ (input : ℕ × TableView). input.1) (at_level chosen.level turn.firsts) (at_level (chosen.level + 1) turn.seconds)
      ∙ (λ i. tables_at chosen.level turn.firsts i ++ tables_at (chosen.level + 1) turn.seconds i)

  pub first_is_input : (t : TableView) → In turn.firsts t → In chosen.inputs (chosen.level, t)
  first_is_input t has = subst (λ is. In is (chosen.level, t)) (sym turn.inputs)
      (in_first (at_level chosen.level turn.firsts) (at_level (chosen.level + 1) turn.seconds) (chosen.level, t)
      (into_map (λ (u : TableView). (chosen.level, u)) turn.firsts t has))

  pub second_is_input : (t : TableView) → In turn.seconds t → In chosen.inputs (chosen.level + 1, t)
  second_is_input t has = subst (λ is. In is (chosen.level + 1, t)) (sym turn.inputs)
      (in_second (at_level chosen.level turn.firsts) (at_level (chosen.level + 1) turn.seconds) (chosen.level + 1, t)
      (into_map (λ (u : TableView). (chosen.level + 1, u)) turn.seconds t has))

-- an input is one by its number
pub is_input_of : (chosen : Chosen) (level : ℕ) (t : TableView) → Contains chosen.inputs (level, t) → is_input chosen level t ≡ true
is_input_of chosen level t has =
    any_of (λ (input : ℕ × TableView). input.0 == level && input.1.number == t.number) chosen.inputs (level, t)
    (in_list chosen.inputs (level, t) has) (λ i. eq-eqb level level refl i && eq-eqb t.number t.number refl i)

-- ---- those of a level's tables that have the number of one of these are these

number_turned : (m n : ℕ) → (m == n) ≡ true → (n == m) ≡ true
number_turned m n e = grind (arith, nat_tests)

-- of tables with numbers of their own, two with one number are one
pub one_number : (ts : List TableView) (t u : TableView) → each_pair other_number ts ≡ true → In ts t → In ts u →
    (t.number == u.number) ≡ true → t ≡ u
one_number ts t u numbered in_t in_u same =
    elim (pair_of other_number ts t u numbered in_t in_u) [
      | inl one ↦ one
      | inr other ↦ elim other [
        | inl e ↦ let bad : not true ≡ true = sym (ap not (number_turned t.number u.number same)) ∙ e in cc
        | inr e ↦ let bad : not true ≡ true = sym (ap not same) ∙ e in cc
      ]
    ]

pub picked : (level : ℕ) (fs ts : List TableView) → each_pair (comes_before level) fs ≡ true → each_pair (comes_before level) ts ≡ true →
    each_pair other_number ts ≡ true → ((t : TableView) → In fs t → In ts t) → filter (λ t. has_number fs t.number) ts ≡ fs
picked level fs ts order sorted numbered stand =
    same_sorted (comes_before level) (not_before_itself level) (tables_chain level)
    (filter (λ t. has_number fs t.number) ts) fs (sorted_filter ts sorted) order
    (λ t has.
    let both = of_filter (λ u. has_number fs u.number) ts t has in
    let it = found (λ (u : TableView). u.number == t.number) fs both.passes in
    subst (In fs) (one_number ts it.item t numbered (stand it.item it.is_in) both.is_in it.passes) it.is_in)
    (λ t has. into_filter (λ u. has_number fs u.number) ts t (stand t has)
    (any_of (λ (u : TableView). u.number == t.number) fs t has (eq-eqb t.number t.number refl)))
  where
    sorted_filter : (us : List TableView) → each_pair (comes_before level) us ≡ true →
        each_pair (comes_before level) (filter (λ t. has_number fs t.number) us) ≡ true
    sorted_filter us e = pairs_filter (comes_before level) (λ t. has_number fs t.number) us e
