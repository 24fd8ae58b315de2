-- The edit that reserves numbers breaks no rule of a version behind its first edit, and changes one number of it.
use Rattle.std.proofs.Common.{◌≡◌, ℕ, ◌+◌, ◌≤◌, ◌<◌, ◌^◌, List, [], ◌∷◌, Bool, true, false, length, refl, ap, ◌∙◌, arith}
use Rattle.std.proofs.lemmas.Bool.{eqb-true}
use Rattle.std.proofs.lemmas.Bool.Decides.{nat_tests}
use Rattle.std.specs.Prelude.{not, ◌&&◌, ◌||◌, ◌==◌, nat_le, nat_lt, if◌then◌else◌, Some, None}
use Rattle.std.specs.List.{filter, list_all}
use Rattle.pb_edit.specs.Grammar.{IsEdit, edit_spelling}
use Rattle.pb_version.specs.declared.broken.Broken.TheVariants.{V1, V2, V3, V4, V5, V6, V7, V8, V9}
use Rattle.pb_version.specs.Version.{TableView, VersionView, all_tables}
use Rattle.pb_version.specs.Edited.{each_level, level_after, backings_after, edited}
use Rattle.pb_version.specs.Rules.{keeps_v4, keeps_v6, keeps_v7, keeps_v8, keeps_v9, level_keeps_v4, has_its_backing, has_virtual, fit_each_other, first_broken}
use Rattle.pb_version.specs.State.{IsVersion}
use Rattle.pb_manifest.specs.Numbers.{reservation, with_next}

no_item : (next : ℕ) → edit_spelling (reservation next) ≡ [] → ⊥
unfolding edit_spelling
no_item next none = cc

pub reservation_is : (next : ℕ) → next < 2 ^ 62 → IsEdit (reservation next)
reservation_is next low = record {
  some = no_item next;
  accepted = tt;
  next = low;
  log = tt;
  flushed = tt;
  format = tt;
  deleted = record { each = tt; ascend = tt };
  physical = record { each = tt; ascend = tt };
  virtuals = record { each = tt; ascend = tt };
  created = record { each = tt; ascend = tt };
  removed = record { each = tt; ascend = tt };
}

all_stay : {X : Type 0} (xs : List X) → filter (λ x. true) xs ≡ xs
all_stay [] = refl
all_stay (x ∷ xs) = ap (λ ys. x ∷ ys) (all_stay xs)

levels_stay : (old : VersionView) (next level : ℕ) (levels : List (List TableView))
    → each_level (level_after old (reservation next)) level levels ≡ levels
levels_stay old next level [] = refl
levels_stay old next level (tables ∷ deeper) = λ i. all_stay tables i ∷ levels_stay old next (level + 1) deeper i

backings_stay : (old : VersionView) (next : ℕ) → backings_after old (reservation next) ≡ old.backings
backings_stay old next = all_stay old.backings

pub reserved : (old : VersionView) (next : ℕ) → edited old (reservation next) ≡ with_next next old
unfolding edited
reserved old next = λ i. record {
  levels = levels_stay old next 0 old.levels i;
  backings = backings_stay old next i;
  five = (with_next next old).five;
}

each_true : (f : ℕ → List TableView → Bool) → ((level : ℕ) (tables : List TableView) → f level tables ≡ true)
    → (level : ℕ) (levels : List (List TableView)) → list_all (λ kept. kept) (each_level f level levels) ≡ true
each_true f all level [] = refl
each_true f all level (tables ∷ deeper) = λ i. all level tables i && each_true f all (level + 1) deeper i

five_fit : (accepted next log flushed format raised : ℕ) (all_five : Bool) → next ≤ raised
    → (nat_le flushed accepted && nat_lt log next && format == 1) ≡ true
    → (nat_le accepted accepted && nat_le next raised && nat_le flushed flushed && nat_le format format &&
    (nat_le flushed accepted && nat_lt log raised && format == 1) && (not (format == 0) || all_five)) ≡ true
five_fit accepted next log flushed format raised all_five above fit = grind (arith, nat_tests)

or_else : (test other : Bool) → (test || other) ≡ true → (test ≡ true → ⊥) → other ≡ true
or_else true other either never = absurd (never refl)
or_else false other either never = either

pub reservation_unbroken : (old : VersionView) (next : ℕ) → IsVersion old → (old.five.format ≡ 0 → ⊥) → old.five.next ≤ next
    → first_broken old (reservation next) ≡ None
unfolding first_broken
reservation_unbroken old next is begun above =
    let five = old.five in
    let fits : fit_each_other five ≡ true =
    or_else (five.format == 0) (fit_each_other five) is.fits (λ none. begun (eqb-true five.format 0 none)) in
    let v4 : keeps_v4 old (reservation next) ≡ true =
    each_true (level_keeps_v4 old (reservation next)) (λ level tables. refl) 0 old.levels in
    let v6 : keeps_v6 old (reservation next) ≡ true =
    (λ i. list_all (has_its_backing (backings_stay old next i)) (all_tables (reserved old next i))) ∙ is.backed in
    let v7 : keeps_v7 old (reservation next) ≡ true =
    (λ i. list_all (λ b. has_virtual (all_tables (reserved old next i)) b.number) (backings_stay old next i)) ∙ is.shown in
    let v8 : keeps_v8 old (reservation next) ≡ true =
    five_fit five.accepted five.next five.log five.flushed five.format next _ above fits in
    let v9 : keeps_v9 old (reservation next) ≡ true =
    (λ i. nat_le (length (all_tables (reserved old next i))) 4096) ∙ is.few in
    (λ i. if not true then Some V1
    else if not true then Some V2
    else if not true then Some V3
    else if not (v4 i) then Some V4
    else if not true then Some V5
    else if not (v6 i) then Some V6
    else if not (v7 i) then Some V7
    else if not (v8 i) then Some V8
    else if not (v9 i) then Some V9
    else None)
