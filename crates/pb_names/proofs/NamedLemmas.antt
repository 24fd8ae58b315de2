-- One name, one thing; and what a prefix tells of a name.
use Rattle.std.proofs.Common.{◌≡◌, ◌≢◌, ℕ, ◌≤◌, List, [], ◌∷◌, ◌++◌, length, get_or, nat_eq, if◌then◌else◌, ◌==◌, arith, lit≤, refl, sym, ap, subst, ◌∙◌, append-nil, decimal, length-append}
use Rattle.std.specs.Prelude.{codes, IsTrue, nat_le}
use Rattle.std.specs.List.{starts_with}
use Rattle.std.proofs.lemmas.List.{append_cancel_left}
use Rattle.std.proofs.lemmas.Bool.Decides.{nat_tests}
use Rattle.pb_names.proofs.Digits.{first_digit}
use Rattle.pb_names.proofs.Makers.{object_name-append, marker_name-is, marker_name-prefix, marker_prefix-append, file_name-injective, object_name-append_injective, object_name-injective, object_name-no_marker, marker_name-injective, external_name-injective}
use Rattle.pb_names.proofs.Prefixes.{starts_with-append, rest_from_starts_with}
use Rattle.pb_names.specs.Identity.{Identity, IsObject}
use Rattle.pb_names.specs.Named.{Named, current, file, object, marker, external, spelling, IsNamed, IsMarkerOf, IsShared, NamesAreApart, PrefixTellsMarkers, PrefixesAreApart, PrefixIsNoName, PrefixTellsShared}
use Rattle.pb_names.specs.Spelling.{current_name, ending, external_name, file_name, marker_name, marker_prefix, object_name}

-- Names of four shelves begin with different letters: `C`, a digit, `o` and `x`.
abbrev shelf : Named → ℕ
shelf current = 0
shelf (file kind number) = 1
shelf (object id) = 2
shelf (marker id store number) = 2
shelf (external name) = 3

abbrev shelf_at : ℕ → ℕ
shelf_at letter = if nat_le letter 57 then 1 else (if letter == 67 then 0 else (if letter == 111 then 2 else 3))

shelf_at-digit : (letter : ℕ) → letter ≤ 57 → shelf_at letter ≡ 1
shelf_at-digit letter low = grind (arith, nat_tests)

shelf_at-spelling : (one : Named) → IsNamed one → shelf_at (get_or (spelling one) 0 0) ≡ shelf one
unfolding current_name external_name object_name marker_name marker_prefix file_name
shelf_at-spelling current is = refl
shelf_at-spelling (file kind number) is = shelf_at-digit _ (first_digit number (ending kind) is)
shelf_at-spelling (object id) is = refl
shelf_at-spelling (marker id store number) is = refl
shelf_at-spelling (external name) is = refl

same_shelf : (one other : Named) → IsNamed one → IsNamed other → spelling one ≡ spelling other → shelf one ≡ shelf other
same_shelf one other one_is other_is e =
    sym (shelf_at-spelling one one_is) ∙ ap (λ text. shelf_at (get_or text 0 0)) e ∙ shelf_at-spelling other other_is

pub names_are_apart : NamesAreApart
names_are_apart current current one_is other_is e = refl
names_are_apart (file kind m) (file other n) one_is other_is e =
    let parts = file_name-injective kind other m n one_is other_is e in
    cc (parts.0, parts.1)
names_are_apart (object id) (object other) one_is other_is e = ap object (object_name-injective id other one_is other_is e)
names_are_apart (object id) (marker other t n) one_is other_is e =
    absurd (object_name-no_marker id other _ one_is other_is.0 (e ∙ marker_name-is other t n))
names_are_apart (marker id s m) (object other) one_is other_is e =
    absurd (object_name-no_marker other id _ other_is one_is.0 (sym e ∙ marker_name-is id s m))
names_are_apart (marker id s m) (marker other t n) one_is other_is e =
    let parts = marker_name-injective id other s t m n one_is.0 other_is.0 one_is.1 other_is.1 one_is.2 other_is.2 e in
    cc (parts.0, parts.1, parts.2)
names_are_apart (external name) (external other) one_is other_is e = ap external (external_name-injective name other e)
names_are_apart one other one_is other_is e = absurd (omega (arith, same_shelf one other one_is other_is e))

-- on the shelf of shared objects and markers, by the letter `o`
shelf_from_letter : (one : Named) (rest : List ℕ) → IsNamed one → spelling one ≡ 111 ∷ rest → shelf one ≡ 2
shelf_from_letter one rest one_is e = sym (shelf_at-spelling one one_is) ∙ ap (λ text. shelf_at (get_or text 0 0)) e

-- a name that goes on from an object's marker prefix is a marker of this object
pub marker_from_prefix : (id : Identity) (one : Named) (rest : List ℕ) → IsObject id → IsNamed one
    → spelling one ≡ marker_prefix id ++ rest → IsMarkerOf id one
marker_from_prefix id (object other) rest is_object one_is e =
    object_name-no_marker other id _ one_is is_object (e ∙ marker_prefix-append id rest)
marker_from_prefix id (marker other store number) rest is_object one_is e =
    (object_name-append_injective other id _ _ one_is.0 is_object (lit≤ tt) (lit≤ tt)
    (sym (marker_name-is other store number) ∙ e ∙ marker_prefix-append id rest)).0
marker_from_prefix id one rest is_object one_is e =
    absurd (omega (arith, shelf_from_letter one _ one_is (e ∙ marker_prefix-append id rest ∙ object_name-append id _)))

prefix_from_marker : (id : Identity) (one : Named) → IsMarkerOf id one → IsTrue (starts_with nat_eq (spelling one) (marker_prefix id))
prefix_from_marker id (marker other store number) same =
    subst (λ owner. IsTrue (starts_with nat_eq (marker_name other store number) (marker_prefix owner))) same
    (subst (λ text. IsTrue (starts_with nat_eq text (marker_prefix other))) (sym (marker_name-prefix other store number))
    (starts_with-append (marker_prefix other) _))
prefix_from_marker id one never = absurd never

pub prefix_tells_markers : PrefixTellsMarkers
prefix_tells_markers id one is_object one_is = (
  (λ starts. marker_from_prefix id one _ is_object one_is (rest_from_starts_with (spelling one) (marker_prefix id) starts)),
  prefix_from_marker id one,
)

pub prefixes_are_apart : PrefixesAreApart
prefixes_are_apart id other is_object other_is e =
    (object_name-append_injective id other _ _ is_object other_is (lit≤ tt) (lit≤ tt)
    (sym (marker_prefix-append id []) ∙ append-nil (marker_prefix id) ∙ e ∙ sym (append-nil (marker_prefix other)) ∙ marker_prefix-append other [])).0

marker_is_no_prefix : (id other : Identity) (store number : ℕ) → other ≡ id → marker_name other store number ≢ marker_prefix id
marker_is_no_prefix id other store number same e =
    let nothing : decimal store ++ 46 ∷ decimal number ≡ [] =
    append_cancel_left (marker_prefix other) _ _
    (sym (marker_name-prefix other store number) ∙ e ∙ sym (ap marker_prefix same) ∙ sym (append-nil (marker_prefix other))) in
    omega (arith, ap length nothing, length-append {A = ℕ})

pub prefix_is_no_name : PrefixIsNoName
prefix_is_no_name id (marker other store number) is_object one_is e =
    marker_is_no_prefix id other store number
    (marker_from_prefix id (marker other store number) [] is_object one_is (e ∙ sym (append-nil (marker_prefix id)))) e
prefix_is_no_name id one is_object one_is e =
    absurd (marker_from_prefix id one [] is_object one_is (e ∙ sym (append-nil (marker_prefix id))))

shared_from_prefix : (one : Named) → IsNamed one → IsTrue (starts_with nat_eq (spelling one) (codes "obj/")) → IsShared one
shared_from_prefix (object id) one_is starts = tt
shared_from_prefix (marker id store number) one_is starts = tt
shared_from_prefix one one_is starts =
    absurd (omega (arith, shelf_from_letter one _ one_is (rest_from_starts_with (spelling one) (codes "obj/") starts)))

prefix_from_shared : (one : Named) → IsShared one → IsTrue (starts_with nat_eq (spelling one) (codes "obj/"))
unfolding object_name marker_name marker_prefix
prefix_from_shared (object id) shared = refl
prefix_from_shared (marker id store number) shared = refl
prefix_from_shared one never = absurd never

pub prefix_tells_shared : PrefixTellsShared
prefix_tells_shared one one_is = (shared_from_prefix one one_is, prefix_from_shared one)
