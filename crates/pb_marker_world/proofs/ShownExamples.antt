-- What buckets show, computed: two runs of calls event by event, and names that aren't those of what they look like.
use Rattle.std.proofs.Common.{◌≡◌, ℕ, ◌+◌, ◌≤◌, zero, suc, Bool, true, false, List, [], ◌∷◌, ◌++◌, map, get_or, append-nil, refl, sym, ap, ◌∙◌, arith}
use Rattle.std.specs.Prelude.{◌&&◌, is_some, codes}
use Rattle.std.specs.Fmt.{decimal, digits}
use Rattle.std.specs.FinMap.{contains_key, find, from_entries, get-from_entries}
use Rattle.std.specs.Ordering.{nat_cmp}
use Rattle.std.specs.Cmp.Lexicographic.{slice_cmp, nat_list_cmp_total}
use Rattle.pb_devices.specs.Objects.{Objects}
use Rattle.pb_names.specs.Identity.{Identity, IsObject}
use Rattle.pb_names.specs.Named.{Named, current, file, object, marker, external, spelling, IsNamed}
use Rattle.pb_names.specs.Ranges.{is_object}
use Rattle.pb_names.specs.Spelling.{object_name, marker_name, marker_prefix}
use Rattle.pb_names.proofs.Makers.{object_name-append, marker_name-is}
use Rattle.pb_names.proofs.NamedLemmas.{prefix_tells_shared}
use Rattle.pb_marker_world.specs.Machine.{Marker, Names, empty_world, with_object, without_object, with_marker, without_marker}
use Rattle.pb_marker_world.specs.Bucket.{is_marker, name_of, shown_names, is_shared_name, NamesInForm}

abbrev pub empty_objects : List (List ℕ) → List (List ℕ × List ℕ)
empty_objects [] = []
empty_objects (name ∷ names) = (name, []) ∷ empty_objects names

-- a bucket with empty objects of these names
abbrev pub bucket : List (List ℕ) → Objects
bucket names = from_entries (empty_objects names)

abbrev pub is_in : List (List ℕ) → List ℕ → Bool
is_in names name = is_some (find (slice_cmp nat_cmp) name (empty_objects names))

pub in_bucket : (names : List (List ℕ)) (name : List ℕ) → contains_key (bucket names) name ≡ is_in names name
in_bucket names name = ap is_some (get-from_entries nat_list_cmp_total (empty_objects names) name)

-- the object 4 of store 1, and its markers for the numbers 4 of stores 1 and 2
abbrev o : Identity
o = record { creator = 1; number = 4 }

abbrev own : Marker
own = record { object = o; store = 1; number = 4 }

abbrev other : Marker
other = record { object = o; store = 2; number = 4 }

-- whether the object and its two markers are shown, by a bucket with these names
abbrev shown : List (List ℕ) → Bool × Bool × Bool
shown names =
    ((shown_names (bucket names)).objects o, (shown_names (bucket names)).markers own, (shown_names (bucket names)).markers other)

-- and whether they are present, by the machine's names
abbrev present : Names → Bool × Bool × Bool
present names = (names.objects o, names.markers own, names.markers other)

abbrev written : List (List ℕ) → Bool × Bool × Bool
written names =
    (is_object o && is_in names (object_name o), is_marker own && is_in names (name_of own), is_marker other && is_in names (name_of other))

shown-written : (names : List (List ℕ)) → shown names ≡ written names
shown-written names =
    λ i. (
      is_object o && in_bucket names (object_name o) i,
      is_marker own && in_bucket names (name_of own) i,
      is_marker other && in_bucket names (name_of other) i,
    )

abbrev all_written : List (List (List ℕ)) → List (Bool × Bool × Bool)
all_written [] = []
all_written (names ∷ more) = written names ∷ all_written more

all_shown : (buckets : List (List (List ℕ))) → map shown buckets ≡ all_written buckets
all_shown [] = refl
all_shown (names ∷ more) = λ i. shown-written names i ∷ all_shown more i

-- the machine's names after each of these changes
abbrev after_each : Names → List (Names → Names) → List Names
after_each names [] = []
after_each names (change ∷ changes) = change names ∷ after_each (change names) changes

abbrev same : Names → Names
same names = names

abbrev obj_1_4 : List ℕ
obj_1_4 = codes "obj/1/4"

abbrev own_1_4 : List ℕ
own_1_4 = codes "obj/1/4.ref.1.4"

abbrev other_2_4 : List ℕ
other_2_4 = codes "obj/1/4.ref.2.4"

-- store 1 makes the object and lends it, store 2 puts its marker; store 1 crashes and lets go, store 2 finds it gone and deletes all
abbrev gone_changes : List (Names → Names)
gone_changes =
    same ∷ (λ names. with_object names o) ∷ (λ names. with_marker names own) ∷ same ∷ same ∷ (λ names. with_marker names other)
    ∷ same ∷ (λ names. without_marker names own) ∷ same ∷ same ∷ same
    ∷ (λ names. without_marker names other) ∷ same ∷ (λ names. without_object names o) ∷ same ∷ []

abbrev gone_buckets : List (List (List ℕ))
gone_buckets =
    [] ∷ (obj_1_4 ∷ []) ∷ (obj_1_4 ∷ own_1_4 ∷ []) ∷ (obj_1_4 ∷ own_1_4 ∷ []) ∷ (obj_1_4 ∷ own_1_4 ∷ [])
    ∷ (obj_1_4 ∷ own_1_4 ∷ other_2_4 ∷ []) ∷ (obj_1_4 ∷ own_1_4 ∷ other_2_4 ∷ []) ∷ (obj_1_4 ∷ other_2_4 ∷ [])
    ∷ (obj_1_4 ∷ other_2_4 ∷ []) ∷ (obj_1_4 ∷ other_2_4 ∷ []) ∷ (obj_1_4 ∷ other_2_4 ∷ []) ∷ (obj_1_4 ∷ [])
    ∷ (obj_1_4 ∷ []) ∷ [] ∷ [] ∷ []

gone_written : all_written gone_buckets ≡ map present (after_each empty_world.names gone_changes)
unfolding marker_name marker_prefix object_name digits
gone_written = refl

pub a_lender_gone_is_shown : map shown gone_buckets ≡ map present (after_each empty_world.names gone_changes)
a_lender_gone_is_shown = all_shown gone_buckets ∙ gone_written

-- the same up to both markers, and then store 2 finds the lender's marker, and store 1 lets go
abbrev held_changes : List (Names → Names)
held_changes =
    same ∷ (λ names. with_object names o) ∷ (λ names. with_marker names own) ∷ same ∷ same ∷ (λ names. with_marker names other)
    ∷ same ∷ same ∷ (λ names. without_marker names own) ∷ same ∷ []

abbrev held_buckets : List (List (List ℕ))
held_buckets =
    [] ∷ (obj_1_4 ∷ []) ∷ (obj_1_4 ∷ own_1_4 ∷ []) ∷ (obj_1_4 ∷ own_1_4 ∷ []) ∷ (obj_1_4 ∷ own_1_4 ∷ [])
    ∷ (obj_1_4 ∷ own_1_4 ∷ other_2_4 ∷ []) ∷ (obj_1_4 ∷ own_1_4 ∷ other_2_4 ∷ []) ∷ (obj_1_4 ∷ own_1_4 ∷ other_2_4 ∷ [])
    ∷ (obj_1_4 ∷ other_2_4 ∷ []) ∷ (obj_1_4 ∷ other_2_4 ∷ []) ∷ []

held_written : all_written held_buckets ≡ map present (after_each empty_world.names held_changes)
unfolding marker_name marker_prefix object_name digits
held_written = refl

pub a_lender_held_is_shown : map shown held_buckets ≡ map present (after_each empty_world.names held_changes)
a_lender_held_is_shown = all_shown held_buckets ∙ held_written

-- ---- wrong neighbours

-- store 9 isn't of the family: its object isn't shown by its name, nor a marker of it
pub creator_9_is_not_shown : (objects : Objects) (number : ℕ)
    → (shown_names objects).objects (record { creator = 9; number = number }) ≡ false
creator_9_is_not_shown objects number = refl

pub store_9_is_not_shown : (objects : Objects) (number : ℕ)
    → (shown_names objects).markers (record { object = o; store = 9; number = number }) ≡ false
store_9_is_not_shown objects number = refl

-- a marker alone shows no object, and a marker under one more letter is none
marker_alone : written (own_1_4 ∷ []) ≡ (false, true, false)
unfolding marker_name marker_prefix object_name digits
marker_alone = refl

pub a_marker_shows_no_object : shown (own_1_4 ∷ []) ≡ (false, true, false)
a_marker_shows_no_object = shown-written (own_1_4 ∷ []) ∙ marker_alone

one_more_letter : written (codes "obj/1/4.ref.x" ∷ []) ≡ (false, false, false)
unfolding marker_name marker_prefix object_name digits
one_more_letter = refl

pub one_more_letter_shows_nothing : shown (codes "obj/1/4.ref.x" ∷ []) ≡ (false, false, false)
one_more_letter_shows_nothing = shown-written (codes "obj/1/4.ref.x" ∷ []) ∙ one_more_letter

-- ---- a name under `obj/` that is of nothing: its store's number has a leading zero

-- the first digit of a store's number
first_digit : (store : ℕ) (rest : List ℕ) → 1 ≤ store → store ≤ 8 → get_or (decimal store ++ rest) 0 0 ≡ 48 + store
unfolding digits
first_digit zero rest low high = absurd (omega arith)
first_digit (suc zero) rest low high = refl
first_digit (suc (suc zero)) rest low high = refl
first_digit (suc (suc (suc zero))) rest low high = refl
first_digit (suc (suc (suc (suc zero)))) rest low high = refl
first_digit (suc (suc (suc (suc (suc zero))))) rest low high = refl
first_digit (suc (suc (suc (suc (suc (suc zero)))))) rest low high = refl
first_digit (suc (suc (suc (suc (suc (suc (suc zero))))))) rest low high = refl
first_digit (suc (suc (suc (suc (suc (suc (suc (suc zero)))))))) rest low high = refl
first_digit (suc (suc (suc (suc (suc (suc (suc (suc (suc store))))))))) rest low high = absurd (omega arith)

no_zero : (id : Identity) (rest text : List ℕ) → IsObject id → text ≡ object_name id ++ rest → get_or text 4 0 ≡ 48 → ⊥
no_zero id rest text form is at_zero =
    let first = first_digit id.creator (47 ∷ (decimal id.number ++ rest)) form.creator.0 form.creator.1 in
    let spelled : get_or text 4 0 ≡ get_or (decimal id.creator ++ 47 ∷ (decimal id.number ++ rest)) 0 0 =
    ap (λ x. get_or x 4 0) (is ∙ object_name-append id rest) in
    let low = form.creator.0 in
    omega arith

no_leading_zero : (one : Named) → IsNamed one → codes "obj/01/4" ≡ spelling one → ⊥
no_leading_zero current form is = absurd ((prefix_tells_shared current form).0 (ap is_shared_name (sym is)))
no_leading_zero (file kind number) form is = absurd ((prefix_tells_shared (file kind number) form).0 (ap is_shared_name (sym is)))
no_leading_zero (object id) form is = no_zero id [] (codes "obj/01/4") form (is ∙ sym (append-nil (object_name id))) refl
no_leading_zero (marker id store number) form is = no_zero id _ (codes "obj/01/4") form.0 (is ∙ marker_name-is id store number) refl
no_leading_zero (external name) form is = absurd ((prefix_tells_shared (external name) form).0 (ap is_shared_name (sym is)))

pub a_leading_zero_is_off_form : NamesInForm (bucket (codes "obj/01/4" ∷ [])) → ⊥
a_leading_zero_is_off_form each =
    let form = each (codes "obj/01/4") (in_bucket (codes "obj/01/4" ∷ []) (codes "obj/01/4")) refl in
    no_leading_zero form.one form.named form.spelled
