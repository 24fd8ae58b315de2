-- What puts and deletes of names do to what a bucket shows.
use Rattle.std.proofs.Common.{◌≡◌, ℕ, Bool, true, false, cond, inl, inr, Option, Some, None, List, refl, sym, ap, ◌∙◌, subst}
use Rattle.std.specs.Prelude.{◌&&◌, ◌||◌, not, is_some}
use Rattle.std.specs.FinMap.{contains_key, get, insert, remove, get-insert, get-remove, nat_cmp-IsAntisymmetric, slice_cmp-IsAntisymmetric}
use Rattle.std.specs.declared.cmp.Ordering.{Ordering}
use Rattle.std.specs.declared.cmp.Ordering.TheVariants.{Less, Equal, Greater}
use Rattle.std.specs.Ordering.{nat_cmp, is_eq, eq_by_cmp}
use Rattle.std.specs.Cmp.{tied_itself}
use Rattle.std.specs.Cmp.Lexicographic.{slice_cmp, nat_list_cmp_total}
use Rattle.std.proofs.lemmas.Bool.{both_ways, and_parts, and_from, or_cases}
use Rattle.pb_keys.proofs.Tests.{same_tests}
use Rattle.pb_devices.specs.Objects.{Objects}
use Rattle.pb_names.specs.Identity.{Identity, IsObject}
use Rattle.pb_names.specs.Named.{Named, object, marker, IsNamed}
use Rattle.pb_names.specs.Ranges.{is_object}
use Rattle.pb_names.specs.Spelling.{object_name}
use Rattle.pb_names.proofs.NamedLemmas.{names_are_apart, prefix_tells_shared}
use Rattle.pb_names.proofs.RangeLemmas.{tests_tell_marker_numbers, tests_tell_objects, tests_tell_stores, object_is}
use Rattle.pb_names.proofs.Makers.{object_name-injective}
use Rattle.pb_marker_world.specs.Machine.{Marker, same_identity, same_marker, with_object, without_object, with_marker, without_marker}
use Rattle.pb_marker_world.specs.Bucket.{IsMarker, is_marker, name_of, shown_names, is_shared_name, IsInForm, NamesInForm}
use Rattle.pb_marker_world.proofs.Worlds.{names_path}
use Rattle.pb_marker_world.proofs.Tests.{identity_is, identity_self, marker_is, marker_self}

-- ---- names

abbrev pub is_name : List ℕ → List ℕ → Bool
is_name = eq_by_cmp (slice_cmp nat_cmp)

equal_from : (r : Ordering) → is_eq r ≡ true → r ≡ Equal
equal_from Less p = absurd (cc)
equal_from Equal p = refl
equal_from Greater p = absurd (cc)

pub same_name : (a b : List ℕ) → is_name a b ≡ true → a ≡ b
same_name a b p =
    slice_cmp-IsAntisymmetric nat_cmp-IsAntisymmetric a b (equal_from (slice_cmp nat_cmp a b) p)

pub name_itself : (a b : List ℕ) → a ≡ b → is_name a b ≡ true
name_itself a b p = subst (λ x. is_name a x ≡ true) p (ap is_eq (tied_itself nat_list_cmp_total a))

some_or : (b : Bool) (v : List ℕ) (o : Option (List ℕ)) → is_some (cond b (Some v) o) ≡ (b || is_some o)
some_or true v o = refl
some_or false v o = refl

none_or : (b : Bool) (o : Option (List ℕ)) → is_some (cond b None o) ≡ (not b && is_some o)
none_or true o = refl
none_or false o = refl

pub has_put : (objects : Objects) (name bytes q : List ℕ)
    → contains_key (insert objects name bytes) q ≡ (is_name q name || contains_key objects q)
has_put objects name bytes q =
    ap is_some (get-insert nat_list_cmp_total objects name bytes q) ∙ some_or (is_name q name) bytes (get objects q)

pub has_deleted : (objects : Objects) (name q : List ℕ)
    → contains_key (remove objects name) q ≡ (not (is_name q name) && contains_key objects q)
has_deleted objects name q =
    ap is_some (get-remove nat_list_cmp_total objects name q) ∙ none_or (is_name q name) (get objects q)

-- ---- in form

pub is_object_of : (o : Identity) → IsObject o → is_object o ≡ true
is_object_of o = (tests_tell_objects o).1

pub marker_in_form : (m : Marker) → is_marker m ≡ true → IsMarker m
marker_in_form m p =
    let u = and_parts _ _ p in
    let z = and_parts _ _ u.1 in
    record {
      object = object_is m.object u.0;
      store = (tests_tell_stores m.store).0 z.0;
      number = (tests_tell_marker_numbers m.number).0 z.1;
    }

pub is_marker_of : (m : Marker) → IsMarker m → is_marker m ≡ true
is_marker_of m form =
    and_from _ _ (is_object_of m.object form.object)
    (and_from _ _ ((tests_tell_stores m.store).1 form.store) ((tests_tell_marker_numbers m.number).1 form.number))

-- a marker, as one of all that has a name
abbrev pub as_named : Marker → Named
as_named m = marker m.object m.store m.number

pub marker_named : (m : Marker) → IsMarker m → IsNamed (as_named m)
marker_named m form = (form.object, form.store, form.number)

pub same_object : (o q : Identity) → object o ≡ object q → o ≡ q
same_object o q p = cc

pub same_as_named : (m n : Marker) → as_named m ≡ as_named n → m ≡ n
same_as_named m n p =
    let objects : m.object ≡ n.object = cc in
    let stores : m.store ≡ n.store = cc in
    let numbers : m.number ≡ n.number = cc in
    λ i. record { object = objects i; store = stores i; number = numbers i }

pub one_marker : (m n : Marker) → IsMarker m → IsMarker n → name_of m ≡ name_of n → m ≡ n
one_marker m n a b p = same_as_named m n (names_are_apart (as_named m) (as_named n) (marker_named m a) (marker_named n b) p)

pub no_object_is_marker : (o : Identity) (m : Marker) → IsObject o → IsMarker m → object_name o ≡ name_of m → ⊥
no_object_is_marker o m a b p =
    let same : object o ≡ as_named m = names_are_apart (object o) (as_named m) a (marker_named m b) p in
    cc

-- ---- what is shown, after a put or a delete

-- f: in form; n: its name is the one put or deleted; s: it is the thing put or deleted; c: it was there
put_here : (f n s c : Bool) → (f ≡ true → n ≡ s) → (s ≡ true → f ≡ true) → (f && (n || c)) ≡ (s || (f && c))
put_here true n s c a b = ap (λ x. x || c) (a refl)
put_here false n true c a b = b refl
put_here false n false c a b = refl

deleted_here : (f n s c : Bool) → (f ≡ true → n ≡ s) → (f && (not n && c)) ≡ (not s && (f && c))
deleted_here true n s c a = ap (λ x. not x && c) (a refl)
deleted_here false n true c a = refl
deleted_here false n false c a = refl

put_there : (f n c : Bool) → (f ≡ true → n ≡ true → ⊥) → (f && (n || c)) ≡ (f && c)
put_there true true c a = absurd (a refl refl)
put_there true false c a = refl
put_there false n c a = refl

deleted_there : (f n c : Bool) → (f ≡ true → n ≡ true → ⊥) → (f && (not n && c)) ≡ (f && c)
deleted_there true true c a = absurd (a refl refl)
deleted_there true false c a = refl
deleted_there false n c a = refl

-- a put of this name changes this test of things to that one
module _ (objects : Objects) (name bytes : List ℕ) where
  pub objects_put : (o : Identity) → IsObject o → name ≡ object_name o → (q : Identity)
      → (shown_names (insert objects name bytes)).objects q ≡ (with_object (shown_names objects) o).objects q
  objects_put o form is q =
      ap (λ x. is_object q && x) (has_put objects name bytes (object_name q))
      ∙ put_here (is_object q) (is_name (object_name q) name) (same_identity q o) (contains_key objects (object_name q))
      (λ f. same_tests _ _
      (λ x. identity_self q o (object_name-injective q o (object_is q f) form (same_name _ _ x ∙ is)))
      (λ x. name_itself _ _ (ap object_name (identity_is q o x) ∙ sym is)))
      (λ x. ap is_object (identity_is q o x) ∙ is_object_of o form)

  pub markers_put : (m : Marker) → IsMarker m → name ≡ name_of m → (q : Marker)
      → (shown_names (insert objects name bytes)).markers q ≡ (with_marker (shown_names objects) m).markers q
  markers_put m form is q =
      ap (λ x. is_marker q && x) (has_put objects name bytes (name_of q))
      ∙ put_here (is_marker q) (is_name (name_of q) name) (same_marker q m) (contains_key objects (name_of q))
      (λ f. same_tests _ _
      (λ x. marker_self q m (one_marker q m (marker_in_form q f) form (same_name _ _ x ∙ is)))
      (λ x. name_itself _ _ (ap name_of (marker_is q m x) ∙ sym is)))
      (λ x. ap is_marker (marker_is q m x) ∙ is_marker_of m form)

  pub objects_deleted : (o : Identity) → IsObject o → name ≡ object_name o → (q : Identity)
      → (shown_names (remove objects name)).objects q ≡ (without_object (shown_names objects) o).objects q
  objects_deleted o form is q =
      ap (λ x. is_object q && x) (has_deleted objects name (object_name q))
      ∙ deleted_here (is_object q) (is_name (object_name q) name) (same_identity q o) (contains_key objects (object_name q))
      (λ f. same_tests _ _
      (λ x. identity_self q o (object_name-injective q o (object_is q f) form (same_name _ _ x ∙ is)))
      (λ x. name_itself _ _ (ap object_name (identity_is q o x) ∙ sym is)))

  pub markers_deleted : (m : Marker) → IsMarker m → name ≡ name_of m → (q : Marker)
      → (shown_names (remove objects name)).markers q ≡ (without_marker (shown_names objects) m).markers q
  markers_deleted m form is q =
      ap (λ x. is_marker q && x) (has_deleted objects name (name_of q))
      ∙ deleted_here (is_marker q) (is_name (name_of q) name) (same_marker q m) (contains_key objects (name_of q))
      (λ f. same_tests _ _
      (λ x. marker_self q m (one_marker q m (marker_in_form q f) form (same_name _ _ x ∙ is)))
      (λ x. name_itself _ _ (ap name_of (marker_is q m x) ∙ sym is)))

  -- and nothing else where it is no thing's name
  pub objects_stay_put : ((q : Identity) → IsObject q → object_name q ≡ name → ⊥) → (q : Identity)
      → (shown_names (insert objects name bytes)).objects q ≡ (shown_names objects).objects q
  objects_stay_put apart q =
      ap (λ x. is_object q && x) (has_put objects name bytes (object_name q))
      ∙ put_there (is_object q) (is_name (object_name q) name) (contains_key objects (object_name q))
      (λ f x. apart q (object_is q f) (same_name _ _ x))

  pub markers_stay_put : ((q : Marker) → IsMarker q → name_of q ≡ name → ⊥) → (q : Marker)
      → (shown_names (insert objects name bytes)).markers q ≡ (shown_names objects).markers q
  markers_stay_put apart q =
      ap (λ x. is_marker q && x) (has_put objects name bytes (name_of q))
      ∙ put_there (is_marker q) (is_name (name_of q) name) (contains_key objects (name_of q))
      (λ f x. apart q (marker_in_form q f) (same_name _ _ x))

  pub objects_stay_deleted : ((q : Identity) → IsObject q → object_name q ≡ name → ⊥) → (q : Identity)
      → (shown_names (remove objects name)).objects q ≡ (shown_names objects).objects q
  objects_stay_deleted apart q =
      ap (λ x. is_object q && x) (has_deleted objects name (object_name q))
      ∙ deleted_there (is_object q) (is_name (object_name q) name) (contains_key objects (object_name q))
      (λ f x. apart q (object_is q f) (same_name _ _ x))

  pub markers_stay_deleted : ((q : Marker) → IsMarker q → name_of q ≡ name → ⊥) → (q : Marker)
      → (shown_names (remove objects name)).markers q ≡ (shown_names objects).markers q
  markers_stay_deleted apart q =
      ap (λ x. is_marker q && x) (has_deleted objects name (name_of q))
      ∙ deleted_there (is_marker q) (is_name (name_of q) name) (contains_key objects (name_of q))
      (λ f x. apart q (marker_in_form q f) (same_name _ _ x))

  -- a name of something may be put, and any may be deleted: all stay in form
  pub form_put : (is_shared_name name ≡ true → IsInForm name) → NamesInForm objects → NamesInForm (insert objects name bytes)
  form_put form each q there shared =
      elim (or_cases (is_name q name) (contains_key objects q) (sym (has_put objects name bytes q) ∙ there)) [
        | inl x ↦
            let same : name ≡ q = sym (same_name q name x) in
            subst (λ y. IsInForm y) same (form (ap is_shared_name same ∙ shared))
        | inr x ↦ each q x shared
      ]

  pub form_deleted : NamesInForm objects → NamesInForm (remove objects name)
  form_deleted each q there shared =
      each q (and_parts _ _ (sym (has_deleted objects name q) ∙ there)).1 shared

pub object_is_in_form : (o : Identity) → IsObject o → IsInForm (object_name o)
object_is_in_form o form = record { one = object o; named = form; spelled = refl }

pub marker_is_in_form : (m : Marker) → IsMarker m → IsInForm (name_of m)
marker_is_in_form m form = record { one = as_named m; named = marker_named m form; spelled = refl }

-- the four steps
pub put_object_shows : (objects : Objects) (o : Identity) (bytes : List ℕ) → IsObject o
    → shown_names (insert objects (object_name o) bytes) ≡ with_object (shown_names objects) o
put_object_shows objects o bytes form =
    names_path _ _ (objects_put objects (object_name o) bytes o form refl)
    (markers_stay_put objects (object_name o) bytes (λ q q_form x. no_object_is_marker o q form q_form (sym x)))

pub put_marker_shows : (objects : Objects) (m : Marker) (bytes : List ℕ) → IsMarker m
    → shown_names (insert objects (name_of m) bytes) ≡ with_marker (shown_names objects) m
put_marker_shows objects m bytes form =
    names_path _ _ (objects_stay_put objects (name_of m) bytes (λ q q_form x. no_object_is_marker q m q_form form x))
    (markers_put objects (name_of m) bytes m form refl)

pub delete_object_shows : (objects : Objects) (o : Identity) → IsObject o
    → shown_names (remove objects (object_name o)) ≡ without_object (shown_names objects) o
delete_object_shows objects o form =
    names_path _ _ (objects_deleted objects (object_name o) (object_name o) o form refl)
    (markers_stay_deleted objects (object_name o) (object_name o) (λ q q_form x. no_object_is_marker o q form q_form (sym x)))

pub delete_marker_shows : (objects : Objects) (m : Marker) → IsMarker m
    → shown_names (remove objects (name_of m)) ≡ without_marker (shown_names objects) m
delete_marker_shows objects m form =
    names_path _ _ (objects_stay_deleted objects (name_of m) (name_of m) (λ q q_form x. no_object_is_marker q m q_form form x))
    (markers_deleted objects (name_of m) (name_of m) m form refl)

-- all other names
object_is_shared : (name : List ℕ) → is_shared_name name ≡ false → (q : Identity) → IsObject q → object_name q ≡ name → ⊥
object_is_shared name apart q form x =
    both_ways (is_shared_name name) apart (ap is_shared_name (sym x) ∙ (prefix_tells_shared (object q) form).1 tt)

marker_is_shared : (name : List ℕ) → is_shared_name name ≡ false → (q : Marker) → IsMarker q → name_of q ≡ name → ⊥
marker_is_shared name apart q form x =
    both_ways (is_shared_name name) apart
    (ap is_shared_name (sym x) ∙ (prefix_tells_shared (as_named q) (marker_named q form)).1 tt)

pub other_put_shows : (objects : Objects) (name bytes : List ℕ) → is_shared_name name ≡ false
    → shown_names (insert objects name bytes) ≡ shown_names objects
other_put_shows objects name bytes apart =
    names_path _ _ (objects_stay_put objects name bytes (object_is_shared name apart))
    (markers_stay_put objects name bytes (marker_is_shared name apart))

pub other_delete_shows : (objects : Objects) (name : List ℕ) → is_shared_name name ≡ false
    → shown_names (remove objects name) ≡ shown_names objects
other_delete_shows objects name apart =
    names_path _ _ (objects_stay_deleted objects name name (object_is_shared name apart))
    (markers_stay_deleted objects name name (marker_is_shared name apart))
