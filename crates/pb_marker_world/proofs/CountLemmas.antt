-- What a count of an object's markers says.
use Rattle.std.proofs.Common.{◌≡◌, ℕ, ◌+◌, Bool, true, false, cond, inl, inr, List, [], ◌∷◌, count_by, length, drop, refl, sym, ap, ◌∙◌, subst, arith}
use Rattle.std.specs.FinMap.{contains_key, contains_key-keys, keys}
use Rattle.std.specs.List.{list_any}
use Rattle.std.proofs.lemmas.Bool.{cases_Bool, false≢true, and_parts, and_from, or_cases, or_left, or_right}
use Rattle.std.proofs.lemmas.List.Sums.{sum_by-cons}
use Rattle.pb_devices.specs.Objects.{Objects, begins_with, count_with}
use Rattle.pb_names.specs.Identity.{Identity, IsObject}
use Rattle.pb_names.specs.Named.{Named, current, file, object, marker, external, spelling, IsNamed, IsMarkerOf}
use Rattle.pb_names.specs.Spelling.{marker_prefix}
use Rattle.pb_names.proofs.Makers.{marker_prefix-append, object_name-append}
use Rattle.pb_names.proofs.NamedLemmas.{prefix_tells_markers}
use Rattle.pb_names.proofs.Prefixes.{rest_from_starts_with}
use Rattle.pb_marker_world.specs.Machine.{Marker}
use Rattle.pb_marker_world.specs.Steps.{IsMarked}
use Rattle.pb_marker_world.specs.Bucket.{IsMarker, is_marker, name_of, shown_names, is_shared_name, NamesInForm}
use Rattle.pb_marker_world.proofs.BucketLemmas.{is_name, same_name, name_itself, as_named, marker_in_form, marker_named, is_marker_of}

module _ (test : List ℕ → Bool) where
  counted : (name : List ℕ) (names : List (List ℕ)) (b : Bool) → test name ≡ b
      → count_by test (name ∷ names) ≡ cond b 1 0 + count_by test names
  counted name names b p =
      sum_by-cons (λ y. cond (test y) 1 0) name names ∙ ap (λ x. cond x 1 0 + count_by test names) p

  -- some name is counted exactly where one passes the test
  none_passes : (names : List (List ℕ)) → count_by test names ≡ 0 → (q : List ℕ) → list_any (is_name q) names ≡ true
      → test q ≡ true → ⊥
  none_passes [] none q p t = false≢true p
  none_passes (name ∷ names) none q p t =
      elim (or_cases (is_name q name) (list_any (is_name q) names) p) [
        | inl x ↦
            let all = counted name names true (ap test (sym (same_name q name x)) ∙ t) in
            omega arith
        | inr x ↦
            let all = counted name names (test name) refl in
            none_passes names (omega arith) q x t
      ]

  record Passes (names : List (List ℕ)) : Type 0 where
    name : List ℕ
    there : list_any (is_name name) names ≡ true
    passes : test name ≡ true

  some_passes : (names : List (List ℕ)) → (count_by test names ≡ 0 → ⊥) → Passes names
  some_passes [] some = absurd (some refl)
  some_passes (name ∷ names) some =
      elim (cases_Bool (test name)) [
        | inl x ↦ record { name = name; there = or_left _ _ (name_itself name name refl); passes = x }
        | inr x ↦
            let all = counted name names false x in
            let rest = some_passes names (λ y. some (omega arith)) in
            record { name = rest.name; there = or_right (is_name rest.name name) _ rest.there; passes = rest.passes }
      ]

pub counted_none : (objects : Objects) (o : Identity) → IsObject o → count_with (marker_prefix o) objects ≡ 0
    → IsMarked (shown_names objects) o → ⊥
counted_none objects o form none m =
    let x = m.marker in
    let u = and_parts (is_marker x) (contains_key objects (name_of x)) m.present in
    none_passes (begins_with (marker_prefix o)) (keys objects) none (name_of x)
    (sym (contains_key-keys objects (name_of x)) ∙ u.1)
    ((prefix_tells_markers o (as_named x) form (marker_named x (marker_in_form x u.0))).1 m.same)

-- what has a name that begins with the object's marker prefix is a marker of the object
record IsItsMarker (o : Identity) (one : Named) : Type 0 where
  m : Marker
  same : one ≡ as_named m
  of : m.object ≡ o

its_marker : (o : Identity) (one : Named) → IsMarkerOf o one → IsItsMarker o one
its_marker o current never = absurd never
its_marker o (file kind number) never = absurd never
its_marker o (object other) never = absurd never
its_marker o (marker other store number) same =
    record { m = record { object = other; store = store; number = number }; same = refl; of = same }
its_marker o (external name) never = absurd never

-- what begins with a marker prefix begins with `obj/`
shared_from_prefix : (o : Identity) (name : List ℕ) → begins_with (marker_prefix o) name ≡ true → is_shared_name name ≡ true
shared_from_prefix o name p =
    let rest = drop (length (marker_prefix o)) name in
    let spelled : name ≡ 111 ∷ 98 ∷ 106 ∷ 47 ∷ _ =
    rest_from_starts_with name (marker_prefix o) p ∙ (marker_prefix-append o rest ∙ object_name-append o _) in
    ap is_shared_name spelled

-- so its name in a bucket shows that the object is marked
marked_by : (objects : Objects) (o : Identity) (one : Named) → IsNamed one → IsItsMarker o one
    → contains_key objects (spelling one) ≡ true → IsMarked (shown_names objects) o
marked_by objects o one named its there =
    let form : IsNamed (as_named its.m) = subst (λ x. IsNamed x) its.same named in
    let is_form : IsMarker its.m = record { object = form.0; store = form.1; number = form.2 } in
    record {
      marker = its.m;
      same = its.of;
      present = and_from _ _ (is_marker_of its.m is_form) (ap (λ x. contains_key objects (spelling x)) (sym its.same) ∙ there);
    }

pub counted_some : (objects : Objects) (o : Identity) → IsObject o → NamesInForm objects
    → (count_with (marker_prefix o) objects ≡ 0 → ⊥) → IsMarked (shown_names objects) o
counted_some objects o form each some =
    let found = some_passes (begins_with (marker_prefix o)) (keys objects) some in
    let there : contains_key objects found.name ≡ true = contains_key-keys objects found.name ∙ found.there in
    let is = each found.name there (shared_from_prefix o found.name found.passes) in
    marked_by objects o is.one is.named
    (its_marker o is.one ((prefix_tells_markers o is.one form is.named).0
    (ap (begins_with (marker_prefix o)) (sym is.spelled) ∙ found.passes)))
    (ap (contains_key objects) (sym is.spelled) ∙ there)
