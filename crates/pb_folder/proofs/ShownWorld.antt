-- A world that is shown, whole: store 1 has one entry, whose object and marker the bucket has. It is sound, and so steady.
use Rattle.std.proofs.Common.{◌≡◌, ℕ, Bool, true, false, inl, inr, Some, None, List, [], ◌∷◌, refl, sym, ap, ◌∙◌}
use Rattle.std.specs.Prelude.{◌&&◌, ◌==◌, ◌⊎◌, cond, codes, is_some, if◌then◌else◌}
use Rattle.std.specs.Option.{option_map, option_and_then}
use Rattle.std.specs.Fmt.{digits}
use Rattle.std.specs.FinMap.{contains_key}
use Rattle.std.proofs.lemmas.Bool.{and_parts, both_ways, cases_Bool, cond-true, cond-false, eqb-true}
use Rattle.pb_names.specs.Identity.{Identity, IsObject}
use Rattle.pb_names.specs.Ranges.{is_object, is_store}
use Rattle.pb_names.specs.Spelling.{marker_name, marker_prefix, object_name}
use Rattle.pb_names.proofs.RangeLemmas.{object_is}
use Rattle.pb_names.proofs.Makers.{object_name-injective}
use Rattle.pb_payloads.specs.Catalogued.{Standing}
use Rattle.pb_payloads.specs.Catalogued.Standing.{Shared}
use Rattle.pb_marker_world.specs.declared.stages.Stage.TheVariants.{Held, Counted}
use Rattle.pb_marker_world.specs.Machine.{Entry, Marker, World, entry_at, own_marker}
use Rattle.pb_marker_world.specs.Bucket.{IsMarker, is_marker, name_of}
use Rattle.pb_marker_world.specs.Sound.{is_beginning, IsDoomed, IsLent, IsSound, IsSteady}
use Rattle.pb_marker_world.proofs.BucketLemmas.{is_name, same_name, marker_in_form}
use Rattle.pb_marker_world.proofs.BucketLemmas.{one_marker, no_object_is_marker}
use Rattle.pb_marker_world.proofs.ShownExamples.{bucket, in_bucket, is_in}
use Rattle.pb_folder.specs.Said.{Said}
use Rattle.pb_folder.specs.Shown.{Words, closed_entry, closed_part, closed_world, shared_as, words_of}
use Rattle.pb_folder.proofs.ShownExamples.{held, o, said}
use Rattle.pb_folder.proofs.ShownLaws.{sound_is_steady}

-- store 1 says one entry, whose number its version names, and all others are new
abbrev one : Said
one = record said { entries = (4, Shared o) ∷ [] }

abbrev words : ℕ → Words
words store = if store == 1 then Some one else None

abbrev names : List (List ℕ)
names = codes "obj/1/4" ∷ codes "obj/1/4.ref.1.4" ∷ []

abbrev own : Marker
own = own_marker 1 4 held

abbrev pub shown : World
shown = closed_world words (bucket names)

pub store_1_holds : entry_at shown 1 4 ≡ Some held
store_1_holds = refl

pub store_2_has_nothing : entry_at shown 2 4 ≡ None
store_2_has_nothing = refl

-- a number that is no store's has an empty part, whatever words stand for it
pub store_9_has_nothing : entry_at (closed_world (λ _. Some one) (bucket names)) 9 4 ≡ None
store_9_has_nothing = refl

pub each_has_opened_once : (shown.parts 3).opening ≡ 1
each_has_opened_once = refl

pub no_handle_is_given : shown.lendings ≡ []
no_handle_is_given = refl

-- ---- the one entry

entry_of_1 : (n : ℕ) (e : Entry) → entry_at shown 1 n ≡ Some e → (n ≡ 4) × (e ≡ held)
entry_of_1 n e stands =
    elim (cases_Bool (4 == n)) [
      | inl y ↦
          let four : n ≡ 4 = sym (eqb-true 4 n y) in
          let same : Some held ≡ Some e = sym (ap (λ k. entry_at shown 1 k) four) ∙ stands in
          (four, sym cc)
      | inr y ↦
          let none : entry_at shown 1 n ≡ None =
          ap (λ b. option_map (closed_entry one n)
          (option_and_then (λ (entry : ℕ × Standing). shared_as entry.1) (if b then Some (4, Shared o) else None))) y in
          let clash : None ≡ Some e = sym none ∙ stands in
          absurd (cc)
    ]

-- it is that of store 1 under 4
record IsTheOne (s n : ℕ) (e : Entry) : Type 0 where
  store : s ≡ 1
  number : n ≡ 4
  entry : e ≡ held

says_nothing : (s : ℕ) → (s == 1) ≡ false → words_of words s ≡ None
says_nothing s other =
    let none : words s ≡ None = cond-false (s == 1) (Some one) None other in
    elim (cases_Bool (is_store s)) [
      | inl y ↦ cond-true (is_store s) (words s) None y ∙ none
      | inr y ↦ cond-false (is_store s) (words s) None y
    ]

the_one : (s n : ℕ) (e : Entry) → entry_at shown s n ≡ Some e → IsTheOne s n e
the_one s n e stands =
    elim (cases_Bool (s == 1)) [
      | inl y ↦
          let first : s ≡ 1 = eqb-true s 1 y in
          let u = entry_of_1 n e (sym (ap (λ t. entry_at shown t n) first) ∙ stands) in
          record { store = first; number = u.0; entry = u.1 }
      | inr y ↦
          let clash : None ≡ Some e = sym (ap (λ (x : Words). (closed_part 1 x).entries n) (says_nothing s y)) ∙ stands in
          absurd (cc)
    ]

-- ---- the two names

one_of : (a b : Bool) (v : List ℕ) → is_some (cond a (Some v) (cond b (Some v) None)) ≡ true → (a ≡ true) ⊎ (b ≡ true)
one_of true b v there = inl refl
one_of false true v there = inr refl
one_of false false v there = absurd (both_ways false refl there)

name_in : (q : List ℕ) → is_in names q ≡ true → (q ≡ codes "obj/1/4") ⊎ (q ≡ codes "obj/1/4.ref.1.4")
name_in q there =
    elim (one_of (is_name q (codes "obj/1/4")) (is_name q (codes "obj/1/4.ref.1.4")) [] there) [
      | inl x ↦ inl (same_name q (codes "obj/1/4") x)
      | inr x ↦ inr (same_name q (codes "obj/1/4.ref.1.4") x)
    ]

object_spelled : object_name o ≡ codes "obj/1/4"
unfolding object_name digits
object_spelled = refl

own_spelled : name_of own ≡ codes "obj/1/4.ref.1.4"
unfolding marker_name marker_prefix object_name digits
own_spelled = refl

o_form : IsObject o
o_form = object_is o refl

own_form : IsMarker own
own_form = marker_in_form own refl

only_object : (q : Identity) → shown.names.objects q ≡ true → q ≡ o
only_object q there =
    let u = and_parts (is_object q) (contains_key (bucket names) (object_name q)) there in
    let form = object_is q u.0 in
    elim (name_in (object_name q) (sym (in_bucket names (object_name q)) ∙ u.1)) [
      | inl x ↦ object_name-injective q o form o_form (x ∙ sym object_spelled)
      | inr x ↦ absurd (no_object_is_marker q own form own_form (x ∙ sym own_spelled))
    ]

only_marker : (m : Marker) → shown.names.markers m ≡ true → m ≡ own
only_marker m there =
    let u = and_parts (is_marker m) (contains_key (bucket names) (name_of m)) there in
    let form = marker_in_form m u.0 in
    elim (name_in (name_of m) (sym (in_bucket names (name_of m)) ∙ u.1)) [
      | inl x ↦ absurd (no_object_is_marker o m o_form form (object_spelled ∙ sym x))
      | inr x ↦ one_marker m own form own_form (x ∙ sym own_spelled)
    ]

object_written : (is_object o && is_in names (object_name o)) ≡ true
unfolding object_name digits
object_written = refl

object_there : shown.names.objects o ≡ true
object_there = ap (λ x. is_object o && x) (in_bucket names (object_name o)) ∙ object_written

own_written : (is_marker own && is_in names (name_of own)) ≡ true
unfolding marker_name marker_prefix object_name digits
own_written = refl

own_there : shown.names.markers own ≡ true
own_there = ap (λ x. is_marker own && x) (in_bucket names (name_of own)) ∙ own_written

-- ---- sound

not_doomed : (q : Identity) → IsDoomed shown q → ⊥
not_doomed q d =
    let u = the_one d.store d.number d.entry d.stands in
    let clash : Held ≡ Counted = sym (ap (λ (x : Entry). x.stage) u.entry) ∙ d.counted in
    cc

not_lent : (m : Marker) → IsLent shown m → ⊥
not_lent m (inl offered) = let clash : None ≡ Some offered.given = offered.there in cc
not_lent m (inr awaited) =
    let u = the_one awaited.store awaited.number awaited.entry awaited.stands in
    let clash : None ≡ Some m = sym (ap (λ (x : Entry). x.lender) u.entry) ∙ awaited.lent in
    cc

pub shown_is_sound : IsSound shown
shown_is_sound =
    record {
      S1 = λ s n e stands shows.
          let u = the_one s n e stands in
          ap shown.names.markers (λ i. own_marker (u.store i) (u.number i) (u.entry i)) ∙ own_there;
      S2 = λ s n e stands is_held.
          let u = the_one s n e stands in
          record {
            present = ap shown.names.objects (ap (λ (x : Entry). x.object) u.entry) ∙ object_there;
            spared = not_doomed e.object;
          };
      S3 = λ m lent. absurd (not_lent m lent);
      S4 = λ h g k m there _ _ _. let clash : None ≡ Some g = there in absurd (cc);
      S5 = λ m there.
          let same = only_marker m there in
          record {
            entry = held;
            stands = λ i. entry_at shown (same i).store (same i).number;
            same = sym (ap (λ (x : Marker). x.object) same);
            shows = refl;
          };
      S6 = λ q there.
          record { store = 1; number = 4; entry = held; stands = refl; same = sym (only_object q there); answers = refl };
      S7_entries = λ s n e stands.
          let u = the_one s n e stands in
          record {
            own = λ i. (shown.parts (u.store i)).used (u.number i);
            object = λ i. (shown.parts (u.entry i).object.creator).used (u.entry i).object.number;
          };
      S7_objects = λ q there. let same = only_object q there in λ i. (shown.parts (same i).creator).used (same i).number;
      S7_markers = λ m there. let same = only_marker m there in (
        λ i. (shown.parts (same i).store).used (same i).number,
        λ i. (shown.parts (same i).object.creator).used (same i).object.number,
      );
      S8 = λ s n e stands its_own beginning.
          let u = the_one s n e stands in
          absurd (both_ways (is_beginning e.stage) (ap (λ (x : Entry). is_beginning x.stage) u.entry) beginning);
    }

pub shown_is_steady : IsSteady shown
shown_is_steady = sound_is_steady words (bucket names) shown_is_sound
