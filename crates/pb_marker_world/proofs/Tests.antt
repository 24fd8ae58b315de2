-- What the tests of the definitions say.
use Rattle.std.proofs.Common.{◌≡◌, ℕ, zero, suc, Bool, true, ◌⊎◌, inl, inr, Option, Some, None, List, [], ◌∷◌, ◌++◌, refl, sym, ap, ◌∙◌}
use Rattle.std.specs.Prelude.{slice_get, slice_set}
use Rattle.std.specs.List.{list_any, list_all, filter_map, cons_option}
use Rattle.std.proofs.lemmas.Bool.{and_parts, and_from, or_left, or_right, eqb-true, eq-eqb}
use Rattle.std.proofs.lemmas.Option.{same_Some}
use Rattle.pb_names.specs.Identity.{Identity}
use Rattle.pb_marker_world.specs.declared.stages.Stage.{Stage}
use Rattle.pb_marker_world.specs.declared.stages.Stage.TheVariants.{Intended, Put, Marked, Held, Loose, Bare, Counted, Ended}
use Rattle.pb_marker_world.specs.Machine.{Marker, Entry, World, entry_at, same_identity, same_marker}
use Rattle.pb_marker_world.specs.Sound.{may_show_marker, answers_for_object}

pub identity_is : (a b : Identity) → same_identity a b ≡ true → a ≡ b
identity_is a b p =
    let u = and_parts _ _ p in
    λ i. record { creator = eqb-true a.creator b.creator u.0 i; number = eqb-true a.number b.number u.1 i }

pub identity_self : (a b : Identity) → a ≡ b → same_identity a b ≡ true
identity_self a b p =
    and_from _ _ (eq-eqb a.creator b.creator (ap (λ (x : Identity). x.creator) p))
    (eq-eqb a.number b.number (ap (λ (x : Identity). x.number) p))

pub marker_is : (a b : Marker) → same_marker a b ≡ true → a ≡ b
marker_is a b p =
    let u = and_parts _ _ p in
    let z = and_parts _ _ u.1 in
    λ i. record {
      object = identity_is a.object b.object u.0 i;
      store = eqb-true a.store b.store z.0 i;
      number = eqb-true a.number b.number z.1 i;
    }

pub marker_self : (a b : Marker) → a ≡ b → same_marker a b ≡ true
marker_self a b p =
    and_from _ _ (identity_self a.object b.object (ap (λ (x : Marker). x.object) p))
    (and_from _ _ (eq-eqb a.store b.store (ap (λ (x : Marker). x.store) p))
    (eq-eqb a.number b.number (ap (λ (x : Marker). x.number) p)))

pub list_any_at : {A : Type 0} (f : A → Bool) (xs : List A) (k : ℕ) (x : A)
    → slice_get xs k ≡ Some x → f x ≡ true → list_any f xs ≡ true
list_any_at f [] k x p q = absurd (cc)
list_any_at f (y ∷ ys) zero x p q = or_left (f y) (list_any f ys) (ap f (same_Some y x p) ∙ q)
list_any_at f (y ∷ ys) (suc k) x p q = or_right (f y) (list_any f ys) (list_any_at f ys k x p q)

pub list_all_at : {A : Type 0} (f : A → Bool) (xs : List A) (k : ℕ) (x : A)
    → list_all f xs ≡ true → slice_get xs k ≡ Some x → f x ≡ true
list_all_at f [] k x q p = absurd (cc)
list_all_at f (y ∷ ys) zero x q p = ap f (sym (same_Some y x p)) ∙ (and_parts (f y) (list_all f ys) q).0
list_all_at f (y ∷ ys) (suc k) x q p = list_all_at f ys k x (and_parts (f y) (list_all f ys) q).1 p

-- an element of an appended or changed list is an old one or the new one
pub slice_get_push : {A : Type 0} (xs : List A) (y : A) (k : ℕ) (x : A)
    → slice_get (xs ++ y ∷ []) k ≡ Some x → (slice_get xs k ≡ Some x) ⊎ (x ≡ y)
slice_get_push [] y zero x p = inr (sym (same_Some y x p))
slice_get_push [] y (suc k) x p = absurd (cc)
slice_get_push (z ∷ zs) y zero x p = inl p
slice_get_push (z ∷ zs) y (suc k) x p = slice_get_push zs y k x p

pub slice_get_set : {A : Type 0} (xs : List A) (i : ℕ) (y : A) (k : ℕ) (x : A)
    → slice_get (slice_set xs i y) k ≡ Some x → (slice_get xs k ≡ Some x) ⊎ (x ≡ y)
slice_get_set [] i y k x p = inl p
slice_get_set (z ∷ zs) zero y zero x p = inr (sym (same_Some y x p))
slice_get_set (z ∷ zs) zero y (suc k) x p = inl p
slice_get_set (z ∷ zs) (suc i) y zero x p = inl p
slice_get_set (z ∷ zs) (suc i) y (suc k) x p = slice_get_set zs i y k x p

pub answers_if_shown : (stage : Stage) → may_show_marker stage ≡ true → answers_for_object stage ≡ true
answers_if_shown Intended p = p
answers_if_shown Put p = refl
answers_if_shown Marked p = refl
answers_if_shown Held p = refl
answers_if_shown Loose p = refl
answers_if_shown Bare p = refl
answers_if_shown Counted p = refl
answers_if_shown Ended p = p

pub same_entry : (w : World) (t k s n : ℕ) (x e : Entry) → entry_at w t k ≡ Some x → t ≡ s → k ≡ n
    → entry_at w s n ≡ Some e → x ≡ e
same_entry w t k s n x e p q r u =
    same_Some x e (sym p ∙ (ap (λ y. entry_at w y k) q ∙ (ap (λ y. entry_at w s y) r ∙ u)))

slice_get_cons_option : {A : Type 0} (o : Option A) (ys : List A) (k : ℕ) (y : A)
    → slice_get (cons_option o ys) k ≡ Some y → (o ≡ Some y) ⊎ ((j : ℕ) × (slice_get ys j ≡ Some y))
slice_get_cons_option None ys k y p = inr (k, p)
slice_get_cons_option (Some z) ys zero y p = inl p
slice_get_cons_option (Some z) ys (suc k) y p = inr (k, p)

-- an element of the mapped part of a list stems from one of the list
pub record ComesFrom {A B : Type 0} (f : A → Option B) (xs : List A) (y : B) : Type 0 where
  pub at : ℕ
  pub item : A
  pub there : slice_get xs at ≡ Some item
  pub gives : f item ≡ Some y

pub slice_get_filter_map : {A B : Type 0} (f : A → Option B) (xs : List A) (k : ℕ) (y : B)
    → slice_get (filter_map f xs) k ≡ Some y → ComesFrom f xs y
slice_get_filter_map f [] k y p = absurd (cc)
slice_get_filter_map f (x ∷ xs) k y p =
    elim (slice_get_cons_option (f x) (filter_map f xs) k y p) [
      | inl q ↦ record { at = zero; item = x; there = refl; gives = q }
      | inr q ↦
          let u = slice_get_filter_map f xs q.0 y q.1 in
          record { at = suc u.at; item = u.item; there = u.there; gives = u.gives }
    ]
