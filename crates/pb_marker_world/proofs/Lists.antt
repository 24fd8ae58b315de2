-- What the lists of a world say after each change to them.
use Rattle.std.proofs.Common.{◌≡◌, ℕ, zero, suc, ◌+◌, ◌<◌, Bool, true, false, ◌⊎◌, inl, inr, Option, Some, None, List, [], ◌∷◌, ◌++◌, length, get_or, set, take, drop, map, cond, refl, sym, ap, ◌∙◌, add-one, arith}
use Rattle.std.specs.Prelude.{slice_get, ◌||◌, ◌&&◌, ◌==◌, not, if◌then◌else◌}
use Rattle.std.specs.List.{list_any, filter, filter_map, cons_option}
use Rattle.std.proofs.lemmas.List.{take_more}
use Rattle.std.proofs.lemmas.List.Edits.{map_over_more}
use Rattle.std.proofs.lemmas.List.Elements.{filter_map-append}
use Rattle.std.specs.Option.{option_map}
use Rattle.std.proofs.Math.Seq.{drop-cons}
use Rattle.std.proofs.lemmas.Bool.{both_ways, false≢true, or_cases, or_left, or_right, and_parts, and_from, and_left, and_right, cases_Bool, cases_eq, eq-eqb, ne_eqb, eqb-true, cond-true, cond-false, false_from_ne_true}
use Rattle.pb_keys.proofs.Tests.{either_turns, same_tests}
use Rattle.pb_names.specs.Identity.{Identity}
use Rattle.pb_marker_world.specs.declared.stages.Stage.TheVariants.{Loose}
use Rattle.pb_marker_world.specs.declared.records.Place.{Place}
use Rattle.pb_marker_world.specs.declared.records.Opening.{Opening}
use Rattle.pb_marker_world.specs.Machine.{Marker, Entry, same_identity, same_marker}
use Rattle.pb_marker_world.specs.Steps.{settled}
use Rattle.pb_marker_world.specs.Book.{is_place, entry_in, opening_in, has_object, has_marker, written, loosened, reopened}
use Rattle.pb_marker_world.specs.Events.{places_of}
use Rattle.pb_marker_world.proofs.Tests.{identity_is, identity_self, marker_is, marker_self}

-- a look-up at a place of the scan
pub entry_in_found : (ps : List Place) (i : ℕ) (x : Place) (s n : ℕ) → i < length ps → x ≡ get_or ps i x
    → is_place s n x ≡ true → entry_in (drop i ps) s n ≡ x.entry
entry_in_found ps i x s n lt is t =
    ap (λ q. entry_in q s n) (drop-cons ps i x lt)
    ∙ (cond-true (is_place s n (get_or ps i x)) (get_or ps i x).entry (entry_in (drop (suc i) ps) s n)
    (ap (is_place s n) (sym is) ∙ t)
    ∙ ap (λ (p : Place). p.entry) (sym is))

pub entry_in_passed : (ps : List Place) (i : ℕ) (x : Place) (s n : ℕ) → i < length ps → x ≡ get_or ps i x
    → is_place s n x ≡ false → entry_in (drop i ps) s n ≡ entry_in (drop (i + 1) ps) s n
entry_in_passed ps i x s n lt is t =
    ap (λ q. entry_in q s n) (drop-cons ps i x lt)
    ∙ (cond-false (is_place s n (get_or ps i x)) (get_or ps i x).entry (entry_in (drop (suc i) ps) s n)
    (ap (is_place s n) (sym is) ∙ t)
    ∙ ap (λ j. entry_in (drop j ps) s n) (sym (add-one i)))

pub opening_in_found : (os : List Opening) (i : ℕ) (d : Opening) (s : ℕ) → i < length os
    → (get_or os i d).store ≡ s → opening_in (drop i os) s ≡ (get_or os i d).opening
opening_in_found os i d s lt t =
    ap (λ q. opening_in q s) (drop-cons os i d lt)
    ∙ cond-true ((get_or os i d).store == s) (get_or os i d).opening (opening_in (drop (suc i) os) s) (eq-eqb (get_or os i d).store s t)

pub opening_in_passed : (os : List Opening) (i : ℕ) (d : Opening) (s : ℕ) → i < length os
    → ((get_or os i d).store ≡ s → ⊥) → opening_in (drop i os) s ≡ opening_in (drop (i + 1) os) s
opening_in_passed os i d s lt t =
    ap (λ q. opening_in q s) (drop-cons os i d lt)
    ∙ (cond-false ((get_or os i d).store == s) (get_or os i d).opening (opening_in (drop (suc i) os) s) (ne_eqb (get_or os i d).store s t)
    ∙ ap (λ j. opening_in (drop j os) s) (sym (add-one i)))

same_read : {A : Type 0} (xs : List A) (i : ℕ) (d e : A) → i < length xs → get_or xs i d ≡ get_or xs i e
same_read [] i d e lt = absurd (omega arith)
same_read (x ∷ xs) zero d e lt = refl
same_read (x ∷ xs) (suc i) d e lt = same_read xs i d e (omega arith)

-- a loop that writes f of each element
pub mapped_more : {A : Type 0} (f : A → A) (xs ys : List A) (i : ℕ) (d r : A) → i < length xs → length ys ≡ length xs
    → ys ≡ map f (take i xs) ++ drop i xs → r ≡ f (get_or ys i d)
    → set ys i r ≡ map f (take (i + 1) xs) ++ drop (i + 1) xs
mapped_more f xs ys i d r lt len so_far is =
    let within : i < length ys = omega arith in
    ap (λ x. set ys i x) is
    ∙ map_over_more f xs ys i (get_or ys i d) lt so_far (same_read ys i d (get_or ys i d) within)

pub append-none : {A : Type 0} (xs : List A) → xs ≡ xs ++ []
append-none [] = refl
append-none (x ∷ xs) = ap (λ ys. x ∷ ys) (append-none xs)

-- a loop that adds what h finds in each element
pub filter_map_none : {A B : Type 0} (h : A → Option B) (xs : List A) (i : ℕ) (d : A) → i < length xs
    → h (get_or xs i d) ≡ None → filter_map h (take (i + 1) xs) ≡ filter_map h (take i xs)
filter_map_none h xs i d lt q =
    ap (filter_map h) (take_more xs i d lt)
    ∙ (filter_map-append h (take i xs) (get_or xs i d ∷ [])
    ∙ (ap (λ o. filter_map h (take i xs) ++ cons_option o []) q ∙ sym (append-none (filter_map h (take i xs)))))

pub filter_map_some : {A B : Type 0} (h : A → Option B) (xs : List A) (i : ℕ) (d : A) (y : B) → i < length xs
    → h (get_or xs i d) ≡ Some y → filter_map h (take (i + 1) xs) ≡ filter_map h (take i xs) ++ y ∷ []
filter_map_some h xs i d y lt q =
    ap (filter_map h) (take_more xs i d lt)
    ∙ (filter_map-append h (take i xs) (get_or xs i d ∷ [])
    ∙ ap (λ o. filter_map h (take i xs) ++ cons_option o []) q)

pub list_any-push : {A : Type 0} (f : A → Bool) (xs : List A) (y : A) → list_any f (xs ++ y ∷ []) ≡ (list_any f xs || f y)
list_any-push f [] y = or_none (f y)
  where
    or_none : (b : Bool) → (b || false) ≡ (false || b)
    or_none true = refl
    or_none false = refl
list_any-push f (x ∷ xs) y = ap (λ b. f x || b) (list_any-push f xs y) ∙ or_assoc (f x) (list_any f xs) (f y)
  where
    or_assoc : (a b c : Bool) → (a || (b || c)) ≡ ((a || b) || c)
    or_assoc true b c = refl
    or_assoc false b c = refl

pub list_any-map : {A : Type 0} (f : A → Bool) (g : A → A) → ((x : A) → f (g x) ≡ f x) → (xs : List A)
    → list_any f (map g xs) ≡ list_any f xs
list_any-map f g h [] = refl
list_any-map f g h (x ∷ xs) = λ i. h x i || list_any-map f g h xs i

-- among those that pass, one passes f exactly if f's pass
pub list_any-filter : {A : Type 0} (f g : A → Bool) (r : Bool) → ((x : A) → f x ≡ true → g x ≡ r) → (xs : List A)
    → list_any f (filter g xs) ≡ (r && list_any f xs)
list_any-filter f g true h [] = refl
list_any-filter f g false h [] = refl
list_any-filter f g r h (x ∷ xs) =
    of_cond (g x) ∙ step (f x) (g x) r (list_any f xs) (list_any f (filter g xs)) (h x) (list_any-filter f g r h xs)
  where
    of_cond : (b : Bool) → list_any f (cond b (x ∷ filter g xs) (filter g xs)) ≡ cond b (f x || list_any f (filter g xs)) (list_any f (filter g xs))
    of_cond true = refl
    of_cond false = refl

    step : (fx gx r any rest : Bool) → (fx ≡ true → gx ≡ r) → rest ≡ (r && any) → cond gx (fx || rest) rest ≡ (r && (fx || any))
    step true gx true any rest h e = ap (λ b. cond b true rest) (h refl)
    step true gx false any rest h e = ap (λ b. cond b true rest) (h refl) ∙ e
    step false true r any rest h e = e
    step false false r any rest h e = e

-- an element that passes stands somewhere
pub record PassesAt {A : Type 0} (f : A → Bool) (xs : List A) : Type 0 where
  pub at : ℕ
  pub item : A
  pub there : slice_get xs at ≡ Some item
  pub passes : f item ≡ true

pub list_any_find : {A : Type 0} (f : A → Bool) (xs : List A) → list_any f xs ≡ true → PassesAt f xs
list_any_find f [] p = absurd (false≢true p)
list_any_find f (x ∷ xs) p =
    elim (or_cases (f x) (list_any f xs) p) [
      | inl q ↦ record { at = zero; item = x; there = refl; passes = q }
      | inr q ↦ let u = list_any_find f xs q in record { at = suc u.at; item = u.item; there = u.there; passes = u.passes }
    ]

identity_sym : (a b : Identity) → same_identity a b ≡ same_identity b a
identity_sym a b =
    same_tests (same_identity a b) (same_identity b a)
    (λ p. identity_self b a (sym (identity_is a b p))) (λ p. identity_self a b (sym (identity_is b a p)))

marker_sym : (a b : Marker) → same_marker a b ≡ same_marker b a
marker_sym a b =
    same_tests (same_marker a b) (same_marker b a)
    (λ p. marker_self b a (sym (marker_is a b p))) (λ p. marker_self a b (sym (marker_is b a p)))

pub has_object-push : (xs : List Identity) (o q : Identity) → has_object (xs ++ o ∷ []) q ≡ (same_identity q o || has_object xs q)
has_object-push xs o q =
    list_any-push (λ x. same_identity x q) xs o
    ∙ (either_turns (has_object xs q) (same_identity o q) ∙ ap (λ b. b || has_object xs q) (identity_sym o q))

pub has_marker-push : (xs : List Marker) (m q : Marker) → has_marker (xs ++ m ∷ []) q ≡ (same_marker q m || has_marker xs q)
has_marker-push xs m q =
    list_any-push (λ x. same_marker x q) xs m
    ∙ (either_turns (has_marker xs q) (same_marker m q) ∙ ap (λ b. b || has_marker xs q) (marker_sym m q))

pub has_object-forget : (xs : List Identity) (o q : Identity)
    → has_object (filter (λ x. not (same_identity x o)) xs) q ≡ (not (same_identity q o) && has_object xs q)
has_object-forget xs o q =
    list_any-filter (λ x. same_identity x q) (λ x. not (same_identity x o)) (not (same_identity q o))
    (λ x p. ap (λ y. not (same_identity y o)) (identity_is x q p)) xs

pub has_marker-forget : (xs : List Marker) (m q : Marker)
    → has_marker (filter (λ x. not (same_marker x m)) xs) q ≡ (not (same_marker q m) && has_marker xs q)
has_marker-forget xs m q =
    list_any-filter (λ x. same_marker x q) (λ x. not (same_marker x m)) (not (same_marker q m))
    (λ x p. ap (λ y. not (same_marker y m)) (marker_is x q p)) xs

-- whose place it is
is_place_at : (s n : ℕ) (p : Place) → is_place s n p ≡ true → (p.store ≡ s) × (p.number ≡ n)
is_place_at s n p t =
    let u = and_parts (p.store == s) (p.number == n) t in
    (eqb-true p.store s u.0, eqb-true p.number n u.1)

written_same : (s n : ℕ) (o : Option Entry) (p : Place) → is_place s n p ≡ true
    → written s n o p ≡ record { store = p.store; number = p.number; entry = o }
written_same s n o p t = cond-true (is_place s n p) (record { store = p.store; number = p.number; entry = o }) p t

written_else : (s n : ℕ) (o : Option Entry) (p : Place) → is_place s n p ≡ false → written s n o p ≡ p
written_else s n o p t = cond-false (is_place s n p) (record { store = p.store; number = p.number; entry = o }) p t

written_key : (s n : ℕ) (o : Option Entry) (p : Place) → ((written s n o p).store ≡ p.store) × ((written s n o p).number ≡ p.number)
written_key s n o p =
    elim (cases_Bool (is_place s n p)) [
      | inl t ↦ (ap (λ (q : Place). q.store) (written_same s n o p t), ap (λ (q : Place). q.number) (written_same s n o p t))
      | inr t ↦ (ap (λ (q : Place). q.store) (written_else s n o p t), ap (λ (q : Place). q.number) (written_else s n o p t))
    ]

key_test : (t k : ℕ) (p q : Place) → p.store ≡ q.store → p.number ≡ q.number → is_place t k p ≡ is_place t k q
key_test t k p q a b = λ i. (a i == t) && (b i == k)

pub is_place-written : (s n : ℕ) (o : Option Entry) (t k : ℕ) (p : Place) → is_place t k (written s n o p) ≡ is_place t k p
is_place-written s n o t k p = let u = written_key s n o p in key_test t k (written s n o p) p u.0 u.1

pub places_of-written : (s n : ℕ) (o : Option Entry) (ps : List Place) → places_of (map (written s n o) ps) ≡ places_of ps
places_of-written s n o [] = refl
places_of-written s n o (p ∷ ps) =
    let u = written_key s n o p in λ i. (u.0 i, u.1 i) ∷ places_of-written s n o ps i

-- what stands at the place written
pub entry_in-written : (s n : ℕ) (o : Option Entry) (e : Entry) (ps : List Place) → entry_in ps s n ≡ Some e
    → entry_in (map (written s n o) ps) s n ≡ o
entry_in-written s n o e [] p = absurd (cc)
entry_in-written s n o e (x ∷ xs) p =
    let rest = entry_in (map (written s n o) xs) s n in
    elim (cases_Bool (is_place s n x)) [
      | inl t ↦
          cond-true (is_place s n (written s n o x)) (written s n o x).entry rest (is_place-written s n o s n x ∙ t)
          ∙ ap (λ (q : Place). q.entry) (written_same s n o x t)
      | inr t ↦
          cond-false (is_place s n (written s n o x)) (written s n o x).entry rest (is_place-written s n o s n x ∙ t)
          ∙ entry_in-written s n o e xs (sym (cond-false (is_place s n x) x.entry (entry_in xs s n) t) ∙ p)
    ]

-- what stands elsewhere is as before
pub entry_in-written_else : (s n : ℕ) (o : Option Entry) (t k : ℕ) → (t ≡ s → k ≡ n → ⊥) → (ps : List Place)
    → entry_in (map (written s n o) ps) t k ≡ entry_in ps t k
entry_in-written_else s n o t k apart [] = refl
entry_in-written_else s n o t k apart (x ∷ xs) =
    elim (cases_Bool (is_place s n x)) [
      | inl here ↦
          let a = is_place_at s n x here in
          let off : is_place t k x ≡ false =
          false_from_ne_true (is_place t k x) (λ y. let u = is_place_at t k x y in apart (sym u.0 ∙ a.0) (sym u.1 ∙ a.1)) in
          cond-false (is_place t k (written s n o x)) (written s n o x).entry (entry_in (map (written s n o) xs) t k)
          (is_place-written s n o t k x ∙ off)
          ∙ (entry_in-written_else s n o t k apart xs ∙ sym (cond-false (is_place t k x) x.entry (entry_in xs t k) off))
      | inr there ↦
          let same = written_else s n o x there in
          let rest = entry_in-written_else s n o t k apart xs in
          λ i. if is_place t k (same i) then (same i).entry else rest i
    ]

-- a new place behind the others
pub entry_in-push_new : (s n : ℕ) (o : Option Entry) (ps : List Place) → list_any (is_place s n) ps ≡ false
    → entry_in (ps ++ record { store = s; number = n; entry = o } ∷ []) s n ≡ o
entry_in-push_new s n o [] p =
    cond-true ((s == s) && (n == n)) o None (and_from _ _ (eq-eqb s s refl) (eq-eqb n n refl))
entry_in-push_new s n o (x ∷ xs) p =
    let off : is_place s n x ≡ false = false_from_ne_true (is_place s n x) (λ y. both_ways _ p (or_left _ _ y)) in
    let rest : list_any (is_place s n) xs ≡ false =
    false_from_ne_true (list_any (is_place s n) xs) (λ y. both_ways _ p (or_right _ _ y)) in
    cond-false (is_place s n x) x.entry _ off ∙ entry_in-push_new s n o xs rest

pub entry_in-push_else : (s n : ℕ) (o : Option Entry) (t k : ℕ) → (t ≡ s → k ≡ n → ⊥) → (ps : List Place)
    → entry_in (ps ++ record { store = s; number = n; entry = o } ∷ []) t k ≡ entry_in ps t k
entry_in-push_else s n o t k apart [] =
    cond-false ((s == t) && (n == k)) o None
    (false_from_ne_true ((s == t) && (n == k)) (λ y.
    let u = and_parts (s == t) (n == k) y in apart (sym (eqb-true s t u.0)) (sym (eqb-true n k u.1))))
entry_in-push_else s n o t k apart (x ∷ xs) =
    ap (λ rest. if is_place t k x then x.entry else rest) (entry_in-push_else s n o t k apart xs)

pub places_of-push : (ps : List Place) (p : Place) → places_of (ps ++ p ∷ []) ≡ places_of ps ++ (p.store, p.number) ∷ []
places_of-push [] p = refl
places_of-push (x ∷ xs) p = ap (λ ys. (x.store, x.number) ∷ ys) (places_of-push xs p)

-- the store's entries after a crash
abbrev pub is_kept : List ℕ → ℕ → Bool
is_kept kept n = list_any (λ q. q == n) kept

loosened_cases : (s : ℕ) (kept : List ℕ) (p : Place)
    → ((p.store ≡ s) × (is_kept kept p.number ≡ false)
    × (loosened s kept p ≡ record { store = p.store; number = p.number; entry = option_map (λ e. settled e Loose) p.entry }))
    ⊎ ((p.store ≡ s → is_kept kept p.number ≡ true) × (loosened s kept p ≡ p))
loosened_cases s kept p =
    let new : Place = record { store = p.store; number = p.number; entry = option_map (λ e. settled e Loose) p.entry } in
    elim (cases_eq p.store s) [
      | inl a ↦ elim (cases_Bool (is_kept kept p.number)) [
        | inl b ↦ inr (
          λ _. b,
          cond-false (p.store == s && not (is_kept kept p.number)) new p
              (and_right (p.store == s) (not (is_kept kept p.number)) (ap not b)),
        )
        | inr b ↦ inl (
          a,
          b,
          cond-true (p.store == s && not (is_kept kept p.number)) new p
              (and_from (p.store == s) (not (is_kept kept p.number)) (eq-eqb p.store s a) (ap not b)),
        )
      ]
      | inr a ↦ inr (
        λ y. absurd (a y),
        cond-false (p.store == s && not (is_kept kept p.number)) new p
            (and_left (p.store == s) (not (is_kept kept p.number)) (ne_eqb p.store s a)),
      )
    ]

loosened_key : (s : ℕ) (kept : List ℕ) (p : Place)
    → ((loosened s kept p).store ≡ p.store) × ((loosened s kept p).number ≡ p.number)
loosened_key s kept p =
    elim (loosened_cases s kept p) [
      | inl t ↦ (ap (λ (q : Place). q.store) t.2, ap (λ (q : Place). q.number) t.2)
      | inr t ↦ (ap (λ (q : Place). q.store) t.1, ap (λ (q : Place). q.number) t.1)
    ]

pub is_place-loosened : (s : ℕ) (kept : List ℕ) (t k : ℕ) (p : Place) → is_place t k (loosened s kept p) ≡ is_place t k p
is_place-loosened s kept t k p = let u = loosened_key s kept p in key_test t k (loosened s kept p) p u.0 u.1

pub places_of-loosened : (s : ℕ) (kept : List ℕ) (ps : List Place) → places_of (map (loosened s kept) ps) ≡ places_of ps
places_of-loosened s kept [] = refl
places_of-loosened s kept (p ∷ ps) =
    let u = loosened_key s kept p in λ i. (u.0 i, u.1 i) ∷ places_of-loosened s kept ps i

abbrev pub after_crash : List ℕ → ℕ → Option Entry → Option Entry
after_crash kept k o = if is_kept kept k then o else option_map (λ e. settled e Loose) o

loosened_entry : (s : ℕ) (kept : List ℕ) (p : Place) → p.store ≡ s → (loosened s kept p).entry ≡ after_crash kept p.number p.entry
loosened_entry s kept p here =
    elim (loosened_cases s kept p) [
      | inl t ↦ ap (λ (q : Place). q.entry) t.2
          ∙ sym (cond-false (is_kept kept p.number) p.entry (option_map (λ e. settled e Loose) p.entry) t.1)
      | inr t ↦ ap (λ (q : Place). q.entry) t.1
          ∙ sym (cond-true (is_kept kept p.number) p.entry (option_map (λ e. settled e Loose) p.entry) (t.0 here))
    ]

after_none : (kept : List ℕ) (k : ℕ) → None ≡ after_crash kept k None
after_none kept k =
    elim (cases_Bool (is_kept kept k)) [
      | inl t ↦ sym (cond-true (is_kept kept k) None None t)
      | inr t ↦ sym (cond-false (is_kept kept k) None None t)
    ]

pub entry_in-loosened : (s : ℕ) (kept : List ℕ) (k : ℕ) (ps : List Place)
    → entry_in (map (loosened s kept) ps) s k ≡ after_crash kept k (entry_in ps s k)
entry_in-loosened s kept k [] = after_none kept k
entry_in-loosened s kept k (x ∷ xs) =
    let rest = entry_in (map (loosened s kept) xs) s k in
    elim (cases_Bool (is_place s k x)) [
      | inl t ↦
          let a = is_place_at s k x t in
          cond-true (is_place s k (loosened s kept x)) (loosened s kept x).entry rest (is_place-loosened s kept s k x ∙ t)
          ∙ (loosened_entry s kept x a.0
          ∙ (ap (λ n. after_crash kept n x.entry) a.1
          ∙ ap (after_crash kept k) (sym (cond-true (is_place s k x) x.entry (entry_in xs s k) t))))
      | inr t ↦
          cond-false (is_place s k (loosened s kept x)) (loosened s kept x).entry rest (is_place-loosened s kept s k x ∙ t)
          ∙ (entry_in-loosened s kept k xs
          ∙ ap (after_crash kept k) (sym (cond-false (is_place s k x) x.entry (entry_in xs s k) t)))
    ]

pub entry_in-loosened_else : (s : ℕ) (kept : List ℕ) (t k : ℕ) → (t ≡ s → ⊥) → (ps : List Place)
    → entry_in (map (loosened s kept) ps) t k ≡ entry_in ps t k
entry_in-loosened_else s kept t k apart [] = refl
entry_in-loosened_else s kept t k apart (x ∷ xs) =
    let rest = entry_in-loosened_else s kept t k apart xs in
    elim (loosened_cases s kept x) [
      | inl a ↦
          let off : is_place t k x ≡ false =
          false_from_ne_true (is_place t k x) (λ y. let u = is_place_at t k x y in apart (sym u.0 ∙ a.0)) in
          cond-false (is_place t k (loosened s kept x)) (loosened s kept x).entry (entry_in (map (loosened s kept) xs) t k)
          (is_place-loosened s kept t k x ∙ off)
          ∙ (rest ∙ sym (cond-false (is_place t k x) x.entry (entry_in xs t k) off))
      | inr a ↦ λ i. if is_place t k (a.1 i) then (a.1 i).entry else rest i
    ]

-- opening numbers
reopened_store : (s v : ℕ) (o : Opening) → (reopened s v o).store ≡ o.store
reopened_store s v o =
    elim (cases_Bool (o.store == s)) [
      | inl t ↦ ap (λ (q : Opening). q.store) (cond-true (o.store == s) (record { store = o.store; opening = v }) o t)
      | inr t ↦ ap (λ (q : Opening). q.store) (cond-false (o.store == s) (record { store = o.store; opening = v }) o t)
    ]

opening_in-reopened_here : (s v : ℕ) (os : List Opening) → list_any (λ o. o.store == s) os ≡ true
    → opening_in (map (reopened s v) os) s ≡ v
opening_in-reopened_here s v [] p = absurd (false≢true p)
opening_in-reopened_here s v (o ∷ os) p =
    let rest = opening_in (map (reopened s v) os) s in
    elim (cases_Bool (o.store == s)) [
      | inl t ↦
          cond-true ((reopened s v o).store == s) (reopened s v o).opening rest (ap (λ x. x == s) (reopened_store s v o) ∙ t)
          ∙ ap (λ (q : Opening). q.opening) (cond-true (o.store == s) (record { store = o.store; opening = v }) o t)
      | inr t ↦
          cond-false ((reopened s v o).store == s) (reopened s v o).opening rest (ap (λ x. x == s) (reopened_store s v o) ∙ t)
          ∙ opening_in-reopened_here s v os
          (elim (or_cases (o.store == s) (list_any (λ x. x.store == s) os) p) [
            | inl y ↦ absurd (both_ways (o.store == s) t y)
            | inr y ↦ y
          ])
    ]

opening_in-reopened_else : (s v t : ℕ) → (t ≡ s → ⊥) → (os : List Opening) → opening_in (map (reopened s v) os) t ≡ opening_in os t
opening_in-reopened_else s v t apart [] = refl
opening_in-reopened_else s v t apart (o ∷ os) =
    let rest = opening_in-reopened_else s v t apart os in
    elim (cases_Bool (o.store == s)) [
      | inl here ↦
          let off : (o.store == t) ≡ false = ne_eqb o.store t (λ y. apart (sym y ∙ eqb-true o.store s here)) in
          cond-false ((reopened s v o).store == t) (reopened s v o).opening (opening_in (map (reopened s v) os) t)
          (ap (λ x. x == t) (reopened_store s v o) ∙ off)
          ∙ (rest ∙ sym (cond-false (o.store == t) o.opening (opening_in os t) off))
      | inr there ↦
          let same = cond-false (o.store == s) (record { store = o.store; opening = v }) o there in
          λ i. if (same i).store == t then (same i).opening else rest i
    ]

pub opening_in-reopened : (s v : ℕ) (os : List Opening) → list_any (λ o. o.store == s) os ≡ true → (t : ℕ)
    → opening_in (map (reopened s v) os) t ≡ (if t == s then v else opening_in os t)
opening_in-reopened s v os p t =
    elim (cases_eq t s) [
      | inl q ↦ ap (λ x. opening_in (map (reopened s v) os) x) q
          ∙ (opening_in-reopened_here s v os p ∙ sym (cond-true (t == s) v (opening_in os t) (eq-eqb t s q)))
      | inr q ↦ opening_in-reopened_else s v t q os ∙ sym (cond-false (t == s) v (opening_in os t) (ne_eqb t s q))
    ]

opening_in-push_here : (s v : ℕ) (os : List Opening) → list_any (λ o. o.store == s) os ≡ false
    → opening_in (os ++ record { store = s; opening = v } ∷ []) s ≡ v
opening_in-push_here s v [] p = cond-true (s == s) v 0 (eq-eqb s s refl)
opening_in-push_here s v (o ∷ os) p =
    let off : (o.store == s) ≡ false = false_from_ne_true (o.store == s) (λ y. both_ways _ p (or_left _ _ y)) in
    let rest : list_any (λ x. x.store == s) os ≡ false =
    false_from_ne_true (list_any (λ x. x.store == s) os) (λ y. both_ways _ p (or_right _ _ y)) in
    cond-false (o.store == s) o.opening _ off ∙ opening_in-push_here s v os rest

opening_in-push_else : (s v t : ℕ) → (t ≡ s → ⊥) → (os : List Opening)
    → opening_in (os ++ record { store = s; opening = v } ∷ []) t ≡ opening_in os t
opening_in-push_else s v t apart [] = cond-false (s == t) v 0 (ne_eqb s t (λ y. apart (sym y)))
opening_in-push_else s v t apart (o ∷ os) =
    ap (λ rest. if o.store == t then o.opening else rest) (opening_in-push_else s v t apart os)

pub opening_in-push : (s v : ℕ) (os : List Opening) → list_any (λ o. o.store == s) os ≡ false → (t : ℕ)
    → opening_in (os ++ record { store = s; opening = v } ∷ []) t ≡ (if t == s then v else opening_in os t)
opening_in-push s v os p t =
    elim (cases_eq t s) [
      | inl q ↦ ap (λ x. opening_in (os ++ record { store = s; opening = v } ∷ []) x) q
          ∙ (opening_in-push_here s v os p ∙ sym (cond-true (t == s) v (opening_in os t) (eq-eqb t s q)))
      | inr q ↦ opening_in-push_else s v t q os ∙ sym (cond-false (t == s) v (opening_in os t) (ne_eqb t s q))
    ]
