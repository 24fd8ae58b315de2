-- The world that changed lists stand for.
use Rattle.std.proofs.Common.{◌≡◌, ℕ, ◌+◌, Bool, true, false, inl, inr, Option, Some, None, List, [], ◌∷◌, ◌++◌, map, refl, sym, ap, ◌∙◌}
use Rattle.std.specs.Prelude.{◌||◌, ◌&&◌, ◌==◌, if◌then◌else◌}
use Rattle.std.specs.List.{list_any}
use Rattle.std.proofs.lemmas.Bool.{cases_eq, cond-true, cond-false, eq-eqb, ne_eqb, or_parts}
use Rattle.pb_names.specs.Identity.{Identity}
use Rattle.pb_marker_world.specs.declared.records.Place.{Place}
use Rattle.pb_marker_world.specs.declared.records.Spent.{Spent}
use Rattle.pb_marker_world.specs.declared.records.Opening.{Opening}
use Rattle.pb_marker_world.specs.Machine.{Marker, Entry, Part, Names, Lending, Local, local_of, with_local}
use Rattle.pb_marker_world.specs.Steps.{with_part, with_entry, with_used, with_lendings, moved, crashed}
use Rattle.pb_marker_world.specs.Book.{Book, is_place, is_spent_as, is_used_in, entry_in, opening_in, part_of, has_object, has_marker, world_of, written, loosened}
use Rattle.pb_marker_world.proofs.Worlds.{names_path}
use Rattle.pb_marker_world.proofs.Lists.{list_any-push, list_any-map, is_place-written, is_place-loosened, entry_in-written, entry_in-written_else, entry_in-push_new, entry_in-push_else, entry_in-loosened, entry_in-loosened_else}

part_path : (p q : Part) → p.opening ≡ q.opening → ((k : ℕ) → p.used k ≡ q.used k) → ((k : ℕ) → p.entries k ≡ q.entries k) → p ≡ q
part_path p q a b c = λ i. record { opening = a i; used = λ k. b k i; entries = λ k. c k i }

-- a world with one part changed
pub world_is : (b c : Book) (s : ℕ) (l : Local) → part_of c s ≡ l.part → ((t : ℕ) → (t ≡ s → ⊥) → part_of c t ≡ part_of b t)
    → (world_of c).names ≡ l.names → c.given ≡ l.lendings → world_of c ≡ with_local (world_of b) s l
world_is b c s l here there names given =
    let parts : (t : ℕ) → part_of c t ≡ (if t == s then l.part else part_of b t) =
    λ t. elim (cases_eq t s) [
      | inl q ↦ ap (part_of c) q ∙ (here ∙ sym (cond-true (t == s) l.part (part_of b t) (eq-eqb t s q)))
      | inr q ↦ there t q ∙ sym (cond-false (t == s) l.part (part_of b t) (ne_eqb t s q))
    ] in
    λ i. record { parts = λ t. parts t i; names = names i; lendings = given i }

used-written : (ps : List Place) (spent : List Spent) (s n : ℕ) (o : Option Entry) (t k : ℕ)
    → is_used_in (map (written s n o) ps) spent t k ≡ is_used_in ps spent t k
used-written ps spent s n o t k =
    ap (λ b. list_any (is_spent_as t k) spent || b)
    (list_any-map (is_place t k) (written s n o) (λ p. is_place-written s n o t k p) ps)

-- the lists with the entry under n of s written
abbrev pub book_written : Book → ℕ → ℕ → Option Entry → List Identity → List Marker → Book
book_written b s n o objects markers =
    record {
      places = map (written s n o) b.places;
      spent = b.spent;
      openings = b.openings;
      objects = objects;
      markers = markers;
      given = b.given;
    }

pub part-written : (b : Book) (s n : ℕ) (o : Option Entry) (objects : List Identity) (markers : List Marker) (e : Entry)
    → entry_in b.places s n ≡ Some e
    → (part_of (book_written b s n o objects markers) s ≡ with_entry (part_of b s) n o)
    × ((t : ℕ) → (t ≡ s → ⊥) → part_of (book_written b s n o objects markers) t ≡ part_of b t)
part-written b s n o objects markers e p =
    let c = book_written b s n o objects markers in (
      part_path (part_of c s) (with_entry (part_of b s) n o) refl (λ k. used-written b.places b.spent s n o s k)
          (λ k. elim (cases_eq k n) [
            | inl q ↦ ap (λ x. entry_in (map (written s n o) b.places) s x) q
                ∙ (entry_in-written s n o e b.places p ∙ sym (cond-true (k == n) o (entry_in b.places s k) (eq-eqb k n q)))
            | inr q ↦ entry_in-written_else s n o s k (λ _ y. q y) b.places
                ∙ sym (cond-false (k == n) o (entry_in b.places s k) (ne_eqb k n q))
          ]),
      λ t apart. part_path (part_of c t) (part_of b t) refl (λ k. used-written b.places b.spent s n o t k)
          (λ k. entry_in-written_else s n o t k (λ y _. apart y) b.places),
    )

-- an entry goes on, with these names
pub world-written : (b : Book) (s n : ℕ) (e f : Entry) (objects : List Identity) (markers : List Marker) (names : Names)
    → entry_in b.places s n ≡ Some e
    → ((o : Identity) → has_object objects o ≡ names.objects o) → ((m : Marker) → has_marker markers m ≡ names.markers m)
    → world_of (book_written b s n (Some f) objects markers)
    ≡ with_local (world_of b) s (moved (local_of (world_of b) s) n f names)
world-written b s n e f objects markers names p os ms =
    let c = book_written b s n (Some f) objects markers in
    let u = part-written b s n (Some f) objects markers e p in
    world_is b c s (moved (local_of (world_of b) s) n f names) u.0 u.1 (names_path (world_of c).names names os ms) refl

-- an entry goes
pub world-dropped : (b : Book) (s n : ℕ) (e : Entry) → entry_in b.places s n ≡ Some e
    → world_of (book_written b s n None b.objects b.markers)
    ≡ with_local (world_of b) s (with_part (local_of (world_of b) s) (with_entry (part_of b s) n None))
world-dropped b s n e p =
    let c = book_written b s n None b.objects b.markers in
    let u = part-written b s n None b.objects b.markers e p in
    world_is b c s (with_part (local_of (world_of b) s) (with_entry (part_of b s) n None)) u.0 u.1 refl refl

abbrev pub book_spent : Book → ℕ → ℕ → Book
book_spent b s n =
    record {
      places = b.places;
      spent = b.spent ++ record { store = s; number = n } ∷ [];
      openings = b.openings;
      objects = b.objects;
      markers = b.markers;
      given = b.given;
    }

or_front : (a b c : Bool) → ((a || b) || c) ≡ (b || (a || c))
or_front true true c = refl
or_front true false c = refl
or_front false true c = refl
or_front false false c = refl

-- a test of two numbers against two
key_here : (s n k : ℕ) → ((s == s) && (n == k)) ≡ (k == n)
key_here s n k =
    elim (cases_eq k n) [
      | inl q ↦ (λ i. eq-eqb s s refl i && eq-eqb n k (sym q) i) ∙ sym (eq-eqb k n q)
      | inr q ↦ (λ i. eq-eqb s s refl i && ne_eqb n k (λ y. q (sym y)) i) ∙ sym (ne_eqb k n q)
    ]

key_there : (s n t k : ℕ) → (t ≡ s → ⊥) → ((s == t) && (n == k)) ≡ false
key_there s n t k apart = ap (λ b. b && (n == k)) (ne_eqb s t (λ y. apart (sym y)))

pub world-spent : (b : Book) (s n : ℕ)
    → world_of (book_spent b s n) ≡ with_local (world_of b) s (with_part (local_of (world_of b) s) (with_used (part_of b s) n))
world-spent b s n =
    let c = book_spent b s n in
    let spent : (t k : ℕ) → is_used_in c.places c.spent t k ≡ (((s == t) && (n == k)) || is_used_in b.places b.spent t k) =
    λ t k. ap (λ x. x || list_any (is_place t k) b.places)
    (list_any-push (is_spent_as t k) b.spent (record { store = s; number = n }))
    ∙ or_front (list_any (is_spent_as t k) b.spent) ((s == t) && (n == k)) (list_any (is_place t k) b.places) in
    world_is b c s (with_part (local_of (world_of b) s) (with_used (part_of b s) n))
    (part_path (part_of c s) (with_used (part_of b s) n) refl
    (λ k. spent s k ∙ ap (λ x. x || is_used_in b.places b.spent s k) (key_here s n k))
    (λ k. refl))
    (λ t apart. part_path (part_of c t) (part_of b t) refl
    (λ k. spent t k ∙ ap (λ x. x || is_used_in b.places b.spent t k) (key_there s n t k apart))
    (λ k. refl))
    refl refl

abbrev pub book_entered : Book → ℕ → ℕ → Entry → Book
book_entered b s n e =
    record {
      places = b.places ++ record { store = s; number = n; entry = Some e } ∷ [];
      spent = b.spent;
      openings = b.openings;
      objects = b.objects;
      markers = b.markers;
      given = b.given;
    }

or_last : (a b c : Bool) → (a || (b || c)) ≡ (c || (a || b))
or_last true true true = refl
or_last true true false = refl
or_last true false true = refl
or_last true false false = refl
or_last false true true = refl
or_last false true false = refl
or_last false false true = refl
or_last false false false = refl

pub world-entered : (b : Book) (s n : ℕ) (e : Entry) → is_used_in b.places b.spent s n ≡ false
    → world_of (book_entered b s n e)
    ≡ with_local (world_of b) s (with_part (local_of (world_of b) s) (with_entry (with_used (part_of b s) n) n (Some e)))
world-entered b s n e unused =
    let c = book_entered b s n e in
    let new : Place = record { store = s; number = n; entry = Some e } in
    let used : (t k : ℕ) → is_used_in c.places c.spent t k ≡ (((s == t) && (n == k)) || is_used_in b.places b.spent t k) =
    λ t k. ap (λ x. list_any (is_spent_as t k) b.spent || x) (list_any-push (is_place t k) b.places new)
    ∙ or_last (list_any (is_spent_as t k) b.spent) (list_any (is_place t k) b.places) ((s == t) && (n == k)) in
    let none = (or_parts (list_any (is_spent_as s n) b.spent) (list_any (is_place s n) b.places) unused).1 in
    world_is b c s (with_part (local_of (world_of b) s) (with_entry (with_used (part_of b s) n) n (Some e)))
    (part_path (part_of c s) (with_entry (with_used (part_of b s) n) n (Some e)) refl
    (λ k. used s k ∙ ap (λ x. x || is_used_in b.places b.spent s k) (key_here s n k))
    (λ k. elim (cases_eq k n) [
      | inl q ↦ ap (λ x. entry_in c.places s x) q
          ∙ (entry_in-push_new s n (Some e) b.places none
          ∙ sym (cond-true (k == n) (Some e) (entry_in b.places s k) (eq-eqb k n q)))
      | inr q ↦ entry_in-push_else s n (Some e) s k (λ _ y. q y) b.places
          ∙ sym (cond-false (k == n) (Some e) (entry_in b.places s k) (ne_eqb k n q))
    ]))
    (λ t apart. part_path (part_of c t) (part_of b t) refl
    (λ k. used t k ∙ ap (λ x. x || is_used_in b.places b.spent t k) (key_there s n t k apart))
    (λ k. entry_in-push_else s n (Some e) t k (λ y _. apart y) b.places))
    refl refl

abbrev pub book_lending : Book → List Lending → Book
book_lending b given =
    record {
      places = b.places;
      spent = b.spent;
      openings = b.openings;
      objects = b.objects;
      markers = b.markers;
      given = given;
    }

pub world-lending : (b : Book) (s : ℕ) (given : List Lending)
    → world_of (book_lending b given) ≡ with_local (world_of b) s (with_lendings (local_of (world_of b) s) given)
world-lending b s given =
    world_is b (book_lending b given) s (with_lendings (local_of (world_of b) s) given) refl (λ t _. refl) refl refl

abbrev pub book_crashed : Book → ℕ → List ℕ → List Opening → Book
book_crashed b s kept openings =
    record {
      places = map (loosened s kept) b.places;
      spent = b.spent;
      openings = openings;
      objects = b.objects;
      markers = b.markers;
      given = b.given;
    }

pub world-crashed : (b : Book) (s : ℕ) (kept : List ℕ) (openings : List Opening)
    → ((t : ℕ) → opening_in openings t ≡ (if t == s then opening_in b.openings s + 1 else opening_in b.openings t))
    → world_of (book_crashed b s kept openings)
    ≡ with_local (world_of b) s (with_part (local_of (world_of b) s) (crashed (part_of b s) kept))
world-crashed b s kept openings h =
    let c = book_crashed b s kept openings in
    let used : (t k : ℕ) → is_used_in c.places c.spent t k ≡ is_used_in b.places b.spent t k =
    λ t k. ap (λ x. list_any (is_spent_as t k) b.spent || x)
    (list_any-map (is_place t k) (loosened s kept) (λ p. is_place-loosened s kept t k p) b.places) in
    world_is b c s (with_part (local_of (world_of b) s) (crashed (part_of b s) kept))
    (part_path (part_of c s) (crashed (part_of b s) kept)
    (h s ∙ cond-true (s == s) (opening_in b.openings s + 1) (opening_in b.openings s) (eq-eqb s s refl))
    (λ k. used s k)
    (λ k. entry_in-loosened s kept k b.places))
    (λ t apart. part_path (part_of c t) (part_of b t)
    (h t ∙ cond-false (t == s) (opening_in b.openings s + 1) (opening_in b.openings t) (ne_eqb t s apart))
    (λ k. used t k)
    (λ k. entry_in-loosened_else s kept t k apart b.places))
    refl refl
