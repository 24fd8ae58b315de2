-- The events of a whole store on the lists: that each has happened, and that it may not.
use Rattle.std.proofs.Common.{◌≡◌, ℕ, ◌+◌, true, false, inl, inr, Option, Some, None, List, [], ◌∷◌, ◌++◌, length, refl, sym, ap, ◌∙◌}
use Rattle.std.specs.Prelude.{slice_get, ◌==◌, if◌then◌else◌}
use Rattle.std.specs.List.{list_all, filter_map}
use Rattle.std.specs.Option.{option_map, option_and_then}
use Rattle.std.proofs.lemmas.Bool.{both_ways, cases_Bool, cond-true, cond-false}
use Rattle.std.proofs.lemmas.Option.{same_Some}
use Rattle.pb_names.specs.Identity.{Identity}
use Rattle.pb_marker_world.specs.declared.stages.Stage.TheVariants.{Intended}
use Rattle.pb_marker_world.specs.declared.events.Event.TheVariants.{Spend, Intend, Lend, DropHandle, Crash}
use Rattle.pb_marker_world.specs.declared.events.Lender.{Lender}
use Rattle.pb_marker_world.specs.declared.events.Outcome.TheVariants.{Done, Entry as NewEntry, Handle}
use Rattle.pb_marker_world.specs.declared.records.Opening.{Opening}
use Rattle.pb_marker_world.specs.Machine.{Marker, Entry, Lending, local_of, identity}
use Rattle.pb_marker_world.specs.Steps.{Step, IsOffered, is_held, marker_at, with_part, with_entry, with_used, with_lendings, crashed}
use Rattle.pb_marker_world.specs.Steps.Step.{Spends, Intends, Lends, DropsHandle, Crashes}
use Rattle.pb_marker_world.specs.Book.{Book, is_used_in, opening_in, part_of, world_of}
use Rattle.pb_marker_world.specs.Events.{step_over, is_of, number_at, lent_in, places_of, HasRoom, MayHappen, IsDone}
use Rattle.pb_marker_world.specs.Found.{IsClosed}
use Rattle.pb_marker_world.proofs.Lists.{places_of-push, places_of-loosened, append-none}
use Rattle.pb_marker_world.proofs.Books.{book_spent, book_entered, book_lending, book_crashed, world-spent, world-entered, world-lending, world-crashed}
use Rattle.pb_marker_world.proofs.Asked.{at_asked}

pub spend_done : (b : Book) (s n : ℕ) → is_used_in b.places b.spent s n ≡ false → IsDone b (Spend s n) Done (book_spent b s n)
spend_done b s n unused =
    record {
      store = s;
      step = Spends n;
      asked = refl;
      went = record {
        after = with_part (local_of (world_of b) s) (with_used (part_of b s) n);
        happens = record { unused = unused; left = refl };
        left = world-spent b s n;
      };
      room = tt;
      answered = refl;
      same_places = append-none (places_of b.places);
    }

pub spend_refused : (b : Book) (s n : ℕ) → is_used_in b.places b.spent s n ≡ true → MayHappen b (Spend s n) → ⊥
spend_refused b s n used m =
    both_ways (is_used_in b.places b.spent s n) (at_asked b s (Spends n) m.store m.step m.after m.asked m.happens).unused used

pub intend_own_done : (b : Book) (s n : ℕ) (o : Identity) → is_used_in b.places b.spent s n ≡ false → o ≡ identity s n
    → IsDone b (Intend s n o None) (NewEntry (length b.places))
    (book_entered b s n (record { object = o; lender = None; stage = Intended }))
intend_own_done b s n o unused own =
    let e : Entry = record { object = o; lender = None; stage = Intended } in
    record {
      store = s;
      step = Intends n o None;
      asked = refl;
      went = record {
        after = with_part (local_of (world_of b) s) (with_entry (with_used (part_of b s) n) n (Some e));
        happens = record { unused = unused; may = own; left = refl };
        left = world-entered b s n e unused;
      };
      room = tt;
      answered = refl;
      same_places = places_of-push b.places (record { store = s; number = n; entry = Some e });
    }

pub intend_own_used : (b : Book) (s n : ℕ) (o : Identity) → is_used_in b.places b.spent s n ≡ true
    → MayHappen b (Intend s n o None) → ⊥
intend_own_used b s n o used m =
    both_ways (is_used_in b.places b.spent s n) (at_asked b s (Intends n o None) m.store m.step m.after m.asked m.happens).unused used

pub intend_own_refused : (b : Book) (s n : ℕ) (o : Identity) → (o ≡ identity s n → ⊥) → MayHappen b (Intend s n o None) → ⊥
intend_own_refused b s n o other m = other (at_asked b s (Intends n o None) m.store m.step m.after m.asked m.happens).may

-- a marker that a handle lends is offered
offered_if : (given : List Lending) (l : Lender) (m : Marker) → lent_in given l ≡ Some m → IsOffered given m
offered_if given l m q = go (slice_get given l.handle) refl q
  where
    go : (o : Option Lending) → slice_get given l.handle ≡ o → option_and_then (λ (g : Lending). slice_get g.markers l.place) o ≡ Some m
        → IsOffered given m
    go None e h = absurd (cc)
    go (Some g) e h = record { handle = l.handle; given = g; place = l.place; there = e; lends = h }

pub intend_lent_done : (b : Book) (s n : ℕ) (o : Identity) (l : Lender) (x : Marker) → is_used_in b.places b.spent s n ≡ false
    → lent_in b.given l ≡ Some x → x.object ≡ o
    → IsDone b (Intend s n o (Some l)) (NewEntry (length b.places))
    (book_entered b s n (record { object = o; lender = Some x; stage = Intended }))
intend_lent_done b s n o l x unused lent same =
    let e : Entry = record { object = o; lender = Some x; stage = Intended } in
    record {
      store = s;
      step = Intends n o (Some x);
      asked = ap (λ y. option_map {U = ℕ × Step} (λ (m : Marker). (s, Intends n o (Some m))) y) lent;
      went = record {
        after = with_part (local_of (world_of b) s) (with_entry (with_used (part_of b s) n) n (Some e));
        happens = record { unused = unused; may = record { offered = offered_if b.given l x lent; same = same }; left = refl };
        left = world-entered b s n e unused;
      };
      room = tt;
      answered = refl;
      same_places = places_of-push b.places (record { store = s; number = n; entry = Some e });
    }

-- the lent marker that an event asks for
record AskedLent (b : Book) (s n : ℕ) (o : Identity) (l : Lender) : Type 0 where
  marker : Marker
  lent : lent_in b.given l ≡ Some marker
  unused : is_used_in b.places b.spent s n ≡ false
  same : marker.object ≡ o

asked_lent : (b : Book) (s n : ℕ) (o : Identity) (l : Lender) → MayHappen b (Intend s n o (Some l)) → AskedLent b s n o l
asked_lent b s n o l m = go (lent_in b.given l) refl m.asked
  where
    go : (y : Option Marker) → lent_in b.given l ≡ y
        → option_map {U = ℕ × Step} (λ (x : Marker). (s, Intends n o (Some x))) y ≡ Some (m.store, m.step) → AskedLent b s n o l
    go None e h = absurd (cc)
    go (Some x) e h =
        let u = at_asked b s (Intends n o (Some x)) m.store m.step m.after h m.happens in
        record { marker = x; lent = e; unused = u.unused; same = u.may.same }

pub intend_lent_used : (b : Book) (s n : ℕ) (o : Identity) (l : Lender) → is_used_in b.places b.spent s n ≡ true
    → MayHappen b (Intend s n o (Some l)) → ⊥
intend_lent_used b s n o l used m = both_ways (is_used_in b.places b.spent s n) (asked_lent b s n o l m).unused used

pub intend_lent_none : (b : Book) (s n : ℕ) (o : Identity) (l : Lender) → lent_in b.given l ≡ None
    → MayHappen b (Intend s n o (Some l)) → ⊥
intend_lent_none b s n o l none m =
    let u = asked_lent b s n o l m in
    let clash : None ≡ Some u.marker = sym none ∙ u.lent in absurd (cc)

pub intend_lent_refused : (b : Book) (s n : ℕ) (o : Identity) (l : Lender) (x : Marker) → lent_in b.given l ≡ Some x
    → (x.object ≡ o → ⊥) → MayHappen b (Intend s n o (Some l)) → ⊥
intend_lent_refused b s n o l x lent other m =
    let u = asked_lent b s n o l m in
    other (ap (λ (y : Marker). y.object) (same_Some x u.marker (sym lent ∙ u.lent)) ∙ u.same)

pub lend_done : (b : Book) (s : ℕ) (at : List ℕ) (markers : List Marker)
    → list_all (is_of b.places s) at ≡ true
    → list_all (is_held (part_of b s)) (filter_map (number_at b.places) at) ≡ true
    → markers ≡ filter_map (marker_at s (part_of b s)) (filter_map (number_at b.places) at)
    → IsDone b (Lend s at) (Handle (length b.given))
    (book_lending b (b.given ++ record { store = s; opening = opening_in b.openings s; markers = markers; is_open = true } ∷ []))
lend_done b s at markers own held q =
    let numbers = filter_map (number_at b.places) at in
    let handle : Lending = record { store = s; opening = opening_in b.openings s; markers = markers; is_open = true } in
    record {
      store = s;
      step = Lends numbers;
      asked = cond-true (list_all (is_of b.places s) at) (Some (s, Lends numbers)) None own;
      went = record {
        after = with_lendings (local_of (world_of b) s) (b.given ++ handle ∷ []);
        happens = record {
          held = held;
          left = ap (λ x. with_lendings (local_of (world_of b) s)
              (b.given ++ record { store = s; opening = opening_in b.openings s; markers = x; is_open = true } ∷ [])) q;
        };
        left = world-lending b s (b.given ++ handle ∷ []);
      };
      room = tt;
      answered = refl;
      same_places = append-none (places_of b.places);
    }

-- what an event over places asks for
record AskedOver (b : Book) (s : ℕ) (at : List ℕ) (k : List ℕ → Step) (store : ℕ) (step : Step) : Type 0 where
  own : list_all (is_of b.places s) at ≡ true
  asked : ◌≡◌ {A = Option (ℕ × Step)} (Some (s, k (filter_map (number_at b.places) at))) (Some (store, step))

asked_over : (b : Book) (s : ℕ) (at : List ℕ) (k : List ℕ → Step) (store : ℕ) (step : Step) → step_over b s at k ≡ Some (store, step)
    → AskedOver b s at k store step
asked_over b s at k store step q =
    let numbers = filter_map (number_at b.places) at in
    elim (cases_Bool (list_all (is_of b.places s) at)) [
      | inl y ↦ record { own = y; asked = sym (cond-true (list_all (is_of b.places s) at) (Some (s, k numbers)) None y) ∙ q }
      | inr y ↦
          let clash : ◌≡◌ {A = Option (ℕ × Step)} None (Some (store, step)) = sym (cond-false (list_all (is_of b.places s) at) (Some (s, k numbers)) None y) ∙ q in
          absurd (cc)
    ]

pub lend_others : (b : Book) (s : ℕ) (at : List ℕ) → list_all (is_of b.places s) at ≡ false → MayHappen b (Lend s at) → ⊥
lend_others b s at other m =
    both_ways (list_all (is_of b.places s) at) other (asked_over b s at Lends m.store m.step m.asked).own

pub lend_refused : (b : Book) (s : ℕ) (at : List ℕ)
    → list_all (is_held (part_of b s)) (filter_map (number_at b.places) at) ≡ false → MayHappen b (Lend s at) → ⊥
lend_refused b s at lacks m =
    let numbers = filter_map (number_at b.places) at in
    let u = at_asked b s (Lends numbers) m.store m.step m.after (asked_over b s at Lends m.store m.step m.asked).asked m.happens in
    both_ways (list_all (is_held (part_of b s)) numbers) lacks u.held

pub drop_handle_done : (b : Book) (h : ℕ) (given : List Lending) → IsClosed b.given h true given
    → IsDone b (DropHandle h) Done (book_lending b given)
drop_handle_done b h given c =
    record {
      store = c.given.store;
      step = DropsHandle h;
      asked = ap (λ o. option_map {U = ℕ × Step} (λ (g : Lending). (g.store, DropsHandle h)) o) c.there;
      went = record {
        after = with_lendings (local_of (world_of b) c.given.store) given;
        happens = record {
          given = c.given;
          there = c.there;
          was_open = c.was_open;
          left = ap (with_lendings (local_of (world_of b) c.given.store)) c.left;
        };
        left = world-lending b c.given.store given;
      };
      room = tt;
      answered = refl;
      same_places = append-none (places_of b.places);
    }

pub drop_handle_refused : (b : Book) (h : ℕ) (given : List Lending) → IsClosed b.given h false given
    → MayHappen b (DropHandle h) → ⊥
drop_handle_refused b h given c m = go (slice_get b.given h) refl m.asked
  where
    go : (o : Option Lending) → slice_get b.given h ≡ o
        → option_map {U = ℕ × Step} (λ (g : Lending). (g.store, DropsHandle h)) o ≡ Some (m.store, m.step) → ⊥
    go None e q = absurd (cc)
    go (Some g) e q =
        let u = at_asked b g.store (DropsHandle h) m.store m.step m.after q m.happens in
        both_ways u.given.is_open (c.shut u.given u.there) u.was_open

pub crash_done : (b : Book) (s : ℕ) (at : List ℕ) (openings : List Opening)
    → list_all (is_of b.places s) at ≡ true
    → list_all (is_held (part_of b s)) (filter_map (number_at b.places) at) ≡ true
    → HasRoom b (Crash s at)
    → ((t : ℕ) → opening_in openings t ≡ (if t == s then opening_in b.openings s + 1 else opening_in b.openings t))
    → IsDone b (Crash s at) Done (book_crashed b s (filter_map (number_at b.places) at) openings)
crash_done b s at openings own held room h =
    let numbers = filter_map (number_at b.places) at in
    record {
      store = s;
      step = Crashes numbers;
      asked = cond-true (list_all (is_of b.places s) at) (Some (s, Crashes numbers)) None own;
      went = record {
        after = with_part (local_of (world_of b) s) (crashed (part_of b s) numbers);
        happens = record { held = held; left = refl };
        left = world-crashed b s numbers openings h;
      };
      room = room;
      answered = refl;
      same_places = places_of-loosened s numbers b.places ∙ append-none (places_of b.places);
    }

pub crash_others : (b : Book) (s : ℕ) (at : List ℕ) → list_all (is_of b.places s) at ≡ false → MayHappen b (Crash s at) → ⊥
crash_others b s at other m =
    both_ways (list_all (is_of b.places s) at) other (asked_over b s at Crashes m.store m.step m.asked).own

pub crash_refused : (b : Book) (s : ℕ) (at : List ℕ)
    → list_all (is_held (part_of b s)) (filter_map (number_at b.places) at) ≡ false → MayHappen b (Crash s at) → ⊥
crash_refused b s at lacks m =
    let numbers = filter_map (number_at b.places) at in
    let u = at_asked b s (Crashes numbers) m.store m.step m.after (asked_over b s at Crashes m.store m.step m.asked).asked m.happens in
    both_ways (list_all (is_held (part_of b s)) numbers) lacks u.held
