-- Each entry that may stand spells a row that goes on behind the one before, and each such row is spelled by one that may stand.
use Rattle.std.proofs.Common.{◌≡◌, inl, inr, ℕ, suc, ◌+◌, ◌-◌, ◌%◌, ◌<◌, ◌≤◌, ltb, true, List, [], ◌∷◌, ◌++◌, length, take, drop, Option}
use Rattle.std.proofs.Common.{Some, None, refl, sym, ap, ◌∙◌, length-append, arith, eq-eqb}
use Rattle.std.specs.Prelude.{IfSome, nat_eq, ◌==◌, ◌&&◌, if◌then◌else◌}
use Rattle.std.specs.List.{common_prefix_len}
use Rattle.std.specs.Ordering.{is_lt}
use Rattle.std.specs.Cmp.Lexicographic.{pointwise}
use Rattle.std.specs.declared.cmp.Ordering.TheVariants.{Less}
use Rattle.std.proofs.lemmas.Bool.{lt-ltb, ltb-true, eqb-true, and_parts, and_from, cases_Bool}
use Rattle.std.proofs.lemmas.List.{take_at, drop_at, length-take-le, length-drop, take-append-drop}
use Rattle.std.proofs.lemmas.List.Sums.{common_prefix_len-le}
use Rattle.std.proofs.lemmas.Option.{cond_some}
use Rattle.std.proofs.lemmas.Slice.Eq.{bytes_eq-Decides}
use Rattle.pb_bytes.specs.BigEndian.{be32}
use Rattle.pb_bytes.proofs.Steps.{bind_some}
use Rattle.pb_keys.specs.Key.{is_key, key_cmp}
use Rattle.pb_keys.specs.Value.{IsValue}
use Rattle.pb_keys.proofs.Forms.{key_says, key_tests, value_is}
use Rattle.pb_keys.proofs.OrderFacts.{less}
use Rattle.pb_block.specs.Blocks.{BlockRow, shared_at, entry_spelling}
use Rattle.pb_block.specs.Reading.{Entry, key_behind, row_behind, entry_at, Place, stripped, restarts_behind, is_short, may_follow}
use Rattle.pb_block.specs.Reading.{may_stand, place_behind, next_place, step}
use Rattle.pb_block.specs.Runs.{Stands}
use Rattle.pb_block.proofs.Entries.{some_behind, spelled_entry, IsEntry, entry_takes, CanStand, entry_again, entry_shorter}

-- ---- a step, taken apart and put together

pub record IsTaken (distance : ℕ) (place next : Place) : Type 0 where
  pub entry : Entry
  pub restarts : List ℕ
  pub bytes : List ℕ
  pub room : place.at < 1048576
  pub is_restarts : restarts_behind distance place.entry place.at place.restarts ≡ Some restarts
  pub read : entry_at (length place.before) place.bytes ≡ Some (entry, bytes)
  pub may : may_stand distance place entry ≡ true
  pub is : place_behind place entry restarts bytes ≡ next

pub taken : (distance : ℕ) (place next : Place) → step distance place ≡ Some next → IsTaken distance place next
unfolding next_place
taken distance place next e =
    let a = some_behind (ltb place.at 1048576) (next_place distance place) next e in
    let r = bind_some (restarts_behind distance place.entry place.at place.restarts) _ next a.1 in
    let x = bind_some (entry_at (length place.before) place.bytes) _ next r.2 in
    let m = cond_some (may_stand distance place x.0.0) (place_behind place x.0.0 r.0 x.0.1) next x.2 in
    record {
      entry = x.0.0;
      restarts = r.0;
      bytes = x.0.1;
      room = ltb-true place.at 1048576 a.0;
      is_restarts = r.1;
      read = x.1;
      may =
          m.0;
      is = m.1;
    }

pub takes : (distance : ℕ) (place : Place) (entry : Entry) (restarts bytes : List ℕ) → place.at < 1048576
    → restarts_behind distance place.entry place.at place.restarts ≡ Some restarts
    → entry_at (length place.before) place.bytes ≡ Some (entry, bytes)
    → may_stand distance place entry ≡ true → step distance place ≡ Some (place_behind place entry restarts bytes)
unfolding next_place
takes distance place entry restarts bytes room is_restarts read may = rw (lt-ltb place.at 1048576 room, is_restarts, read, may) refl

pub step_shorter : (distance : ℕ) (place next : Place) → step distance place ≡ Some next → length next.bytes < length place.bytes
step_shorter distance place next e =
    let is = taken distance place next e in
    let same : length is.bytes ≡ length next.bytes = ap (λ (p : Place). length p.bytes) is.is in
    let shorter : length is.bytes < length place.bytes = entry_shorter (length place.before) place.bytes (is.entry, is.bytes) is.read in
    omega arith

-- ---- what front bytes begin with

pub stripped_some : (front bytes rest : List ℕ) → stripped front bytes ≡ Some rest → bytes ≡ front ++ rest
stripped_some front bytes rest e =
    let a = cond_some (pointwise nat_eq (take (length front) bytes) front) (drop (length front) bytes) rest e in
    let same : take (length front) bytes ≡ front = (bytes_eq-Decides (take (length front) bytes) front).0 a.0 in
    sym (take-append-drop (length front) bytes) ∙ (λ i. same i ++ a.1 i)

pub stripped_again : (front rest : List ℕ) → stripped front (front ++ rest) ≡ Some rest
stripped_again front rest =
    let same : take (length front) (front ++ rest) ≡ front = take_at front rest (length front) refl in
    let test : pointwise nat_eq (take (length front) (front ++ rest)) front ≡ true =
    (bytes_eq-Decides (take (length front) (front ++ rest)) front).1 same in
    rw (test, drop_at front rest (length front) refl) refl

-- the restart of an entry, if it is one, and others behind it
abbrev pub with_restart : ℕ → ℕ → ℕ → List ℕ → List ℕ
with_restart distance number at others = if number % distance == 0 then be32 at ++ others else others

pub restarts_takes : (distance number at : ℕ) (restarts rest : List ℕ) → restarts_behind distance number at restarts ≡ Some rest
    → restarts ≡ with_restart distance number at rest
restarts_takes distance number at restarts rest e = elim (cases_Bool (number % distance == 0)) [
  | inl is ↦ rw is (stripped_some (be32 at) restarts rest (rw is at e))
  | inr other ↦ rw other (same_rest restarts rest (rw other at e))
]
  where
    same_rest : (a b : List ℕ) → ◌≡◌ {A = Option (List ℕ)} (Some a) (Some b) → a ≡ b
    same_rest a b e = cc

pub restarts_again : (distance number at : ℕ) (rest : List ℕ)
    → restarts_behind distance number at (with_restart distance number at rest) ≡ Some rest
restarts_again distance number at rest = elim (cases_Bool (number % distance == 0)) [
  | inl is ↦ rw is (stripped_again (be32 at) rest)
  | inr other ↦ rw other refl
]

-- ---- rows and entries

-- what a place has before it, where this row comes next
pub record IsNext (distance : ℕ) (place : Place) (row : BlockRow) (restarts bytes : List ℕ) : Type 0 where
  pub stands : Stands place.at place.before row
  pub spelled : place.bytes ≡ entry_spelling (shared_at distance place.entry place.before row.key) row ++ bytes
  pub size : length place.bytes - length bytes ≡ length (entry_spelling (shared_at distance place.entry place.before row.key) row)
  pub is_restarts : place.restarts ≡ with_restart distance place.entry place.at restarts

same_spelling : (before : List ℕ) (entry : Entry) → entry.shared ≤ length before
    → entry_spelling entry.shared (row_behind before entry) ≡ spelled_entry entry
unfolding entry_spelling
same_spelling before entry within =
    let front : length (take entry.shared before) ≡ entry.shared = length-take-le entry.shared before within in
    let size : length (take entry.shared before ++ entry.unshared) - entry.shared ≡ length entry.unshared =
    omega (arith, length-append (take entry.shared before) entry.unshared) in
    let rest : drop entry.shared (take entry.shared before ++ entry.unshared) ≡ entry.unshared =
    drop_at (take entry.shared before) entry.unshared entry.shared front in
    rw (size, rest) refl

pub short_says : (value : Option (List ℕ)) → is_short value ≡ true → IfSome value IsValue
short_says None e = tt
short_says (Some bytes) e = (value_is bytes).0 e

pub short_tests : (value : Option (List ℕ)) → IfSome value IsValue → is_short value ≡ true
short_tests None h = refl
short_tests (Some bytes) h = (value_is bytes).1 h

is_less : (before key : List ℕ) → key_cmp before key ≡ Less → is_lt (key_cmp before key) ≡ true
is_less before key e = ap is_lt e

pub next_is : (distance : ℕ) (place next : Place) (is : IsTaken distance place next)
    → IsNext distance place (row_behind place.before is.entry) is.restarts is.bytes
next_is distance place next is =
    let entry = is.entry in
    let before = place.before in
    let key = key_behind before entry in
    let parts = and_parts (may_follow distance place.entry before entry) (is_key key) is.may in
    let rises = and_parts (is_lt (key_cmp before key))
    (nat_eq entry.shared (shared_at distance place.entry before key) && is_short entry.value) parts.0 in
    let others = and_parts (nat_eq entry.shared (shared_at distance place.entry before key)) (is_short entry.value) rises.1 in
    let read : IsEntry (length before) place.bytes (entry, is.bytes) = entry_takes (length before) place.bytes (entry, is.bytes) is.read in
    let shared : entry.shared ≡ shared_at distance place.entry before key =
    eqb-true entry.shared (shared_at distance place.entry before key) others.0 in
    let same : spelled_entry entry ≡ entry_spelling (shared_at distance place.entry before key) (row_behind before entry) =
    sym (same_spelling before entry read.shared) ∙ ap (λ (n : ℕ). entry_spelling n (row_behind before entry)) shared in
    let spelled : place.bytes ≡ entry_spelling (shared_at distance place.entry before key) (row_behind before entry) ++ is.bytes =
    read.spelled ∙ ap (λ (t : List ℕ). t ++ is.bytes) same in
    record {
      stands = record {
        room = is.room;
        key = key_says key parts.1;
        rises = less (key_cmp before key) rises.0;
        value =
            short_says entry.value others.1;
      };
      spelled = spelled;
      size = omega (
        arith,
        ap length spelled,
        length-append (entry_spelling (shared_at distance place.entry before key) (row_behind before entry)) is.bytes,
      );
      is_restarts = restarts_takes distance place.entry place.at place.restarts is.restarts is.is_restarts;
    }

-- ---- the entry of a row

-- the first bytes that two lists share
pub same_front : (a b : List ℕ) → take (common_prefix_len nat_eq a b) a ≡ take (common_prefix_len nat_eq a b) b
same_front [] b = refl
same_front (x ∷ xs) [] = refl
same_front (x ∷ xs) (y ∷ ys) = elim (cases_Bool (nat_eq x y)) [
  | inl is ↦
      let more : 1 + common_prefix_len nat_eq xs ys ≡ suc (common_prefix_len nat_eq xs ys) = omega arith in
      let rest = same_front xs ys in
      let first : x ≡ y = eqb-true x y is in
      rw (is, more) (λ i. first i ∷ rest i)
  | inr other ↦ rw other refl
]

-- what an entry may share with the key before
pub record IsShared (before key : List ℕ) (shared : ℕ) : Type 0 where
  pub fits : shared ≤ length before
  pub within : shared ≤ length key
  pub same : take shared before ≡ take shared key

pub shared_is : (distance number : ℕ) (before key : List ℕ) → IsShared before key (shared_at distance number before key)
shared_is distance number before key = elim (cases_Bool (number % distance == 0)) [
  | inl is ↦ rw is (record { fits = omega arith; within = omega arith; same = refl })
  | inr other ↦
      let within = common_prefix_len-le nat_eq before key in
      rw other (record { fits = within.0; within = within.1; same = same_front before key })
]

abbrev pub entry_of : ℕ → BlockRow → Entry
entry_of shared row = record { shared = shared; unshared = drop shared row.key; value = row.value }

pub same_key : (before : List ℕ) (shared : ℕ) (row : BlockRow) → IsShared before row.key shared
    → key_behind before (entry_of shared row) ≡ row.key
same_key before shared row is = ap (λ (t : List ℕ). t ++ drop shared row.key) is.same ∙ take-append-drop shared row.key

pub row_again : (distance number at : ℕ) (before : List ℕ) (row : BlockRow) (rest : List ℕ) → Stands at before row
    → entry_at (length before) (entry_spelling (shared_at distance number before row.key) row ++ rest)
    ≡ Some (entry_of (shared_at distance number before row.key) row, rest)
unfolding entry_spelling
row_again distance number at before row rest stands =
    let shared = shared_at distance number before row.key in
    let is = shared_is distance number before row.key in
    let size : length (drop shared row.key) ≡ length row.key - shared = length-drop shared row.key in
    let within : length row.key ≤ 1024 = stands.key.within in
    let can : CanStand (length before) (entry_of shared row) =
    record { shared = is.fits; within = omega (arith, is.within); value = stands.value } in
    rw (← size) (entry_again (length before) (entry_of shared row) rest can)

pub may_again : (distance : ℕ) (place : Place) (row : BlockRow) → Stands place.at place.before row
    → may_stand distance place (entry_of (shared_at distance place.entry place.before row.key) row) ≡ true
may_again distance place row stands =
    let shared = shared_at distance place.entry place.before row.key in
    let key : key_behind place.before (entry_of shared row) ≡ row.key =
    same_key place.before shared row (shared_is distance place.entry place.before row.key) in
    rw key (and_from _ _
    (and_from _ _ (is_less place.before row.key stands.rises)
    (and_from _ _ (eq-eqb shared shared refl) (short_tests row.value stands.value))) (key_tests row.key stands.key))
