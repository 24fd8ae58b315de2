-- Bytes that check are the entries of rows of which each goes on behind the one before; and the entries of such rows check.
use Rattle.std.proofs.Common.{◌≡◌, inl, inr, ℕ, zero, suc, ◌+◌, ◌-◌, ◌%◌, ◌<◌, ◌≤◌, Bool, true, false, cond, List, [], ◌∷◌, ◌++◌, length}
use Rattle.std.proofs.Common.{Option, Some, None, refl, sym, ap, subst, ◌∙◌, length-append, arith, eq-eqb}
use Rattle.std.specs.Prelude.{nat_eq, not, ◌==◌}
use Rattle.std.specs.List.{flat_map}
use Rattle.std.specs.Option.{unwrap_or, option_map}
use Rattle.std.proofs.lemmas.Bool.{false≢true, eqb-true, ne_eqb, and_parts, and_from, cases_Bool}
use Rattle.std.proofs.lemmas.List.{nil_from_length}
use Rattle.pb_bytes.specs.BigEndian.{be32}
use Rattle.pb_bytes.specs.Varint.{varint}
use Rattle.pb_bytes.proofs.VarintLemmas.{length-varint_pos}
use Rattle.pb_block.specs.Blocks.{BlockRow, shared_at, entry_spelling, entries_from, restarts_from}
use Rattle.pb_block.specs.Reading.{Entry, key_behind, row_behind, entry_at, rows_behind, all_behind, Place, restarts_behind, place_behind}
use Rattle.pb_block.specs.Reading.{step, is_end, checks}
use Rattle.pb_block.specs.Runs.{IsRun}
use Rattle.pb_block.proofs.Entries.{entry_shorter, no_entry}
use Rattle.pb_block.proofs.Runs.{IsTaken, taken, takes, step_shorter, with_restart, restarts_again, IsNext, next_is, entry_of, shared_is}
use Rattle.pb_block.proofs.Runs.{same_key, row_again, may_again}

-- ---- enough steps are enough

pub checks_any : (distance most other : ℕ) (place : Place) → length place.bytes ≤ most → length place.bytes ≤ other
    → checks distance most place ≡ checks distance other place
unfolding checks
checks_any distance zero zero place h k = refl
checks_any distance zero (suc other) place h k = let none : length place.bytes ≡ 0 =
    omega arith in rw (eq-eqb (length place.bytes) 0 none) refl
checks_any distance (suc most) zero place h k = let none : length place.bytes ≡ 0 =
    omega arith in rw (eq-eqb (length place.bytes) 0 none) refl
checks_any distance (suc most) (suc other) place h k =
    let steps : unwrap_or (option_map (checks distance most) (step distance place)) false
    ≡ unwrap_or (option_map (checks distance other) (step distance place)) false =
    elim (step distance place) as
    (λ s. step distance place ≡ s
    → unwrap_or (option_map (checks distance most) s) false ≡ unwrap_or (option_map (checks distance other) s) false) [
      | None ↦ λ e. refl
      | Some next ↦ λ e. let shorter = step_shorter distance place next e in checks_any distance most other next (omega arith) (omega arith)
    ] refl in
    ap (λ (t : Bool). cond (nat_eq (length place.bytes) 0) (is_end place) t) steps

pub checks-stuck : (distance : ℕ) (place : Place) → 0 < length place.bytes → step distance place ≡ None
    → checks distance (length place.bytes) place ≡ false
unfolding checks
checks-stuck distance place some stuck =
    let other : length place.bytes ≡ 0 → ⊥ = (λ none. absurd (omega arith)) in
    checks_any distance (length place.bytes) (suc (length place.bytes)) place (omega arith) (omega arith)
    ∙ rw (ne_eqb (length place.bytes) 0 other, stuck) refl

pub checks-step : (distance : ℕ) (place next : Place) → 0 < length place.bytes → step distance place ≡ Some next
    → checks distance (length place.bytes) place ≡ checks distance (length next.bytes) next
unfolding checks
checks-step distance place next some goes =
    let other : length place.bytes ≡ 0 → ⊥ = (λ none. absurd (omega arith)) in
    let shorter = step_shorter distance place next goes in
    checks_any distance (length place.bytes) (suc (length place.bytes)) place (omega arith) (omega arith)
    ∙ rw (ne_eqb (length place.bytes) 0 other, goes) refl
    ∙ checks_any distance (length place.bytes) (length next.bytes) next (omega arith) (omega arith)

pub checks-end : (distance : ℕ) (place : Place) → length place.bytes ≡ 0
    → checks distance (length place.bytes) place ≡ nat_eq (length place.restarts) 0
unfolding checks
checks-end distance place none =
    checks_any distance (length place.bytes) 0 place (omega arith) (omega arith) ∙ rw (eq-eqb (length place.bytes) 0 none) refl

pub some_left : (bytes : List ℕ) → true ≡ not (nat_eq (length bytes) 0) → 0 < length bytes
some_left [] e = absurd cc
some_left (byte ∷ bytes) e = omega arith

pub none_left : (bytes : List ℕ) → false ≡ not (nat_eq (length bytes) 0) → length bytes ≡ 0
none_left [] e = refl
none_left (byte ∷ bytes) e =
    let other : nat_eq (length (byte ∷ bytes)) 0 ≡ false = ne_eqb (length (byte ∷ bytes)) 0 (λ none. absurd (omega arith)) in
    absurd (false≢true (e ∙ ap not other))

pub not_empty : (bytes : List ℕ) → false ≡ nat_eq (length bytes) 0 → 0 < length bytes
not_empty [] e = absurd cc
not_empty (byte ∷ bytes) e = omega arith

-- ---- the rows that stand behind a key

after : (ℕ → List ℕ → List ℕ → List BlockRow) → ℕ → List ℕ → Option (Entry × List ℕ) → List BlockRow
after rows most before read =
    unwrap_or (option_map (λ (x : Entry × List ℕ). row_behind before x.0 ∷ rows most (key_behind before x.0) x.1) read) []

pub rows_any : (most other : ℕ) (before bytes : List ℕ) → length bytes ≤ most → length bytes ≤ other
    → rows_behind most before bytes ≡ rows_behind other before bytes
unfolding rows_behind after
rows_any zero zero before bytes h k = refl
rows_any zero (suc other) before bytes h k =
    let none = nil_from_length bytes (omega arith) in
    rw (ap (entry_at (length before)) none ∙ no_entry (length before)) refl
rows_any (suc most) zero before bytes h k =
    let none = nil_from_length bytes (omega arith) in
    rw (ap (entry_at (length before)) none ∙ no_entry (length before)) refl
rows_any (suc most) (suc other) before bytes h k =
    elim (entry_at (length before) bytes) as
    (λ s. entry_at (length before) bytes ≡ s → after rows_behind most before s ≡ after rows_behind other before s) [
      | None ↦ λ e. refl
      | Some x ↦ λ e.
          let shorter = entry_shorter (length before) bytes x e in
          ap (λ (rows : List BlockRow). row_behind before x.0 ∷ rows)
          (rows_any most other (key_behind before x.0) x.1 (omega arith) (omega arith))
    ] refl

pub rows-none : (before bytes : List ℕ) → entry_at (length before) bytes ≡ None → all_behind before bytes ≡ []
unfolding rows_behind
rows-none before bytes none = rows_any (length bytes) (suc (length bytes)) before bytes (omega arith) (omega arith) ∙ rw none refl

pub rows-first : (before bytes : List ℕ) (entry : Entry) (rest : List ℕ) → entry_at (length before) bytes ≡ Some (entry, rest)
    → all_behind before bytes ≡ row_behind before entry ∷ all_behind (key_behind before entry) rest
unfolding rows_behind
rows-first before bytes entry rest read =
    let shorter = entry_shorter (length before) bytes (entry, rest) read in
    rows_any (length bytes) (suc (length bytes)) before bytes (omega arith) (omega arith) ∙ rw read refl
    ∙ ap (λ (rows : List BlockRow). row_behind before entry ∷ rows)
    (rows_any (length bytes) (length rest) (key_behind before entry) rest (omega arith) (omega arith))

-- ---- what checks

pub record IsChecked (distance : ℕ) (place : Place) (rows : List BlockRow) : Type 0 where
  pub run : IsRun distance place.entry place.at place.before rows
  pub entries : place.bytes ≡ entries_from distance place.entry place.before rows
  pub restarts : place.restarts ≡ flat_map be32 (restarts_from distance place.entry place.at place.before rows)

pub restarts-first : (distance number at : ℕ) (before : List ℕ) (row : BlockRow) (rows : List BlockRow)
    → flat_map be32 (restarts_from distance number at before (row ∷ rows))
    ≡ with_restart distance number at
    (flat_map be32 (restarts_from distance (number + 1) (at + length (entry_spelling (shared_at distance number before row.key) row))
    row.key rows))
unfolding restarts_from
restarts-first distance number at before row rows = elim (cases_Bool (number % distance == 0)) [
  | inl is ↦ rw is refl
  | inr other ↦ rw other refl
]

joined : (distance : ℕ) (place : Place) (row : BlockRow) (rows : List BlockRow) (restarts bytes : List ℕ)
    → IsNext distance place row restarts bytes
    → IsChecked distance
    (record {
      entry = place.entry + 1;
      at = place.at + (length place.bytes - length bytes);
      before = row.key;
      restarts = restarts;
      bytes =
          bytes;
    }) rows
    → IsChecked distance place (row ∷ rows)
unfolding entries_from
joined distance place row rows restarts bytes next rest =
    let spelling = entry_spelling (shared_at distance place.entry place.before row.key) row in
    let end : place.at + (length place.bytes - length bytes) ≡ place.at + length spelling = ap (λ (n : ℕ). place.at + n) next.size in
    let others : restarts ≡ flat_map be32 (restarts_from distance (place.entry + 1) (place.at + length spelling) row.key rows) =
    rest.restarts ∙ ap (λ (n : ℕ). flat_map be32 (restarts_from distance (place.entry + 1) n row.key rows)) end in
    record {
      run = (next.stands, subst (λ (n : ℕ). IsRun distance (place.entry + 1) n row.key rows) end rest.run);
      entries = next.spelled ∙ ap (λ (t : List ℕ). spelling ++ t) rest.entries;
      restarts = next.is_restarts ∙ ap (with_restart distance place.entry place.at) others
          ∙ sym (restarts-first distance place.entry place.at place.before row rows);
    }

ended : (distance : ℕ) (place : Place) → is_end place ≡ true → IsChecked distance place []
unfolding entries_from restarts_from
ended distance place e =
    let parts = and_parts (nat_eq (length place.bytes) 0) (nat_eq (length place.restarts) 0) e in
    record {
      run = tt;
      entries = nil_from_length place.bytes (eqb-true (length place.bytes) 0 parts.0);
      restarts = nil_from_length place.restarts (eqb-true (length place.restarts) 0 parts.1);
    }

some_checks : (f : Place → Bool) (o : Option Place) → unwrap_or (option_map f o) false ≡ true → (p : Place) × (o ≡ Some p) × (f p ≡ true)
some_checks f None e = absurd cc
some_checks f (Some p) e = (p, refl, e)

pub checks_takes : (distance most : ℕ) (place : Place) → checks distance most place ≡ true
    → IsChecked distance place (rows_behind most place.before place.bytes)
unfolding checks rows_behind
checks_takes distance zero place e = ended distance place e
checks_takes distance (suc most) place e = elim (cases_Bool (nat_eq (length place.bytes) 0)) [
  | inl none ↦
      let nothing = nil_from_length place.bytes (eqb-true (length place.bytes) 0 none) in
      let unread : entry_at (length place.before) place.bytes ≡ None = ap (entry_at (length place.before)) nothing
      ∙ no_entry (length place.before) in
      rw unread (ended distance place (and_from (nat_eq (length place.bytes) 0) (nat_eq (length place.restarts) 0) none (rw none at e)))
  | inr some ↦
      let next = some_checks (checks distance most) (step distance place) (rw some at e) in
      let is : IsTaken distance place next.0 = taken distance place next.0 next.1 in
      let checked : checks distance most (place_behind place is.entry is.restarts is.bytes) ≡ true =
      subst (λ (p : Place). checks distance most p ≡ true) (sym is.is) next.2 in
      let rest = checks_takes distance most (place_behind place is.entry is.restarts is.bytes) checked in
      rw is.read (joined distance place (row_behind place.before is.entry) (rows_behind most (key_behind place.before is.entry) is.bytes)
      is.restarts is.bytes (next_is distance place next.0 is) rest)
]

-- ---- what is spelled checks

abbrev pub place_of : ℕ → ℕ → ℕ → List ℕ → List BlockRow → Place
place_of distance number at before rows = record {
  entry = number;
  at = at;
  before = before;
  restarts = flat_map be32 (restarts_from distance number at before rows);
  bytes = entries_from distance number before rows;
}

pub entry_some : (shared : ℕ) (row : BlockRow) → 0 < length (entry_spelling shared row)
unfolding entry_spelling
entry_some shared row =
    let first = length-varint_pos shared in
    rw (length-append (varint shared) _) (omega arith)

pub checks_again : (distance number at : ℕ) (before : List ℕ) (rows : List BlockRow) (most : ℕ) → IsRun distance number at before rows
    → length (entries_from distance number before rows) ≤ most → checks distance most (place_of distance number at before rows) ≡ true
unfolding checks entries_from restarts_from
checks_again distance number at before [] zero run enough = refl
checks_again distance number at before [] (suc most) run enough = refl
checks_again distance number at before (row ∷ rows) zero run enough =
    let some = entry_some (shared_at distance number before row.key) row in
    absurd (omega (
      arith,
      length-append (entry_spelling (shared_at distance number before row.key) row) (entries_from distance (number + 1) row.key rows),
    ))
checks_again distance number at before (row ∷ rows) (suc most) run enough =
    let shared = shared_at distance number before row.key in
    let spelling = entry_spelling shared row in
    let rest = entries_from distance (number + 1) row.key rows in
    let next_at = at + length spelling in
    let others = flat_map be32 (restarts_from distance (number + 1) next_at row.key rows) in
    let place = place_of distance number at before (row ∷ rows) in
    let sizes : length (spelling ++ rest) ≡ length spelling + length rest = length-append spelling rest in
    let some = entry_some shared row in
    let stripped = ap (restarts_behind distance number at) (restarts-first distance number at before row rows)
    ∙ restarts_again distance number at others in
    let goes = takes distance place (entry_of shared row) others rest run.0.room stripped
    (row_again distance number at before row rest run.0) (may_again distance place row run.0) in
    let key = same_key before shared row (shared_is distance number before row.key) in
    let is_at : at + (length (spelling ++ rest) - length rest) ≡ next_at = omega arith in
    let next : place_behind place (entry_of shared row) others rest ≡ place_of distance (number + 1) next_at row.key rows =
    (λ i. record { entry = number + 1; at = is_at i; before = key i; restarts = others; bytes = rest }) in
    let other : length (spelling ++ rest) ≡ 0 → ⊥ = (λ none. absurd (omega arith)) in
    let checked = subst (λ (p : Place). checks distance most p ≡ true) (sym next)
    (checks_again distance (number + 1) next_at row.key rows most run.1 (omega arith)) in
    rw (ne_eqb (length (spelling ++ rest)) 0 other, goes) checked

pub rows_again : (distance number at : ℕ) (before : List ℕ) (rows : List BlockRow) → IsRun distance number at before rows
    → all_behind before (entries_from distance number before rows) ≡ rows
unfolding entries_from
rows_again distance number at before [] run = rows-none before [] (no_entry (length before))
rows_again distance number at before (row ∷ rows) run =
    let shared = shared_at distance number before row.key in
    let spelling = entry_spelling shared row in
    let rest = entries_from distance (number + 1) row.key rows in
    let key = same_key before shared row (shared_is distance number before row.key) in
    let first : row_behind before (entry_of shared row) ≡ row = (λ i. record { key = key i; value = row.value }) in
    let others : all_behind (key_behind before (entry_of shared row)) rest ≡ rows = ap (λ (k : List ℕ). all_behind k rest) key
    ∙ rows_again distance (number + 1) (at + length spelling) row.key rows run.1 in
    rows-first before (spelling ++ rest) (entry_of shared row) rest (row_again distance number at before row rest run.0)
    ∙ (λ i. first i ∷ others i)
