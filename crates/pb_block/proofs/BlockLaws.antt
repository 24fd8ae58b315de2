-- A block is rows of which each goes on behind the one before, and its bytes have one reading.
use Rattle.std.proofs.Common.{◌≡◌, ℕ, suc, ◌+◌, ◌-◌, ◌*◌, ◌%◌, ◌^◌, ◌<◌, ◌≤◌, leb, ltb, Bool, true, false, List, [], ◌∷◌, ◌++◌, length}
use Rattle.std.proofs.Common.{take, drop, Option, Some, None, refl, sym, ap, subst, ◌∙◌, append_assoc, length-append, arith}
use Rattle.std.specs.Prelude.{IfSome, All, ◌==◌, ◌&&◌, if◌then◌else◌}
use Rattle.std.specs.List.{flat_map}
use Rattle.std.specs.declared.cmp.Ordering.TheVariants.{Less}
use Rattle.std.proofs.lemmas.Bool.{le-leb, leb-true, lt-ltb, ltb-true, ne_eqb, and_parts}
use Rattle.std.proofs.lemmas.List.{take_at, drop_at, length-drop, get_or-drop, take-append-drop}
use Rattle.std.proofs.lemmas.List.Elements.{All-nil, All-cons, All-head, All-tail}
use Rattle.std.proofs.lemmas.Option.{cond_some, none-some}
use Rattle.pb_bytes.specs.BigEndian.{be32, number_of, AreBytes}
use Rattle.pb_bytes.proofs.BigEndianLemmas.{length-be32, be32-number_of, number_of-be32}
use Rattle.pb_bytes.proofs.Steps.{bind_some}
use Rattle.pb_keys.specs.Key.{IsKey, key_cmp, at_sign, suffix_start}
use Rattle.pb_keys.specs.Value.{IsValue}
use Rattle.pb_block.specs.Blocks.{BlockRow, shared_at, entry_spelling, entries_from, entries, restarts_from, restarts, block_spelling}
use Rattle.pb_block.specs.Blocks.{Rise, before_last, IsBlock}
use Rattle.pb_block.specs.Reading.{all_behind, start_of, checks, parts_at, block_at}
use Rattle.pb_block.specs.Held.{IsHeld}
use Rattle.pb_block.specs.Runs.{IsRun}
use Rattle.pb_block.proofs.Checks.{IsChecked, checks_takes, checks_again, rows_again, entry_some}

-- ---- each row behind the one before

-- the first row behind this key
RiseFrom : List ℕ → List BlockRow → Type 0
RiseFrom before [] = Unit {0}
RiseFrom before (row ∷ rows) = (key_cmp before row.key ≡ Less) × RiseFrom row.key rows

rise_from : (before : List ℕ) (row : BlockRow) (rows : List BlockRow) → key_cmp before row.key ≡ Less → Rise (row ∷ rows)
    → RiseFrom before (row ∷ rows)
unfolding RiseFrom
rise_from before row [] first rise = (first, tt)
rise_from before row (next ∷ rows) first rise = (first, rise_from row.key next rows rise.0 rise.1)

-- each key is above no bytes
pub above_nothing : (key : List ℕ) → IsKey key → key_cmp [] key ≡ Less
unfolding key_cmp
above_nothing [] is = absurd (omega (arith, is.some))
above_nothing (b ∷ bs) is =
    let plain : (b == at_sign) ≡ false = ne_eqb b at_sign is.begins in
    let more : 1 + suffix_start bs ≡ suc (suffix_start bs) = omega arith in
    rw (plain, more) refl

run_from : (distance number at : ℕ) (before : List ℕ) (row : BlockRow) (rows : List BlockRow) → All (λ r. IsKey r.key) (row ∷ rows)
    → All (λ r. IfSome r.value IsValue) (row ∷ rows)
    → RiseFrom before (row ∷ rows) → at + length (entries_from distance number before (before_last (row ∷ rows))) < 1048576
    → IsRun distance number at before (row ∷ rows)
unfolding RiseFrom entries_from
run_from distance number at before row [] keys values rise room = (
  record {
    room = omega arith;
    key = All-head (λ r. IsKey r.key) row [] keys;
    rises = rise.0;
    value =
        All-head (λ r. IfSome r.value IsValue) row [] values;
  },
  tt,
)
run_from distance number at before row (next ∷ rows) keys values rise room =
    let spelling = entry_spelling (shared_at distance number before row.key) row in
    let others = entries_from distance (number + 1) row.key (before_last (next ∷ rows)) in
    let sizes : length (spelling ++ others) ≡ length spelling + length others = length-append spelling others in (
      record {
        room = omega arith;
        key = All-head (λ r. IsKey r.key) row (next ∷ rows) keys;
        rises = rise.0;
        value =
            All-head (λ r. IfSome r.value IsValue) row (next ∷ rows) values;
      },
      run_from distance (number + 1) (at + length spelling) row.key next rows (All-tail (λ r. IsKey r.key) row (next ∷ rows) keys)
          (All-tail (λ r. IfSome r.value IsValue) row (next ∷ rows) values) rise.1 (omega arith),
    )

pub block_run : (distance : ℕ) (rows : List BlockRow) → IsBlock distance rows → IsRun distance 0 0 [] rows
block_run distance [] is = tt
block_run distance (row ∷ rows) is =
    let first = above_nothing row.key (All-head (λ r. IsKey r.key) row rows is.keys) in
    let room = is.room in
    run_from distance 0 0 [] row rows is.keys is.values (rise_from [] row rows first is.rise) (omega arith)

run_keys : (distance number at : ℕ) (before : List ℕ) (rows : List BlockRow) → IsRun distance number at before rows
    → All (λ r. IsKey r.key) rows
run_keys distance number at before [] run = All-nil (λ r. IsKey r.key)
run_keys distance number at before (row ∷ rows) run =
    All-cons (λ r. IsKey r.key) row rows run.0.key (run_keys distance (number + 1) _ row.key rows run.1)

run_values : (distance number at : ℕ) (before : List ℕ) (rows : List BlockRow) → IsRun distance number at before rows
    → All (λ r. IfSome r.value IsValue) rows
run_values distance number at before [] run = All-nil (λ r. IfSome r.value IsValue)
run_values distance number at before (row ∷ rows) run =
    All-cons (λ r. IfSome r.value IsValue) row rows run.0.value (run_values distance (number + 1) _ row.key rows run.1)

pub run_rise : (distance number at : ℕ) (before : List ℕ) (rows : List BlockRow) → IsRun distance number at before rows → Rise rows
run_rise distance number at before [] run = tt
run_rise distance number at before (row ∷ []) run = tt
run_rise distance number at before (row ∷ next ∷ rows) run = (run.1.0.rises, run_rise distance (number + 1) _ row.key (next ∷ rows) run.1)

run_room : (distance number at : ℕ) (before : List ℕ) (row : BlockRow) (rows : List BlockRow) → IsRun distance number at before (row ∷ rows)
    → at + length (entries_from distance number before (before_last (row ∷ rows))) < 1048576
unfolding entries_from
run_room distance number at before row [] run = omega (arith, run.0.room)
run_room distance number at before row (next ∷ rows) run =
    let spelling = entry_spelling (shared_at distance number before row.key) row in
    let others = entries_from distance (number + 1) row.key (before_last (next ∷ rows)) in
    let rest = run_room distance (number + 1) (at + length spelling) row.key next rows run.1 in
    omega (arith, length-append spelling others)

pub run_block : (distance : ℕ) (rows : List BlockRow) → 1 ≤ length rows → IsRun distance 0 0 [] rows → IsBlock distance rows
run_block distance [] some run = absurd (omega arith)
run_block distance (row ∷ rows) some run =
    let room = run_room distance 0 0 [] row rows run in
    record {
      some = some;
      keys = run_keys distance 0 0 [] (row ∷ rows) run;
      rise = run_rise distance 0 0 [] (row ∷ rows) run;
      values =
          run_values distance 0 0 [] (row ∷ rows) run;
      room = omega arith;
    }

-- ---- how many rows and restarts there are

row_count : (distance number at : ℕ) (before : List ℕ) (row : BlockRow) (rows : List BlockRow)
    → IsRun distance number at before (row ∷ rows) → at + length rows < 1048576
row_count distance number at before row [] run = omega (arith, run.0.room)
row_count distance number at before row (next ∷ rows) run =
    let some = entry_some (shared_at distance number before row.key) row in
    let rest = row_count distance (number + 1) (at + length (entry_spelling (shared_at distance number before row.key) row)) row.key next
    rows run.1 in
    omega arith

one_more : (is : Bool) (at : ℕ) (others : List ℕ) → length (if is then at ∷ others else others) ≤ suc (length others)
one_more true at others = omega arith
one_more false at others = omega arith

restart_count : (distance number at : ℕ) (before : List ℕ) (rows : List BlockRow)
    → length (restarts_from distance number at before rows) ≤ length rows
unfolding restarts_from
restart_count distance number at before [] = omega arith
restart_count distance number at before (row ∷ rows) =
    let next = at + length (entry_spelling (shared_at distance number before row.key) row) in
    let rest = restart_count distance (number + 1) next row.key rows in
    let more = one_more (number % distance == 0) at (restarts_from distance (number + 1) next row.key rows) in
    omega (arith, rest, more)

pub few_rows : (distance : ℕ) (rows : List BlockRow) → IsRun distance 0 0 [] rows → length rows ≤ 1048576
few_rows distance [] run = omega arith
few_rows distance (row ∷ rows) run = let few = row_count distance 0 0 [] row rows run in omega arith

pub few_restarts : (distance : ℕ) (rows : List BlockRow) → IsRun distance 0 0 [] rows → length (restarts distance rows) ≤ 1048576
unfolding restarts_from
few_restarts distance [] run = omega arith
few_restarts distance (row ∷ rows) run =
    let rows_few = row_count distance 0 0 [] row rows run in
    let restarts_few = restart_count distance 0 0 [] (row ∷ rows) in
    omega arith

pub length-be32s : (xs : List ℕ) → length (flat_map be32 xs) ≡ 4 * length xs
length-be32s [] = refl
length-be32s (x ∷ xs) = omega (arith, length-append (be32 x) (flat_map be32 xs), length-be32 x, length-be32s xs)

-- ---- the parts of a block

pub record IsParted (bytes : List ℕ) (x : List ℕ × List ℕ) : Type 0 where
  pub count : ℕ
  pub size : length x.1 ≡ 4 * count
  pub spelled : bytes ≡ x.0 ++ (x.1 ++ be32 count)

AreBytes-drop : (n : ℕ) (bytes : List ℕ) → AreBytes bytes → AreBytes (drop n bytes)
AreBytes-drop n bytes are = λ place. rw (get_or-drop n bytes place 0) (are (n + place))

pub parts_takes : (bytes : List ℕ) (x : List ℕ × List ℕ) → AreBytes bytes → parts_at bytes ≡ Some x → IsParted bytes x
unfolding parts_at
parts_takes bytes x are e =
    let front = take (length bytes - 4) bytes in
    let last = drop (length bytes - 4) bytes in
    let size = 4 * number_of last in
    let test = cond_some (leb 4 (length bytes) && leb size (length front))
    (take (length front - size) front, drop (length front - size) front) x e in
    let tests = and_parts (leb 4 (length bytes)) (leb size (length front)) test.0 in
    let enough : 4 ≤ length bytes = leb-true 4 (length bytes) tests.0 in
    let within : size ≤ length front = leb-true size (length front) tests.1 in
    let four : length last ≡ 4 = omega (arith, length-drop (length bytes - 4) bytes) in
    let is_last : be32 (number_of last) ≡ last = be32-number_of last four (AreBytes-drop (length bytes - 4) bytes are) in
    let at = length front - size in
    subst (λ (y : List ℕ × List ℕ). IsParted bytes y) test.1 (record {
      count = number_of last;
      size = omega (arith, length-drop at front);
      spelled = sym (take-append-drop (length bytes - 4) bytes) ∙ ap (λ (t : List ℕ). t ++ last) (sym (take-append-drop at front))
          ∙ append_assoc (take at front) (drop at front) last
          ∙ ap (λ (t : List ℕ). take at front ++ (drop at front ++ t)) (sym is_last);
    })

pub parts_again : (front others : List ℕ) (count : ℕ) → count < 2 ^ 32 → length others ≡ 4 * count
    → parts_at (front ++ (others ++ be32 count)) ≡ Some (front, others)
unfolding parts_at
parts_again front others count below size =
    let whole = front ++ (others ++ be32 count) in
    let regrouped : whole ≡ (front ++ others) ++ be32 count = sym (append_assoc front others (be32 count)) in
    let sizes : length whole ≡ length (front ++ others) + 4 = ap length regrouped ∙ length-append (front ++ others) (be32 count)
    ∙ ap (λ (n : ℕ). length (front ++ others) + n) (length-be32 count) in
    let both : length (front ++ others) ≡ length front + length others = length-append front others in
    let at : length (front ++ others) ≡ length whole - 4 = omega arith in
    let begin : take (length whole - 4) whole ≡ front ++ others = ap (take (length whole - 4)) regrouped
    ∙ take_at (front ++ others) (be32 count) (length whole - 4) at in
    let end : drop (length whole - 4) whole ≡ be32 count = ap (drop (length whole - 4)) regrouped
    ∙ drop_at (front ++ others) (be32 count) (length whole - 4) at in
    let cut : length front ≡ length (front ++ others) - 4 * count = omega arith in
    rw (
      begin,
      end,
      number_of-be32 count below,
      le-leb 4 (length whole) (omega arith),
      le-leb (4 * count) (length (front ++ others)) (omega arith),
      take_at front others (length (front ++ others) - 4 * count) cut,
      drop_at front others (length (front ++ others) - 4 * count) cut,
    ) refl

-- ---- blocks

some_rows : (distance : ℕ) (bytes : List ℕ) (rows : List BlockRow) → 0 < length bytes → bytes ≡ entries distance rows → 1 ≤ length rows
unfolding entries_from
some_rows distance bytes [] some is = let none : length bytes ≡ 0 = ap length is in absurd (omega arith)
some_rows distance bytes (row ∷ rows) some is = omega arith

-- parts that check are those of a block
pub held_is : (distance : ℕ) (front others : List ℕ) → 0 < length front → checks distance (length front) (start_of front others) ≡ true
    → IsHeld distance front others
held_is distance front others some checked =
    let is : IsChecked distance (start_of front others) (all_behind [] front) =
    checks_takes distance (length front) (start_of front others) checked in
    record {
      block = run_block distance (all_behind [] front) (some_rows distance front (all_behind [] front) some is.entries) is.run;
      are_entries = is.entries;
      are_restarts = is.restarts;
    }

pub held_spelling : (distance : ℕ) (bytes front others : List ℕ) → IsHeld distance front others → IsParted bytes (front, others)
    → bytes ≡ block_spelling distance (all_behind [] front)
held_spelling distance bytes front others held parted =
    let rows = all_behind [] front in
    let sizes : 4 * parted.count ≡ 4 * length (restarts distance rows) = sym parted.size ∙ ap length held.are_restarts
    ∙ length-be32s (restarts distance rows) in
    let count : parted.count ≡ length (restarts distance rows) = omega arith in
    parted.spelled ∙ (λ i. held.are_entries i ++ (held.are_restarts i ++ be32 (count i)))

pub block_takes : (distance : ℕ) (bytes : List ℕ) (rows : List BlockRow) → AreBytes bytes → block_at distance bytes ≡ Some rows
    → IsBlock distance rows × (bytes ≡ block_spelling distance rows)
unfolding block_at
block_takes distance bytes rows are e =
    let p = bind_some (parts_at bytes) _ rows e in
    let test = cond_some (ltb 0 (length p.0.0) && checks distance (length p.0.0) (start_of p.0.0 p.0.1)) (all_behind [] p.0.0) rows p.2 in
    let tests = and_parts (ltb 0 (length p.0.0)) (checks distance (length p.0.0) (start_of p.0.0 p.0.1)) test.0 in
    let held = held_is distance p.0.0 p.0.1 (ltb-true 0 (length p.0.0) tests.0) tests.1 in
    subst (λ (r : List BlockRow). IsBlock distance r × (bytes ≡ block_spelling distance r)) test.1
    (held.block, held_spelling distance bytes p.0.0 p.0.1 held (parts_takes bytes p.0 are p.1))

some_entries : (distance : ℕ) (rows : List BlockRow) → 1 ≤ length rows → 0 < length (entries distance rows)
unfolding entries_from
some_entries distance [] some = absurd (omega arith)
some_entries distance (row ∷ rows) some =
    let first = entry_some (shared_at distance 0 [] row.key) row in
    omega (arith, length-append (entry_spelling (shared_at distance 0 [] row.key) row) (entries_from distance 1 row.key rows))

pub block_again : (distance : ℕ) (rows : List BlockRow) → IsBlock distance rows
    → block_at distance (block_spelling distance rows) ≡ Some rows
unfolding block_at
block_again distance rows is =
    let run = block_run distance rows is in
    let few = few_restarts distance rows run in
    let others = flat_map be32 (restarts distance rows) in
    let parted = parts_again (entries distance rows) others (length (restarts distance rows)) (omega arith)
    (length-be32s (restarts distance rows)) in
    let checked = checks_again distance 0 0 [] rows (length (entries distance rows)) run (omega arith) in
    rw (
      parted,
      lt-ltb 0 (length (entries distance rows)) (some_entries distance rows is.some),
      checked,
      rows_again distance 0 0 [] rows run,
    ) refl

pub no_block : (distance : ℕ) (bytes : List ℕ) (rows : List BlockRow) → block_at distance bytes ≡ None → IsBlock distance rows
    → bytes ≡ block_spelling distance rows → ⊥
no_block distance bytes rows none is spelled = none-some rows (sym none ∙ ap (block_at distance) spelled ∙ block_again distance rows is)

-- ---- laws

pub one_block : (distance : ℕ) (a b : List BlockRow) → IsBlock distance a → IsBlock distance b
    → block_spelling distance a ≡ block_spelling distance b → a ≡ b
one_block distance a b is_a is_b same =
    let read : ◌≡◌ {A = Option (List BlockRow)} (Some a) (Some b) = sym (block_again distance a is_a) ∙ ap (block_at distance) same
    ∙ block_again distance b is_b in
    cc

pub another_distance : (distance other : ℕ) (rows : List BlockRow) → IsBlock distance rows
    → length (entries other (before_last rows)) < 1048576 → IsBlock other rows
another_distance distance other rows is room = record { some = is.some; keys = is.keys; rise = is.rise; values = is.values; room = room }
