-- Looking for a key: rows that are below what is wanted are passed over, and each restart stands before a row.
use Rattle.std.proofs.Common.{◌≡◌, ◌⊎◌, inl, inr, ℕ, zero, suc, ◌+◌, ◌-◌, ◌*◌, ◌%◌, ◌^◌, ◌<◌, ◌≤◌, true, false, cond, List, [], ◌∷◌, ◌++◌}
use Rattle.std.proofs.Common.{length, take, drop, get_or, Some, refl, sym, ap, subst, ◌∙◌, length-append, arith}
use Rattle.std.specs.Prelude.{◌==◌, if◌then◌else◌}
use Rattle.std.specs.List.{flat_map}
use Rattle.std.specs.Ordering.{is_lt, ordering_then}
use Rattle.std.specs.Cmp.{IsTotalOrder, on_total, then_total}
use Rattle.std.specs.Cmp.Lexicographic.{nat_list_cmp_total}
use Rattle.std.specs.declared.cmp.Ordering.{Ordering}
use Rattle.std.specs.declared.cmp.Ordering.TheVariants.{Less}
use Rattle.std.proofs.lemmas.Bool.{cases_Bool}
use Rattle.std.proofs.lemmas.List.{take_at, drop_at, drop-drop}
use Rattle.pb_bytes.specs.BigEndian.{be32, number_of}
use Rattle.pb_bytes.proofs.BigEndianLemmas.{length-be32, number_of-be32}
use Rattle.pb_keys.specs.Order.{bytes_cmp}
use Rattle.pb_keys.specs.Key.{key_cmp, prefix_of, suffix_of, is_before}
use Rattle.pb_keys.specs.KeyLaws.{key_cmp_total}
use Rattle.pb_keys.proofs.OrderFacts.{less}
use Rattle.pb_block.specs.Blocks.{BlockRow, shared_at, entry_spelling, entries_from, restarts_from, restarts, Rise, rows_from}
use Rattle.pb_block.specs.Reading.{Entry, key_behind, row_behind, entry_at, all_behind}
use Rattle.pb_block.specs.Held.{IsHeld}
use Rattle.pb_block.specs.Cursors.{PassesOver}
use Rattle.pb_block.specs.Runs.{Stands, IsRun}
use Rattle.pb_block.proofs.Checks.{rows_again, rows-first}
use Rattle.pb_block.proofs.BlockLaws.{above_nothing, block_run, length-be32s}

-- ---- what is below a key is below what that is below

-- two byte strings after two
parts_cmp : List ℕ × List ℕ → List ℕ × List ℕ → Ordering
parts_cmp x y = ordering_then (bytes_cmp x.0 y.0) (bytes_cmp x.1 y.1)

parts_total : IsTotalOrder parts_cmp
unfolding parts_cmp
parts_total = then_total (on_total (λ (x : List ℕ × List ℕ). x.0) nat_list_cmp_total)
    (on_total (λ (x : List ℕ × List ℕ). x.1) nat_list_cmp_total)

below_back : (a b prefix suffix : List ℕ) → key_cmp a b ≡ Less → is_before prefix suffix b ≡ true → is_before prefix suffix a ≡ true
unfolding key_cmp parts_cmp
below_back a b prefix suffix first below =
    ap is_lt (parts_total.trans (prefix_of a, suffix_of a) (prefix_of b, suffix_of b) (prefix, suffix) first (less _ below))

-- a row further on, and the first
far : (row : BlockRow) (rows others : List BlockRow) (last : BlockRow) (n : ℕ) → Rise (row ∷ rows) → drop n rows ≡ last ∷ others
    → key_cmp row.key last.key ≡ Less
far row [] others last zero rise e = absurd cc
far row [] others last (suc n) rise e = absurd cc
far row (next ∷ rows) others last zero rise e = let same : next ≡ last =
    cc in subst (λ (r : BlockRow). key_cmp row.key r.key ≡ Less) same rise.0
far row (next ∷ rows) others last (suc n) rise e =
    key_cmp_total.trans row.key next.key last.key rise.0 (far next rows others last n rise.1 e)

Rise-rest : (row : BlockRow) (rows : List BlockRow) → Rise (row ∷ rows) → Rise rows
Rise-rest row [] rise = tt
Rise-rest row (next ∷ rows) rise = rise.1

-- rows before one that is below
pub passed : (rows : List BlockRow) (n : ℕ) (last : BlockRow) (others : List BlockRow) (prefix suffix : List ℕ) → Rise rows
    → drop n rows ≡ last ∷ others → is_before prefix suffix last.key ≡ true
    → rows_from (drop n rows) prefix suffix ≡ rows_from rows prefix suffix
passed rows zero last others prefix suffix rise e below = refl
passed [] (suc n) last others prefix suffix rise e below = absurd cc
passed (row ∷ rows) (suc n) last others prefix suffix rise e below =
    let first : is_before prefix suffix row.key ≡ true =
    below_back row.key last.key prefix suffix (far row rows others last n rise e) below in
    passed rows n last others prefix suffix (Rise-rest row rows rise) e below
    ∙ sym (ap (λ t. cond t (rows_from rows prefix suffix) (row ∷ rows)) first)

-- ---- restarts

-- at this place of entries stand these rows without those before them
pub record StartsRows (bytes : List ℕ) (rows : List BlockRow) (at : ℕ) : Type 0 where
  pub skipped : ℕ
  pub few : skipped < length rows
  pub within : at ≤ length bytes
  pub are : all_behind [] (drop at bytes) ≡ drop skipped rows

-- an entry at a restart goes on behind no key
alone : (distance number at : ℕ) (before : List ℕ) (row : BlockRow) (rows : List BlockRow) → (number % distance == 0) ≡ true
    → IsRun distance number at before (row ∷ rows)
    → all_behind [] (entries_from distance number before (row ∷ rows)) ≡ row ∷ rows
unfolding entries_from
alone distance number at before row rows is run =
    let none : (key : List ℕ) → shared_at distance number key row.key ≡ 0 = (λ key. rw is refl) in
    let same : shared_at distance number before row.key ≡ shared_at distance number [] row.key = none before ∙ sym (none []) in
    let stands : Stands at [] row =
    record { room = run.0.room; key = run.0.key; rises = above_nothing row.key run.0.key; value = run.0.value } in
    let rest = subst (λ (n : ℕ). IsRun distance (number + 1) (at + length (entry_spelling n row)) row.key rows) same run.1 in
    ap (λ (n : ℕ). all_behind [] (entry_spelling n row ++ entries_from distance (number + 1) row.key rows)) same
    ∙ rows_again distance number at [] (row ∷ rows) (stands, rest)

-- and it is below 1 MiB
pub record IsStart (distance number at : ℕ) (before : List ℕ) (rows : List BlockRow) (place : ℕ) : Type 0 where
  pub behind : at ≤ place
  pub small : place < 1048576
  pub starts : StartsRows (entries_from distance number before rows) rows (place - at)

later : (distance number at : ℕ) (before : List ℕ) (row : BlockRow) (rows : List BlockRow) (place : ℕ)
    → IsStart distance (number + 1) (at + length (entry_spelling (shared_at distance number before row.key) row)) row.key rows place
    → IsStart distance number at before (row ∷ rows) place
unfolding entries_from
later distance number at before row rows place start =
    let spelling = entry_spelling (shared_at distance number before row.key) row in
    let rest = entries_from distance (number + 1) row.key rows in
    let inner = place - (at + length spelling) in
    let behind = start.behind in
    let moved : place - at ≡ length spelling + inner = omega arith in
    let few = start.starts.few in
    let within = start.starts.within in
    let dropped : drop (place - at) (spelling ++ rest) ≡ drop inner rest =
    ap (λ (n : ℕ). drop n (spelling ++ rest)) moved ∙ sym (drop-drop inner (length spelling) (spelling ++ rest))
    ∙ ap (drop inner) (drop_at spelling rest (length spelling) refl) in
    record {
      behind = omega arith;
      small = start.small;
      starts = record {
        skipped = suc start.starts.skipped;
        few = omega arith;
        within = omega (arith, length-append spelling rest);
        are =
            ap (all_behind []) dropped ∙ start.starts.are;
      };
    }

first : (distance number at : ℕ) (before : List ℕ) (row : BlockRow) (rows : List BlockRow) → (number % distance == 0) ≡ true
    → IsRun distance number at before (row ∷ rows)
    → IsStart distance number at before (row ∷ rows) at
first distance number at before row rows is run =
    let none : at - at ≡ 0 = omega arith in
    record {
      behind = omega arith;
      small = run.0.room;
      starts = record {
        skipped = 0;
        few = omega arith;
        within = omega arith;
        are = ap (λ (n : ℕ). all_behind [] (drop n (entries_from distance number before (row ∷ rows)))) none
            ∙ alone distance number at before row rows is run;
      };
    }

first_or_later : (distance number at : ℕ) (before : List ℕ) (row : BlockRow) (rows : List BlockRow) (others : List ℕ) (n : ℕ)
    → IsRun distance number at before (row ∷ rows)
    → ((k : ℕ) → k < length others → IsStart distance number at before (row ∷ rows) (get_or others k 0))
    → ((number % distance == 0) ≡ true) ⊎ ((number % distance == 0) ≡ false)
    → n < length (if number % distance == 0 then at ∷ others else others)
    → IsStart distance number at before (row ∷ rows) (get_or (if number % distance == 0 then at ∷ others else others) n 0)
first_or_later distance number at before row rows others zero run rest (inl is) within =
    rw is (first distance number at before row rows is run)
first_or_later distance number at before row rows others (suc n) run rest (inl is) within =
    rw is (rest n (omega (arith, rw is at within)))
first_or_later distance number at before row rows others n run rest (inr other) within = rw other (rest n (rw other at within))

pub starts : (distance number at : ℕ) (before : List ℕ) (rows : List BlockRow) (n : ℕ) → IsRun distance number at before rows
    → n < length (restarts_from distance number at before rows)
    → IsStart distance number at before rows (get_or (restarts_from distance number at before rows) n 0)
unfolding restarts_from
starts distance number at before [] n run within = absurd (omega arith)
starts distance number at before (row ∷ rows) n run within =
    let next = at + length (entry_spelling (shared_at distance number before row.key) row) in
    let others = restarts_from distance (number + 1) next row.key rows in
    let rest = (λ (k : ℕ) (h : k < length others). later distance number at before row rows (get_or others k 0)
    (starts distance (number + 1) next row.key rows k run.1 h)) in
    first_or_later distance number at before row rows others n run rest (cases_Bool (number % distance == 0)) within

-- ---- in bytes

be32_at : (xs : List ℕ) (n : ℕ) → n < length xs → get_or xs n 0 < 2 ^ 32
    → number_of (take 4 (drop (4 * n) (flat_map be32 xs))) ≡ get_or xs n 0
be32_at [] n within small = absurd (omega arith)
be32_at (x ∷ xs) zero within small =
    ap number_of (take_at (be32 x) (flat_map be32 xs) 4 (length-be32 x)) ∙ number_of-be32 x small
be32_at (x ∷ xs) (suc n) within small =
    let four = length-be32 x in
    let more : 4 * suc n ≡ length (be32 x) + 4 * n = omega arith in
    let dropped : drop (4 * suc n) (be32 x ++ flat_map be32 xs) ≡ drop (4 * n) (flat_map be32 xs) =
    ap (λ (k : ℕ). drop k (be32 x ++ flat_map be32 xs)) more ∙ sym (drop-drop (4 * n) (length (be32 x)) (be32 x ++ flat_map be32 xs))
    ∙ ap (drop (4 * n)) (drop_at (be32 x) (flat_map be32 xs) (length (be32 x)) refl) in
    ap (λ (t : List ℕ). number_of (take 4 t)) dropped ∙ be32_at xs n (omega arith) small

pub held_start : (distance : ℕ) (front others : List ℕ) (n : ℕ) → IsHeld distance front others → 4 * n + 4 ≤ length others
    → StartsRows front (all_behind [] front) (number_of (take 4 (drop (4 * n) others)))
held_start distance front others n held within =
    let rows = all_behind [] front in
    let run = block_run distance rows held.block in
    let sizes : length others ≡ 4 * length (restarts distance rows) = ap length held.are_restarts ∙ length-be32s (restarts distance rows) in
    let start = starts distance 0 0 [] rows n run (omega arith) in
    let place = get_or (restarts distance rows) n 0 in
    let small = start.small in
    let read : number_of (take 4 (drop (4 * n) others)) ≡ place = ap (λ (t : List ℕ). number_of (take 4 (drop (4 * n) t))) held.are_restarts
    ∙ be32_at (restarts distance rows) n (omega arith) (omega arith) in
    let none : place - 0 ≡ place = omega arith in
    subst (λ (k : ℕ). StartsRows front rows k) (none ∙ sym read)
    (subst (λ (t : List ℕ). StartsRows t rows (place - 0)) (sym held.are_entries) start.starts)

abbrev no_bytes : List ℕ
no_bytes = []

take_nil : (n : ℕ) → take n [] ≡ no_bytes
take_nil zero = refl
take_nil (suc n) = refl

pub passes : (distance : ℕ) (front others prefix suffix rest : List ℕ) (place : ℕ) (entry : Entry) → IsHeld distance front others
    → StartsRows front (all_behind [] front) place
    → entry_at 0 (drop place front) ≡ Some (entry, rest) → is_before prefix suffix entry.unshared ≡ true
    → PassesOver front prefix suffix place
passes distance front others prefix suffix rest place entry held start read below =
    let rows = all_behind [] front in
    let row = row_behind [] entry in
    let first : all_behind [] (drop place front) ≡ row ∷ all_behind (key_behind [] entry) rest =
    rows-first [] (drop place front) entry rest read in
    let is_key : row.key ≡ entry.unshared = ap (λ (t : List ℕ). t ++ entry.unshared) (take_nil entry.shared) in
    let is_below : is_before prefix suffix row.key ≡ true = ap (is_before prefix suffix) is_key ∙ below in
    record {
      within = start.within;
      same = ap (λ (r : List BlockRow). rows_from r prefix suffix) start.are
          ∙ passed rows start.skipped row (all_behind (key_behind [] entry) rest) prefix suffix held.block.rise (sym start.are ∙ first)
          is_below;
    }

pub passes_none : (front prefix suffix : List ℕ) → PassesOver front prefix suffix 0
passes_none front prefix suffix = record { within = omega arith; same = refl }
