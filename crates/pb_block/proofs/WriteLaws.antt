-- One row more behind others: its entry, its restart and its key.
use Rattle.std.proofs.Common.{◌≡◌, ℕ, ◌+◌, ◌*◌, ◌/◌, ◌%◌, ◌<◌, ◌≤◌, Bool, true, false, List, [], ◌∷◌, ◌++◌, length, Option, refl, sym, ap}
use Rattle.std.proofs.Common.{subst, ◌∙◌, append_assoc, length-append, arith}
use Rattle.std.specs.Prelude.{IfSome, ◌==◌, if◌then◌else◌}
use Rattle.std.specs.List.{flat_map}
use Rattle.std.specs.Ordering.{is_lt}
use Rattle.std.specs.declared.cmp.Ordering.TheVariants.{Less}
use Rattle.std.proofs.lemmas.List.{append-nil, length_push}
use Rattle.std.proofs.lemmas.List.Concat.{flat_map-append}
use Rattle.pb_bytes.specs.BigEndian.{be32}
use Rattle.pb_keys.specs.Key.{IsKey, key_cmp}
use Rattle.pb_keys.specs.Value.{IsValue}
use Rattle.pb_keys.proofs.OrderFacts.{less}
use Rattle.pb_block.specs.Blocks.{BlockRow, shared_at, entry_spelling, entries_from, entries, restarts_from, restarts, block_spelling}
use Rattle.pb_block.specs.Blocks.{IsBlock}
use Rattle.pb_block.specs.Reading.{rows_behind, all_behind}
use Rattle.pb_block.specs.Runs.{Stands, IsRun, last_key, IsBehind, MayBeAdded, IsWritten}
use Rattle.pb_block.proofs.Checks.{rows_again}
use Rattle.pb_block.proofs.BlockLaws.{above_nothing, run_block, few_restarts, length-be32s, few_rows}

-- ---- entries and restarts

more_none : (n : ℕ) → n + 0 ≡ n
more_none n = omega arith

entries_push : (distance number : ℕ) (before : List ℕ) (rows : List BlockRow) (row : BlockRow)
    → entries_from distance number before (rows ++ row ∷ [])
    ≡ entries_from distance number before rows ++ entry_spelling (shared_at distance (number + length rows) (last_key before rows) row.key)
    row
unfolding entries_from
entries_push distance number before [] row =
    append-nil (entry_spelling (shared_at distance number before row.key) row)
    ∙ ap (λ (n : ℕ). entry_spelling (shared_at distance n before row.key) row) (sym (more_none number))
entries_push distance number before (first ∷ rows) row =
    let spelling = entry_spelling (shared_at distance number before first.key) first in
    let others = entries_from distance (number + 1) first.key rows in
    let count : number + 1 + length rows ≡ number + length (first ∷ rows) = omega arith in
    ap (λ (t : List ℕ). spelling ++ t) (entries_push distance (number + 1) first.key rows row)
    ∙ ap (λ (n : ℕ). spelling ++ (others ++ entry_spelling (shared_at distance n (last_key first.key rows) row.key) row)) count
    ∙ sym (append_assoc spelling others
    (entry_spelling (shared_at distance (number + length (first ∷ rows)) (last_key first.key rows) row.key) row))

-- the restart of an entry, if it is one
abbrev restart : ℕ → ℕ → ℕ → List ℕ
restart distance number at = if number % distance == 0 then at ∷ [] else []

front_first : (is : Bool) (at : ℕ) (xs ys : List ℕ) → (if is then at ∷ (xs ++ ys) else (xs ++ ys)) ≡ (if is then at ∷ xs else xs) ++ ys
front_first true at xs ys = refl
front_first false at xs ys = refl

restarts_push : (distance number at : ℕ) (before : List ℕ) (rows : List BlockRow) (row : BlockRow)
    → restarts_from distance number at before (rows ++ row ∷ [])
    ≡ restarts_from distance number at before rows ++ restart distance (number + length rows)
    (at + length (entries_from distance number before rows))
unfolding restarts_from entries_from
restarts_push distance number at before [] row =
    let is_number = sym (more_none number) in
    let is_at = sym (more_none at) in
    (λ i. restart distance (is_number i) (is_at i))
restarts_push distance number at before (first ∷ rows) row =
    let spelling = entry_spelling (shared_at distance number before first.key) first in
    let behind = entries_from distance (number + 1) first.key rows in
    let others = restarts_from distance (number + 1) (at + length spelling) first.key rows in
    let count : number + 1 + length rows ≡ number + length (first ∷ rows) = omega arith in
    let place : at + length spelling + length behind ≡ at + length (spelling ++ behind) = omega (arith, length-append spelling behind) in
    let rest = restarts_push distance (number + 1) (at + length spelling) first.key rows row
    ∙ (λ i. others ++ restart distance (count i) (place i)) in
    ap (λ (xs : List ℕ). if number % distance == 0 then at ∷ xs else xs) rest
    ∙ front_first (number % distance == 0) at others (restart distance (number + length (first ∷ rows)) (at + length (spelling ++ behind)))

restart_bytes : (distance number at : ℕ) → flat_map be32 (restart distance number at) ≡ (if number % distance == 0 then be32 at else [])
restart_bytes distance number at = both (number % distance == 0)
  where
    both : (is : Bool) → flat_map be32 (if is then at ∷ [] else []) ≡ (if is then be32 at else [])
    both true = append-nil (be32 at)
    both false = refl

last_push : (before : List ℕ) (rows : List BlockRow) (row : BlockRow) → last_key before (rows ++ row ∷ []) ≡ row.key
last_push before [] row = refl
last_push before (first ∷ rows) row = last_push first.key rows row

run_push : (distance number at : ℕ) (before : List ℕ) (rows : List BlockRow) (row : BlockRow) → IsRun distance number at before rows
    → Stands (at + length (entries_from distance number before rows)) (last_key before rows) row
    → IsRun distance number at before (rows ++ row ∷ [])
unfolding entries_from
run_push distance number at before [] row run stands = (subst (λ (n : ℕ). Stands n before row) (more_none at) stands, tt)
run_push distance number at before (first ∷ rows) row run stands =
    let spelling = entry_spelling (shared_at distance number before first.key) first in
    let behind = entries_from distance (number + 1) first.key rows in
    let place : at + length (spelling ++ behind) ≡ at + length spelling + length behind = omega (arith, length-append spelling behind) in (
      run.0,
      run_push distance (number + 1) (at + length spelling) first.key rows row run.1
          (subst (λ (n : ℕ). Stands n (last_key first.key rows) row) place stands),
    )

-- ---- the key of the last row

pub behind_last : (rows : List BlockRow) (key : List ℕ) → IsKey key → IsBehind rows key → key_cmp (last_key [] rows) key ≡ Less
behind_last [] key is behind = above_nothing key is
behind_last (row ∷ rows) key is behind = behind

pub last_behind : (rows : List BlockRow) (key : List ℕ) → key_cmp (last_key [] rows) key ≡ Less → IsBehind rows key
last_behind [] key less = tt
last_behind (row ∷ rows) key less = less

-- ---- what a writer holds

pub written_none : (distance : ℕ) → 1 ≤ distance → IsWritten distance [] [] [] 0
unfolding rows_behind entries_from restarts_from
written_none distance some =
    record { distance_some = some; run = tt; are_entries = refl; are_restarts = refl; is_last = refl; is_count = refl }

pub none_written : all_behind [] [] ≡ []
unfolding rows_behind
none_written = refl

-- what it holds with a row more
pub record HoldsMore (distance : ℕ) (front others last : List ℕ) (count : ℕ) (rows : List BlockRow) (row : BlockRow) : Type 0 where
  pub written : IsWritten distance front others last count
  pub are : all_behind [] front ≡ rows ++ row ∷ []

pub written_push : (distance : ℕ) (front others last : List ℕ) (count : ℕ) (row : BlockRow) (new_front new_others : List ℕ)
    → IsWritten distance front others last count
    → MayBeAdded distance (all_behind [] front) row.key row.value → IsKey row.key
    → new_front ≡ front ++ entry_spelling (shared_at distance count last row.key) row
    → new_others ≡ others ++ (if count % distance == 0 then be32 (length front) else [])
    → HoldsMore distance new_front new_others row.key (count + 1) (all_behind [] front) row
written_push distance front others last count row new_front new_others written may key is_front is_others =
    let rows = all_behind [] front in
    let more = rows ++ row ∷ [] in
    let is_number : count ≡ 0 + length rows = omega (arith, written.is_count) in
    let stands : Stands (0 + length (entries distance rows)) (last_key [] rows) row =
    record { room = omega (arith, may.room); key = key; rises = behind_last rows row.key key may.behind; value = may.short } in
    let run = run_push distance 0 0 [] rows row written.run stands in
    let are_more : new_front ≡ entries distance more =
    is_front ∙ (λ i. written.are_entries i ++ entry_spelling (shared_at distance (is_number i) (written.is_last i) row.key) row)
    ∙ sym (entries_push distance 0 [] rows row) in
    let read : all_behind [] new_front ≡ more = ap (all_behind []) are_more ∙ rows_again distance 0 0 [] more run in
    let is_at : length front ≡ 0 + length (entries distance rows) = omega (arith, ap length written.are_entries) in
    let are_restarts : new_others ≡ flat_map be32 (restarts distance more) =
    is_others ∙ (λ i. written.are_restarts i ++ (if is_number i % distance == 0 then be32 (is_at i) else []))
    ∙ ap (λ (t : List ℕ). flat_map be32 (restarts distance rows) ++ t)
    (sym (restart_bytes distance (0 + length rows) (0 + length (entries distance rows))))
    ∙ sym (flat_map-append be32 (restarts distance rows) (restart distance (0 + length rows) (0 + length (entries distance rows))))
    ∙ ap (flat_map be32) (sym (restarts_push distance 0 0 [] rows row)) in
    let back = sym read in
    record {
      written = record {
        distance_some = written.distance_some;
        run = subst (λ (r : List BlockRow). IsRun distance 0 0 [] r) back run;
        are_entries = are_more ∙ ap (entries distance) back;
        are_restarts = are_restarts ∙ ap (λ (r : List BlockRow). flat_map be32 (restarts distance r)) back;
        is_last = sym (last_push [] rows row) ∙ ap (last_key []) back;
        is_count = omega (arith, written.is_count, length_push rows row, ap length back);
      };
      are = read;
    }

pub written_few : (distance : ℕ) (front others last : List ℕ) (count : ℕ) → IsWritten distance front others last count → count ≤ 1048576
written_few distance front others last count written = omega (arith, written.is_count, few_rows distance (all_behind [] front) written.run)

pub restarts_few : (distance : ℕ) (front others last : List ℕ) (count : ℕ) → IsWritten distance front others last count
    → length others ≤ 4194304
restarts_few distance front others last count written =
    omega (
      arith,
      ap length written.are_restarts,
      length-be32s (restarts distance (all_behind [] front)),
      few_restarts distance (all_behind [] front) written.run,
    )

pub finished : (distance : ℕ) (front others last : List ℕ) (count number : ℕ) (rows : List BlockRow) (bytes : List ℕ)
    → IsWritten distance front others last count → all_behind [] front ≡ rows
    → number ≡ length others / 4 → bytes ≡ front ++ others ++ be32 number → bytes ≡ block_spelling distance rows
finished distance front others last count number rows bytes written are is_number is =
    let same_rows = all_behind [] front in
    let sizes : length others ≡ 4 * length (restarts distance same_rows) = ap length written.are_restarts
    ∙ length-be32s (restarts distance same_rows) in
    let same : number ≡ length (restarts distance same_rows) = omega arith in
    is ∙ append_assoc front others (be32 number) ∙ (λ i. written.are_entries i ++ (written.are_restarts i ++ be32 (same i)))
    ∙ ap (block_spelling distance) are

pub finished_block : (distance : ℕ) (front others last : List ℕ) (count : ℕ) (rows : List BlockRow)
    → IsWritten distance front others last count → all_behind [] front ≡ rows → 1 ≤ length rows
    → IsBlock distance rows
finished_block distance front others last count rows written are some =
    subst (λ (r : List BlockRow). IsBlock distance r) are
    (run_block distance (all_behind [] front) (omega (arith, ap length are)) written.run)

-- ---- what may be added

pub may_room : (distance : ℕ) (front others last key : List ℕ) (count : ℕ) (rows : List BlockRow) (value : Option (List ℕ))
    → IsWritten distance front others last count → all_behind [] front ≡ rows
    → MayBeAdded distance rows key value → length front < 1048576
may_room distance front others last key count rows value written is may =
    let same : length front ≡ length (entries distance rows) = ap length (written.are_entries ∙ ap (entries distance) is) in
    omega (arith, may.room)

pub may_rise : (distance : ℕ) (front others last key : List ℕ) (count : ℕ) (rows : List BlockRow) (value : Option (List ℕ))
    → IsWritten distance front others last count → all_behind [] front ≡ rows
    → IsKey key → MayBeAdded distance rows key value → is_lt (key_cmp last key) ≡ true
may_rise distance front others last key count rows value written is is_key may =
    ap (λ (k : List ℕ). is_lt (key_cmp k key)) (written.is_last ∙ ap (last_key []) is) ∙ ap is_lt (behind_last rows key is_key may.behind)

pub may_be : (distance : ℕ) (front others last key : List ℕ) (count : ℕ) (rows : List BlockRow) (value : Option (List ℕ))
    → IsWritten distance front others last count → all_behind [] front ≡ rows
    → length front < 1048576 → is_lt (key_cmp last key) ≡ true → IfSome value IsValue → MayBeAdded distance rows key value
may_be distance front others last key count rows value written is room rises short =
    let same : length front ≡ length (entries distance rows) = ap length (written.are_entries ∙ ap (entries distance) is) in
    let above : key_cmp (last_key [] rows) key ≡ Less = ap (λ (k : List ℕ). key_cmp k key) (sym (written.is_last ∙ ap (last_key []) is))
    ∙ less (key_cmp last key) rises in
    record { room = omega arith; behind = last_behind rows key above; short = short }
