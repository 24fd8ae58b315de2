-- What is found of a key, and that the rows' values are within their limit.
use Rattle.std.proofs.Common.{◌≡◌, ℕ, ◌<◌, List, [], ◌∷◌, length, get_or, sym, ap, ◌∙◌, arith}
use Rattle.std.specs.Prelude.{Some, None, All}
use Rattle.std.proofs.lemmas.List.Elements.{All-cons, All-head, All-tail, All-nil}
use Rattle.pb_memtable.specs.Search.{IsPlaceOf, IsRowPlace, change_at, row_of_change, rows_at}
use Rattle.pb_memtable.proofs.SearchLaws.{row_at_place, length-rows_at}
use Rattle.pb_rows.specs.Layer.{KeyRow, Rise}
use Rattle.pb_rows.specs.Layer.{IsShortRow}
use Rattle.pb_rows.specs.Verdict.{row_verdict}
use Rattle.pb_rows.proofs.LookLaws.{row_found, row_missing}
use Rattle.pb_wal.specs.Changes.{HasShortValue}
use Rattle.pb_wal.specs.declared.entry.Change.{Change}
use Rattle.pb_wal.specs.declared.entry.Change.TheVariants.{Set, Del, DelRange}

pub found_row : (changes : List Change) (places : List ℕ) (key : List ℕ) (at : ℕ) → IsPlaceOf key (rows_at changes places) at → at < length places → (row_of_change (change_at changes (get_or places at 0))).key ≡ key → Some (row_of_change (change_at changes (get_or places at 0))).value ≡ row_verdict (rows_at changes places) key
found_row changes places key at place within same =
    let d = row_of_change (change_at changes (get_or places at 0)) in
    let row_is = row_at_place changes places at d within in
    let rows_within : at < length (rows_at changes places) = omega (arith, length-rows_at changes places) in
    sym (row_found (rows_at changes places) key at d place.parted rows_within (ap (λ (r : KeyRow). r.key) row_is ∙ same) ∙ ap (λ (r : KeyRow). Some r.value) row_is)

pub missing_row : (changes : List Change) (places : List ℕ) (key : List ℕ) (at : ℕ) → Rise (rows_at changes places) → IsPlaceOf key (rows_at changes places) at → (at < length places → (row_of_change (change_at changes (get_or places at 0))).key ≡ key → ⊥) → None ≡ row_verdict (rows_at changes places) key
missing_row changes places key at rise place other =
    let d = row_of_change (change_at changes (get_or places at 0)) in
    sym (row_missing (rows_at changes places) key at d rise place.parted (λ h same.
    let within : at < length places = omega (arith, length-rows_at changes places) in
    other within (sym (ap (λ (r : KeyRow). r.key) (row_at_place changes places at d within)) ∙ same)))

row_short : (change : Change) → HasShortValue change → IsShortRow (row_of_change change)
row_short (Set key value) short = short
row_short (Del key) short = tt
row_short (DelRange span) short = tt

pub rows_short : (changes : List Change) (places : List ℕ) → All HasShortValue changes → All (IsRowPlace changes) places → All IsShortRow (rows_at changes places)
rows_short changes [] short are = All-nil IsShortRow
rows_short changes (place ∷ places) short are =
    All-cons IsShortRow (row_of_change (change_at changes place)) (rows_at changes places) (row_short (change_at changes place) (short place (Del []) (All-head (IsRowPlace changes) place places are).within))
    (rows_short changes places short (All-tail (IsRowPlace changes) place places are))
