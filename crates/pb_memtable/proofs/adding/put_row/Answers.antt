use Rattle.std.proofs.Common.{◌≡◌, ℕ, ◌<◌, ◌++◌, ◌∷◌, [], List, length, get_or, true, false, cond, sym, ap, ◌∙◌, subst, arith}
use Rattle.std.specs.Prelude.{All}
use Rattle.std.specs.List.{insert}
use Rattle.pb_memtable.proofs.Bits.{true_is_not_false}
use Rattle.pb_memtable.specs.Search.{IsPlaceOf, IsRowPlace, change_at, row_of_change, rows_at}
use Rattle.pb_memtable.proofs.Placing.{with_row-inserted, with_row-set, rows-inserted, rows-set, places-inserted}
use Rattle.pb_memtable.proofs.SearchLaws.{row_at_place, length-rows_at}
use Rattle.pb_rows.specs.Layer.{KeyRow}
use Rattle.pb_memtable.proofs.adding.put_row.Goals as goal

pub returns-then-is_at-clause-rows : goal.returns-then-is_at-clause-rows
returns-then-is_at-clause-rows c =
    let changes = c.args.changes.now in let places = c.args.places.now.items in
    let at = c.place_of-at.result in
    let rows = rows_at changes places in
    let place : IsPlaceOf c.args.key.now rows at = subst (λ (ps : List ℕ). IsPlaceOf c.args.key.now (rows_at changes ps) at) c.as_slice.ensures.value (c.place_of-at.ensures c.args.key.now c.prefix.ensures.value c.suffix.ensures) in
    let slice = c.as_slice-2.ensures.value in
    let within : at < length places = subst (λ (ps : List ℕ). at < length ps) slice (c.is_at.ensures.within c.if-is_at.true) in
    let rows_within : at < length rows = omega (arith, length-rows_at changes places) in
    let found : (row_of_change (change_at changes (get_or places at 0))).key ≡ c.args.key.now =
    subst (λ (ps : List ℕ). (row_of_change (change_at changes (get_or ps at 0))).key ≡ c.args.key.now) slice (c.is_at.ensures.key c.if-is_at.true) in
    λ change key_is.
    let row = row_of_change change in
    let same : (get_or rows at row).key ≡ row.key = ap (λ (r : KeyRow). r.key) (row_at_place changes places at row within) ∙ found ∙ sym key_is in
    rows-set changes change places at c.requires.places within
    ∙ sym (with_row-set row rows at row (subst (λ key. IsPlaceOf key rows at) (sym key_is) place) rows_within same)

pub returns-else-is_at-clause-places : goal.returns-else-is_at-clause-places
returns-else-is_at-clause-places c =
    let changes = c.args.changes.now in let places = c.args.places.now.items in
    let at = c.place_of-at.result in
    let items : c.insert.new.self.items ≡ insert places at (length changes) = c.insert.ensures.items ∙ ap (λ b. cond b (insert places at (length changes)) places) (c.insert.ensures.succeeds c.requires.fits) in
    λ change is. subst (All (IsRowPlace (changes ++ change ∷ []))) (sym items) (places-inserted changes change places at is c.requires.places)

pub returns-else-is_at-clause-rows : goal.returns-else-is_at-clause-rows
returns-else-is_at-clause-rows c =
    let changes = c.args.changes.now in let places = c.args.places.now.items in
    let at = c.place_of-at.result in
    let rows = rows_at changes places in
    let items : c.insert.new.self.items ≡ insert places at (length changes) = c.insert.ensures.items ∙ ap (λ b. cond b (insert places at (length changes)) places) (c.insert.ensures.succeeds c.requires.fits) in
    let place : IsPlaceOf c.args.key.now rows at = subst (λ (ps : List ℕ). IsPlaceOf c.args.key.now (rows_at changes ps) at) c.as_slice.ensures.value (c.place_of-at.ensures c.args.key.now c.prefix.ensures.value c.suffix.ensures) in
    let slice = c.as_slice-2.ensures.value in
    λ change key_is.
    let row = row_of_change change in
    let other = λ (h : at < length rows) (same : (get_or rows at row).key ≡ row.key).
    let within : at < length places = omega (arith, length-rows_at changes places) in
    let found : (row_of_change (change_at changes (get_or places at 0))).key ≡ c.args.key.now = ap (λ (r : KeyRow). r.key) (sym (row_at_place changes places at row within)) ∙ same ∙ key_is in
    let yes : c.is_at.result ≡ true = c.is_at.ensures.other (subst (λ (ps : List ℕ). at < length ps) (sym slice) within)
    (subst (λ (ps : List ℕ). (row_of_change (change_at changes (get_or ps at 0))).key ≡ c.args.key.now) (sym slice) found) in
    let no : c.is_at.result ≡ false = c.if-is_at.false in
    true_is_not_false (sym yes ∙ no) in
    ap (rows_at (changes ++ change ∷ [])) items ∙ rows-inserted changes change places at c.requires.places
    ∙ sym (with_row-inserted row rows at row c.requires.rise (subst (λ key. IsPlaceOf key rows at) (sym key_is) place) other)
