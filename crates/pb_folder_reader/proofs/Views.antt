-- A layer seen through a view, row by row and span by span.
use Rattle.std.proofs.Common.{◌≡◌, ℕ, zero, suc, ◌<◌, Bool, true, false, List, [], ◌∷◌, map, length, get_or, refl, sym, ap, ◌∙◌, arith}
use Rattle.std.specs.Prelude.{◌||◌, ◌&&◌, not, nat_eq, filter}
use Rattle.std.specs.Cmp.Lexicographic.{pointwise, bytes_decides}
use Rattle.std.specs.List.{All, AllPairs, list_any}
use Rattle.std.proofs.lemmas.Bool.{and_parts, false≢true, not-true, or_parts}
use Rattle.pb_keys.specs.Key.{IsKey}
use Rattle.pb_keys.specs.Span.{KeySpan, IsSpan, holds_key}
use Rattle.pb_keys.specs.View.{KeyView}
use Rattle.pb_rows.specs.Viewed.{cut_to, MapsWithin, mapped_key, mapped_row, mapped_span, viewed}
use Rattle.pb_rows.specs.Layer.{KeyRow, KeyLayer, layer_of}
use Rattle.pb_folder_reader.specs.Shown.{are_own_keys}

pub viewed_is : (view : KeyView) (layer shown : KeyLayer) (dels : List KeySpan) (rows : List KeyRow) → dels ≡ map (mapped_span view) layer.dels → rows ≡ map (mapped_row view) layer.rows
    → shown.dels ≡ cut_to view.bounds dels → shown.rows ≡ filter (λ row. holds_key view.bounds row.key) rows → shown ≡ viewed view layer
unfolding viewed
viewed_is view layer shown dels rows mapped_dels mapped_rows cut held =
    let shown_dels = cut ∙ ap (cut_to view.bounds) mapped_dels in
    let shown_rows = held ∙ ap (filter (λ (row : KeyRow). holds_key view.bounds row.key)) mapped_rows in
    λ i. layer_of (shown_dels i) (shown_rows i)

-- ---- one element that passes a test

none_at : {X : Type 0} (test : X → Bool) (xs : List X) (j : ℕ) (d : X) → list_any test xs ≡ false → j < length xs → test (get_or xs j d) ≡ false
none_at test [] j d none within = absurd (omega arith)
none_at test (x ∷ xs) zero d none within = (or_parts (test x) (list_any test xs) none).0
none_at test (x ∷ xs) (suc j) d none within = none_at test xs j d (or_parts (test x) (list_any test xs) none).1 (omega arith)

none_of : {X : Type 0} (test : X → Bool) (xs : List X) → ((j : ℕ) (d : X) → j < length xs → test (get_or xs j d) ≡ true → ⊥) → list_any test xs ≡ false
none_of test [] none = refl
none_of test (x ∷ xs) none =
    elim (test x) as (λ b. test x ≡ b → (b || list_any test xs) ≡ false) [
      | true ↦ λ is. absurd (none 0 x (omega arith) is)
      | false ↦ λ is. none_of test xs (λ j d within. none (suc j) d (omega arith))
    ] refl

-- ---- keys of their own

abbrev OwnKeys : (KeyRow → KeyRow) → List KeyRow → Type 0
OwnKeys f rows = AllPairs (λ r s. ¬ ((f r).key ≡ (f s).key)) rows

list_any-map : {X Y : Type 0} (test : Y → Bool) (f : X → Y) (xs : List X) → list_any test (map f xs) ≡ list_any (λ x. test (f x)) xs
list_any-map test f [] = refl
list_any-map test f (x ∷ xs) = ap (λ b. test (f x) || b) (list_any-map test f xs)

module _ (f : KeyRow → KeyRow) where
  own_apart : (rows : List KeyRow) → are_own_keys (map f rows) ≡ true → OwnKeys f rows
  own_apart [] own i j d before within same = absurd (omega (arith, before, within))
  own_apart (row ∷ rows) own zero zero d before within same = absurd (omega (arith, before))
  own_apart (row ∷ rows) own zero (suc j) d before within same =
      let first = not-true _ (and_parts _ _ own).0 in
      let none = none_at (λ other. pointwise nat_eq (f other).key (f row).key) rows j d (sym (list_any-map (λ other. pointwise nat_eq other.key (f row).key) f rows) ∙ first) (omega (arith, within)) in
      false≢true (sym none ∙ (bytes_decides (f (get_or rows j d)).key (f row).key).1 (sym same))
  own_apart (row ∷ rows) own (suc i) zero d before within same = absurd (omega (arith, before))
  own_apart (row ∷ rows) own (suc i) (suc j) d before within same =
      own_apart rows (and_parts _ _ own).1 i j d (omega (arith, before)) (omega (arith, within)) same

  apart_own : (rows : List KeyRow) → OwnKeys f rows → are_own_keys (map f rows) ≡ true
  apart_own [] apart = refl
  apart_own (row ∷ rows) apart =
      let first : list_any (λ other. pointwise nat_eq other.key (f row).key) (map f rows) ≡ false =
      list_any-map (λ other. pointwise nat_eq other.key (f row).key) f rows
      ∙ none_of (λ other. pointwise nat_eq (f other).key (f row).key) rows
      (λ j d within is. apart 0 (suc j) d (omega arith) (omega (arith, within)) (sym ((bytes_decides (f (get_or rows j d)).key (f row).key).0 is))) in
      let rest = apart_own rows (λ i j d before within same. apart (suc i) (suc j) d (omega (arith, before)) (omega (arith, within)) same) in
      (λ i. not (first i) && rest i)

pub maps_within : (view : KeyView) (layer : KeyLayer) (rows : List KeyRow) → rows ≡ map (mapped_row view) layer.rows → All (λ row. IsKey (mapped_key view row.key)) layer.rows
    → All (λ span. IsSpan (mapped_span view span)) layer.dels → are_own_keys rows ≡ true → MapsWithin view layer
maps_within view layer rows mapped keys ends own = record {
  keys = keys;
  ends = ends;
  apart = own_apart (mapped_row view) layer.rows (sym (ap are_own_keys mapped) ∙ own);
}

pub own_within : (view : KeyView) (layer : KeyLayer) (rows : List KeyRow) → rows ≡ map (mapped_row view) layer.rows → MapsWithin view layer → are_own_keys rows ≡ true
own_within view layer rows mapped within = ap are_own_keys mapped ∙ apart_own (mapped_row view) layer.rows within.apart
