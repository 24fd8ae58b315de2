-- Lists that are spelled item by item.
use Rattle.std.proofs.Common.{◌≡◌, ℕ, List, [], ◌∷◌, map, refl}
use Rattle.std.specs.List.{All}
use Rattle.std.proofs.lemmas.List.Elements.{All-head, All-tail}

-- where each item has one spelling, so does a list of them
module _ {X : Type 0} (P : X → Type 0) (spelling : X → List ℕ) (one : (x y : X) → P x → P y → spelling x ≡ spelling y → x ≡ y) where
  pub one_list : (xs ys : List X) → All P xs → All P ys → map spelling xs ≡ map spelling ys → xs ≡ ys
  one_list [] [] xs_are ys_are same = refl
  one_list [] (y ∷ ys) xs_are ys_are same = cc
  one_list (x ∷ xs) [] xs_are ys_are same = cc
  one_list (x ∷ xs) (y ∷ ys) xs_are ys_are same =
      let first_spelling : spelling x ≡ spelling y = cc in
      let rest_spelling : map spelling xs ≡ map spelling ys = cc in
      let first = one x y (All-head P x xs xs_are) (All-head P y ys ys_are) first_spelling in
      let rest = one_list xs ys (All-tail P x xs xs_are) (All-tail P y ys ys_are) rest_spelling in
      cc
