-- What holds of each element of a list, and of parts of the list.
use Rattle.std.proofs.Common.{◌≡◌, List, [], ◌∷◌, ◌++◌, map, reverse, refl, sym, subst}
use Rattle.std.proofs.lemmas.List.{reverse-append}
use Rattle.std.specs.List.{All}
use Rattle.std.proofs.lemmas.List.Elements.{All-head, All-tail, All-nil, All-cons, All-append}

module _ {X : Type 0} (P : X → Type 0) where
  pub All-front : (xs ys : List X) → All P (xs ++ ys) → All P xs
  All-front [] ys all = All-nil P
  All-front (x ∷ xs) ys all = All-cons P x xs (All-head P x (xs ++ ys) all) (All-front xs ys (All-tail P x (xs ++ ys) all))

  pub All-back : (xs ys : List X) → All P (xs ++ ys) → All P ys
  All-back [] ys all = all
  All-back (x ∷ xs) ys all = All-back xs ys (All-tail P x (xs ++ ys) all)

  pub All-reverse : (xs : List X) → All P xs → All P (reverse xs)
  All-reverse [] all = all
  All-reverse (x ∷ xs) all =
      subst (All P) (sym (reverse-append (x ∷ []) xs))
      (All-append P (reverse xs) (x ∷ []) (All-reverse xs (All-tail P x xs all)) (All-cons P x [] (All-head P x xs all) (All-nil P)))

  pub All-of_map : {Y : Type 0} (f : Y → X) (ys : List Y) → All P (map f ys) → All (λ y. P (f y)) ys
  All-of_map f [] all = All-nil (λ y. P (f y))
  All-of_map f (y ∷ ys) all =
      All-cons (λ y. P (f y)) y ys (All-head P (f y) (map f ys) all) (All-of_map f ys (All-tail P (f y) (map f ys) all))

-- of what two predicates hold, a third does
pub All-both : {X : Type 0} (P Q R : X → Type 0) → ((x : X) → P x → Q x → R x) → (xs : List X) → All P xs → All Q xs → All R xs
All-both P Q R both [] p q = All-nil R
All-both P Q R both (x ∷ xs) p q =
    All-cons R x xs (both x (All-head P x xs p) (All-head Q x xs q)) (All-both P Q R both xs (All-tail P x xs p) (All-tail Q x xs q))

pub map_alike : {X Y : Type 0} (f g : X → Y) (xs : List X) → All (λ x. f x ≡ g x) xs → map f xs ≡ map g xs
map_alike f g [] same = refl
map_alike f g (x ∷ xs) same =
    let first : f x ≡ g x = All-head (λ x. f x ≡ g x) x xs same in
    let rest = map_alike f g xs (All-tail (λ x. f x ≡ g x) x xs same) in
    λ i. first i ∷ rest i
