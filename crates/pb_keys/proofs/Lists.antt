-- Small facts on lists that no library has.
use Rattle.std.proofs.Common.{◌≡◌, ℕ, ◌+◌, ◌-◌, ◌<◌, Bool, true, false, cond, List, [], ◌∷◌, length, get_or, drop, reverse, filter, refl, sym, ap, ◌∙◌, arith}
use Rattle.std.specs.List.{All, Contains}
use Rattle.std.specs.Prelude.{◌==◌}
use Rattle.std.proofs.lemmas.Bool.{false≢true}
use Rattle.std.proofs.lemmas.List.{drop_more, get_or-reverse, length-reverse}
use Rattle.std.proofs.lemmas.List.Elements.{All-head, All-tail}

-- ---- equal lists, of their first elements

pub head_of : {X : Type 0} (x y : X) (xs ys : List X) → x ∷ xs ≡ y ∷ ys → x ≡ y
head_of x y xs ys same = cc

pub tail_of : {X : Type 0} (x y : X) (xs ys : List X) → x ∷ xs ≡ y ∷ ys → xs ≡ ys
tail_of x y xs ys same = cc

-- ---- a loop over a list

-- the item that is read stands first among those that are left
pub item_first : {X : Type 0} (xs : List X) (i : ℕ) (x read : X) → i < length xs → x ≡ get_or xs i x → read ≡ x → drop i xs ≡ read ∷ drop (i + 1) xs
item_first xs i x read within is same = drop_more xs i x within ∙ ap (λ y. y ∷ drop (i + 1) xs) (sym (same ∙ is))

-- a list that was found not to be empty
pub filled : {X : Type 0} (xs : List X) (test : Bool) → test ≡ (length xs == 0) → test ≡ false → xs ≡ [] → ⊥
filled xs test is not none = false≢true (sym not ∙ is ∙ ap (λ ys. length ys == 0) none)

-- ---- a filter that takes all, or none

pub filter_all : {X : Type 0} (p : X → Bool) (xs : List X) → All (λ x. p x ≡ true) xs → filter p xs ≡ xs
filter_all p [] all = refl
filter_all p (x ∷ xs) all =
    (λ i. cond (All-head (λ y. p y ≡ true) x xs all i) (x ∷ filter p xs) (filter p xs))
    ∙ ap (λ ys. x ∷ ys) (filter_all p xs (All-tail (λ y. p y ≡ true) x xs all))

pub filter_none : {X : Type 0} (p : X → Bool) (xs : List X) → All (λ x. p x ≡ false) xs → filter p xs ≡ []
filter_none p [] all = refl
filter_none p (x ∷ xs) all =
    (λ i. cond (All-head (λ y. p y ≡ false) x xs all i) (x ∷ filter p xs) (filter p xs))
    ∙ filter_none p xs (All-tail (λ y. p y ≡ false) x xs all)

-- ---- what is in a list is in it from the last to the first

pub in_reverse : {X : Type 0} (xs : List X) (x : X) → Contains xs x → Contains (reverse xs) x
in_reverse xs x has =
    let k = has.0 in
    let within : k < length xs = has.1 in
    let long : length (reverse xs) ≡ length xs = length-reverse xs in
    let back : length xs - 1 - (length xs - 1 - k) ≡ k = omega arith in
    (length xs - 1 - k, omega arith, get_or-reverse xs (length xs - 1 - k) x (omega arith) ∙ ap (λ n. get_or xs n x) back ∙ has.2)
