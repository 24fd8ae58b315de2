-- Lists that are read item by item.
use Rattle.std.proofs.Common.{◌≡◌, ℕ, ◌+◌, ◌<◌, ◌≤◌, List, [], ◌∷◌, ◌++◌, map, length, get_or, take, arith, Bool, false, refl, sym, ap, ◌∙◌, subst}
use Rattle.std.proofs.lemmas.Grind.{take_at_read}
use Rattle.std.proofs.lemmas.List.{map-append}
use Rattle.std.proofs.lemmas.List.Elements.{All-push}
use Rattle.std.proofs.lemmas.Bool.{eqb-true, false≢true}
use Rattle.std.specs.List.{All, flat_map}
use Rattle.std.specs.Prelude.{◌==◌, ◌↔◌, IsTrue}

pub flat_map-map : {X Y Z : Type 0} (f : Y → List Z) (g : X → Y) (xs : List X) → flat_map f (map g xs) ≡ flat_map (λ x. f (g x)) xs
flat_map-map f g [] = refl
flat_map-map f g (x ∷ xs) = ap (λ zs. f (g x) ++ zs) (flat_map-map f g xs)

-- ---- items that were made of those so far

pub map_next : {X Y : Type 0} (f : X → Y) (xs : List X) (i : ℕ) (x : X) (made : List Y) (y : Y) → i < length xs → x ≡ get_or xs i x → made ≡ map f (take i xs)
    → y ≡ f x → made ++ y ∷ [] ≡ map f (take (i + 1) xs)
map_next f xs i x made y within is so_far same =
    (λ j. so_far j ++ (same ∙ ap f is) j ∷ [])
    ∙ sym (map-append f (take i xs) (get_or xs i x ∷ []))
    ∙ ap (map f) (sym (take_at_read xs i x within).1)

pub All_next : {X : Type 0} (P : X → Type 0) (xs : List X) (i : ℕ) (x : X) → i < length xs → x ≡ get_or xs i x → All P (take i xs) → P x → All P (take (i + 1) xs)
All_next P xs i x within is so_far has =
    subst (All P) (sym (take_at_read xs i x within).1) (All-push P (take i xs) (get_or xs i x) so_far (subst P is has))

pub All_at : {X : Type 0} (P : X → Type 0) (xs : List X) (i : ℕ) (x : X) → i < length xs → x ≡ get_or xs i x → All P xs → P x
All_at P xs i x within is all = subst P (sym is) (all i x within)

pub only_one : {X : Type 0} (xs : List X) (x : X) → 1 ≤ length xs → length xs < 2 → x ≡ get_or xs 0 x → xs ≡ x ∷ []
only_one [] x some few is = absurd (omega (arith, some))
only_one (y ∷ []) x some few is = ap (λ z. z ∷ []) (sym is)
only_one (y ∷ z ∷ ys) x some few is = absurd (omega (arith, few))

-- a vector that was found not to be empty
pub filled_vec : {X : Type 0} (xs seen : List X) (len : ℕ) → seen ≡ xs → length seen ≡ len → false ≡ (len == 0) → xs ≡ [] → ⊥
filled_vec xs seen len same lens not none = false≢true (not ∙ ap (λ n. n == 0) (sym lens ∙ ap length (same ∙ none)))

pub empty_iff : {X : Type 0} (xs : List X) (test : Bool) → test ≡ (length xs == 0) → IsTrue test ↔ (xs ≡ [])
empty_iff [] test is = (λ _. refl, λ _. is)
empty_iff (x ∷ xs) test is = (λ yes. absurd (omega (arith, eqb-true (length (x ∷ xs)) 0 (sym is ∙ yes))), λ none. cc)
