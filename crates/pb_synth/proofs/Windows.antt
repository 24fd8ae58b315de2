-- What passes a test stands together: the list between two places.
use Rattle.std.proofs.Common.{◌≡◌, ℕ, zero, suc, ◌+◌, ◌<◌, ◌≤◌, List, [], ◌∷◌, length, get_or, take, drop, Bool, true, false, cond, refl, ap, ◌∙◌, arith}
use Rattle.std.specs.Prelude.{filter}

-- the elements from one place up to another pass, and no others
pub record IsWindow {X : Type 0} (test : X → Bool) (xs : List X) (from n : ℕ) : Type 0 where
  pub before : (k : ℕ) (d : X) → k < from → k < length xs → test (get_or xs k d) ≡ false
  pub between : (k : ℕ) (d : X) → from ≤ k → k < from + n → test (get_or xs k d) ≡ true
  pub behind : (k : ℕ) (d : X) → from + n ≤ k → k < length xs → test (get_or xs k d) ≡ false
  pub within : from + n ≤ length xs

pub filter_window : {X : Type 0} (test : X → Bool) (xs : List X) (from n : ℕ) → IsWindow test xs from n → filter test xs ≡ take n (drop from xs)
filter_window test [] zero zero is = refl
filter_window test [] zero (suc n) is = let none : 0 + suc n ≤ 0 = is.within in absurd (omega arith)
filter_window test [] (suc from) n is = let none : suc from + n ≤ 0 = is.within in absurd (omega arith)
filter_window test (x ∷ xs) zero zero is =
    ap (λ b. cond b (x ∷ filter test xs) (filter test xs)) (is.behind 0 x (omega arith) (omega arith))
    ∙ filter_window test xs zero zero (record {
      before = λ k d h _. absurd (omega arith);
      between = λ k d _ h. absurd (omega arith);
      behind = λ k d _ h. is.behind (suc k) d (omega arith) (omega arith);
      within = omega arith;
    })
filter_window test (x ∷ xs) zero (suc n) is =
    ap (λ b. cond b (x ∷ filter test xs) (filter test xs)) (is.between 0 x (omega arith) (omega arith))
    ∙ ap (λ r. x ∷ r) (filter_window test xs zero n (record {
      before = λ k d h _. absurd (omega arith);
      between = λ k d _ h. is.between (suc k) d (omega arith) (omega arith);
      behind = λ k d h inside. is.behind (suc k) d (omega arith) (omega arith);
      within = let fits : 0 + suc n ≤ suc (length xs) = is.within in omega arith;
    }))
filter_window test (x ∷ xs) (suc from) n is =
    ap (λ b. cond b (x ∷ filter test xs) (filter test xs)) (is.before 0 x (omega arith) (omega arith))
    ∙ filter_window test xs from n (record {
      before = λ k d h inside. is.before (suc k) d (omega arith) (omega arith);
      between = λ k d h below. is.between (suc k) d (omega arith) (omega arith);
      behind = λ k d h inside. is.behind (suc k) d (omega arith) (omega arith);
      within = let fits : suc from + n ≤ suc (length xs) = is.within in omega arith;
    })
