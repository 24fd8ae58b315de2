-- The order of bytes: the first byte that differs decides, and else the shorter is less.
use Rattle.std.specs.Prelude.{ℕ, List, [], ◌∷◌, ◌++◌, Bool, not, IsTrue, if◌then◌else◌}
use Rattle.std.specs.declared.cmp.Ordering.{Ordering}
use Rattle.std.specs.Ordering.{nat_cmp, is_lt}
use Rattle.std.specs.Cmp.Lexicographic.{slice_cmp}

abbrev pub bytes_cmp : List ℕ → List ℕ → Ordering
bytes_cmp = slice_cmp nat_cmp

-- whether a is below b
abbrev pub is_below : List ℕ → List ℕ → Bool
is_below a b = is_lt (bytes_cmp a b)

-- whether a is below b or equal to it
abbrev pub is_upto : List ℕ → List ℕ → Bool
is_upto a b = not (is_below b a)

-- the end is above p, and nothing below the end is above p
pub record LeastAbove (p end : List ℕ) : Type 0 where
  pub above : IsTrue (is_below p end)
  pub least : (q : List ℕ) → IsTrue (is_below q end) → IsTrue (is_upto q p)

-- p followed by one zero byte
abbrev pub end_above : List ℕ → List ℕ
end_above p = p ++ 0 ∷ []

abbrev pub lesser : List ℕ → List ℕ → List ℕ
lesser a b = if is_below b a then b else a

abbrev pub greater : List ℕ → List ℕ → List ℕ
greater a b = if is_below a b then b else a
