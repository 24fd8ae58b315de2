-- The sum of sizes, which stops at the greatest number of 64 bits, says as well when an output is full.
use Rattle.std.proofs.Common.{◌≡◌, ℕ, ◌+◌, ◌≤◌, ◌^◌, ◌-◌, List, [], ◌∷◌, ◌++◌, true, false, cond, sym, ap, ◌∙◌, append_assoc, arith, inl, inr}
use Rattle.std.specs.Prelude.{◌⊎◌, nat_le, min}
use Rattle.std.proofs.Math.Nat.{min-eq_left, min-eq_right}
use Rattle.std.proofs.lemmas.Bool.{cases_lt, le-leb}
use Rattle.pb_keys.specs.Key.{prefix_of}
use Rattle.pb_rows.specs.Layer.{KeyRow}
use Rattle.pb_compact.specs.Outputs.{full_output, is_point, row_size, points_behind}

-- both are one number, or both are full
abbrev pub SaysFull : ℕ → ℕ → Type 0
SaysFull sum exact = (sum ≡ exact) ⊎ ((full_output ≤ sum) × (full_output ≤ exact))

pub added : (sum exact size next : ℕ) → SaysFull sum exact → next ≡ min (sum + size) (2 ^ 64 - 1) → SaysFull next (exact + size)
added sum exact size next says is =
    elim (cases_lt (2 ^ 64 - 1) (sum + size)) [
      | inl over ↦
          let top : next ≡ 2 ^ 64 - 1 = is ∙ min-eq_right {n = 2 ^ 64 - 1} {m = sum + size} (omega arith) in
          elim says [
            | inl same ↦ inr (omega arith, omega arith)
            | inr full ↦ inr (omega arith, omega (arith, full.1))
          ]
      | inr fits ↦
          let whole : next ≡ sum + size = is ∙ min-eq_left {n = sum + size} {m = 2 ^ 64 - 1} fits in
          elim says [
            | inl same ↦ inl (whole ∙ ap (λ n. n + size) same)
            | inr full ↦ inr (omega (arith, full.0), omega (arith, full.1))
          ]
    ]

pub same_fullness : (sum exact : ℕ) → SaysFull sum exact → nat_le full_output sum ≡ nat_le full_output exact
same_fullness sum exact (inl same) = ap (nat_le full_output) same
same_fullness sum exact (inr full) = le-leb full_output sum full.0 ∙ sym (le-leb full_output exact full.1)

-- ---- one row more, at a point and elsewhere

pub at_point : (points more all : List (List ℕ)) (exact : ℕ) (last : List ℕ) (row : KeyRow) (rows : List KeyRow)
    → is_point exact last (prefix_of row.key) ≡ true
    → more ≡ points ++ prefix_of row.key ∷ [] → points ++ points_behind exact last (row ∷ rows) ≡ all
    → more ++ points_behind (row_size row) (prefix_of row.key) rows ≡ all
at_point points more all exact last row rows is add same =
    let prefix = prefix_of row.key in
    let cut = points_behind (row_size row) prefix rows in
    (λ i. add i ++ cut) ∙ append_assoc points (prefix ∷ []) cut
    ∙ ap (λ b. points ++ cond b (prefix ∷ cut) (points_behind (exact + row_size row) prefix rows)) (sym is) ∙ same

pub no_point : (points all : List (List ℕ)) (exact : ℕ) (last : List ℕ) (row : KeyRow) (rows : List KeyRow)
    → is_point exact last (prefix_of row.key) ≡ false
    → points ++ points_behind exact last (row ∷ rows) ≡ all → points ++ points_behind (exact + row_size row) (prefix_of row.key) rows ≡ all
no_point points all exact last row rows is same =
    let prefix = prefix_of row.key in
    ap (λ b. points ++ cond b (prefix ∷ points_behind (row_size row) prefix rows) (points_behind (exact + row_size row) prefix rows))
    (sym is) ∙ same
