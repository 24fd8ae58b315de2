-- What maps to a key, clashes and limits are, computed for small ones; and what they are not.
use Rattle.std.proofs.Common.{◌≡◌, ℕ, zero, suc, ◌+◌, ◌<◌, ◌≤◌, List, [], ◌∷◌, length, refl, ap, arith, get_or}
use Rattle.std.specs.Prelude.{Some, None}
use Rattle.pb_keys.specs.Span.{KeySpan}
use Rattle.pb_keys.specs.View.{KeyView}
use Rattle.pb_rows.specs.Layer.{KeyRow}
use Rattle.pb_synth.specs.KeyParts.{HasParts, IsMapped}
use Rattle.pb_synth.specs.Clash.{HasNoClash, IsFirstClash}

-- a row that deletes its key
abbrev row : List ℕ → KeyRow
row key = record { key = key; value = None }

abbrev view_of : KeySpan → List ℕ → List ℕ → KeyView
view_of bounds prefix suffix = record { bounds = bounds; prefix = prefix; suffix = suffix }

other : (m n : ℕ) → m < n → m ≡ n → ⊥
other m n below e = absurd (omega arith)

-- ---- parts

-- `b@3` has the prefix `b` and any suffix, and the prefix `b` and the suffix `@3`, and not `@7`
any_suffix : HasParts (record { prefix = 98 ∷ []; suffix = None }) (98 ∷ 64 ∷ 51 ∷ [])
any_suffix = record { prefix = refl; suffix = tt }

its_suffix : HasParts (record { prefix = 98 ∷ []; suffix = Some (64 ∷ 51 ∷ []) }) (98 ∷ 64 ∷ 51 ∷ [])
its_suffix = record { prefix = refl; suffix = refl }

no_other_suffix : HasParts (record { prefix = 98 ∷ []; suffix = Some (64 ∷ 55 ∷ []) }) (98 ∷ 64 ∷ 51 ∷ []) → ⊥
no_other_suffix has = other 51 55 (omega arith) (ap (λ (suffix : List ℕ). get_or suffix 1 0) has.suffix)

-- through the prefix `p` the key `a` becomes `pa`, and none becomes `p`
becomes : (bounds : KeySpan) → IsMapped (view_of bounds (112 ∷ []) []) (112 ∷ 97 ∷ [])
becomes bounds = record { from = 97 ∷ []; in_form = record { some = omega arith; within = omega arith; begins = λ e. absurd (omega arith) }; is = refl }

none_becomes : (bounds : KeySpan) → IsMapped (view_of bounds (112 ∷ []) []) (112 ∷ []) → ⊥
none_becomes bounds mapped =
    let some : 1 ≤ length mapped.from = mapped.in_form.some in
    let long : suc (length mapped.from) ≡ 1 = ap length mapped.is in
    absurd (omega arith)

-- ---- clashes

-- `b@4` has the prefix of the row before, and `b@3` behind `a` has not
clash : IsFirstClash (row (98 ∷ 64 ∷ 51 ∷ []) ∷ row (98 ∷ 64 ∷ 52 ∷ []) ∷ []) 1
clash = record { behind = omega arith; within = omega arith; before = λ k d h. absurd (omega arith); clashes = λ d. refl }

no_clash : HasNoClash (row (97 ∷ []) ∷ row (98 ∷ 64 ∷ 51 ∷ []) ∷ [])
no_clash zero d h same = other 97 98 (omega arith) (ap (λ (prefix : List ℕ). get_or prefix 0 0) same)
no_clash (suc k) d h same = absurd (omega arith)
