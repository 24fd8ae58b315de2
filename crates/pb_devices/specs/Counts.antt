-- Counts of calls and of faults. A count never falls, and stands still at the greatest number of 64 bits.
use Rattle.std.specs.Prelude.{◌≡◌, ℕ, ◌+◌, ◌-◌, ◌^◌, ◌≤◌, min, Result, IfErr}

-- one more, or as many where the count stands at its end
abbrev pub one_more : ℕ → ℕ
one_more n = min (n + 1) (2 ^ 64 - 1)

-- a count has risen, or stands at its end
abbrev pub Rose : ℕ → ℕ → Type 0
Rose before now = one_more before ≤ now

-- a call answers one of the device's errors only where the count of faults rose in it; else the count is as before
pub record HasCauseAs {T E : Type 0} (IsDevices : E → Type 0) (before now : ℕ) (result : Result T E) : Type 0 where
  pub later : before ≤ now
  pub failed : IfErr result (λ error. IsDevices error → Rose before now)
  pub calm : IfErr result (λ error. IsDevices error → ⊥) → now ≡ before

-- where each error is the device's
abbrev pub HasCause : {T E : Type 0} → ℕ → ℕ → Result T E → Type 0
HasCause before now result = HasCauseAs (λ _. Unit {0}) before now result
