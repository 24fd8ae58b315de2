-- The calls of a memory device: how many were made, and which of them fail.
use Rattle.std.specs.Prelude.{◌≡◌, ℕ, ◌+◌, ◌-◌, ◌^◌, ◌<◌, ◌⊎◌, ◌↔◌, ◌==◌, min, List, if◌then◌else◌, IsTrue, Bool, Result, Err, IsErr}
use Rattle.std.specs.Prelude.{refl}
use Rattle.std.specs.Coded.{Coded, code_by, coded×, coded_list, coded_ℕ}
use Rattle.std.specs.List.{list_any}
use Rattle.pb_devices.specs.Counts.{one_more, Rose}
use Rattle.pb_devices.specs.declared.fault.Failed.{Failed}
use Rattle.pb_devices.specs.declared.fault.ListError.{ListError}
use Rattle.pb_devices.specs.declared.fault.ListError.TheVariants as list_error

pub record CallCounts : Type 0 where
  -- the numbers of the calls that are to fail, counted from 1
  pub fail : List ℕ
  -- how many calls were made
  pub made : ℕ
  -- how many of them were listed
  pub failed : ℕ
  -- in how many of them the device found no memory for itself
  pub wants : ℕ

-- no call was made yet
abbrev pub no_calls : List ℕ → CallCounts
no_calls fail = record { fail = fail; made = 0; failed = 0; wants = 0 }

-- the number of the next call is listed
abbrev pub is_listed : CallCounts → Bool
is_listed calls = list_any (λ n. n == one_more calls.made) calls.fail

abbrev pub IsListed : CallCounts → Type 0
IsListed calls = IsTrue (is_listed calls)

-- the counts once the next call is made
abbrev pub with_call : CallCounts → CallCounts
with_call calls = record calls {
  made = one_more calls.made;
  failed = if is_listed calls then one_more calls.failed else calls.failed;
}

-- the counts once the device has found no memory for itself
abbrev pub with_want : CallCounts → CallCounts
with_want calls = record calls { wants = one_more calls.wants }

-- how often a call has failed
abbrev pub faults_of : CallCounts → ℕ
faults_of calls = min (calls.failed + calls.wants) (2 ^ 64 - 1)

-- a call is counted, and fails exactly where its number is listed or the device found no memory for itself in it
pub record FailsExactly {T : Type 0} (before now : CallCounts) (result : Result T Failed) : Type 0 where
  pub counted : (now ≡ with_call before) ⊎ (now ≡ with_want (with_call before))
  pub only : IsErr result → IsListed before ⊎ Rose before.wants now.wants
  pub listed : IsListed before → IsErr result
  pub wanted : before.wants < now.wants → IsErr result

-- a list is counted, also where there is no memory for the names, and fails exactly where its number is listed
pub record ListsExactly {T : Type 0} (before now : CallCounts) (result : Result T ListError) : Type 0 where
  pub counted : now ≡ with_call before
  pub failed : (result ≡ Err list_error.Failed) ↔ IsListed before

abbrev pub calls_code : Coded CallCounts
calls_code = code_by (List ℕ × (ℕ × (ℕ × ℕ))) (coded× (coded_list coded_ℕ) (coded× coded_ℕ (coded× coded_ℕ coded_ℕ)))
    (λ c. (c.fail, (c.made, (c.failed, c.wants)))) (λ p. record { fail = p.0; made = p.1.0; failed = p.1.1.0; wants = p.1.1.1 }) (λ _. refl)

-- the counts go on with another list
abbrev pub with_list : CallCounts → List ℕ → CallCounts
with_list calls fail = record calls { fail = fail }
