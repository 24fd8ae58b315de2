-- What a bucket in memory holds.
use Rattle.std.specs.Prelude.{◌≡◌, ◌⊎◌, ◌%◌, ◌==◌, if◌then◌else◌, refl}
use Rattle.std.specs.FinMap as finite
use Rattle.std.specs.Coded.{Coded, code_by, coded×, coded_list, coded_ℕ}
use Rattle.pb_devices.specs.Objects.{Objects}
use Rattle.pb_mem.specs.Calls.{CallCounts, with_call, with_want, calls_code}

pub record BucketView : Type 0 where
  -- the bytes of each object under its name
  pub objects : Objects
  pub calls : CallCounts

abbrev pub bucket_code : Coded BucketView
bucket_code = code_by (Objects × CallCounts) (coded× (finite.code (coded_list coded_ℕ) (coded_list coded_ℕ)) calls_code)
    (λ b. (b.objects, b.calls)) (λ p. record { objects = p.0; calls = p.1 }) (λ _. refl)

-- of a call that failed: one that is listed has happened exactly where its number is even, one that found no memory hasn't
abbrev pub HappensIfEven : BucketView → BucketView → Objects → Type 0
HappensIfEven old new after =
    (new.calls ≡ with_call old.calls) × (new.objects ≡ (if new.calls.made % 2 == 0 then after else old.objects))
    ⊎ (new.calls ≡ with_want (with_call old.calls)) × (new.objects ≡ old.objects)
