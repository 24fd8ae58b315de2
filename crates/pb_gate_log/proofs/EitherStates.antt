-- What a call leaves that opens a log, or makes it where there is none.
use Rattle.std.proofs.Common.{◌≡◌, ℕ, true, List, [], Option, Some, None, IsSome, refl, sym, ap, ◌∙◌, subst, inl, inr}
use Rattle.std.specs.Option.{is_some}
use Rattle.std.specs.Result.{IfOk}
use Rattle.std.proofs.Common.{Result, Ok, Err}
use Rattle.std.proofs.lemmas.Bool.{false≢true}
use Rattle.pb_devices.specs.Contents.{Contents, IsSettled}
use Rattle.pb_devices.specs.DiskCalls.{Stays}
use Rattle.pb_devices.specs.Reads.{IsLength}
use Rattle.pb_devices.proofs.Images.{settled_image, stays_image, stays_settled}
use Rattle.pb_devices.proofs.Kept.{kept_then, stays_kept}
use Rattle.pb_gate_log.specs.Calls.{IsOpened, IsOpenedOrMade, Makes, Opens, OpensOrMakes}
use Rattle.pb_gate_log.specs.EachLog.{LogPlace, EachLog}
use Rattle.pb_gate_log.specs.Payloads.{HasList, payloads_in}
use Rattle.pb_gate_log.proofs.FilePayloads.{has_own, has_payloads}

-- what `len` tells
pub length_some : (found : Option ℕ) (file : Option (List ℕ)) → is_some found ≡ true → IsLength found file → IsSome file
length_some found None some is = absurd (false≢true (ap (is_some {T = ℕ}) (sym is) ∙ some))
length_some found (Some bytes) some is = refl

pub length_none : (found : Option ℕ) (file : Option (List ℕ)) → (is_some found ≡ true → ⊥) → IsLength found file → file ≡ None
length_none found None none is = refl
length_none found (Some bytes) none is = absurd (none (ap (is_some {T = ℕ}) is))

pub if_ok-map : {T E : Type 0} (result : Result T E) (P Q : T → Type 0) → ((value : T) → P value → Q value) → IfOk result P → IfOk result Q
if_ok-map (Ok value) P Q more is = more value is
if_ok-map (Err error) P Q more is = tt

module _ (file : List ℕ) (old mid : Contents) (settled : IsSettled old file) (stays : Stays old mid) where
  -- nothing but reads
  pub stays_either : OpensOrMakes file old mid
  stays_either = record {
    crash = λ image left. ap payloads_in (settled_image old file image settled (stays_image old mid file image (stays file) left));
    others = stays_kept old mid file stays;
  }

  pub makes_either : (new : Contents) → old.seen file ≡ None → Makes file mid new → OpensOrMakes file old new
  makes_either new none makes = record {
    crash = λ image left. elim (makes.crash image left) [
      | inl before ↦ ap payloads_in (settled_image old file image settled (stays_image old mid file image (stays file) before))
      | inr has ↦ has_payloads [] image has ∙ ap payloads_in (sym none)
    ];
    others = kept_then old mid new file (stays_kept old mid file stays) makes.others;
  }

  pub opens_either : (new : Contents) → IsSome (old.seen file) → Opens file mid new → OpensOrMakes file old new
  opens_either new there opens = record {
    crash = λ image left.
        has_payloads (payloads_in (old.seen file)) image
        (opens.crash (payloads_in (old.seen file)) (subst (λ (s : Option (List ℕ)). HasList (payloads_in (old.seen file)) s) (sym (stays file).seen) (has_own (old.seen file) there)) image left);
    others = kept_then old mid new file (stays_kept old mid file stays) opens.others;
  }

  pub is_opened_either : (list : List (List ℕ)) (log : LogPlace) (new : Contents) → IsOpened file list log mid new → IsOpenedOrMade file list log old new
  is_opened_either list log new opened = record {
    name = opened.name;
    had = sym (has_payloads list (mid.seen file) opened.had) ∙ ap payloads_in (stays file).seen;
    each = opened.each;
  }

  pub is_made_either : (log : LogPlace) (new : Contents) → log.file ≡ file → old.seen file ≡ None → EachLog log [] new → IsOpenedOrMade file [] log old new
  is_made_either log new named none each = record { name = named; had = ap payloads_in (sym none); each = each }

  pub settled_either : IsSettled mid file
  settled_either = stays_settled old mid file (stays file) settled
