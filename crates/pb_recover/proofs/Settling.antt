-- Steps of an opening behind a barrier: what reads give is the one image before them.
use Rattle.std.proofs.Common.{◌≡◌, ◌<◌, ◌^◌, ℕ, zero, suc, List, Option, Some, None, inl, inr, sym, ap, ◌∙◌, subst, arith}
use Rattle.std.specs.Prelude.{◌⊎◌, IsSomeAnd}
use Rattle.std.proofs.lemmas.Bool.{cases_lt}
use Rattle.pb_devices.specs.Contents.{Contents, Folder, IsImage, IsSettled, KeptBut, MayLeave}
use Rattle.pb_devices.proofs.Images.{settled_image}
use Rattle.pb_names.specs.NumberedFile.{IsNumberedFile}
use Rattle.pb_names.specs.Spelling.{current_name, file_name}
use Rattle.pb_names.specs.declared.file_kind.FileKind.TheVariants.{Manifest}
use Rattle.pb_payloads.specs.Current.{Pointer, SaysCurrent}
use Rattle.pb_gate_log.specs.NewFolder.{IsNew}
use Rattle.pb_gate_log.specs.Payloads.{payloads}
use Rattle.pb_folder.specs.Said.{Says}
use Rattle.pb_manifest.specs.Found.{IsNamed, KeepsPayloads, KeepsPayloadsOf, KeepsUnnamed}
use Rattle.pb_manifest.proofs.Opening.{same_or}
use Rattle.pb_recover.specs.First.{first_said}
use Rattle.pb_recover.specs.Reopened.{IsFolderName, IsGateLog, IsSweptAt, Reopens}
use Rattle.pb_recover.specs.Reopened.IsSweptAt.{Same, Relisted}
use Rattle.pb_recover.proofs.Steps.{numbered_log}

-- ---- which names a manifest's opening may touch

module _ (name : List ℕ) (at : ℕ → List ℕ) where
  -- whether one of the first names is this one
  among_first : (bound : ℕ) → ((n : ℕ) × (n < bound) × (name ≡ at n)) ⊎ ((n : ℕ) → n < bound → name ≡ at n → ⊥)
  among_first zero = inr (λ n low e. absurd (omega (arith, low)))
  among_first (suc bound) = one_more bound (among_first bound) (same_or name (at bound))
    where
      one_more : (bound : ℕ) → ((n : ℕ) × (n < bound) × (name ≡ at n)) ⊎ ((n : ℕ) → n < bound → name ≡ at n → ⊥)
          → (name ≡ at bound) ⊎ (name ≡ at bound → ⊥)
          → ((n : ℕ) × (n < suc bound) × (name ≡ at n)) ⊎ ((n : ℕ) → n < suc bound → name ≡ at n → ⊥)
      one_more bound (inl found) last = inl (found.0, (let low = found.1 in omega (arith, low)), found.2)
      one_more bound (inr none) (inl e) = inl (bound, omega arith, e)
      one_more bound (inr none) (inr apart) =
          inr (λ n low e.
          elim (cases_lt n bound) [
            | inl lower ↦ none n lower e
            | inr least ↦ let same : n ≡ bound = omega (arith, low, least) in apart (e ∙ ap at same)
          ])

low_pointer : (file : Option (List ℕ)) (pointer : Pointer) → IsSomeAnd file (λ bytes. SaysCurrent (payloads bytes) pointer)
    → pointer.manifest < 2 ^ 62
low_pointer None pointer names = absurd names
low_pointer (Some bytes) pointer names = names.in_form.manifest

module _ (name : List ℕ) (folder : Folder) where
  manifest_log : (n : ℕ) → n < 2 ^ 62 → name ≡ file_name Manifest n → IsGateLog name
  manifest_log n low e = subst IsGateLog (sym e) (numbered_log Manifest n (λ same. cc) (omega (arith, low)))

  no_named : (name ≡ current_name → ⊥) → ((n : ℕ) → n < 2 ^ 62 → name ≡ file_name Manifest n → ⊥) → IsNamed name folder → ⊥
  no_named pointer none (inl e) = pointer e
  no_named pointer none (inr named) = none named.0.manifest (low_pointer (folder current_name) named.0 named.1) named.2

  by_kind : (name ≡ current_name) ⊎ (name ≡ current_name → ⊥)
      → ((n : ℕ) × (n < 2 ^ 62) × (name ≡ file_name Manifest n)) ⊎ ((n : ℕ) → n < 2 ^ 62 → name ≡ file_name Manifest n → ⊥)
      → IsGateLog name ⊎ (IsNamed name folder → ⊥)
  by_kind (inl e) found = inl (inl e)
  by_kind (inr pointer) (inl found) = inl (manifest_log found.0 found.1 found.2)
  by_kind (inr pointer) (inr none) = inr (no_named pointer none)

  -- a gate log's name, or one that a manifest's opening leaves alone
  log_or_untouched : IsGateLog name ⊎ (IsNamed name folder → ⊥)
  log_or_untouched = by_kind (same_or name current_name) (among_first name (file_name Manifest) (2 ^ 62))

-- ---- the steps

module _ (id : ℕ) (old new : Contents) (seen : IsImage old old.seen) (settled : (name : List ℕ) → IsSettled old name) where
  was : (name : List ℕ) (image : Option (List ℕ)) → MayLeave old name image → image ≡ old.seen name
  was name image left = settled_image old name image (settled name) left

  relisted : (folder : Folder) (name : List ℕ) → IsGateLog name → KeepsPayloadsOf (old.seen name) (folder name)
      → IsSweptAt id old.seen folder name
  relisted folder name log (inl same) = Same same
  relisted folder name log (inr both) = Relisted log (record { list = both.0; first = both.1; second = both.2 })

  opened_at : KeepsPayloads old new → KeepsUnnamed old new → (folder : Folder) → IsImage new folder → (name : List ℕ)
      → IsGateLog name ⊎ (IsNamed name old.seen → ⊥) → IsSweptAt id old.seen folder name
  opened_at keeps unnamed folder image name (inl log) = relisted folder name log (keeps name (folder name) (image name))
  opened_at keeps unnamed folder image name (inr untouched) =
      Same (was name (folder name) ((unnamed name untouched).images (folder name) (image name)))

  pub manifest_opened : KeepsPayloads old new → KeepsUnnamed old new → Reopens id old new
  manifest_opened keeps unnamed folder image =
      record {
        folder = old.seen;
        image = seen;
        left = inl (λ name. opened_at keeps unnamed folder image name (log_or_untouched name old.seen));
      }

  no_own : (name : List ℕ) → (name ≡ current_name → ⊥) → (IsNumberedFile name → ⊥) → IsFolderName name → ⊥
  no_own name pointer numbered (inl e) = pointer e
  no_own name pointer numbered (inr is) = numbered is

  pub store_made : IsNew old.seen → KeptBut (λ name. IsFolderName name) old new
      → ((folder : Folder) → IsImage new folder → IsNew folder ⊎ Says folder id first_said) → Reopens id old new
  store_made none keeps made folder image =
      record {
        folder = old.seen;
        image = seen;
        left =
            inr (record {
              new = none;
              others = λ name pointer numbered.
                  was name (folder name) ((keeps name (no_own name pointer numbered)).images (folder name) (image name));
              made = made folder image;
            });
      }
