-- What an opening finds and leaves.
use Rattle.std.proofs.Common.{◌≡◌, ◌≢◌, ◌<◌, ◌⊎◌, ◌^◌, ℕ, List, Bool, false, true, Option, Some, None, IsSome, IsSomeAnd, refl, sym, ap, subst, inl, inr, arith}
use Rattle.std.proofs.lemmas.Bool.{false≢true}
use Rattle.std.proofs.lemmas.Slice.Eq.{bytes_eq-Decides}
use Rattle.std.specs.Str.{bytes_eq}
use Rattle.std.specs.Bool.{Decides}
use Rattle.pb_devices.specs.Contents.{Contents, Folder, MayLeave, IsSettled}
use Rattle.pb_devices.proofs.Images.{settled_image}
use Rattle.pb_names.specs.Spelling.{current_name}
use Rattle.pb_payloads.specs.Current.{Pointer, SaysCurrent}
use Rattle.pb_payloads.proofs.CurrentLaws.{no_pointer, one_current}
use Rattle.pb_version.specs.Version.{VersionView}
use Rattle.pb_version.specs.SaysVersion.{SaysVersion}
use Rattle.pb_gate_log.specs.Payloads.{payloads}
use Rattle.pb_gate_log.proofs.FilePayloads.{both_read, such_in}
use Rattle.pb_gate_log.specs.NewFolder.{IsNew}
use Rattle.pb_manifest.specs.Manifest.{manifest_name}
use Rattle.pb_manifest.specs.Found.{HasVersion, IsDamagedAt, IsDamaged, KeepsPayloads, Names, KeepsPayloadsOf}
use Rattle.pb_manifest.specs.Steps.{OpensIfThere}
use Rattle.pb_manifest.proofs.Folders.{apart}
use Rattle.pb_version.proofs.SaysLaws.{one_version}

-- ---- one finding

pub new_names_none : (folder : Folder) (pointer : Pointer) → IsNew folder → Names pointer folder → ⊥
new_names_none folder pointer none names =
    no_pointer pointer
    (subst (λ (list : List (List ℕ)). SaysCurrent list pointer) none
    (such_in (folder current_name) (λ list. SaysCurrent list pointer) names))

absent_such : (file : Option (List ℕ)) (AreSuch : List (List ℕ) → Type 0) → file ≡ None
    → IsSomeAnd file (λ bytes. AreSuch (payloads bytes)) → ⊥
absent_such None AreSuch none such = absurd such
absent_such (Some bytes) AreSuch none such = cc

some_none : (file : Option (List ℕ)) → IsSome file → file ≡ None → ⊥
some_none None there none = absurd (false≢true there)
some_none (Some bytes) there none = cc

-- what may be opened isn't damaged
pub not_damaged_at : (number catalogue : ℕ) (version : VersionView) (folder : Folder) (file : List ℕ)
    → HasVersion number catalogue version folder → IsDamagedAt number catalogue folder file → ⊥
not_damaged_at number catalogue version folder file has amiss =
    elim amiss [
      | inl current ↦ elim current.1 [
        | inl lacking ↦ elim lacking [
          | inl none ↦ absent_such (folder (manifest_name number)) (λ list. SaysVersion list version) none has.says
          | inr none ↦ some_none _ has.there none
        ]
        | inr unreserved ↦
            let same =
            both_read (folder (manifest_name number)) (λ list. SaysVersion list version) (λ list. SaysVersion list unreserved.1.0)
            has.says unreserved.1.1
            (λ list one other. one_version list version unreserved.1.0 one other) in
            let own = has.own in
            let above = unreserved.1.2 in
            absurd (omega (arith, ap (λ (v : VersionView). v.five.next) same))
      ]
      | inr unfolded ↦ unfolded.1.1 version has.says
    ]

pub not_damaged : (folder : Folder) (pointer : Pointer) (version : VersionView) (file : List ℕ) → Names pointer folder
    → HasVersion pointer.manifest pointer.catalogue version folder → IsDamaged folder file → ⊥
not_damaged folder pointer version file names has damaged =
    elim damaged [
      | inl pointless ↦ pointless.1.1 pointer names
      | inr amiss ↦
          let same =
          both_read (folder current_name) (λ list. SaysCurrent list pointer) (λ list. SaysCurrent list amiss.0) names amiss.1
          (λ list one other. one_current list pointer amiss.0 one other) in
          not_damaged_at pointer.manifest pointer.catalogue version folder file has
          (subst (λ (p : Pointer). IsDamagedAt p.manifest p.catalogue folder file) (sym same) amiss.2)
    ]

-- ---- two logs, one after the other

-- whichever of the two names it is, or another
same_or_other : (test : Bool) (name one : List ℕ) → Decides test (name ≡ one) → (name ≡ one) ⊎ (name ≢ one)
same_or_other true name one decides = inl (decides.0 refl)
same_or_other false name one decides = inr (λ same. false≢true (decides.1 same))

pub same_or : (name one : List ℕ) → (name ≡ one) ⊎ (name ≢ one)
same_or name one = same_or_other (bytes_eq name one) name one (bytes_eq-Decides name one)

module _ (old mid : Contents) (settled : (name : List ℕ) → IsSettled old name)
    (opens : OpensIfThere current_name old mid) where
  pub first_kept : KeepsPayloads old mid
  first_kept name image left =
      elim (same_or name current_name) [
        | inl same ↦
            subst (λ (n : List ℕ). KeepsPayloadsOf (old.seen n) image) (sym same)
            (opens.crash image (subst (λ (n : List ℕ). MayLeave mid n image) same left))
        | inr other ↦ inl (settled_image old name image (settled name) ((opens.others name other).images image left))
      ]

  pub all_settled : IsSettled mid current_name → (name : List ℕ) → IsSettled mid name
  all_settled here name =
      elim (same_or name current_name) [
        | inl same ↦ subst (λ (n : List ℕ). IsSettled mid n) (sym same) here
        | inr other ↦ (opens.others name other).settled (settled name)
      ]

  -- and then the manifest's
  module _ (new : Contents) (number : ℕ) (low : number < 2 ^ 62) (then : OpensIfThere (manifest_name number) mid new) where
    pub both_keep : KeepsPayloads old new
    both_keep name image left =
        elim (same_or name (manifest_name number)) [
          | inl same ↦
              let seen : mid.seen (manifest_name number) ≡ old.seen (manifest_name number) =
              (opens.others (manifest_name number) (λ is. apart number low (sym is))).reads in
              subst (λ (n : List ℕ). KeepsPayloadsOf (old.seen n) image) (sym same)
              (subst (λ (file : Option (List ℕ)). KeepsPayloadsOf file image) seen
              (then.crash image (subst (λ (n : List ℕ). MayLeave new n image) same left)))
          | inr other ↦ first_kept name image ((then.others name other).images image left)
        ]

    pub both_settled : IsSettled mid current_name → IsSettled new (manifest_name number) → (name : List ℕ) → IsSettled new name
    both_settled first last name =
        elim (same_or name (manifest_name number)) [
          | inl same ↦ subst (λ (n : List ℕ). IsSettled new n) (sym same) last
          | inr other ↦ (then.others name other).settled (all_settled first name)
        ]
