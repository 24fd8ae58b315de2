-- What stands in the folder between the steps of a rotation.
use Rattle.std.proofs.Common.{◌≡◌, ℕ, ◌+◌, ◌<◌, ◌≤◌, ◌⊎◌, ◌^◌, List, [], ◌∷◌, ◌++◌, length, Option, Some, None, IsSomeAnd, refl, sym, ap, ◌∙◌, subst, inl, inr, arith}
use Rattle.pb_devices.specs.Contents.{Contents, Folder, MayLeave, IsImage, KeepsOthers}
use Rattle.pb_devices.proofs.Kept.{kept_but_more, kept_but_then}
use Rattle.pb_devices.proofs.Options.{some_of}
use Rattle.pb_gate_log.specs.EachLog.{LogPlace, EachLog}
use Rattle.pb_gate_log.specs.LogFile.{IsLogFile}
use Rattle.pb_gate_log.specs.Payloads.{HasList}
use Rattle.pb_edit.specs.Edit.{VersionEdit}
use Rattle.pb_edit.specs.Grammar.{edit_spelling}
use Rattle.pb_gate_log.proofs.LogLemmas.{log_payloads}
use Rattle.pb_gate_log.proofs.LogStates.{bytes_have, each_kept}
use Rattle.pb_names.specs.Spelling.{current_name}
use Rattle.pb_payloads.specs.Current.{IsPointer, pointer_spelling, pointer_to}
use Rattle.pb_payloads.proofs.CurrentLaws.{current_holds}
use Rattle.pb_version.specs.SaysVersion.{SaysVersion}
use Rattle.pb_version.specs.Version.{VersionView}
use Rattle.pb_manifest.specs.Manifest.{EachManifest, EachSays, ManifestView, manifest_name}
use Rattle.pb_manifest.specs.Rotation.{EachSaysBy, FirstIs, KeepsAllButManifests, SaysOne}
use Rattle.pb_manifest.specs.Steps.{IsLogOf}
use Rattle.pb_manifest.proofs.Creating.{still_log}
use Rattle.pb_manifest.proofs.Folders.{apart, each_has_at, has_such, each_says, manifest_kept, says_of}

-- ---- names

no_file : (file : Option (List ℕ)) (Is : List ℕ → Type 0) → file ≡ None → IsSomeAnd file Is → ⊥
no_file None Is none is = absurd is
no_file (Some bytes) Is none is = cc

-- a number whose manifest isn't there is another than the manifest's own
pub other_number : (manifest : ManifestView) (version : VersionView) (disk : Contents) (number : ℕ) → EachManifest manifest version disk
    → disk.seen (manifest_name number) ≡ None → manifest_name manifest.number ≡ manifest_name number → ⊥
other_number manifest version disk number each unmade same =
    no_file (disk.seen manifest.log.file) (IsLogFile manifest.log.gate each.edits) (ap disk.seen (each.log_file ∙ same) ∙ unmade) each.log.seen

module _ (old new : Contents) (one other : ℕ) where
  pub current_alone : KeepsOthers old new current_name → KeepsAllButManifests old new one other
  current_alone kept =
      kept_but_more (λ name. name ≡ current_name)
      (λ name. (name ≡ current_name) ⊎ ((name ≡ manifest_name one) ⊎ (name ≡ manifest_name other))) old new (λ name is. inl is) kept

  pub one_alone : KeepsOthers old new (manifest_name one) → KeepsAllButManifests old new one other
  one_alone kept =
      kept_but_more (λ name. name ≡ manifest_name one)
      (λ name. (name ≡ current_name) ⊎ ((name ≡ manifest_name one) ⊎ (name ≡ manifest_name other))) old new (λ name is. inr (inl is)) kept

  pub other_alone : KeepsOthers old new (manifest_name other) → KeepsAllButManifests old new one other
  other_alone kept =
      kept_but_more (λ name. name ≡ manifest_name other)
      (λ name. (name ≡ current_name) ⊎ ((name ≡ manifest_name one) ⊎ (name ≡ manifest_name other))) old new (λ name is. inr (inr is)) kept

pub kept_manifests_then : (first mid last : Contents) (one other : ℕ) → KeepsAllButManifests first mid one other
    → KeepsAllButManifests mid last one other → KeepsAllButManifests first last one other
kept_manifests_then first mid last one other a b =
    kept_but_then (λ name. (name ≡ current_name) ⊎ ((name ≡ manifest_name one) ⊎ (name ≡ manifest_name other))) first mid last a b

-- ---- each image says the version by the old manifest

pub says_by_old : (manifest : ManifestView) (version : VersionView) (disk : Contents) (other : ℕ) → EachManifest manifest version disk
    → EachSaysBy manifest.number other manifest.catalogue version disk
says_by_old manifest version disk other each folder image = inl (each_says manifest version disk each folder image)

-- ---- the new manifest is made beside the old one, and has the snapshot

-- the pointer may be turned: beside the manifest stands that of another number, whose one payload says the version too
pub record IsBeside (manifest : ManifestView) (version : VersionView) (number : ℕ) (payload : List ℕ) (log : LogPlace) (disk : Contents) : Type 0 where
  pub each : EachManifest manifest version disk
  pub log_is : IsLogOf (manifest_name number) (payload ∷ []) log disk
  pub says : SaysVersion (payload ∷ []) version
  pub low : number < 2 ^ 62
  pub own : number < version.five.next
  pub other : manifest_name manifest.number ≡ manifest_name number → ⊥

module _ (manifest : ManifestView) (version : VersionView) (number : ℕ) (low : number < 2 ^ 62) (old mid : Contents) (name : List ℕ)
    (each : EachManifest manifest version old) (unmade : old.seen (manifest_name number) ≡ None) (named : name ≡ manifest_name number)
    (made : KeepsOthers old mid name) where
  pub made_alone : KeepsOthers old mid (manifest_name number)
  made_alone = subst (λ (n : List ℕ). KeepsOthers old mid n) named made

  pub made_beside : EachManifest manifest version mid
  made_beside =
      manifest_kept manifest version old mid (made_alone current_name (apart number low))
      (made_alone (manifest_name manifest.number) (other_number manifest version old number each unmade)) each

  pub snapped : (payload snapshot : List ℕ) (log : LogPlace) → number < version.five.next → payload ≡ snapshot
      → SaysVersion (snapshot ∷ []) version → IsLogOf name (payload ∷ []) log mid → IsBeside manifest version number payload log mid
  snapped payload snapshot log own same says log_is = record {
    each = made_beside;
    log_is = subst (λ (n : List ℕ). IsLogOf n (payload ∷ []) log mid) named log_is;
    says = subst (λ (p : List ℕ). SaysVersion (p ∷ []) version) (sym same) says;
    low = low;
    own = own;
    other = other_number manifest version old number each unmade;
  }

-- ---- the current pointer is turned to it

-- the manifest says the version by this payload alone
pub record IsTurned (manifest : ManifestView) (version : VersionView) (payload : List ℕ) (disk : Contents) : Type 0 where
  pub each : EachManifest manifest version disk
  pub first : EachLog manifest.log (payload ∷ []) disk

module _ (manifest : ManifestView) (version : VersionView) (number : ℕ) (payload pointer : List ℕ) (log : LogPlace) (mid new : Contents)
    (beside : IsBeside manifest version number payload log mid)
    (pointer_is : pointer ≡ pointer_spelling (pointer_to number manifest.catalogue))
    (others : KeepsOthers mid new manifest.current.file) where
  others_named : KeepsOthers mid new current_name
  others_named = subst (λ (name : List ℕ). KeepsOthers mid new name) beside.each.current_file others

  pointer_form : IsPointer (pointer_to number manifest.catalogue)
  pointer_form = record { manifest = beside.low; catalogue = beside.each.names.in_form.catalogue }

  new_log : IsLogOf (manifest_name number) (payload ∷ []) log new
  new_log = still_log number beside.low log (payload ∷ []) mid new others_named beside.log_is

  old_log : EachLog manifest.log beside.each.edits new
  old_log =
      each_kept manifest.log beside.each.edits mid new manifest.current.file
      (λ same. apart manifest.number beside.each.names.in_form.manifest (sym (sym beside.each.log_file ∙ same ∙ beside.each.current_file)))
      others beside.each.log

  -- each image names the one or the other
  pub perhaps_turned : ((image : Option (List ℕ)) → MayLeave new manifest.current.file image
      → HasList beside.each.pointers image ⊎ HasList (beside.each.pointers ++ pointer ∷ []) image)
      → EachSaysBy manifest.number number manifest.catalogue version new
  perhaps_turned left folder image =
      let each = beside.each in
      let named = subst (λ (n : List ℕ). MayLeave new n (folder current_name)) (sym each.current_file) (image current_name) in
      elim (left (folder current_name) named) [
        | inl before ↦ inl
            (says_of manifest.number manifest.catalogue version folder each.pointers each.edits before each.names
            (each_has_at manifest.log each.edits new (manifest_name manifest.number) each.log_file old_log folder image) each.says)
        | inr after ↦ inr
            (says_of number manifest.catalogue version folder (each.pointers ++ pointer_spelling (pointer_to number manifest.catalogue) ∷ [])
            (payload ∷ []) (subst (λ (p : List ℕ). HasList (each.pointers ++ p ∷ []) (folder current_name)) pointer_is after)
            (current_holds each.pointers (pointer_to number manifest.catalogue) pointer_form)
            (each_has_at log (payload ∷ []) new (manifest_name number) new_log.name new_log.each folder image) beside.says)
      ]

  pub turned : (current : LogPlace) (first : ℕ) → first ≡ length payload → current.file ≡ manifest.current.file
      → EachLog current (beside.each.pointers ++ pointer ∷ []) new
      → IsTurned (record manifest { number = number; first = first; log = log; current = current }) version payload new
  turned current first sized same is = record {
    each = record {
      pointers = beside.each.pointers ++ pointer_spelling (pointer_to number manifest.catalogue) ∷ [];
      current = subst (λ (p : List ℕ). EachLog current (beside.each.pointers ++ p ∷ []) new) pointer_is is;
      current_file = same ∙ beside.each.current_file;
      names = current_holds beside.each.pointers (pointer_to number manifest.catalogue) pointer_form;
      edits = payload ∷ [];
      log = new_log.each;
      log_file = new_log.name;
      says = beside.says;
      first_is = sized;
      drawn = beside.each.drawn;
      own = beside.own;
    };
    first = new_log.each;
  }

-- ---- the old manifest is removed

pub alone : (manifest : ManifestView) (version : VersionView) (payload : List ℕ) (mid new : Contents) (old : ℕ) → old < 2 ^ 62
    → (manifest_name old ≡ manifest_name manifest.number → ⊥) → KeepsOthers mid new (manifest_name old)
    → IsTurned manifest version payload mid → IsTurned manifest version payload new
alone manifest version payload mid new old low other kept turned = record {
  each =
      manifest_kept manifest version mid new (kept current_name (apart old low))
      (kept (manifest_name manifest.number) (λ same. other (sym same))) turned.each;
  first =
      each_kept manifest.log (payload ∷ []) mid new (manifest_name old)
      (λ same. other (sym same ∙ turned.each.log_file)) kept turned.first;
}

-- and each image says the version by the new one
pub says_by_new : (manifest : ManifestView) (version : VersionView) (disk : Contents) (one : ℕ) → EachManifest manifest version disk
    → EachSaysBy one manifest.number manifest.catalogue version disk
says_by_new manifest version disk one each folder image = inr (each_says manifest version disk each folder image)

-- ---- the new manifest begins with a snapshot

pub begins_with : (number : ℕ) (edit : VersionEdit) (log : LogPlace) (others : List (List ℕ)) (disk : Contents)
    → log.file ≡ manifest_name number → EachLog log (edit_spelling edit ∷ others) disk → FirstIs disk.seen number edit
begins_with number edit log others disk named each =
    let list = edit_spelling edit ∷ others in
    let found = some_of (disk.seen log.file) (IsLogFile log.gate list) each.seen in
    let has = bytes_have found.0 list (disk.seen log.file) (log_payloads log.gate list found.0 found.2) found.1 in
    has_such list (disk.seen (manifest_name number)) (λ l. (rest : List (List ℕ)) × (l ≡ edit_spelling edit ∷ rest))
    (subst (λ (n : List ℕ). HasList list (disk.seen n)) named has) (others, refl)

-- ---- what a commit to it leaves

-- behind a snapshot there is room for an edit
pub has_room : (gate len : ℕ) → gate ≤ 18874373 → len ≤ 18874368 → (67108864 < len) ⊎ (2 ^ 62 ≤ gate + 5 + len) → ⊥
has_room gate len low short (inl long) = omega arith
has_room gate len low short (inr full) = omega arith

-- the old manifest, or the new one without the edit or with it
pub says_one : (number catalogue one : ℕ) (old new : VersionView) (disk : Contents)
    → EachSays number catalogue old new disk → (folder : Folder) → IsImage disk folder → SaysOne one number catalogue old new folder
says_one number catalogue one old new disk says folder image = inr (says folder image)

pub says_either : (one number catalogue : ℕ) (old new : VersionView) (disk : Contents) → EachSaysBy one number catalogue old disk
    → (folder : Folder) → IsImage disk folder → SaysOne one number catalogue old new folder
says_either one number catalogue old new disk says folder image =
    elim (says folder image) [
      | inl by_old ↦ inl by_old
      | inr by_new ↦ inr (inl by_new)
    ]
