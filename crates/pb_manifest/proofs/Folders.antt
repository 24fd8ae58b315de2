-- What the images of a folder say between the device calls.
use Rattle.std.proofs.Common.{◌≡◌, ℕ, ◌<◌, ◌⊎◌, ◌^◌, List, [], ◌∷◌, ◌++◌, Option, Some, None, IsSomeAnd, map, refl, sym, ◌∙◌, subst, inl, inr, arith}
use Rattle.pb_devices.specs.Contents.{Contents, Folder, MayLeave, IsImage, KeptAt, KeepsOthers}
use Rattle.pb_edit.specs.Edit.{VersionEdit}
use Rattle.pb_edit.specs.Grammar.{IsEdit, edit_spelling}
use Rattle.pb_gate_log.specs.EachLog.{LogPlace, EachLog}
use Rattle.pb_gate_log.specs.Payloads.{HasList, payloads}
use Rattle.pb_gate_log.proofs.LogStates.{each_has, each_kept, each_kept_at}
use Rattle.pb_names.specs.Named.Named.{current, file}
use Rattle.pb_names.specs.Spelling.{current_name}
use Rattle.pb_names.specs.declared.file_kind.FileKind.TheVariants.{Catalogue, Manifest}
use Rattle.pb_names.proofs.NamedLemmas.{names_are_apart}
use Rattle.pb_payloads.specs.Current.{SaysCurrent, pointer_to}
use Rattle.pb_version.specs.Version.{VersionView}
use Rattle.pb_version.specs.Edited.{edited}
use Rattle.pb_version.specs.Rules.{first_broken}
use Rattle.pb_version.specs.SaysVersion.{SaysVersion}
use Rattle.pb_manifest.specs.Manifest.{ManifestView, catalogue_name, first_len, manifest_name, SaysFolder, EachManifest, EachSays}
use Rattle.pb_version.proofs.SaysLaws.{says_more}
use Rattle.pb_manifest.proofs.Kept.{next_stays}

two_names : (number : ℕ) → number < 2 ^ 64 → current ≡ file Manifest number → ⊥
two_names number fits same = cc

-- the current pointer is no manifest
pub apart : (number : ℕ) → number < 2 ^ 62 → current_name ≡ manifest_name number → ⊥
apart number low same =
    let fits : number < 2 ^ 64 = omega arith in
    two_names number fits (names_are_apart current (file Manifest number) tt fits same)

no_catalogue : (number : ℕ) → number < 2 ^ 64 → current ≡ file Catalogue number → ⊥
no_catalogue number fits same = cc

-- and no catalogue
pub apart_catalogue : (number : ℕ) → number < 2 ^ 62 → current_name ≡ catalogue_name number → ⊥
apart_catalogue number low same =
    let fits : number < 2 ^ 64 = omega arith in
    no_catalogue number fits (names_are_apart current (file Catalogue number) tt fits same)

-- what is said of its list is said of its payloads, and the other way
pub has_such : (list : List (List ℕ)) (file : Option (List ℕ)) (AreSuch : List (List ℕ) → Type 0) → HasList list file → AreSuch list
    → IsSomeAnd file (λ bytes. AreSuch (payloads bytes))
has_such list None AreSuch has such = absurd has
has_such list (Some bytes) AreSuch has such = subst AreSuch (sym has) such

pub such_has : (list : List (List ℕ)) (file : Option (List ℕ)) (AreSuch : List (List ℕ) → Type 0) → HasList list file
    → IsSomeAnd file (λ bytes. AreSuch (payloads bytes)) → AreSuch list
such_has list None AreSuch has such = absurd has
such_has list (Some bytes) AreSuch has such = subst AreSuch has such

pub says_of : (number catalogue : ℕ) (version : VersionView) (folder : Folder) (pointers edits : List (List ℕ))
    → HasList pointers (folder current_name) → SaysCurrent pointers (pointer_to number catalogue)
    → HasList edits (folder (manifest_name number)) → SaysVersion edits version → SaysFolder number catalogue version folder
says_of number catalogue version folder pointers edits has_current names has_edits says = record {
  current = has_such pointers (folder current_name) (λ list. SaysCurrent list (pointer_to number catalogue)) has_current names;
  manifest = has_such edits (folder (manifest_name number)) (λ list. SaysVersion list version) has_edits says;
}

-- a log whose file has this name
pub each_has_at : (log : LogPlace) (list : List (List ℕ)) (disk : Contents) (name : List ℕ) → log.file ≡ name → EachLog log list disk
    → (folder : Folder) → IsImage disk folder → HasList list (folder name)
each_has_at log list disk name same each folder image =
    each_has log list disk each (folder name) (subst (λ (n : List ℕ). MayLeave disk n (folder name)) (sym same) (image name))

-- each image says the version
pub each_says : (manifest : ManifestView) (version : VersionView) (disk : Contents) → EachManifest manifest version disk
    → (folder : Folder) → IsImage disk folder → SaysFolder manifest.number manifest.catalogue version folder
each_says manifest version disk each folder image =
    says_of manifest.number manifest.catalogue version folder each.pointers each.edits
    (each_has_at manifest.current each.pointers disk current_name each.current_file each.current folder image) each.names
    (each_has_at manifest.log each.edits disk (manifest_name manifest.number) each.log_file each.log folder image) each.says

pub same_number : (manifest : ManifestView) (version : VersionView) (disk : Contents) → EachManifest manifest version disk
    → manifest.number < 2 ^ 62
same_number manifest version disk each = each.names.in_form.manifest

-- a manifest is kept wherever its two files are
pub manifest_kept : (manifest : ManifestView) (version : VersionView) (old new : Contents) → KeptAt old new current_name
    → KeptAt old new (manifest_name manifest.number) → EachManifest manifest version old → EachManifest manifest version new
manifest_kept manifest version old new kept kept_manifest each = record {
  pointers = each.pointers;
  current = each_kept_at manifest.current each.pointers old new (subst (λ (n : List ℕ). KeptAt old new n) (sym each.current_file) kept)
      each.current;
  current_file = each.current_file;
  names = each.names;
  edits = each.edits;
  log = each_kept_at manifest.log each.edits old new (subst (λ (n : List ℕ). KeptAt old new n) (sym each.log_file) kept_manifest) each.log;
  log_file = each.log_file;
  says = each.says;
  first_is = each.first_is;
  drawn = each.drawn;
  own = each.own;
}

-- the first payload stays the first
some_stay : (edits : List (List ℕ)) (payload : List ℕ) → (edits ≡ [] → ⊥) → first_len edits ≡ first_len (edits ++ payload ∷ [])
some_stay [] payload some = absurd (some refl)
some_stay (first ∷ others) payload some = refl

no_edits : (edits : List VersionEdit) → map edit_spelling edits ≡ [] → edits ≡ []
no_edits [] none = refl
no_edits (edit ∷ edits) none = cc

first_stays : (edits : List (List ℕ)) (payload : List ℕ) (version : VersionView) → SaysVersion edits version
    → first_len edits ≡ first_len (edits ++ payload ∷ [])
first_stays edits payload version says =
    some_stay edits payload (λ none. says.folds.some (no_edits says.edits (sym says.spelled ∙ none)))

-- an edit is appended to the manifest
module _ (manifest : ManifestView) (version : VersionView) (edit : VersionEdit) (payload : List ℕ) (old new : Contents)
    (each : EachManifest manifest version old) (in_form : IsEdit edit) (unbroken : first_broken version edit ≡ None)
    (spelled : payload ≡ edit_spelling edit) (others : KeepsOthers old new manifest.log.file) where
  current_kept : EachLog manifest.current each.pointers new
  current_kept =
      each_kept manifest.current each.pointers old new manifest.log.file
      (λ same. apart manifest.number each.names.in_form.manifest (sym each.current_file ∙ same ∙ each.log_file)) others each.current

  says_appended : SaysVersion (each.edits ++ payload ∷ []) (edited version edit)
  says_appended =
      subst (λ (p : List ℕ). SaysVersion (each.edits ++ p ∷ []) (edited version edit)) (sym spelled)
      (says_more each.edits version edit each.says in_form unbroken)

  -- each image has the edit or not
  pub perhaps_appended : ((image : Option (List ℕ)) → MayLeave new manifest.log.file image → HasList each.edits image ⊎ HasList (each.edits ++ payload ∷ []) image) → EachSays manifest.number manifest.catalogue version (edited version edit) new
  perhaps_appended left folder image =
      let name = manifest_name manifest.number in
      let has_current = each_has_at manifest.current each.pointers new current_name each.current_file current_kept folder image in
      elim (left (folder name) (subst (λ (n : List ℕ). MayLeave new n (folder name)) (sym each.log_file) (image name))) [
        | inl without ↦ inl
            (says_of manifest.number manifest.catalogue version folder each.pointers each.edits has_current each.names without each.says)
        | inr with_it ↦ inr (says_of manifest.number manifest.catalogue (edited version edit) folder each.pointers
            (each.edits ++ payload ∷ []) has_current each.names with_it says_appended)
      ]

  pub appended : (log : LogPlace) → log.file ≡ manifest.log.file → EachLog log (each.edits ++ payload ∷ []) new
      → EachManifest (record manifest { log = log }) (edited version edit) new
  appended log same is = record {
    pointers = each.pointers;
    current = current_kept;
    current_file = each.current_file;
    names = each.names;
    edits = each.edits ++ payload ∷ [];
    log = is;
    log_file = same ∙ each.log_file;
    says = says_appended;
    first_is = each.first_is ∙ first_stays each.edits payload version each.says;
    drawn = let before = each.drawn in let after = next_stays version edit unbroken in omega arith;
    own = let before = each.own in let after = next_stays version edit unbroken in omega arith;
  }

-- the numbers by which the folder was known before
pub each_says_of : (manifest : ManifestView) (version : VersionView) (disk : Contents) (number catalogue : ℕ) → manifest.number ≡ number
    → manifest.catalogue ≡ catalogue → EachManifest manifest version disk → (folder : Folder) → IsImage disk folder
    → SaysFolder number catalogue version folder
each_says_of manifest version disk number catalogue same same_catalogue each folder image =
    subst (λ n. SaysFolder n catalogue version folder) same
    (subst (λ n. SaysFolder manifest.number n version folder) same_catalogue (each_says manifest version disk each folder image))
