-- What a sweep does to the folder of a store whose parts are at rest.
use Rattle.std.proofs.Common.{◌≡◌, ◌<◌, ◌≤◌, ◌^◌, ℕ, List, [], Option, Some, None, true, inl, inr, refl, sym, ap, ◌∙◌, subst, arith}
use Rattle.std.specs.Prelude.{◌⊎◌, ◌==◌, ◌||◌}
use Rattle.std.specs.List.{All, Contains}
use Rattle.std.proofs.lemmas.Bool.Decides.{nat_tests}
use Rattle.std.proofs.lemmas.List.Elements.{All-nil}
use Rattle.pb_devices.specs.Contents.{Contents, Folder, IsImage, KeptAt, KeptBut, MayLeave}
use Rattle.pb_devices.specs.DiskCalls.{AllSettled, IsRemoved, Stays}
use Rattle.pb_devices.proofs.Images.{removed_image, settled_image}
use Rattle.pb_devices.proofs.Kept.{barred_kept_at, kept_at_then, kept_but_then, removed_kept, stays_kept_at}
use Rattle.pb_names.specs.Spelling.{current_name, file_name}
use Rattle.pb_names.specs.declared.file_kind.FileKind.{FileKind}
use Rattle.pb_names.specs.declared.file_kind.FileKind.TheVariants.{Manifest, Catalogue, Log, Table}
use Rattle.pb_names.proofs.Makers.{file_name-injective}
use Rattle.pb_names.proofs.NumberedFileLemmas.{files_are_numbered}
use Rattle.pb_payloads.specs.Catalogue.{stands}
use Rattle.pb_payloads.specs.Catalogued.{Standing}
use Rattle.pb_gate_log.proofs.LogStates.{each_kept_at}
use Rattle.pb_folder.specs.Said.{Said, Says}
use Rattle.pb_manifest.specs.Manifest.{catalogue_name, manifest_name}
use Rattle.pb_manifest.proofs.Folders.{manifest_kept}
use Rattle.pb_manifest.proofs.Kept.{folded_by, folded_format}
use Rattle.pb_manifest.proofs.Opening.{same_or}
use Rattle.pb_catalog.proofs.Images.{catalogue_kept}
use Rattle.pb_version.specs.Rules.{fit_each_other}
use Rattle.pb_version.specs.State.{IsVersion}
use Rattle.pb_payloads.specs.Log.{LogEntry}
use Rattle.pb_recover.specs.Calls.{AreAtRest, AreGone, IsCalm, IsUnnamed, Removes, words_of}
use Rattle.pb_recover.specs.Files.{IsFree, KeepsFiles, StoreFiles, said_of}
use Rattle.pb_recover.specs.Reopened.{IsFolderName, IsLeftover, IsNamedBy, IsSweptAt, Reopens}
use Rattle.pb_recover.specs.Reopened.IsNamedBy.{IsManifest, IsCatalogue, IsLog, IsTable}
use Rattle.pb_recover.specs.Reopened.IsSweptAt.{Same, Gone}
use Rattle.pb_recover.proofs.Names.{current_unnumbered, one_kind}
use Rattle.pb_recover.proofs.Resting.{rest_says}
use Rattle.pb_recover.proofs.Reserved.{stored_below}

-- ---- the whole sweep

-- names are told by the pointer and the version alone
named_as : (files : StoreFiles) (entries : List LogEntry) (name : List ℕ) → IsNamedBy (said_of files entries) name
    → IsNamedBy (words_of files.manifest.number files.manifest.catalogue files.version) name
named_as files entries name (IsManifest e) = IsManifest e
named_as files entries name (IsCatalogue e) = IsCatalogue e
named_as files entries name (IsLog e) = IsLog e
named_as files entries name (IsTable number is e) = IsTable number is e

-- an image at exit where it was one at entry, and else what reads gave
abbrev chosen : {A B : Type 0} → Option (List ℕ) → Option (List ℕ) → A ⊎ B → Option (List ℕ)
chosen now seen (inl a) = now
chosen now seen (inr b) = seen

module _ (id : ℕ) (files : StoreFiles) (old new : Contents) (seen : (name : List ℕ) → MayLeave old name (old.seen name))
    (own : files.provider.catalogue.id ≡ id) (rest : AreAtRest files old)
    (removes : Removes (IsUnnamed files.manifest.number files.manifest.catalogue files.version) old new) where
  abbrev Left : Folder → List ℕ → Type 0
  Left folder name =
      MayLeave old name (folder name) ⊎ ((folder name ≡ None) × IsUnnamed files.manifest.number files.manifest.catalogue files.version name)

  abbrev before : (folder : Folder) → ((name : List ℕ) → Left folder name) → Folder
  before folder left name = chosen (folder name) (old.seen name) (left name)

  chosen_image : (folder : Folder) (name : List ℕ) (left : Left folder name) → MayLeave old name (chosen (folder name) (old.seen name) left)
  chosen_image folder name (inl is) = is
  chosen_image folder name (inr gone) = seen name

  module _ (folder : Folder) (left : (name : List ℕ) → Left folder name) where
    before_image : IsImage old (before folder left)
    before_image name = chosen_image folder name (left name)

    before_says : Says (before folder left) id (said_of files rest.entries)
    before_says = subst (λ (n : ℕ). Says (before folder left) n (said_of files rest.entries)) own (rest_says files old rest (before folder left) before_image)

    left_over : (name : List ℕ) → IsUnnamed files.manifest.number files.manifest.catalogue files.version name
        → IsLeftover id (before folder left) name
    left_over name unnamed = record {
      numbered = unnamed.numbered;
      said = said_of files rest.entries;
      says = before_says;
      unnamed = λ named. unnamed.unnamed (named_as files rest.entries name named);
    }

    swept_at : (name : List ℕ) (is : Left folder name) → before folder left name ≡ chosen (folder name) (old.seen name) is
        → IsSweptAt id (before folder left) folder name
    swept_at name (inl own) e = Same (sym e)
    swept_at name (inr gone) e = Gone (left_over name gone.1) gone.0

  -- where each image says the words that leave the files unnamed
  pub sweep_reopens : Reopens id old new
  sweep_reopens folder image =
      let left = λ (name : List ℕ). removes.crash name (folder name) (image name) in
      record {
        folder = before folder left;
        image = before_image folder left;
        left = inl (λ name. swept_at folder left name (left name) refl);
      }

  pub sweep_own : KeptBut IsFolderName old new
  sweep_own name apart = removes.others name (λ unnamed. apart (inr unnamed.numbered))

-- ---- and no file of a free number is left

pub log_below : (flushed accepted log next format : ℕ) → format ≡ 1
    → (format == 0 || fit_each_other (record { accepted = accepted; next = next; log = log; flushed = flushed; format = format })) ≡ true → log < next
log_below flushed accepted log next format is fits = grind (arith, nat_tests)

module _ (files : StoreFiles) (old new : Contents) (form : IsVersion files.version) (next : files.manifest.next ≡ files.version.five.next)
    (unmade : files.unmade ≡ []) (rest : AreAtRest files old)
    (removes : Removes (IsUnnamed files.manifest.number files.manifest.catalogue files.version) old new)
    (gone : AreGone (IsUnnamed files.manifest.number files.manifest.catalogue files.version) new) (calm : IsCalm new) where
  named_kept : (name : List ℕ) → IsNamedBy (words_of files.manifest.number files.manifest.catalogue files.version) name → KeptAt old new name
  named_kept name named = removes.others name (λ unnamed. unnamed.unnamed named)

  current_kept : KeptAt old new current_name
  current_kept = removes.others current_name (λ unnamed. current_unnumbered unnamed.numbered)

  low : files.version.five.next < 2 ^ 62
  low = form.numbers.next

  own_log : files.version.five.log < files.version.five.next
  own_log =
      let five = files.version.five in
      log_below five.flushed five.accepted five.log five.next five.format
      (folded_format files.version (folded_by rest.manifest.edits files.version rest.manifest.says)) form.fits

  -- a free number is at or above the one that is drawn next
  free_above : (n : ℕ) → IsFree files n → (files.version.five.next ≤ n) × (n < 2 ^ 62)
  free_above n (inl is) = (let above = is.0 in omega (arith, above, next), is.1)
  free_above n (inr is) = absurd (let within = (subst (λ (l : List ℕ). Contains l n) unmade is).1 in omega (arith, within))

  -- so no number below it is
  apart : (kind other : FileKind) (n m : ℕ) → IsFree files n → m < files.version.five.next → file_name kind n ≡ file_name other m → ⊥
  apart kind other n m free below e =
      let above = free_above n free in
      let same = (file_name-injective kind other n m (omega (arith, above.1)) (omega (arith, below, low)) e).1 in
      omega (arith, above.0, below, same)

  free_unnamed : (kind : FileKind) (n : ℕ) → (kind ≡ Catalogue → ⊥) → IsFree files n
      → IsNamedBy (words_of files.manifest.number files.manifest.catalogue files.version) (file_name kind n) → ⊥
  free_unnamed kind n other free (IsManifest e) = apart kind Manifest n files.manifest.number free rest.manifest.own e
  free_unnamed kind n other free (IsCatalogue e) = other (one_kind kind Catalogue n files.manifest.catalogue e)
  free_unnamed kind n other free (IsLog e) = apart kind Log n files.version.five.log free own_log e
  free_unnamed kind n other free (IsTable m is e) = apart kind Table n m free (stored_below files.version form m is) e

  absent : (kind : FileKind) (n : ℕ) (image : Option (List ℕ)) → (kind ≡ Catalogue → ⊥) → IsFree files n
      → MayLeave new (file_name kind n) image → image ≡ None
  absent kind n image other free left =
      let fits : n < 2 ^ 64 = (let below = (free_above n free).1 in omega (arith, below)) in
      let unnamed : IsUnnamed files.manifest.number files.manifest.catalogue files.version (file_name kind n) = record {
        numbered = record { kind = kind; is = files_are_numbered kind n fits };
        unnamed = free_unnamed kind n other free;
      } in
      settled_image new (file_name kind n) image (calm (file_name kind n)) left ∙ gone (file_name kind n) unnamed

  pub sweep_keeps : KeepsFiles files new
  sweep_keeps = record {
    beside = record {
      manifest =
          manifest_kept files.manifest files.version old new current_kept (named_kept (manifest_name files.manifest.number) (IsManifest refl))
          rest.manifest;
      catalogue =
          catalogue_kept files.provider.catalogue old new
          (subst (KeptAt old new) (sym rest.catalogue_file) (named_kept (catalogue_name files.manifest.catalogue) (IsCatalogue refl)))
          rest.catalogue;
      catalogue_file = rest.catalogue_file;
      entered = subst (All (λ (entry : ℕ × Standing). entry.0 < files.version.five.next)) (sym rest.bare) (All-nil _);
      fresh = absent;
      apart = λ n image is. absurd (no_entry n (ap (stands n) (sym rest.bare) ∙ is));
    };
    payloads = rest.payloads;
    entries = rest.entries;
    log =
        each_kept_at files.log rest.payloads old new
        (subst (KeptAt old new) (sym rest.log_file) (named_kept (file_name Log files.version.five.log) (IsLog refl))) rest.log;
    log_file = rest.log_file;
    says_log = rest.says_log;
    commands = rest.commands;
    count = rest.count;
  }
    where
      no_entry : (n : ℕ) → stands n [] ≡ true → ⊥
      no_entry n is = cc
