-- What making a new store does to a folder.
use Rattle.std.proofs.Common.{◌≡◌, ◌<◌, ◌≤◌, ◌^◌, ℕ, List, [], ◌∷◌, Option, None, true, inl, inr, refl, sym, ap, ◌∙◌, subst, arith}
use Rattle.std.specs.Prelude.{◌⊎◌}
use Rattle.std.specs.List.{All, Contains}
use Rattle.std.proofs.lemmas.List.Elements.{All-nil}
use Rattle.pb_devices.specs.Contents.{Contents, Folder, IsImage, KeepsOthers, KeptAt, KeptBut, MayLeave}
use Rattle.pb_devices.proofs.Images.{settled_image}
use Rattle.pb_devices.proofs.Kept.{kept_at_then, kept_but_then}
use Rattle.pb_catalog.specs.Calls.{IsOf}
use Rattle.pb_catalog.specs.Catalog.{CatalogView, EachCatalogue}
use Rattle.pb_catalog.proofs.Images.{catalogue_kept}
use Rattle.pb_gate_log.specs.EachLog.{EachLog, LogPlace}
use Rattle.pb_gate_log.specs.NewFolder.{IsNew}
use Rattle.pb_gate_log.specs.Payloads.{payloads_in}
use Rattle.pb_gate_log.proofs.LogStates.{each_kept_at}
use Rattle.pb_folder.specs.Said.{Says}
use Rattle.pb_manifest.specs.Manifest.{EachManifest, IsNumbered, KeepsAllBut, ManifestView, SaysFolder, catalogue_name, manifest_name}
use Rattle.pb_manifest.specs.Numbers.{IsFolded}
use Rattle.pb_manifest.specs.Steps.{IsLogOf}
use Rattle.pb_manifest.proofs.Folders.{each_has_at, has_such}
use Rattle.pb_names.specs.NumberedFile.{IsFileOf, IsNumberedFile}
use Rattle.pb_names.specs.Spelling.{current_name, file_name}
use Rattle.pb_names.specs.declared.file_kind.FileKind.{FileKind}
use Rattle.pb_names.specs.declared.file_kind.FileKind.TheVariants.{Manifest, Catalogue, Log, Table}
use Rattle.pb_names.proofs.Makers.{file_name-injective}
use Rattle.pb_names.proofs.NumberedFileLemmas.{files_are_numbered}
use Rattle.pb_payloads.specs.Catalogue.{Entries, SaysCatalogue, stands, with_id}
use Rattle.pb_payloads.specs.Catalogued.{Standing}
use Rattle.pb_payloads.specs.Log.{SaysLog}
use Rattle.pb_provider.specs.Provider.{ProviderView}
use Rattle.pb_rows.specs.Changing.{Changing}
use Rattle.pb_recover.specs.Calls.{AreGone, IsCalm, IsCatalogueOrLog, IsMaking, Removes, files_of}
use Rattle.pb_recover.specs.Files.{IsFree, IsReady, KeepsFiles, StoreFiles}
use Rattle.pb_recover.specs.First.{first_said, first_version}
use Rattle.pb_recover.specs.Reopened.{IsFolderName, Reopens}
use Rattle.pb_recover.proofs.Names.{current_unnumbered, no_current, one_kind}
use Rattle.pb_recover.proofs.Settling.{store_made}

-- ---- names

pub numbered : (kind : FileKind) (n : ℕ) → n < 2 ^ 64 → IsNumberedFile (file_name kind n)
numbered kind n fits = record { kind = kind; is = files_are_numbered kind n fits }

folder_name : (kind : FileKind) (n : ℕ) (name : List ℕ) → n < 2 ^ 64 → name ≡ file_name kind n → IsFolderName name
folder_name kind n name fits e = subst IsFolderName (sym e) (inr (numbered kind n fits))

own_log : (name : List ℕ) → IsCatalogueOrLog 2 3 name → IsFolderName name
own_log name (inl e) = folder_name Catalogue 2 name (omega arith) e
own_log name (inr e) = folder_name Log 3 name (omega arith) e

own_manifest : (name : List ℕ) → (name ≡ manifest_name 1) ⊎ (name ≡ current_name) → IsFolderName name
own_manifest name (inl e) = folder_name Manifest 1 name (omega arith) e
own_manifest name (inr e) = inl e

-- the current pointer is neither catalogue nor log
pub pointer_apart : (catalogue log : ℕ) → IsCatalogueOrLog catalogue log current_name → ⊥
pointer_apart catalogue log (inl e) = no_current Catalogue catalogue (sym e)
pointer_apart catalogue log (inr e) = no_current Log log (sym e)

-- and no manifest is
pub manifest_apart : (n catalogue log : ℕ) → IsCatalogueOrLog catalogue log (manifest_name n) → ⊥
manifest_apart n catalogue log (inl e) = let same = one_kind Manifest Catalogue n catalogue e in cc
manifest_apart n catalogue log (inr e) = let same = one_kind Manifest Log n log e in cc

-- a file of another kind is neither the manifest nor the current pointer
other_file : (kind : FileKind) (n m : ℕ) → (kind ≡ Manifest → ⊥) → (file_name kind n ≡ manifest_name m) ⊎ (file_name kind n ≡ current_name) → ⊥
other_file kind n m other (inl e) = other (one_kind kind Manifest n m e)
other_file kind n m other (inr e) = no_current kind n e

-- ---- a new folder

-- where the current pointer is kept, each image is new
pub still_new : (old new : Contents) → IsCalm old → IsNew old.seen → KeptAt old new current_name → (folder : Folder) → IsImage new folder
    → IsNew folder
still_new old new calm none kept folder image =
    ap payloads_in
    (settled_image old current_name (folder current_name) (calm current_name) (kept.images (folder current_name) (image current_name)))
    ∙ none

-- numbered files are removed first
module _ (id : ℕ) (old mid : Contents) (removes : Removes IsNumberedFile old mid) (seen : IsImage old old.seen) (calm : IsCalm old)
    (none : IsNew old.seen) where
  cleared_current : KeptAt old mid current_name
  cleared_current = removes.others current_name current_unnumbered

  pub cleared_new : IsNew mid.seen
  cleared_new = ap payloads_in cleared_current.reads ∙ none

  pub cleared_own : KeptBut IsFolderName old mid
  cleared_own name apart = removes.others name (λ is. apart (inr is))

  pub cleared_reopens : Reopens id old mid
  cleared_reopens =
      store_made id old mid seen calm none cleared_own (λ folder image. inl (still_new old mid calm none cleared_current folder image))

  -- and then the files are made
  module _ (new : Contents) (own : KeptBut IsFolderName mid new) where
    pub made_own : KeptBut IsFolderName old new
    made_own = kept_but_then IsFolderName old mid new cleared_own own

    pub made_reopens : IsMaking id new → Reopens id old new
    made_reopens making = store_made id old new seen calm none made_own making

-- ---- the files are made: before, behind the catalogue and the log, and behind the manifest

-- the catalogue, and then the log
module _ (old mid new : Contents) (catalogue : KeepsOthers old mid (catalogue_name 2)) where
  pub catalogue_alone : KeptBut (IsCatalogueOrLog 2 3) old mid
  catalogue_alone name apart = catalogue name (λ e. apart (inl e))

  pub log_absent : old.seen (file_name Log 3) ≡ None → mid.seen (file_name Log 3) ≡ None
  log_absent none = (catalogue (file_name Log 3) (λ e. let same = one_kind Log Catalogue 3 2 e in cc)).reads ∙ none

  module _ (log : KeepsOthers mid new (file_name Log 3)) where
    pub logs_alone : KeptBut (IsCatalogueOrLog 2 3) old new
    logs_alone name apart = kept_at_then old mid new name (catalogue name (λ e. apart (inl e))) (log name (λ e. apart (inr e)))

    pub catalogue_beside : (id : ℕ) (catalog : CatalogView) → IsOf id (catalogue_name 2) catalog → EachCatalogue catalog mid
        → EachCatalogue catalog new
    catalogue_beside id catalog is each =
        catalogue_kept catalog mid new
        (log catalog.log.file (λ e. let same = one_kind Catalogue Log 2 3 (sym is.file_is ∙ e) in cc)) each

pub logs_own : (old mid : Contents) → KeptBut (IsCatalogueOrLog 2 3) old mid → KeptBut IsFolderName old mid
logs_own old mid logs name apart = logs name (λ is. apart (own_log name is))

module _ (old mid new : Contents) (logs : KeptBut (IsCatalogueOrLog 2 3) old mid) (manifest : KeepsAllBut mid new (manifest_name 1) current_name) where
  pub own_files : KeptBut IsFolderName old new
  own_files name apart =
      kept_at_then old mid new name (logs name (λ is. apart (own_log name is))) (manifest name (λ is. apart (own_manifest name is)))

  catalogue_stays : KeptAt mid new (catalogue_name 2)
  catalogue_stays = manifest (catalogue_name 2) (other_file Catalogue 2 1 (λ same. cc))

  log_stays : KeptAt mid new (file_name Log 3)
  log_stays = manifest (file_name Log 3) (other_file Log 3 1 (λ same. cc))

  -- a number from 4 on is none of theirs
  no_log : (kind : FileKind) (n : ℕ) → (kind ≡ Catalogue → ⊥) → 4 ≤ n → n < 2 ^ 62 → IsCatalogueOrLog 2 3 (file_name kind n) → ⊥
  no_log kind n other above low (inl e) = other (one_kind kind Catalogue n 2 e)
  no_log kind n other above low (inr e) =
      let same = (file_name-injective kind Log n 3 (omega (arith, low)) (omega arith) e).1 in
      omega (arith, above, same)

  no_manifest : (kind : FileKind) (n : ℕ) → 4 ≤ n → n < 2 ^ 62 → (file_name kind n ≡ manifest_name 1) ⊎ (file_name kind n ≡ current_name) → ⊥
  no_manifest kind n above low (inl e) =
      let same = (file_name-injective kind Manifest n 1 (omega (arith, low)) (omega arith) e).1 in
      omega (arith, above, same)
  no_manifest kind n above low (inr e) = no_current kind n e

  module _ (calm : IsCalm old) (gone : AreGone IsNumberedFile old) where
    unmade : (kind : FileKind) (n : ℕ) (image : Option (List ℕ)) → (kind ≡ Catalogue → ⊥) → 4 ≤ n → n < 2 ^ 62
        → MayLeave new (file_name kind n) image → image ≡ None
    unmade kind n image other above low left =
        let name = file_name kind n in
        let kept = kept_at_then old mid new name (logs name (no_log kind n other above low)) (manifest name (no_manifest kind n above low)) in
        settled_image old name image (calm name) (kept.images image left) ∙ gone name (numbered kind n (omega (arith, low)))

  module _ (id : ℕ) (catalog : CatalogView) (log : LogPlace) (is : IsOf id (catalogue_name 2) catalog) (bare : catalog.entries ≡ [])
      (each : EachCatalogue catalog mid) (empty : IsLogOf (file_name Log 3) [] log mid) where
    catalogue_now : EachCatalogue catalog new
    catalogue_now = catalogue_kept catalog mid new (subst (KeptAt mid new) (sym is.file_is) catalogue_stays) each

    log_now : EachLog log [] new
    log_now = each_kept_at log [] mid new (subst (KeptAt mid new) (sym empty.name) log_stays) empty.each

    says_log : SaysLog 0 [] []
    says_log = record { spelled = refl; in_form = All-nil _; rise = tt }

    says_catalogue : SaysCatalogue catalogue_now.payloads (with_id id [])
    says_catalogue =
        subst (λ (entries : Entries). SaysCatalogue catalogue_now.payloads (with_id id entries)) bare
        (subst (λ (n : ℕ). SaysCatalogue catalogue_now.payloads (with_id n catalog.entries)) is.id_is catalogue_now.says)

    -- a folder that says the version says all of a new store's words
    says_first : (folder : Folder) → IsImage new folder → SaysFolder 1 2 first_version folder → Says folder id first_said
    says_first folder image says = record {
      current = says.current;
      manifest = says.manifest;
      catalogue =
          has_such catalogue_now.payloads (folder (catalogue_name 2)) (λ list. SaysCatalogue list (with_id id []))
          (each_has_at catalog.log catalogue_now.payloads new (catalogue_name 2) is.file_is catalogue_now.log folder image) says_catalogue;
      log =
          has_such [] (folder (file_name Log 3)) (λ list. SaysLog 0 list [])
          (each_has_at log [] new (file_name Log 3) empty.name log_now folder image) says_log;
      reserved = omega arith;
      entered = All-nil _;
      bare = refl;
      waits = refl;
    }

    abbrev pub SaidOrNot : Folder → Type 0
    SaidOrNot folder = (payloads_in (folder current_name) ≡ payloads_in (mid.seen current_name)) ⊎ SaysFolder 1 2 first_version folder

    made_or_not : (folder : Folder) → IsImage new folder → payloads_in (mid.seen current_name) ≡ [] → SaidOrNot folder
        → IsNew folder ⊎ Says folder id first_said
    made_or_not folder image none (inl same) = inl (same ∙ none)
    made_or_not folder image none (inr says) = inr (says_first folder image says)

    -- each image is new still, or a new store's
    pub is_making : IsNew old.seen → ((folder : Folder) → IsImage new folder → SaidOrNot folder) → IsMaking id new
    is_making none left folder image =
        made_or_not folder image (ap payloads_in (logs current_name (pointer_apart 2 3)).reads ∙ none) (left folder image)

    module _ (calm : IsCalm old) (gone : AreGone IsNumberedFile old) (manifest_is : ManifestView) (numbers : IsNumbered 1 2 4 manifest_is)
        (provider : ProviderView) (same : provider.catalogue ≡ catalog) (changes : List Changing) (unchanged : changes ≡ [])
        (each_manifest : EachManifest manifest_is first_version new) where
      abbrev pub made_files : StoreFiles
      made_files = files_of manifest_is first_version provider log changes 0

      entries_none : provider.catalogue.entries ≡ []
      entries_none = ap (λ (c : CatalogView). c.entries) same ∙ bare

      fresh : (kind : FileKind) (n : ℕ) (image : Option (List ℕ)) → (kind ≡ Catalogue → ⊥) → IsFree made_files n
          → MayLeave new (file_name kind n) image → image ≡ None
      fresh kind n image other (inl free) =
          unmade calm gone kind n image other (subst (λ (next : ℕ). next ≤ n) numbers.next_is free.0) free.1
      fresh kind n image other (inr is) = absurd (let within = is.1 in omega (arith, within))

      no_entry : (n : ℕ) → stands n [] ≡ true → ⊥
      no_entry n is = cc

      pub made_keeps : KeepsFiles made_files new
      made_keeps = record {
        beside = record {
          manifest = each_manifest;
          catalogue = subst (λ (c : CatalogView). EachCatalogue c new) (sym same) catalogue_now;
          catalogue_file =
              ap (λ (c : CatalogView). c.log.file) same
              ∙ is.file_is
              ∙ ap catalogue_name (sym numbers.catalogue_is);
          entered = subst (All (λ (entry : ℕ × Standing). entry.0 < 64)) (sym entries_none) (All-nil _);
          fresh = fresh;
          apart = λ n image here. absurd (no_entry n (ap (stands n) (sym entries_none) ∙ here));
        };
        payloads = [];
        entries = [];
        log = log_now;
        log_file = empty.name;
        says_log = says_log;
        commands = λ layers. sym unchanged;
        count = refl;
      }

-- ---- and ready

pub made_ready : (manifest : ManifestView) (provider : ProviderView) (log : LogPlace) (changes : List Changing) → IsFolded first_version
    → IsNumbered 1 2 4 manifest → provider.catalogue.entries ≡ [] → IsReady (files_of manifest first_version provider log changes 0)
made_ready manifest provider log changes folded numbers bare = record {
  folded = folded;
  own = omega (arith, numbers.number_is, numbers.next_is);
  log = omega (arith, numbers.next_is);
  tables = All-nil _;
  backings = All-nil _;
  unmade = All-nil _;
  next = omega (arith, numbers.next_is);
  count = omega arith;
  low = omega arith;
  bare = bare;
}
