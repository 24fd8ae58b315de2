-- The files of an open store: what its images say, and what a call on one file leaves of them.
use Rattle.std.proofs.lemmas.Bool.{eqb-true}
use Rattle.std.proofs.Common.{◌≡◌, ◌<◌, ◌≤◌, ◌^◌, ℕ, Bool, true, false, List, [], ◌∷◌, ◌++◌, length, Option, Some, None, inl, inr, refl, sym, ap, ◌∙◌, subst, arith}
use Rattle.std.specs.Prelude.{◌⊎◌, ◌↔◌, ◌==◌, ◌||◌, IfSome, IsSomeAnd, slice_index}
use Rattle.std.specs.List.{All, Contains}
use Rattle.std.proofs.lemmas.List.Elements.{All-contains, All-head, All-tail}
use Rattle.pb_devices.specs.Contents.{Contents, Folder, IsImage, IsPart, IsSettled, KeepsOthers, KeptAt, MayLeave}
use Rattle.pb_names.specs.Spelling.{current_name, file_name}
use Rattle.pb_names.specs.declared.file_kind.FileKind.{FileKind}
use Rattle.pb_names.specs.declared.file_kind.FileKind.TheVariants.{Catalogue, Log, Manifest, Table}
use Rattle.pb_names.proofs.Makers.{file_name-injective}
use Rattle.pb_payloads.specs.Catalogue.{Entries, SaysCatalogue, stands, with_id}
use Rattle.pb_payloads.specs.Catalogued.{Standing}
use Rattle.pb_payloads.specs.Log.{IsEntry, LogEntry, SaysLog, waiting_in, waiting_of}
use Rattle.pb_payloads.specs.Logged.{Logged, kind_of, last_kind}
use Rattle.pb_payloads.specs.Logged.Logged.{Set, Del, DelRange, Ingest}
use Rattle.pb_gate_log.specs.EachLog.{EachLog, LogPlace}
use Rattle.pb_gate_log.specs.LogFile.{IsLogFile}
use Rattle.pb_gate_log.proofs.LogStates.{each_kept_at}
use Rattle.pb_version.proofs.SaysVersion.{says_a_version}
use Rattle.pb_folder.specs.Said.{Says}
use Rattle.pb_folder.specs.Shown.{Words, Shows}
use Rattle.pb_folder.proofs.ShownLaws.{one_shown}
use Rattle.pb_manifest.specs.Manifest.{catalogue_name, manifest_name}
use Rattle.pb_manifest.proofs.Folders.{each_has_at, each_says, has_such, manifest_kept}
use Rattle.pb_manifest.proofs.Opening.{same_or}
use Rattle.pb_catalog.proofs.Images.{catalogue_kept}
use Rattle.pb_recover.specs.Files.{IsAbsent, IsFree, IsNoLog, IsReady, IsUnclaimed, KeepsBeside, KeepsFiles, StoreFiles, said_of, with_unmade}
use Rattle.pb_recover.proofs.Names.{no_current, one_kind}

-- ---- what the images say

no_tables : (command : Logged) → kind_of command ≤ last_kind → waiting_of command ≡ []
no_tables (Set key value) low = refl
no_tables (Del key) low = refl
no_tables (DelRange span) low = refl
no_tables (Ingest span tables) low = absurd (omega (arith, low))

pub nothing_waits : (entries : List LogEntry) → All IsEntry entries → waiting_in entries ≡ []
nothing_waits [] all = refl
nothing_waits (entry ∷ entries) all =
    let first = All-head IsEntry entry entries all in
    ap (λ tables. tables ++ waiting_in entries) (no_tables entry.command first.command.kind)
    ∙ nothing_waits entries (All-tail IsEntry entry entries all)

module _ (files : StoreFiles) (disk : Contents) (kept : KeepsFiles files disk) (ready : IsReady files) (folder : Folder)
    (image : IsImage disk folder) where
  pub image_says : Says folder files.provider.catalogue.id (said_of files kept.entries)
  image_says =
      let beside = kept.beside in
      let manifest = each_says files.manifest files.version disk beside.manifest folder image in
      let catalogue = beside.catalogue in
      record {
        current = manifest.current;
        manifest = manifest.manifest;
        catalogue =
            has_such catalogue.payloads (folder (catalogue_name files.manifest.catalogue))
            (λ list. SaysCatalogue list (with_id files.provider.catalogue.id files.provider.catalogue.entries))
            (each_has_at files.provider.catalogue.log catalogue.payloads disk (catalogue_name files.manifest.catalogue)
            beside.catalogue_file catalogue.log folder image)
            catalogue.says;
        log =
            has_such kept.payloads (folder (file_name Log files.version.five.log))
            (λ list. SaysLog files.version.five.flushed list kept.entries)
            (each_has_at files.log kept.payloads disk (file_name Log files.version.five.log) kept.log_file kept.log folder image)
            kept.says_log;
        reserved = beside.manifest.own;
        entered = beside.entered;
        bare = ready.bare;
        waits = nothing_waits kept.entries kept.says_log.in_form;
      }

  pub image_shows : (words : Words) → Shows folder files.provider.catalogue.id words ↔ (words ≡ Some (said_of files kept.entries))
  image_shows words =
      let id = files.provider.catalogue.id in (
        λ shows. one_shown folder id id words (Some (said_of files kept.entries)) shows image_says,
        λ is. subst (Shows folder id) (sym is) image_says,
      )

-- ---- logs and free numbers

part_seen : (durable : List ℕ) (pending : ℕ → Type 0) (seen : Option (List ℕ)) → IfSome seen (λ bytes. durable ≡ bytes)
    → IsPart durable pending seen seen
part_seen durable pending None same = refl
part_seen durable pending (Some bytes) same =
    record {
      kept = λ at within none. ap (λ b. slice_index b at) (sym same);
      no_shorter = subst (λ b. length b ≤ length bytes) (sym same) (omega arith);
      no_longer = omega arith;
    }

-- of a settled name, what reads give is an image
pub seen_image : (disk : Contents) (name : List ℕ) → IsSettled disk name → MayLeave disk name (disk.seen name)
seen_image disk name settled = inr (part_seen (disk.durable name) (disk.pending name) (disk.seen name) settled.durable)

-- a log at rest is there
there : (log : LogPlace) (list : List (List ℕ)) (disk : Contents) → EachLog log list disk → disk.seen log.file ≡ None → ⊥
there log list disk each none = subst (λ (file : Option (List ℕ)). IsSomeAnd file (IsLogFile log.gate list)) none each.seen

-- so it has no free number
module _ (files : StoreFiles) (disk : Contents) (kept : KeepsBeside files disk) (kind : FileKind) (n : ℕ) (other : kind ≡ Catalogue → ⊥)
    (free : IsFree files n) where
  unfree : (log : LogPlace) (list : List (List ℕ)) → EachLog log list disk → log.file ≡ file_name kind n → ⊥
  unfree log list each is =
      there log list disk each
      (kept.fresh kind n (disk.seen log.file) other free
      (subst (λ (name : List ℕ). MayLeave disk name (disk.seen log.file)) is (seen_image disk log.file each.settled)))

-- ---- a call on one file

module _ (files : StoreFiles) (name : List ℕ) (old new : Contents) (others : KeepsOthers old new name) where
  kept_at : (other : List ℕ) → (name ≡ other → ⊥) → KeptAt old new other
  kept_at other apart = others other (λ e. apart (sym e))

  -- a file that could not be there can't be now
  still_absent : (other : List ℕ) (image : Option (List ℕ)) → (name ≡ other → ⊥) ⊎ IsAbsent new name
      → (MayLeave old other image → image ≡ None) → MayLeave new other image → image ≡ None
  still_absent other image (inl apart) was left = was ((kept_at other apart).images image left)
  still_absent other image (inr absent) was left =
      elim (same_or other name) [
        | inl e ↦ absent image (subst (λ (n : List ℕ). MayLeave new n image) e left)
        | inr apart ↦ was ((others other apart).images image left)
      ]

  beside_kept : (name ≡ current_name → ⊥) → (name ≡ manifest_name files.manifest.number → ⊥)
      → (name ≡ catalogue_name files.manifest.catalogue → ⊥) → IsUnclaimed files name ⊎ IsAbsent new name
      → KeepsBeside files old → KeepsBeside files new
  beside_kept current manifest catalogue claims kept = record {
    manifest =
        manifest_kept files.manifest files.version old new (kept_at current_name current)
        (kept_at (manifest_name files.manifest.number) manifest) kept.manifest;
    catalogue =
        catalogue_kept files.provider.catalogue old new
        (kept_at files.provider.catalogue.log.file (λ e. catalogue (e ∙ kept.catalogue_file))) kept.catalogue;
    catalogue_file = kept.catalogue_file;
    entered = kept.entered;
    fresh = λ kind n image other free.
        still_absent (file_name kind n) image (not_free claims kind n other free) (kept.fresh kind n image other free);
    apart = λ n image is. still_absent (file_name Table n) image (not_entered claims n is) (kept.apart n image is);
  }
    where
      not_free : IsUnclaimed files name ⊎ IsAbsent new name → (kind : FileKind) (n : ℕ) → (kind ≡ Catalogue → ⊥) → IsFree files n
          → (name ≡ file_name kind n → ⊥) ⊎ IsAbsent new name
      not_free (inl unclaimed) kind n other free = inl (unclaimed.free kind n other free)
      not_free (inr absent) kind n other free = inr absent

      not_entered : IsUnclaimed files name ⊎ IsAbsent new name → (n : ℕ) → stands n files.provider.catalogue.entries ≡ true
          → (name ≡ file_name Table n → ⊥) ⊎ IsAbsent new name
      not_entered (inl unclaimed) n is = inl (unclaimed.entered n is)
      not_entered (inr absent) n is = inr absent

  pub files_kept : IsNoLog files name → IsUnclaimed files name ⊎ IsAbsent new name → KeepsFiles files old → KeepsFiles files new
  files_kept apart claims kept = record {
    beside = beside_kept apart.current apart.manifest apart.catalogue claims kept.beside;
    payloads = kept.payloads;
    entries = kept.entries;
    log = each_kept_at files.log kept.payloads old new (kept_at files.log.file (λ e. apart.log (e ∙ kept.log_file))) kept.log;
    log_file = kept.log_file;
    says_log = kept.says_log;
    commands = kept.commands;
    count = kept.count;
  }

-- a call on the log
pub log_kept : (files : StoreFiles) (old new : Contents) → KeepsOthers old new (file_name Log files.version.five.log) → KeepsFiles files old
    → KeepsBeside files new
log_kept files old new others kept =
    let own = file_name Log files.version.five.log in
    beside_kept files own old new others (no_current Log files.version.five.log)
    (λ e. let same = one_kind Log Manifest files.version.five.log files.manifest.number e in absurd (cc))
    (λ e. let same = one_kind Log Catalogue files.version.five.log files.manifest.catalogue e in absurd (cc))
    (inl (record {
      free = λ kind n other free e. unfree files old kept.beside kind n other free files.log kept.payloads kept.log (kept.log_file ∙ e);
      entered = λ n is e. let same = one_kind Log Table files.version.five.log n e in absurd (cc);
    }))
    kept.beside

-- ---- a number that is made

pub fewer_unmade : (files : StoreFiles) (unmade : List ℕ) (disk : Contents) → ((m : ℕ) → Contains unmade m → Contains files.unmade m)
    → KeepsFiles files disk → KeepsFiles (with_unmade unmade files) disk
fewer_unmade files unmade disk among kept =
    let beside = kept.beside in
    record {
      beside = record {
        manifest = beside.manifest;
        catalogue = beside.catalogue;
        catalogue_file = beside.catalogue_file;
        entered = beside.entered;
        fresh = λ kind n image other free. beside.fresh kind n image other (was_free n free);
        apart = beside.apart;
      };
      payloads = kept.payloads;
      entries = kept.entries;
      log = kept.log;
      log_file = kept.log_file;
      says_log = kept.says_log;
      commands = kept.commands;
      count = kept.count;
    }
  where
    was_free : (n : ℕ) → IsFree (with_unmade unmade files) n → IsFree files n
    was_free n (inl low) = inl low
    was_free n (inr is) = inr (among n is)

first_or_more : (first m next : ℕ) (same more : Bool) → (first == m) ≡ same → first < next → (same || more) ≡ true
    → (more ≡ true → m < next) → m < next
first_or_more first m next true more same low is rest = subst (λ k. k < next) (eqb-true first m same) low
first_or_more first m next false more same low is rest = rest is

-- a number that stands is below what all are below
stands_below : (entries : Entries) (m next : ℕ) → All (λ (entry : ℕ × Standing). entry.0 < next) entries → stands m entries ≡ true
    → m < next
stands_below [] m next all is = absurd (cc)
stands_below (entry ∷ entries) m next all is =
    first_or_more entry.0 m next (entry.0 == m) (stands m entries) refl
    (All-head (λ (e : ℕ × Standing). e.0 < next) entry entries all) is
    (stands_below entries m next (All-tail (λ (e : ℕ × Standing). e.0 < next) entry entries all))

module _ (files : StoreFiles) (unmade : List ℕ) (old : Contents) (ready : IsReady files) (kept : KeepsFiles files old)
    (among : (m : ℕ) → Contains unmade m → Contains files.unmade m) where
  reserved_low : files.version.five.next < 2 ^ 62
  reserved_low = (says_a_version kept.beside.manifest.edits files.version kept.beside.manifest.says).numbers.next

  drawn : (m : ℕ) → Contains files.unmade m → m < files.manifest.next
  drawn m is = All-contains (λ n. n < files.manifest.next) files.unmade m ready.unmade is

  free_low : (m : ℕ) → IsFree (with_unmade unmade files) m → m < 2 ^ 62
  free_low m (inl is) = is.1
  free_low m (inr is) = let low = drawn m (among m is) in omega (arith, low, ready.next, reserved_low)

  module _ (kind : FileKind) (n : ℕ) (was : Contains files.unmade n) (made : Contains unmade n → ⊥) (other : kind ≡ Catalogue → ⊥)
      (unentered : kind ≡ Table → stands n files.provider.catalogue.entries ≡ true → ⊥) where
    low : n < 2 ^ 62
    low = let below = drawn n was in omega (arith, below, ready.next, reserved_low)

    not_free : (m : ℕ) → m ≡ n → IsFree (with_unmade unmade files) m → ⊥
    not_free m same (inl is) = let below = drawn n was in omega (arith, below, is.0, same)
    not_free m same (inr is) = made (subst (Contains unmade) same is)

    own_number : (kind' : FileKind) (m : ℕ) → m < 2 ^ 62 → file_name kind n ≡ file_name kind' m → n ≡ m
    own_number kind' m fits e = (file_name-injective kind kind' n m (omega (arith, low)) (omega (arith, fits)) e).1

    no_log : IsNoLog (with_unmade unmade files) (file_name kind n)
    no_log = record {
      current = no_current kind n;
      manifest = λ e.
          let manifest = kept.beside.manifest in
          unfree files old kept.beside kind n other (inr was) files.manifest.log manifest.edits manifest.log (manifest.log_file ∙ sym e);
      catalogue = λ e. other (one_kind kind Catalogue n files.manifest.catalogue e);
      log = λ e. unfree files old kept.beside kind n other (inr was) files.log kept.payloads kept.log (kept.log_file ∙ sym e);
    }

    unclaimed : IsUnclaimed (with_unmade unmade files) (file_name kind n)
    unclaimed = record {
      free = λ kind' m other' free e. not_free m (sym (own_number kind' m (free_low m free) e)) free;
      entered = λ m is e.
          let below = stands_below files.provider.catalogue.entries m files.version.five.next kept.beside.entered is in
          let same = own_number Table m (omega (arith, below, reserved_low)) e in
          unentered (one_kind kind Table n m e) (subst (λ (k : ℕ). stands k files.provider.catalogue.entries ≡ true) (sym same) is);
    }

    pub number_made : (new : Contents) → KeepsOthers old new (file_name kind n) → KeepsFiles (with_unmade unmade files) new
    number_made new others =
        files_kept (with_unmade unmade files) (file_name kind n) old new others no_log (inl unclaimed)
        (fewer_unmade files unmade old among kept)
