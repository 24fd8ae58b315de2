-- The files of a new store, and what is none of such a store's.
use Rattle.std.proofs.Common.{◌≡◌, ◌<◌, ◌≤◌, ◌^◌, ℕ, List, [], ◌∷◌, length, Option, Some, None, inl, inr, refl, sym, ap, ◌∙◌, subst, arith, length-append}
use Rattle.std.specs.Fmt.{decimal, digits}
use Rattle.std.specs.Prelude.{codes, IfSome, IsSomeAnd}
use Rattle.std.specs.List.{Contains}
use Rattle.std.proofs.lemmas.List.Elements.{All-cons, All-contains, All-contains_itself, All-head, All-nil}
use Rattle.std.proofs.lemmas.Option.{same_Some}
use Rattle.pb_bytes.specs.BigEndian.{be32, number_of}
use Rattle.pb_devices.specs.Contents.{Contents, Folder, IsSettled, MayLeave}
use Rattle.pb_devices.proofs.Images.{settled_image}
use Rattle.pb_names.specs.Spelling.{current_name, ending, file_name}
use Rattle.pb_names.specs.declared.file_kind.FileKind.{FileKind}
use Rattle.pb_names.specs.declared.file_kind.FileKind.TheVariants.{Catalogue, Log, Manifest, Table}
use Rattle.pb_names.proofs.Makers.{file_name-injective}
use Rattle.pb_names.proofs.SpellingLemmas.{length-ending}
use Rattle.pb_payloads.specs.Catalogue.{SaysCatalogue, with_id}
use Rattle.pb_payloads.specs.Current.{SaysCurrent, pointer_to}
use Rattle.pb_payloads.proofs.LoggedLaws as logged
use Rattle.pb_gate_log.specs.EachLog.{EachLog, LogPlace}
use Rattle.pb_gate_log.specs.LogFile.{IsLogFile, written}
use Rattle.pb_gate_log.specs.Payloads.{max_payload, payloads, payloads_of}
use Rattle.pb_gate_log.proofs.LogLemmas.{new_log}
use Rattle.pb_version.specs.SaysVersion.{SaysVersion}
use Rattle.pb_folder.specs.Examples.{empty_log, first_catalogue, first_current, first_manifest, store_with_log, table_of_a}
use Rattle.pb_folder.specs.Listed.{folder_of}
use Rattle.pb_manifest.specs.Manifest.{EachManifest}
use Rattle.pb_recover.specs.Files.{IsFree, IsNoLog, IsReady, IsUnclaimed, KeepsBeside, KeepsFiles, StoreFiles}
use Rattle.pb_recover.specs.First.{first_version}
use Rattle.pb_recover.proofs.BegunExamples.{behind_catalogue, behind_manifest, behind_pointer, is_first, past}
use Rattle.pb_recover.proofs.Files.{seen_image}
use Rattle.pb_recover.proofs.Names.{no_current}

-- ---- a disk on which nothing is pending

abbrev bytes_in : Option (List ℕ) → List ℕ
bytes_in None = []
bytes_in (Some bytes) = bytes

abbrev still : Folder → Contents
still folder = record { seen = folder; durable = λ name. bytes_in (folder name); pending = λ name at. ⊥; earlier = λ name image. ⊥ }

durable_in : (file : Option (List ℕ)) → IfSome file (λ bytes. bytes_in file ≡ bytes)
durable_in None = tt
durable_in (Some bytes) = refl

all_settled : (folder : Folder) (name : List ℕ) → IsSettled (still folder) name
all_settled folder name = record { durable = durable_in (folder name); nothing_pending = λ at is. is; nothing_earlier = λ image is. is }

image_is : (folder : Folder) (name : List ℕ) (image : Option (List ℕ)) → MayLeave (still folder) name image → image ≡ folder name
image_is folder name image left = settled_image (still folder) name image (all_settled folder name) left

is_log : (log : LogPlace) (list : List (List ℕ)) (bytes : List ℕ) (file : Option (List ℕ)) → file ≡ Some bytes → IsLogFile log.gate list bytes
    → IsSomeAnd file (IsLogFile log.gate list)
is_log log list bytes file there is = subst (λ (f : Option (List ℕ)). IsSomeAnd f (IsLogFile log.gate list)) (sym there) is

log_on : (log : LogPlace) (list : List (List ℕ)) (folder : Folder) (bytes : List ℕ) → folder log.file ≡ Some bytes
    → IsLogFile log.gate list bytes → length bytes ≡ log.len → EachLog log list (still folder)
log_on log list folder bytes there is sized =
    record {
      seen = is_log log list bytes (folder log.file) there is;
      images = λ image left. is_log log list bytes image (image_is folder log.file image left ∙ there) is;
      settled = all_settled folder log.file;
      sized = λ other seen. ap length (same_Some other bytes (sym seen ∙ there)) ∙ sized;
    }

-- ---- a new store

abbrev first_folder : Folder
first_folder = folder_of (store_with_log empty_log)

-- the numbers below 4 are drawn
abbrev first_files : StoreFiles
first_files = record {
  manifest = record {
    number = 1;
    catalogue = 2;
    next = 4;
    first = 10;
    log = record { file = codes "1.man"; gate = 15; len = 16 };
    current = record { file = codes "CURRENT"; gate = 7; len = 8 };
  };
  version = first_version;
  provider = record {
    catalogue = record { id = 1; entries = []; log = record { file = codes "2.cat"; gate = 7; len = 8 } };
    stages = [];
    begun = [];
  };
  log = record { file = codes "3.log"; gate = 0; len = 1 };
  commands = [];
  accepted = 0;
  unmade = [];
}

current_log : IsLogFile 7 ((1 ∷ 2 ∷ []) ∷ []) first_current
unfolding written be32
current_log = record {
  entries = refl;
  place = refl;
  short = All-cons (λ (payload : List ℕ). length payload ≤ max_payload) (1 ∷ 2 ∷ []) [] (omega arith) (All-nil _);
  within = omega arith;
  closed = λ e. omega (arith, e);
}

abbrev first_payload : List ℕ
first_payload = 1 ∷ 0 ∷ 2 ∷ 64 ∷ 3 ∷ 3 ∷ 4 ∷ 0 ∷ 5 ∷ 1 ∷ []

manifest_log : IsLogFile 15 (first_payload ∷ []) first_manifest
unfolding written be32
manifest_log = record {
  entries = refl;
  place = refl;
  short = All-cons (λ (payload : List ℕ). length payload ≤ max_payload) first_payload [] (omega arith) (All-nil _);
  within = omega arith;
  closed = λ e. omega (arith, e);
}

catalogue_log : IsLogFile 7 ((1 ∷ 1 ∷ []) ∷ []) first_catalogue
unfolding written be32
catalogue_log = record {
  entries = refl;
  place = refl;
  short = All-cons (λ (payload : List ℕ). length payload ≤ max_payload) (1 ∷ 1 ∷ []) [] (omega arith) (All-nil _);
  within = omega arith;
  closed = λ e. omega (arith, e);
}

says_pointer : SaysCurrent ((1 ∷ 2 ∷ []) ∷ []) (pointer_to 1 2)
unfolding current_name payloads payloads_of number_of
says_pointer = is_first.current

says_version : SaysVersion (first_payload ∷ []) first_version
unfolding file_name digits payloads payloads_of number_of
says_version = is_first.manifest

says_catalogue : SaysCatalogue ((1 ∷ 1 ∷ []) ∷ []) (with_id 1 [])
unfolding file_name digits payloads payloads_of number_of
says_catalogue = is_first.catalogue

each_manifest : EachManifest first_files.manifest first_version (still first_folder)
unfolding current_name file_name digits
each_manifest = record {
  pointers = (1 ∷ 2 ∷ []) ∷ [];
  current = log_on first_files.manifest.current ((1 ∷ 2 ∷ []) ∷ []) first_folder first_current refl current_log refl;
  current_file = refl;
  names = says_pointer;
  edits = first_payload ∷ [];
  log = log_on first_files.manifest.log (first_payload ∷ []) first_folder first_manifest refl manifest_log refl;
  log_file = refl;
  says = says_version;
  first_is = refl;
  drawn = omega arith;
  own = omega arith;
}

manifest_1 : codes "1.man" ≡ file_name Manifest 1
unfolding file_name digits
manifest_1 = refl

catalogue_2 : codes "2.cat" ≡ file_name Catalogue 2
unfolding file_name digits
catalogue_2 = refl

log_3 : codes "3.log" ≡ file_name Log 3
unfolding file_name digits
log_3 = refl

current_is : codes "CURRENT" ≡ current_name
unfolding current_name
current_is = refl

-- no file has a number from 4 on
none_from_4 : (kind : FileKind) (n : ℕ) → 4 ≤ n → n < 2 ^ 62 → first_folder (file_name kind n) ≡ None
none_from_4 kind n from fits =
    let apart : (other : FileKind) (m : ℕ) → m < 4 → file_name other m ≡ file_name kind n → ⊥ =
    λ other m low e.
    let same : m ≡ n = (file_name-injective other kind m n (omega (arith, low)) (omega (arith, fits)) e).1 in
    omega (arith, same, low, from) in
    past (codes "CURRENT", first_current) behind_pointer (file_name kind n) (λ e. no_current kind n (sym e ∙ current_is))
    ∙ past (codes "1.man", first_manifest) behind_manifest (file_name kind n) (λ e. apart Manifest 1 (omega arith) (sym manifest_1 ∙ e))
    ∙ past (codes "2.cat", first_catalogue) behind_catalogue (file_name kind n) (λ e. apart Catalogue 2 (omega arith) (sym catalogue_2 ∙ e))
    ∙ past (codes "3.log", empty_log) [] (file_name kind n) (λ e. apart Log 3 (omega arith) (sym log_3 ∙ e))

none_contained : (n : ℕ) → Contains {X = ℕ} [] n → ⊥
none_contained n is = All-contains (λ (m : ℕ). ⊥) [] n (All-nil _) is

first_fresh : (kind : FileKind) (n : ℕ) (image : Option (List ℕ)) → IsFree first_files n
    → MayLeave (still first_folder) (file_name kind n) image → image ≡ None
first_fresh kind n image (inl free) left = image_is first_folder (file_name kind n) image left ∙ none_from_4 kind n free.0 free.1
first_fresh kind n image (inr is) left = absurd (none_contained n is)

pub a_new_store_keeps_its_files : KeepsFiles first_files (still first_folder)
unfolding file_name digits
a_new_store_keeps_its_files = record {
  beside = record {
    manifest = each_manifest;
    catalogue = record {
      payloads = (1 ∷ 1 ∷ []) ∷ [];
      log = log_on first_files.provider.catalogue.log ((1 ∷ 1 ∷ []) ∷ []) first_folder first_catalogue refl catalogue_log refl;
      says = says_catalogue;
    };
    catalogue_file = refl;
    entered = All-nil _;
    fresh = λ kind n image other free. first_fresh kind n image free;
    apart = λ n image is. absurd (cc);
  };
  payloads = [];
  entries = [];
  log = log_on first_files.log [] first_folder empty_log refl new_log refl;
  log_file = refl;
  says_log = logged.empty_log 0;
  commands = λ layers. refl;
  count = refl;
}

pub a_new_store_is_ready : IsReady first_files
a_new_store_is_ready = record {
  folded = (says_version.edits, says_version.folds);
  own = omega arith;
  log = omega arith;
  tables = All-nil _;
  backings = All-nil _;
  unmade = All-nil _;
  next = omega arith;
  count = omega arith;
  low = omega arith;
  bare = refl;
}

-- ---- what is none

-- a table with a number that nobody has drawn
abbrev with_table : Folder
with_table = folder_of ((codes "9.tbl", table_of_a) ∷ store_with_log empty_log)

pub a_table_to_come_is_no_file : KeepsBeside first_files (still with_table) → ⊥
unfolding file_name digits
a_table_to_come_is_no_file kept =
    let none : with_table (file_name Table 9) ≡ None =
    kept.fresh Table 9 (with_table (file_name Table 9)) (λ e. cc) (inl (omega arith, omega arith))
    (seen_image (still with_table) (file_name Table 9) (all_settled with_table (file_name Table 9))) in
    absurd (cc)

-- the log's own number is to be drawn
pub a_drawn_log_is_not_ready : IsReady (record first_files { manifest = record first_files.manifest { next = 3 } }) → ⊥
a_drawn_log_is_not_ready ready = omega (arith, ready.log)

-- ---- names

-- a file whose name has no ending of a numbered one
no_number : (kind : FileKind) (n : ℕ) → codes "x" ≡ file_name kind n → ⊥
unfolding file_name
no_number kind n e = omega (arith, ap length e, length-append (decimal n) (ending kind), length-ending kind)

pub another_file_is_unclaimed : IsUnclaimed first_files (codes "x")
another_file_is_unclaimed = record { free = λ kind n other free. no_number kind n; entered = λ n is. absurd (cc) }

pub a_table_to_come_is_claimed : IsUnclaimed first_files (codes "9.tbl") → ⊥
unfolding file_name digits
a_table_to_come_is_claimed unclaimed = unclaimed.free Table 9 (λ e. cc) (inl (omega arith, omega arith)) refl

pub another_file_is_no_log : IsNoLog first_files (codes "x")
unfolding current_name
another_file_is_no_log = record {
  current = λ e. let same = ap length e in omega (arith, same);
  manifest = no_number Manifest 1;
  catalogue = no_number Catalogue 2;
  log = no_number Log 3;
}

pub the_log_is_a_log : IsNoLog first_files (codes "3.log") → ⊥
the_log_is_a_log none = none.log log_3

-- ---- free numbers

-- 4 and 5 are drawn, and 5 is in no file yet
abbrev five_unmade : StoreFiles
five_unmade = record first_files { manifest = record first_files.manifest { next = 6 }; unmade = 5 ∷ [] }

pub six_is_free : IsFree five_unmade 6
six_is_free = inl (omega arith, omega arith)

pub five_is_free : IsFree five_unmade 5
five_is_free = inr (All-head (Contains (5 ∷ [])) 5 [] (All-contains_itself (5 ∷ [])))

pub four_is_not_free : IsFree five_unmade 4 → ⊥
four_is_not_free (inl from) = omega (arith, from.0)
four_is_not_free (inr is) =
    let same : 4 ≡ 5 = All-contains (λ (m : ℕ). m ≡ 5) (5 ∷ []) 4 (All-cons (λ (m : ℕ). m ≡ 5) 5 [] refl (All-nil _)) is in
    omega (arith, same)

pub the_bound_is_not_free : IsFree first_files (2 ^ 62) → ⊥
the_bound_is_not_free (inl from) = omega (arith, from.1)
the_bound_is_not_free (inr is) = none_contained (2 ^ 62) is
