-- From a file's bytes to what its payloads say, and from one file of a folder to the next.
use Rattle.std.proofs.Common.{◌≡◌, ℕ, List, [], Option, Some, None, sym, ap, ◌∙◌, subst}
use Rattle.std.specs.Prelude.{IsSomeAnd, option_map}
use Rattle.pb_devices.specs.Contents.{Folder}
use Rattle.pb_folder.specs.Said.{Said, Says}
use Rattle.pb_folder_reader.specs.AtFault.{SaysEntries, SaysManifest}
use Rattle.pb_folder_reader.specs.Said.{IsRead}
use Rattle.pb_gate_log.specs.Payloads.{HasPayloads, payloads, payloads_in}
use Rattle.pb_gate_log.proofs.FilePayloads.{both_read}
use Rattle.pb_names.specs.Spelling.{current_name, file_name}
use Rattle.pb_names.specs.declared.file_kind.FileKind.TheVariants.{Manifest, Catalogue, Log}
use Rattle.pb_payloads.specs.Current.{Pointer, SaysCurrent}
use Rattle.pb_payloads.specs.Catalogue as catalogued
use Rattle.pb_payloads.specs.Catalogue.{Entries, SaysCatalogue, with_id}
use Rattle.pb_payloads.specs.Log.{LogEntry, SaysLog}
use Rattle.pb_payloads.proofs.CataloguedLaws.{one_catalogue}
use Rattle.pb_payloads.proofs.CurrentLaws.{one_current}
use Rattle.pb_payloads.proofs.LoggedLaws.{one_log}
use Rattle.pb_version.specs.Version.{VersionView}
use Rattle.pb_version.specs.SaysVersion.{SaysVersion}
use Rattle.pb_version.proofs.SaysLaws.{one_version}

-- the payloads that were found are those of the file
pub found_has : (file : Option (List ℕ)) (list : List (List ℕ)) (AreSuch : List (List ℕ) → Type 0) → Some list ≡ option_map payloads file → AreSuch list
    → IsSomeAnd file (λ bytes. AreSuch (payloads bytes))
found_has None list AreSuch found such = cc
found_has (Some bytes) list AreSuch found such =
    let same : list ≡ payloads bytes = cc in
    subst AreSuch same such

pub found_is : (file : Option (List ℕ)) (list : List (List ℕ)) (AreSuch : List (List ℕ) → Type 0) → Some list ≡ option_map payloads file
    → IsSomeAnd file (λ bytes. AreSuch (payloads bytes)) → AreSuch list
found_is None list AreSuch found such = cc
found_is (Some bytes) list AreSuch found such =
    let same : list ≡ payloads bytes = cc in
    subst AreSuch (sym same) such

-- none were found where there is no file
pub found_none : (file : Option (List ℕ)) → None ≡ option_map payloads file → file ≡ None
found_none None found = cc
found_none (Some bytes) found = cc

pub found_new : (file : Option (List ℕ)) (list : List (List ℕ)) → Some list ≡ option_map payloads file → payloads_in file ≡ [] → list ≡ []
found_new None list found new = cc
found_new (Some bytes) list found new =
    let same : list ≡ payloads bytes = cc in
    same ∙ new

-- ---- what a folder says, where this is its current pointer

module _ (folder : Folder) (id : ℕ) (said : Said) (pointer : Pointer) (at : said.pointer ≡ pointer) (says : Says folder id said) where
  pub manifest_says : SaysManifest folder pointer.manifest said.version
  manifest_says = subst (λ (p : Pointer). SaysManifest folder p.manifest said.version) at says.manifest

  pub catalogue_says : SaysEntries folder pointer.catalogue id said.entries
  catalogue_says = subst (λ (p : Pointer). SaysEntries folder p.catalogue id said.entries) at says.catalogue

  pub entries_are : (entries : Entries) → SaysEntries folder pointer.catalogue id entries → said.entries ≡ entries
  entries_are entries read =
      ap (λ (c : catalogued.Catalogue). c.entries)
      (both_read (folder (file_name Catalogue pointer.catalogue)) (λ list. SaysCatalogue list (with_id id said.entries)) (λ list. SaysCatalogue list (with_id id entries))
      catalogue_says read (λ list one two. one_catalogue list (with_id id said.entries) (with_id id entries) one two))

  module _ (version : VersionView) (read : SaysManifest folder pointer.manifest version) where
    pub version_is : said.version ≡ version
    version_is =
        both_read (folder (file_name Manifest pointer.manifest)) (λ list. SaysVersion list said.version) (λ list. SaysVersion list version) manifest_says read
        (λ list one two. one_version list said.version version one two)

    pub log_says : HasPayloads folder (file_name Log version.five.log) (λ list. SaysLog version.five.flushed list said.log)
    log_says = subst (λ (v : VersionView). HasPayloads folder (file_name Log v.five.log) (λ list. SaysLog v.five.flushed list said.log)) version_is says.log

    pub log_is : (log : List LogEntry) → HasPayloads folder (file_name Log version.five.log) (λ list. SaysLog version.five.flushed list log) → said.log ≡ log
    log_is log has =
        both_read (folder (file_name Log version.five.log)) (λ list. SaysLog version.five.flushed list said.log) (λ list. SaysLog version.five.flushed list log) log_says has
        (λ list one two. one_log version.five.flushed version.five.flushed list said.log log one two)

pub one_named : (folder : Folder) (one other : Pointer) → HasPayloads folder current_name (λ list. SaysCurrent list one)
    → HasPayloads folder current_name (λ list. SaysCurrent list other) → one ≡ other
one_named folder one other names names_other =
    both_read (folder current_name) (λ list. SaysCurrent list one) (λ list. SaysCurrent list other) names names_other
    (λ list p q. one_current list one other p q)

-- what was read is all that the folder says
pub one_read : (folder : Folder) (id : ℕ) (said read : Said) → Says folder id said → IsRead folder id read → said ≡ read
one_read folder id said read says is =
    let pointer = one_named folder said.pointer read.pointer says.current is.current in
    let version = version_is folder id said read.pointer pointer says read.version is.manifest in
    let entries = entries_are folder id said read.pointer pointer says read.entries is.catalogue in
    let log = log_is folder id said read.pointer pointer says read.version is.manifest read.log is.log in
    λ i. record { pointer = pointer i; version = version i; entries = entries i; log = log i }
