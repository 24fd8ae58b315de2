-- A folder says one thing.
use Rattle.std.proofs.Common.{◌≡◌, ℕ, List, Option, Some, sym, ap, subst}
use Rattle.std.specs.Prelude.{IsSomeAnd}
use Rattle.pb_devices.specs.Contents.{Folder}
use Rattle.pb_names.specs.Spelling.{current_name, file_name}
use Rattle.pb_names.specs.declared.file_kind.FileKind.TheVariants.{Manifest, Catalogue, Log}
use Rattle.pb_payloads.specs.Current.{Pointer, SaysCurrent}
use Rattle.pb_payloads.specs.Catalogue.{SaysCatalogue, with_id}
use Rattle.pb_payloads.specs.Catalogue as catalogued
use Rattle.pb_payloads.specs.Log.{SaysLog}
use Rattle.pb_payloads.proofs.CurrentLaws.{one_current}
use Rattle.pb_payloads.proofs.CataloguedLaws.{one_catalogue}
use Rattle.pb_payloads.proofs.LoggedLaws.{one_log}
use Rattle.pb_gate_log.specs.Payloads.{HasPayloads, payloads}
use Rattle.pb_gate_log.proofs.FilePayloads.{both_read}
use Rattle.pb_version.specs.Version.{VersionView}
use Rattle.pb_version.specs.SaysVersion.{SaysVersion}
use Rattle.pb_folder.specs.Said.{Said, Says}
use Rattle.pb_version.proofs.SaysLaws.{one_version}

-- the file of these bytes has payloads that are such
pub has_payloads : (folder : Folder) (name bytes : List ℕ) (list : List (List ℕ)) (AreSuch : List (List ℕ) → Type 0)
    → folder name ≡ Some bytes → payloads bytes ≡ list → AreSuch list → HasPayloads folder name AreSuch
has_payloads folder name bytes list AreSuch there are such =
    subst (λ (file : Option (List ℕ)). IsSomeAnd file (λ bytes. AreSuch (payloads bytes))) (sym there) (subst AreSuch (sym are) such)

module _ (folder : Folder) (id other : ℕ) (said again : Said) (says : Says folder id said) (says_again : Says folder other again) where
  same_pointer : said.pointer ≡ again.pointer
  same_pointer =
      both_read (folder current_name) (λ list. SaysCurrent list said.pointer) (λ list. SaysCurrent list again.pointer) says.current says_again.current
      (λ list one two. one_current list said.pointer again.pointer one two)

  same_version : said.version ≡ again.version
  same_version =
      let there = subst (λ (pointer : Pointer). HasPayloads folder (file_name Manifest pointer.manifest) (λ list. SaysVersion list again.version)) (sym same_pointer) says_again.manifest in
      both_read (folder (file_name Manifest said.pointer.manifest)) (λ list. SaysVersion list said.version) (λ list. SaysVersion list again.version) says.manifest there
      (λ list one two. one_version list said.version again.version one two)

  same_catalogue : with_id id said.entries ≡ with_id other again.entries
  same_catalogue =
      let there = subst (λ (pointer : Pointer). HasPayloads folder (file_name Catalogue pointer.catalogue) (λ list. SaysCatalogue list (with_id other again.entries))) (sym same_pointer) says_again.catalogue in
      both_read (folder (file_name Catalogue said.pointer.catalogue)) (λ list. SaysCatalogue list (with_id id said.entries)) (λ list. SaysCatalogue list (with_id other again.entries)) says.catalogue there
      (λ list one two. one_catalogue list (with_id id said.entries) (with_id other again.entries) one two)

  same_log : said.log ≡ again.log
  same_log =
      let there = subst (λ (v : VersionView). HasPayloads folder (file_name Log v.five.log) (λ list. SaysLog again.version.five.flushed list again.log)) (sym same_version) says_again.log in
      both_read (folder (file_name Log said.version.five.log)) (λ list. SaysLog said.version.five.flushed list said.log) (λ list. SaysLog again.version.five.flushed list again.log) says.log there
      (λ list one two. one_log said.version.five.flushed again.version.five.flushed list said.log again.log one two)

  pub one_said : said ≡ again
  one_said =
      let entries = ap (λ (c : catalogued.Catalogue). c.entries) same_catalogue in
      λ i. record { pointer = same_pointer i; version = same_version i; entries = entries i; log = same_log i }

  -- of one store
  pub one_id : id ≡ other
  one_id = ap (λ (c : catalogued.Catalogue). c.id) same_catalogue
