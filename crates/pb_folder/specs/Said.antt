-- What a folder says: which files hold, and what their payloads say.
use Rattle.std.specs.Prelude.{◌≡◌, ℕ, ◌<◌, List, [], All}
use Rattle.pb_devices.specs.Contents.{Folder}
use Rattle.pb_names.specs.Spelling.{current_name, file_name}
use Rattle.pb_names.specs.declared.file_kind.FileKind.TheVariants.{Manifest, Catalogue, Log}
use Rattle.pb_payloads.specs.Current.{Pointer, SaysCurrent}
use Rattle.pb_payloads.specs.Catalogue.{Entries, SaysCatalogue, with_id}
use Rattle.pb_payloads.specs.Log.{LogEntry, SaysLog, waiting_in}
use Rattle.pb_gate_log.specs.Payloads.{HasPayloads}
use Rattle.pb_version.specs.Version.{VersionView}
use Rattle.pb_version.specs.SaysVersion.{SaysVersion}

-- the current pointer, the version, the entries of the catalogue that stand, and the commands that aren't in tables yet
pub record Said : Type 0 where
  pub pointer : Pointer
  pub version : VersionView
  pub entries : Entries
  pub log : List LogEntry

-- what may wait in the log: nothing yet
abbrev pub MayWait : Said → Type 0
MayWait said = waiting_in said.log ≡ []

-- the folder of the store with this id says all this; the manifest's number and those of the entries are reserved, and no
-- entry stands yet
pub record Says (folder : Folder) (id : ℕ) (said : Said) : Type 0 where
  pub current : HasPayloads folder current_name (λ list. SaysCurrent list said.pointer)
  pub manifest : HasPayloads folder (file_name Manifest said.pointer.manifest) (λ list. SaysVersion list said.version)
  pub catalogue : HasPayloads folder (file_name Catalogue said.pointer.catalogue) (λ list. SaysCatalogue list (with_id id said.entries))
  pub log : HasPayloads folder (file_name Log said.version.five.log) (λ list. SaysLog said.version.five.flushed list said.log)
  pub reserved : said.pointer.manifest < said.version.five.next
  pub entered : All (λ entry. entry.0 < said.version.five.next) said.entries
  pub bare : said.entries ≡ []
  pub waits : MayWait said
