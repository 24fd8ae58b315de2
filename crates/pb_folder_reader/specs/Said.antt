-- What was read of a folder, as the definition has it.
use Rattle.std.specs.Prelude.{ℕ, ◌<◌, List, All, map}
use Rattle.pb_devices.specs.Contents.{Folder}
use Rattle.pb_gate_log.specs.Payloads.{HasPayloads}
use Rattle.pb_names.specs.Spelling.{current_name, file_name}
use Rattle.pb_names.specs.declared.file_kind.FileKind.TheVariants.{Manifest, Catalogue, Log}
use Rattle.pb_payloads.specs.Catalogue.{Entries, SaysCatalogue, with_id}
use Rattle.pb_payloads.specs.Current.{Pointer, SaysCurrent}
use Rattle.pb_payloads.specs.Log.{SaysLog}
use Rattle.pb_version.specs.SaysVersion.{SaysVersion}
use Rattle.pb_version.specs.Version.{VersionView}
use Rattle.pb_wal.specs.Changes.{entry_of}
use Rattle.pb_wal.specs.declared.entry.Entry.{Entry}
use Rattle.pb_folder.specs.Said.{Said}

abbrev pub said_of : Pointer → VersionView → Entries → List Entry → Said
said_of pointer version entries log = record { pointer = pointer; version = version; entries = entries; log = map entry_of log }

-- all that a folder of the store with this id says, but for what may stand and wait in it yet
pub record IsRead (folder : Folder) (id : ℕ) (said : Said) : Type 0 where
  pub current : HasPayloads folder current_name (λ list. SaysCurrent list said.pointer)
  pub manifest : HasPayloads folder (file_name Manifest said.pointer.manifest) (λ list. SaysVersion list said.version)
  pub catalogue : HasPayloads folder (file_name Catalogue said.pointer.catalogue) (λ list. SaysCatalogue list (with_id id said.entries))
  pub log : HasPayloads folder (file_name Log said.version.five.log) (λ list. SaysLog said.version.five.flushed list said.log)
  pub reserved : said.pointer.manifest < said.version.five.next
  pub entered : All (λ entry. entry.0 < said.version.five.next) said.entries
