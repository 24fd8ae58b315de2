-- From what was read of a folder to what it stands for.
use Rattle.std.proofs.Common.{◌≡◌, ℕ, List, [], ◌∷◌, ◌++◌, map, refl, sym, ap, ◌∙◌, subst}
use Rattle.std.specs.FinMap.{empty}
use Rattle.std.specs.List.{All}
use Rattle.std.proofs.lemmas.List.Elements.{All-nil}
use Rattle.pb_devices.specs.Contents.{Folder}
use Rattle.pb_devices.specs.Objects.{Objects}
use Rattle.pb_folder.specs.Held.{IsLocal}
use Rattle.pb_folder.specs.Meaning.{after_log, said_count}
use Rattle.pb_folder.specs.StandsFor.{Means}
use Rattle.pb_keys.specs.Map.{Map}
use Rattle.pb_payloads.specs.Catalogue.{Entries}
use Rattle.pb_payloads.specs.Current.{Pointer}
use Rattle.pb_payloads.specs.Log.{waiting_in, waiting_of}
use Rattle.pb_payloads.specs.Places.{bytes_of}
use Rattle.pb_rows.specs.Applied.{applied_newest_first}
use Rattle.pb_rows.specs.Layer.{KeyLayer}
use Rattle.pb_version.specs.Version.{VersionView}
use Rattle.pb_version.proofs.MeaningLaws.{map_of-newest_first}
use Rattle.pb_wal.specs.Changes.{entry_of, logged_of}
use Rattle.pb_wal.specs.declared.entry.Change.{Change}
use Rattle.pb_wal.specs.declared.entry.Change.TheVariants.{Set, Del, DelRange}
use Rattle.pb_wal.specs.declared.entry.Entry.{Entry}
use Rattle.pb_folder_reader.specs.Said.{IsRead, said_of}
use Rattle.pb_folder_reader.specs.Tables.{ShowsAll}

-- ---- no command of a log waits

none_waits : (change : Change) → waiting_of (logged_of change) ≡ []
none_waits (Set key value) = refl
none_waits (Del key) = refl
none_waits (DelRange span) = refl

none_wait : (log : List Entry) → waiting_in (map entry_of log) ≡ []
none_wait [] = refl
none_wait (entry ∷ log) = λ i. none_waits entry.change i ++ none_wait log i

-- ---- a count and a map

pub means_of : (folder : Folder) (objects : Objects) (id : ℕ) (pointer : Pointer) (version : VersionView) (entries : Entries) (log : List Entry) (shown : List KeyLayer)
    → IsRead folder id (said_of pointer version entries log) → entries ≡ [] → (shows : ShowsAll (bytes_of folder objects entries) version shown) → (n : ℕ) (m : Map)
    → n ≡ said_count (said_of pointer version entries log) → m ≡ after_log shows.layers (applied_newest_first shown empty) (map entry_of log)
    → Means folder objects id n m
means_of folder objects id pointer version entries log shown read bare shows n m count pairs = record {
  said = said_of pointer version entries log;
  layers = shows.layers;
  says = record {
    current = read.current;
    manifest = read.manifest;
    catalogue = read.catalogue;
    log = read.log;
    reserved = read.reserved;
    entered = read.entered;
    bare = bare;
    waits = none_wait log;
  };
  holds = record {
    tables = record { stored = shows.stored; mapped = shows.mapped };
    waiting = subst (All (IsLocal folder shows.layers)) (sym (none_wait log)) (All-nil (IsLocal folder shows.layers));
  };
  count = count;
  pairs =
      pairs
      ∙ ap (λ (start : Map). after_log shows.layers start (map entry_of log))
      (ap (λ (layers : List KeyLayer). applied_newest_first layers empty) shows.is ∙ sym (map_of-newest_first version shows.layers));
}
