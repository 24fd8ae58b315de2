-- A folder stands for one count and one map.
use Rattle.std.proofs.Common.{◌≡◌, ℕ, List, [], ◌∷◌, Option, Some, None, map, reverse, refl, sym, ap, ◌∙◌, subst, inl, inr}
use Rattle.std.specs.Prelude.{IsSomeAnd}
use Rattle.std.specs.List.{All}
use Rattle.std.specs.FinMap.{empty}
use Rattle.pb_devices.specs.Contents.{Folder}
use Rattle.pb_devices.specs.Objects.{Objects}
use Rattle.pb_names.specs.Spelling.{current_name, file_name}
use Rattle.pb_names.specs.declared.file_kind.FileKind.TheVariants.{Table}
use Rattle.pb_keys.specs.Map.{Map}
use Rattle.pb_rows.specs.Layer.{KeyLayer}
use Rattle.pb_rows.specs.Applied.{applied_in_turn}
use Rattle.pb_rows.specs.Changing.{Changing, after}
use Rattle.pb_rows.specs.Viewed.{viewed}
use Rattle.pb_payloads.specs.Current.{SaysCurrent}
use Rattle.pb_payloads.specs.Logged.{Logged}
use Rattle.pb_payloads.specs.Logged.Logged.{Set, Del, DelRange, Ingest}
use Rattle.pb_payloads.specs.Log.{LogEntry, waiting_in, waiting_of}
use Rattle.pb_payloads.specs.Places.{bytes_of}
use Rattle.pb_payloads.proofs.CurrentLaws.{no_pointer}
use Rattle.pb_gate_log.specs.NewFolder.{IsNew}
use Rattle.pb_gate_log.proofs.FilePayloads.{such_in}
use Rattle.pb_table.proofs.TableLemmas.{one_layer}
use Rattle.pb_version.specs.Version.{TableView, VersionView, all_tables}
use Rattle.pb_version.specs.Meaning.{map_of, layer_of_table}
use Rattle.pb_version.specs.Stored.{backing_of, stored_in}
use Rattle.pb_folder.specs.Said.{Said, Says}
use Rattle.pb_folder.specs.Held.{IsTableOf, IsStored, IsLocal, Holds}
use Rattle.pb_folder.specs.Meaning.{changing_of, after_log, said_count, said_map}
use Rattle.pb_folder.specs.StandsFor.{Means, StandsFor}
use Rattle.pb_folder.proofs.Lists.{All-front, All-back, All-reverse, All-of_map, All-both, map_alike}
use Rattle.pb_folder.proofs.SaidLaws.{one_said}

-- ---- layers

same_layer : (found : Option (List ℕ)) (size : ℕ) (one other : KeyLayer) → IsSomeAnd found (IsTableOf size one) → IsSomeAnd found (IsTableOf size other) → one ≡ other
same_layer None size one other is is_other = absurd is
same_layer (Some bytes) size one other is is_other = one_layer bytes one other is.spelled is_other.spelled

module _ (layers others : ℕ → KeyLayer) where
  stored_alike : (folder : Folder) (objects : Objects) (said : Said) → Holds folder objects said layers → Holds folder objects said others
      → All (λ item. layers item.number ≡ others item.number) (stored_in said.version)
  stored_alike folder objects said holds holds_others =
      All-both (IsStored folder objects said.entries layers) (IsStored folder objects said.entries others) (λ item. layers item.number ≡ others item.number)
      (λ item one other. same_layer (bytes_of folder objects said.entries item.number) item.size (layers item.number) (others item.number) one other)
      (stored_in said.version) holds.tables.stored holds_others.tables.stored

  tables_alike : (v : VersionView) → All (λ item. layers item.number ≡ others item.number) (stored_in v)
      → All (λ table. layers table.backing ≡ others table.backing) (all_tables v)
  tables_alike v alike =
      All-of_map (λ item. layers item.number ≡ others item.number) backing_of (all_tables v)
      (All-front (λ item. layers item.number ≡ others item.number) (map backing_of (all_tables v)) v.backings alike)

  waiting_alike : (folder : Folder) (objects : Objects) (said : Said) → Holds folder objects said layers → Holds folder objects said others
      → All (λ table. layers table.number ≡ others table.number) (waiting_in said.log)
  waiting_alike folder objects said holds holds_others =
      All-both (IsLocal folder layers) (IsLocal folder others) (λ table. layers table.number ≡ others table.number)
      (λ table one other. same_layer (folder (file_name Table table.number)) table.size (layers table.number) (others table.number) one other)
      (waiting_in said.log) holds.waiting holds_others.waiting

  -- ---- the version's map

  shown_alike : (tables : List TableView) → All (λ table. layers table.backing ≡ others table.backing) tables
      → map (layer_of_table layers) (reverse tables) ≡ map (layer_of_table others) (reverse tables)
  shown_alike tables alike =
      map_alike (layer_of_table layers) (layer_of_table others) (reverse tables)
      (All-reverse (λ table. layer_of_table layers table ≡ layer_of_table others table) tables
      (λ k d within. ap (viewed _) (alike k d within)))

  version_alike : (v : VersionView) → All (λ table. layers table.backing ≡ others table.backing) (all_tables v) → map_of v layers ≡ map_of v others
  unfolding map_of
  version_alike v alike = ap (λ (list : List KeyLayer). applied_in_turn list empty) (shown_alike (all_tables v) alike)

  -- ---- the log's commands

  changing_alike : (logged : Logged) → All (λ table. layers table.number ≡ others table.number) (waiting_of logged) → changing_of layers logged ≡ changing_of others logged
  changing_alike (Set key value) alike = refl
  changing_alike (Del key) alike = refl
  changing_alike (DelRange span) alike = refl
  changing_alike (Ingest None tables) alike = ap Changing.Ingest (map_alike (λ table. layers table.number) (λ table. others table.number) tables alike)
  changing_alike (Ingest (Some span) tables) alike = ap (Changing.IngestExcise span) (map_alike (λ table. layers table.number) (λ table. others table.number) tables alike)

  log_alike : (m : Map) (log : List LogEntry) → All (λ table. layers table.number ≡ others table.number) (waiting_in log) → after_log layers m log ≡ after_log others m log
  log_alike m [] alike = refl
  log_alike m (entry ∷ later) alike =
      let first = All-front (λ table. layers table.number ≡ others table.number) (waiting_of entry.command) (waiting_in later) alike in
      let rest = All-back (λ table. layers table.number ≡ others table.number) (waiting_of entry.command) (waiting_in later) alike in
      log_alike (after m (changing_of layers entry.command)) later rest
      ∙ ap (λ (changing : Changing). after_log others (after m changing) later) (changing_alike entry.command first)

  pub map_alike_said : (folder : Folder) (objects : Objects) (said : Said) → Holds folder objects said layers → Holds folder objects said others
      → said_map said layers ≡ said_map said others
  map_alike_said folder objects said holds holds_others =
      let tables = tables_alike said.version (stored_alike folder objects said holds holds_others) in
      log_alike (map_of said.version layers) said.log (waiting_alike folder objects said holds holds_others)
      ∙ ap (λ (m : Map). after_log others m said.log) (version_alike said.version tables)

-- ---- the folder

pub new_says_nothing : (folder : Folder) (id : ℕ) (said : Said) → IsNew folder → Says folder id said → ⊥
new_says_nothing folder id said new says =
    no_pointer said.pointer
    (subst (λ (list : List (List ℕ)). SaysCurrent list said.pointer) new
    (such_in (folder current_name) (λ list. SaysCurrent list said.pointer) says.current))

means_once : (folder : Folder) (objects : Objects) (id other n k : ℕ) (m l : Map) → Means folder objects id n m → Means folder objects other k l → (n ≡ k) × (m ≡ l)
means_once folder objects id other n k m l one two =
    let said = one_said folder id other one.said two.said one.says two.says in
    let holds = subst (λ (said : Said). Holds folder objects said two.layers) (sym said) two.holds in (
      one.count ∙ ap said_count said ∙ sym two.count,
      one.pairs ∙ map_alike_said one.layers two.layers folder objects one.said one.holds holds ∙ ap (λ (said : Said). said_map said two.layers) said ∙ sym two.pairs,
    )

-- whoever reads it, and for whichever store
pub one_meaning : (folder : Folder) (objects : Objects) (id other n k : ℕ) (m l : Map)
    → StandsFor folder objects id n m → StandsFor folder objects other k l → (n ≡ k) × (m ≡ l)
one_meaning folder objects id other n k m l (inl one) (inl two) = (one.1 ∙ sym two.1, one.2 ∙ sym two.2)
one_meaning folder objects id other n k m l (inl one) (inr two) = absurd (new_says_nothing folder other two.said one.0 two.says)
one_meaning folder objects id other n k m l (inr one) (inl two) = absurd (new_says_nothing folder id one.said two.0 one.says)
one_meaning folder objects id other n k m l (inr one) (inr two) = means_once folder objects id other n k m l one two
