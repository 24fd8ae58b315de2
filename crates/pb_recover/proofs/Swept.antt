-- What a sweep leaves says what the folder said, and stands for what it stood for.
use Rattle.std.proofs.Common.{◌≡◌, ℕ, List, Some, None, true, refl, sym, ap, ◌∙◌, subst}
use Rattle.std.specs.Prelude.{◌↔◌}
use Rattle.std.specs.List.{All}
use Rattle.std.proofs.lemmas.List.Elements.{All-nil}
use Rattle.pb_devices.specs.Contents.{Folder}
use Rattle.pb_devices.specs.Objects.{Objects}
use Rattle.pb_keys.specs.Map.{Map}
use Rattle.pb_names.specs.Spelling.{current_name, file_name}
use Rattle.pb_names.specs.declared.file_kind.FileKind.TheVariants.{Manifest, Catalogue, Log, Table}
use Rattle.pb_payloads.specs.Log.{waiting_in}
use Rattle.pb_payloads.specs.Logged.{Waiting}
use Rattle.pb_gate_log.specs.NewFolder.{IsNew}
use Rattle.pb_gate_log.specs.Payloads.{HasList, payloads_in}
use Rattle.pb_version.specs.Stored.{stored_in}
use Rattle.pb_folder.specs.Alike.{Alike, KeepsList, SameTable}
use Rattle.pb_folder.specs.Said.{Said, Says}
use Rattle.pb_folder.specs.Shown.{Words, Shows, is_named}
use Rattle.pb_folder.specs.StandsFor.{StandsFor}
use Rattle.pb_folder.proofs.AlikeLaws.{named_files, words_carried}
use Rattle.pb_folder.proofs.SaidLaws.{one_said}
use Rattle.pb_recover.specs.Reopened.{IsGateLog, IsLeftover, IsNamedBy, IsSwept, IsSweptAt}
use Rattle.pb_recover.specs.Reopened.IsNamedBy.{IsManifest, IsCatalogue, IsLog, IsTable}
use Rattle.pb_recover.specs.Reopened.IsSweptAt.{Same, Relisted, Gone}
use Rattle.pb_recover.proofs.Lists.{all_numbered, list_in, one_list}
use Rattle.pb_recover.proofs.Names.{current_unnumbered, table_apart}

-- ---- one name

module _ (id : ℕ) (before now : Folder) (name : List ℕ) where
  -- what has a list now had it
  list_before : IsSweptAt id before now name → KeepsList now before name
  list_before (Same e) list has = subst (HasList list) e has
  list_before (Relisted log both) list has =
      subst (λ (l : List (List ℕ)). HasList l (before name)) (one_list (now name) both.list list both.second has) both.first
  list_before (Gone left none) list has = absurd (subst (HasList list) none has)

  -- and no leftover loses its list
  list_after : IsSweptAt id before now name → (IsLeftover id before name → ⊥) → KeepsList before now name
  list_after (Same e) kept list has = subst (HasList list) (sym e) has
  list_after (Relisted log both) kept list has =
      subst (λ (l : List (List ℕ)). HasList l (now name)) (one_list (before name) both.list list both.first has) both.second
  list_after (Gone left none) kept list has = absurd (kept left)

  -- where it is no leftover, as many payloads are in it
  payloads_same : IsSweptAt id before now name → (IsLeftover id before name → ⊥) → payloads_in (now name) ≡ payloads_in (before name)
  payloads_same (Same e) kept = ap payloads_in e
  payloads_same (Relisted log both) kept = list_in (now name) both.list both.second ∙ sym (list_in (before name) both.list both.first)
  payloads_same (Gone left none) kept = absurd (kept left)

  -- what is neither a gate log nor a leftover is as it was
  bytes_same : IsSweptAt id before now name → (IsGateLog name → ⊥) → (IsLeftover id before name → ⊥) → now name ≡ before name
  bytes_same (Same e) other kept = e
  bytes_same (Relisted log both) other kept = absurd (other log)
  bytes_same (Gone left none) other kept = absurd (kept left)

-- ---- the folder

module _ (id : ℕ) (before now : Folder) (swept : IsSwept id before now) where
  -- the current pointer is no leftover
  pointer_kept : IsLeftover id before current_name → ⊥
  pointer_kept left = current_unnumbered left.numbered

  pub new_after : IsNew before → IsNew now
  new_after new = payloads_same id before now current_name (swept current_name) pointer_kept ∙ new

  pub new_before : IsNew now → IsNew before
  new_before new = sym (payloads_same id before now current_name (swept current_name) pointer_kept) ∙ new

  pub says_before : (said : Said) → Says now id said → Says before id said
  says_before said says =
      words_carried now before id said (list_before id before now _ (swept _)) (list_before id before now _ (swept _))
      (list_before id before now _ (swept _)) (list_before id before now _ (swept _)) says

  module _ (said : Said) (says : Says before id said) where
    -- what the words name is no leftover
    named_kept : (name : List ℕ) → IsNamedBy said name → IsLeftover id before name → ⊥
    named_kept name named left =
        left.unnamed (subst (λ (words : Said). IsNamedBy words name) (one_said before id id said left.said says left.says) named)

    table_same : (number : ℕ) → is_named said number ≡ true → SameTable before now number
    table_same number is =
        bytes_same id before now (file_name Table number) (swept (file_name Table number)) (table_apart number)
        (named_kept (file_name Table number) (IsTable number is refl))

    manifest_after : KeepsList before now (file_name Manifest said.pointer.manifest)
    manifest_after = list_after id before now _ (swept _) (named_kept _ (IsManifest refl))

    catalogue_after : KeepsList before now (file_name Catalogue said.pointer.catalogue)
    catalogue_after = list_after id before now _ (swept _) (named_kept _ (IsCatalogue refl))

    log_after : KeepsList before now (file_name Log said.version.five.log)
    log_after = list_after id before now _ (swept _) (named_kept _ (IsLog refl))

    pub says_after : Says now id said
    says_after =
        words_carried before now id said (list_after id before now _ (swept _) pointer_kept) manifest_after catalogue_after log_after says

    nothing_waits : (Fact : Waiting → Type 0) → All Fact (waiting_in said.log)
    nothing_waits Fact = subst (All Fact) (sym says.waits) (All-nil Fact)

    alike : Alike said before now
    alike = record {
      current = list_after id before now _ (swept _) pointer_kept;
      manifest = manifest_after;
      catalogue = catalogue_after;
      log = log_after;
      stored = all_numbered (stored_in said.version) (SameTable before now) table_same;
      waiting = nothing_waits (λ table. SameTable before now table.number);
    }

    alike_back : Alike said now before
    alike_back = record {
      current = list_before id before now _ (swept _);
      manifest = list_before id before now _ (swept _);
      catalogue = list_before id before now _ (swept _);
      log = list_before id before now _ (swept _);
      stored = all_numbered (stored_in said.version) (SameTable now before) (λ number is. sym (table_same number is));
      waiting = nothing_waits (λ table. SameTable now before table.number);
    }

  pub swept_stands : (objects : Objects) (n : ℕ) (m : Map) → StandsFor before objects id n m ↔ StandsFor now objects id n m
  swept_stands objects n m = (
    λ stands. named_files before now objects id n m stands alike new_after,
    λ stands. named_files now before objects id n m stands (λ said says. alike_back said (says_before said says)) new_before,
  )

  pub swept_shows : (words : Words) → Shows before id words → Shows now id words
  swept_shows None shows = new_after shows
  swept_shows (Some said) shows = says_after said shows
