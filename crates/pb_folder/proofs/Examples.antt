-- The definitions, computed on the first folders of a store.
use Rattle.std.proofs.Common.{◌≡◌, ℕ, List, [], ◌∷◌, Bool, true, Some, refl, sym, ap, arith, inl, inr}
use Rattle.std.specs.Fmt.{digits}
use Rattle.std.specs.FinMap.{empty, insert, get-retain_keys}
use Rattle.pb_keys.proofs.MapFacts.{same_pairs}
use Rattle.std.proofs.lemmas.List.Elements.{All-nil, All-cons}
use Rattle.pb_bytes.specs.Varint.{groups, varint, field}
use Rattle.pb_bytes.specs.BigEndian.{number_of}
use Rattle.pb_devices.specs.Objects.{Objects}
use Rattle.pb_keys.specs.Key.{IsKey}
use Rattle.pb_keys.specs.Map.{Map}
use Rattle.pb_names.specs.Spelling.{current_name, file_name}
use Rattle.pb_names.specs.declared.file_kind.FileKind.TheVariants.{Manifest, Catalogue, Log}
use Rattle.pb_payloads.specs.Current.{Pointer, SaysCurrent}
use Rattle.pb_payloads.specs.Catalogue.{SaysCatalogue, with_id}
use Rattle.pb_payloads.specs.Logged.{Logged}
use Rattle.pb_payloads.specs.Log.{LogEntry, IsEntry, SaysLog, waiting_in}
use Rattle.pb_payloads.proofs.CataloguedLaws as catalogued
use Rattle.pb_payloads.proofs.LoggedLaws as logged
use Rattle.pb_gate_log.specs.Payloads.{payloads, payloads_of}
use Rattle.pb_edit.specs.Grammar.{AreItems, IsEdit, edit_spelling}
use Rattle.pb_rows.specs.Layer.{KeyRow, KeyLayer, IsLayer, layer_of, IsShortRow}
use Rattle.pb_rows.specs.Applied.{applied, without_all}
use Rattle.pb_rows.specs.Viewed.{viewed, mapped_key}
use Rattle.pb_keys.specs.Span.{IsSpan, holds_key}
use Rattle.pb_table.specs.Spelling.{format_1, table_spelling}
use Rattle.pb_table.specs.Spells.{Spells}
use Rattle.pb_version.specs.Edited.{edited}
use Rattle.pb_version.specs.Rules.{first_broken}
use Rattle.pb_version.specs.Meaning.{map_of}
use Rattle.pb_version.specs.Examples.{first_edit, new_store, first_flush, flushed_store, flushed_table}
use Rattle.pb_version.specs.SaysVersion.{SaysVersion}
use Rattle.pb_folder.specs.Said.{Said, Says}
use Rattle.pb_folder.specs.Held.{IsStored, IsMapped}
use Rattle.pb_folder.specs.StandsFor.{StandsFor}
use Rattle.pb_folder.specs.Listed.{folder_of}
use Rattle.pb_folder.specs.Examples.{first_current, first_manifest, first_catalogue, store_with_log, empty_log, log_of_a_set, flushed_manifest, table_of_a, flushed_files}
use Rattle.pb_folder.proofs.SaidLaws.{has_payloads}

-- ---- files

current_file : (log : List ℕ) → folder_of (store_with_log log) current_name ≡ Some first_current
unfolding current_name
current_file log = refl

manifest_file : (log : List ℕ) → folder_of (store_with_log log) (file_name Manifest 1) ≡ Some first_manifest
unfolding file_name digits
manifest_file log = refl

catalogue_file : (log : List ℕ) → folder_of (store_with_log log) (file_name Catalogue 2) ≡ Some first_catalogue
unfolding file_name digits
catalogue_file log = refl

log_file : (log : List ℕ) → folder_of (store_with_log log) (file_name Log 3) ≡ Some log
unfolding file_name digits
log_file log = refl

-- ---- what they say

unfoldable pub first_pointer : Pointer
first_pointer = record { manifest = 1; catalogue = 2 }

current_payloads : payloads first_current ≡ (1 ∷ 2 ∷ []) ∷ []
unfolding payloads payloads_of number_of
current_payloads = refl

says_pointer : SaysCurrent ((1 ∷ 2 ∷ []) ∷ []) first_pointer
unfolding varint groups first_pointer
says_pointer = record { last = refl; in_form = record { manifest = omega arith; catalogue = omega arith } }

manifest_payloads : payloads first_manifest ≡ (1 ∷ 0 ∷ 2 ∷ 64 ∷ 3 ∷ 3 ∷ 4 ∷ 0 ∷ 5 ∷ 1 ∷ []) ∷ []
unfolding payloads payloads_of number_of
manifest_payloads = refl

no_items : {X : Type 0} (IsItem : X → Type 0) (is_below : X → X → Bool) → AreItems IsItem is_below []
no_items IsItem is_below = record { each = tt; ascend = tt }

is_first_edit : IsEdit first_edit
unfolding edit_spelling varint groups
is_first_edit = record {
  some = λ e. cc;
  accepted = omega arith;
  next = omega arith;
  log = omega arith;
  flushed = omega arith;
  format = omega arith;
  deleted = no_items _ _;
  physical = no_items _ _;
  virtuals = no_items _ _;
  created = no_items _ _;
  removed = no_items _ _;
}

says_version : SaysVersion ((1 ∷ 0 ∷ 2 ∷ 64 ∷ 3 ∷ 3 ∷ 4 ∷ 0 ∷ 5 ∷ 1 ∷ []) ∷ []) new_store
unfolding edit_spelling varint groups first_broken edited
says_version = record {
  edits = first_edit ∷ [];
  spelled = refl;
  in_form = All-cons IsEdit first_edit [] is_first_edit (All-nil IsEdit);
  folds = record { some = λ e. cc; folds = (refl, refl) };
}

catalogue_payloads : payloads first_catalogue ≡ (1 ∷ 1 ∷ []) ∷ []
unfolding payloads payloads_of number_of
catalogue_payloads = refl

says_id : SaysCatalogue ((1 ∷ 1 ∷ []) ∷ []) (with_id 1 [])
unfolding varint groups
says_id = catalogued.first_catalogue 1 (omega arith)

pub empty_payloads : payloads empty_log ≡ []
unfolding payloads payloads_of
empty_payloads = refl

set_payloads : payloads log_of_a_set ≡ (1 ∷ 1 ∷ 1 ∷ 97 ∷ 1 ∷ 49 ∷ []) ∷ []
unfolding payloads payloads_of number_of
set_payloads = refl

set_a : LogEntry
set_a = record { count = 1; command = Logged.Set (97 ∷ []) (49 ∷ []) }

is_set : IsEntry set_a
unfolding set_a
is_set = record { low = omega arith; command = record { kind = omega arith; content = (record { some = omega arith; within = omega arith; begins = λ e. omega (arith, e) }, omega arith) } }

says_set : SaysLog 0 ((1 ∷ 1 ∷ 1 ∷ 97 ∷ 1 ∷ 49 ∷ []) ∷ []) (set_a ∷ [])
unfolding varint field groups set_a
says_set = record { spelled = refl; in_form = All-cons IsEntry set_a [] is_set (All-nil IsEntry); rise = (omega arith, tt) }

-- ---- what they stand for

unfoldable pub said_with : List LogEntry → Said
said_with log = record { pointer = first_pointer; version = new_store; entries = []; log = log }

pub says_with : (bytes : List ℕ) (list : List (List ℕ)) (log : List LogEntry) → payloads bytes ≡ list → SaysLog 0 list log → waiting_in log ≡ []
    → Says (folder_of (store_with_log bytes)) 1 (said_with log)
unfolding said_with first_pointer
says_with bytes list log are says waits = record {
  current = has_payloads (folder_of (store_with_log bytes)) current_name first_current _ (λ list. SaysCurrent list first_pointer) (current_file bytes) current_payloads says_pointer;
  manifest = has_payloads (folder_of (store_with_log bytes)) (file_name Manifest 1) first_manifest _ (λ list. SaysVersion list new_store) (manifest_file bytes) manifest_payloads says_version;
  catalogue = has_payloads (folder_of (store_with_log bytes)) (file_name Catalogue 2) first_catalogue _ (λ list. SaysCatalogue list (with_id 1 [])) (catalogue_file bytes) catalogue_payloads says_id;
  log = has_payloads (folder_of (store_with_log bytes)) (file_name Log 3) bytes list (λ list. SaysLog 0 list log) (log_file bytes) are says;
  reserved = omega arith;
  entered = All-nil _;
  bare = refl;
  waits = waits;
}

pub an_empty_folder : (objects : Objects) (id : ℕ) → StandsFor (folder_of []) objects id 0 empty
an_empty_folder objects id = inl (refl, refl, refl)

pub a_new_store : (objects : Objects) → StandsFor (folder_of (store_with_log empty_log)) objects 1 0 empty
unfolding said_with map_of
a_new_store objects = inr (
    record {
      said = said_with [];
      layers = λ number. layer_of [] [];
      says = says_with empty_log [] [] empty_payloads (logged.empty_log 0) refl;
      holds = record { tables = record { stored = All-nil _; mapped = All-nil _ }; waiting = All-nil _ };
      count = refl;
      pairs = refl;
    }
    )

pub one_set : (objects : Objects) → StandsFor (folder_of (store_with_log log_of_a_set)) objects 1 1 (insert empty (97 ∷ []) (49 ∷ []))
unfolding said_with set_a map_of
one_set objects = inr (
    record {
      said = said_with (set_a ∷ []);
      layers = λ number. layer_of [] [];
      says = says_with log_of_a_set ((1 ∷ 1 ∷ 1 ∷ 97 ∷ 1 ∷ 49 ∷ []) ∷ []) (set_a ∷ []) set_payloads says_set refl;
      holds = record { tables = record { stored = All-nil _; mapped = All-nil _ }; waiting = All-nil _ };
      count = refl;
      pairs = refl;
    }
    )

-- ---- after a flush

flushed_payloads : payloads flushed_manifest ≡ (1 ∷ 0 ∷ 2 ∷ 64 ∷ 3 ∷ 3 ∷ 4 ∷ 0 ∷ 5 ∷ 1 ∷ []) ∷ (1 ∷ 2 ∷ 3 ∷ 5 ∷ 4 ∷ 2 ∷ 7 ∷ 0 ∷ 4 ∷ 4 ∷ 8 ∷ 1 ∷ 97 ∷ 1 ∷ 98 ∷ []) ∷ []
unfolding payloads payloads_of number_of
flushed_payloads = refl

is_flush_edit : IsEdit first_flush
unfolding edit_spelling varint groups field
is_flush_edit = record {
  some = λ e. cc;
  accepted = omega arith;
  next = tt;
  log = omega arith;
  flushed = omega arith;
  format = tt;
  deleted = no_items _ _;
  physical = record {
    each = (record { level = omega arith; number = omega arith; rank = omega arith; size = omega arith; lo = omega arith; hi = omega arith }, tt);
    ascend = tt;
  };
  virtuals = no_items _ _;
  created = no_items _ _;
  removed = no_items _ _;
}

says_flushed : SaysVersion ((1 ∷ 0 ∷ 2 ∷ 64 ∷ 3 ∷ 3 ∷ 4 ∷ 0 ∷ 5 ∷ 1 ∷ []) ∷ (1 ∷ 2 ∷ 3 ∷ 5 ∷ 4 ∷ 2 ∷ 7 ∷ 0 ∷ 4 ∷ 4 ∷ 8 ∷ 1 ∷ 97 ∷ 1 ∷ 98 ∷ []) ∷ []) flushed_store
unfolding edit_spelling varint groups field first_broken edited
says_flushed = record {
  edits = first_edit ∷ first_flush ∷ [];
  spelled = refl;
  in_form = All-cons IsEdit first_edit (first_flush ∷ []) is_first_edit (All-cons IsEdit first_flush [] is_flush_edit (All-nil IsEdit));
  folds = record { some = λ e. cc; folds = (refl, (refl, refl)) };
}

row_of_a : KeyRow
row_of_a = record { key = 97 ∷ []; value = Some (49 ∷ []) }

layer_of_a : KeyLayer
layer_of_a = layer_of [] (row_of_a ∷ [])

a_is_key : IsKey (97 ∷ [])
a_is_key = record { some = omega arith; within = omega arith; begins = λ e. omega (arith, e) }

is_layer_of_a : IsLayer layer_of_a
unfolding layer_of_a row_of_a
is_layer_of_a = record {
  spans = All-nil IsSpan;
  apart = λ k d within. absurd (omega (arith, within));
  keys = All-cons (λ row. IsKey row.key) row_of_a [] a_is_key (All-nil (λ row. IsKey row.key));
  rise = λ k d within. absurd (omega (arith, within));
  short = All-cons IsShortRow row_of_a [] (omega arith) (All-nil IsShortRow);
}

spells_a : Spells table_of_a layer_of_a
unfolding table_spelling format_1 varint groups field layer_of_a row_of_a
spells_a = record {
  format = refl;
  of = record { in_form = is_layer_of_a; filled = omega arith };
  fits = omega arith;
  same = refl;
}

unfoldable pub flushed_said : Said
flushed_said = record { pointer = first_pointer; version = flushed_store; entries = []; log = [] }

pub says_flushed_all : Says (folder_of flushed_files) 1 flushed_said
unfolding flushed_said first_pointer current_name file_name digits
says_flushed_all = record {
  current = has_payloads (folder_of flushed_files) current_name first_current _ (λ list. SaysCurrent list first_pointer) refl current_payloads says_pointer;
  manifest = has_payloads (folder_of flushed_files) (file_name Manifest 1) flushed_manifest _ (λ list. SaysVersion list flushed_store) refl flushed_payloads says_flushed;
  catalogue = has_payloads (folder_of flushed_files) (file_name Catalogue 2) first_catalogue _ (λ list. SaysCatalogue list (with_id 1 [])) refl catalogue_payloads says_id;
  log = has_payloads (folder_of flushed_files) (file_name Log 5) empty_log [] (λ list. SaysLog 2 list []) refl empty_payloads (logged.empty_log 2);
  reserved = omega arith;
  entered = All-nil _;
  bare = refl;
  waits = refl;
}

a_is_stored : (objects : Objects) → IsStored (folder_of flushed_files) objects [] (λ number. layer_of_a) (record { number = 4; size = 8 })
unfolding file_name digits
a_is_stored objects = record { len = refl; spelled = spells_a }

a_is_mapped : IsMapped (λ number. layer_of_a) flushed_table
unfolding layer_of_a row_of_a
a_is_mapped = record {
  keys = All-cons (λ row. IsKey (mapped_key flushed_table.view row.key)) row_of_a [] a_is_key (All-nil _);
  ends = All-nil _;
  apart = λ i j d before within. absurd (omega (arith, before, within));
}

-- nothing is deleted from the empty map
nothing_without : without_all empty [] ≡ empty
nothing_without = same_pairs (without_all empty []) empty (λ key. get-retain_keys empty (λ k. true) key (λ k tied. refl))

pub a_flush : (objects : Objects) → StandsFor (folder_of flushed_files) objects 1 2 (insert empty (97 ∷ []) (49 ∷ []))
unfolding flushed_said map_of layer_of_a row_of_a viewed applied holds_key
a_flush objects = inr (
    record {
      said = flushed_said;
      layers = λ number. layer_of_a;
      says = says_flushed_all;
      holds = record {
        tables = record {
          stored = All-cons (IsStored (folder_of flushed_files) objects [] (λ number. layer_of_a)) (record { number = 4; size = 8 }) [] (a_is_stored objects) (All-nil _);
          mapped = All-cons (IsMapped (λ number. layer_of_a)) flushed_table [] a_is_mapped (All-nil _);
        };
        waiting = All-nil _;
      };
      count = refl;
      pairs = ap (λ (m : Map). insert m (97 ∷ []) (49 ∷ [])) (sym nothing_without);
    }
    )
