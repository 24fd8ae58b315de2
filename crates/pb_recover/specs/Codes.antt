-- Codes, by which proofs tell the values of opened stores apart: of a record the tuple of its fields, of cases a sum. They are
-- written out since a map has none that is found by itself.
use Rattle.std.specs.Prelude.{◌≡◌, ◌⊎◌, ℕ, Bool, true, false, List, refl}
use Rattle.std.specs.Coded.{Coded, code_by, coded×, coded⊎, coded_bool, coded_list, coded_ℕ}
use mathlib.Core.Logic.{inl, inr}
use Rattle.pb_catalog.specs.Catalog.{CatalogView}
use Rattle.pb_edit.specs.Edit.{CreatedItem}
use Rattle.pb_gate_log.specs.EachLog.{LogPlace}
use Rattle.pb_keys.specs.Span.{KeySpan, span_of}
use Rattle.pb_keys.specs.View.{KeyView}
use Rattle.pb_manifest.specs.Manifest.{ManifestView}
use Rattle.pb_marker_world.specs.declared.stages.Stage.{Stage}
use Rattle.pb_marker_world.specs.declared.stages.Stage.TheVariants.{Intended, Put, Marked, Held, Loose, Bare, Counted, Ended}
use Rattle.pb_memtable.specs.Codes.{commands_code}
use Rattle.pb_memtable.specs.View.{Commands, commands_of}
use Rattle.pb_memtable.specs.View.RoomFor.{Nothing}
use Rattle.pb_names.specs.Identity.{Identity}
use Rattle.pb_payloads.specs.Catalogued.{Standing}
use Rattle.pb_payloads.specs.Catalogued.Standing.{Shared, External}
use Rattle.pb_provider.specs.Provider.{ProviderView}
use Rattle.pb_rows.specs.Changing.{Changing}
use Rattle.pb_version.specs.Version.{FiveNumbers, TableView, VersionView}
use Rattle.pb_recover.specs.Files.{StoreFiles}

abbrev bytes_code : Coded (List ℕ)
bytes_code = coded_list coded_ℕ

abbrev pair_code : Coded (ℕ × ℕ)
pair_code = coded× coded_ℕ coded_ℕ

abbrev log_code : Coded LogPlace
log_code =
    code_by (List ℕ × (ℕ × ℕ)) (coded× bytes_code pair_code) (λ l. (l.file, (l.gate, l.len)))
    (λ p. record { file = p.0; gate = p.1.0; len = p.1.1 }) (λ _. refl)

-- ---- the manifest and the version

abbrev manifest_code : Coded ManifestView
manifest_code =
    code_by (((ℕ × ℕ) × (ℕ × ℕ)) × (LogPlace × LogPlace)) (coded× (coded× pair_code pair_code) (coded× log_code log_code))
    (λ m. (((m.number, m.catalogue), (m.next, m.first)), (m.log, m.current)))
    (λ p. record { number = p.0.0.0; catalogue = p.0.0.1; next = p.0.1.0; first = p.0.1.1; log = p.1.0; current = p.1.1 }) (λ _. refl)

abbrev span_code : Coded KeySpan
span_code = code_by (List ℕ × List ℕ) (coded× bytes_code bytes_code) (λ s. (s.lo, s.hi)) (λ p. span_of p.0 p.1) (λ _. refl)

abbrev view_code : Coded KeyView
view_code =
    code_by (KeySpan × (List ℕ × List ℕ)) (coded× span_code (coded× bytes_code bytes_code)) (λ v. (v.bounds, (v.prefix, v.suffix)))
    (λ p. record { bounds = p.0; prefix = p.1.0; suffix = p.1.1 }) (λ _. refl)

abbrev table_code : Coded TableView
table_code =
    code_by (((ℕ × ℕ) × (ℕ × ℕ)) × (KeyView × Bool)) (coded× (coded× pair_code pair_code) (coded× view_code coded_bool))
    (λ t. (((t.number, t.rank), (t.backing, t.size)), (t.view, t.is_virtual)))
    (λ p. record { number = p.0.0.0; rank = p.0.0.1; backing = p.0.1.0; size = p.0.1.1; view = p.1.0; is_virtual = p.1.1 }) (λ _. refl)

abbrev backing_code : Coded CreatedItem
backing_code = code_by (ℕ × ℕ) pair_code (λ b. (b.number, b.size)) (λ p. record { number = p.0; size = p.1 }) (λ _. refl)

abbrev five_code : Coded FiveNumbers
five_code =
    code_by ((ℕ × ℕ) × ((ℕ × ℕ) × ℕ)) (coded× pair_code (coded× pair_code coded_ℕ))
    (λ f. ((f.accepted, f.next), ((f.log, f.flushed), f.format)))
    (λ p. record { accepted = p.0.0; next = p.0.1; log = p.1.0.0; flushed = p.1.0.1; format = p.1.1 }) (λ _. refl)

abbrev version_code : Coded VersionView
version_code =
    code_by (List (List TableView) × (List CreatedItem × FiveNumbers))
    (coded× (coded_list (coded_list table_code)) (coded× (coded_list backing_code) five_code)) (λ v. (v.levels, (v.backings, v.five)))
    (λ p. record { levels = p.0; backings = p.1.0; five = p.1.1 }) (λ _. refl)

-- ---- the catalogue, and how far its entries have come

abbrev object_code : Coded Identity
object_code = code_by (ℕ × ℕ) pair_code (λ o. (o.creator, o.number)) (λ p. record { creator = p.0; number = p.1 }) (λ _. refl)

abbrev parts_of : Standing → Identity ⊎ List ℕ
parts_of (Shared object) = inl object
parts_of (External name) = inr name

abbrev standing_from : Identity ⊎ List ℕ → Standing
standing_from (inl object) = Shared object
standing_from (inr name) = External name

pub same_standing : (standing : Standing) → standing_from (parts_of standing) ≡ standing
same_standing (Shared object) = refl
same_standing (External name) = refl

abbrev standing_code : Coded Standing
standing_code = code_by (Identity ⊎ List ℕ) (coded⊎ object_code bytes_code) parts_of standing_from same_standing

abbrev catalogue_code : Coded CatalogView
catalogue_code =
    code_by (ℕ × (List (ℕ × Standing) × LogPlace)) (coded× coded_ℕ (coded× (coded_list (coded× coded_ℕ standing_code)) log_code))
    (λ c. (c.id, (c.entries, c.log))) (λ p. record { id = p.0; entries = p.1.0; log = p.1.1 }) (λ _. refl)

abbrev Three : Type 0
Three = Bool × (Bool × Bool)

abbrev three_of : Stage → Three
three_of Intended = (false, (false, false))
three_of Put = (false, (false, true))
three_of Marked = (false, (true, false))
three_of Held = (false, (true, true))
three_of Loose = (true, (false, false))
three_of Bare = (true, (false, true))
three_of Counted = (true, (true, false))
three_of Ended = (true, (true, true))

abbrev stage_by : Bool → Bool → Bool → Stage
stage_by false false false = Intended
stage_by false false true = Put
stage_by false true false = Marked
stage_by false true true = Held
stage_by true false false = Loose
stage_by true false true = Bare
stage_by true true false = Counted
stage_by true true true = Ended

pub same_stage : (stage : Stage) → stage_by (three_of stage).0 (three_of stage).1.0 (three_of stage).1.1 ≡ stage
same_stage Intended = refl
same_stage Put = refl
same_stage Marked = refl
same_stage Held = refl
same_stage Loose = refl
same_stage Bare = refl
same_stage Counted = refl
same_stage Ended = refl

abbrev stage_code : Coded Stage
stage_code =
    code_by Three (coded× coded_bool (coded× coded_bool coded_bool)) three_of (λ t. stage_by t.0 t.1.0 t.1.1) same_stage

abbrev provider_code : Coded ProviderView
provider_code =
    code_by (CatalogView × (List (ℕ × Stage) × List ℕ)) (coded× catalogue_code (coded× (coded_list (coded× coded_ℕ stage_code)) bytes_code))
    (λ p. (p.catalogue, (p.stages, p.begun))) (λ p. record { catalogue = p.0; stages = p.1.0; begun = p.1.1 }) (λ _. refl)

-- ---- all of it

-- those of a memtable without room
abbrev changes_code : Coded (List Changing)
changes_code = code_by Commands commands_code (λ changes. commands_of changes Nothing) (λ commands. commands.changes) (λ _. refl)

abbrev pub files_code : Coded StoreFiles
files_code =
    code_by (((ManifestView × VersionView) × (ProviderView × LogPlace)) × (List Changing × (ℕ × List ℕ)))
    (coded× (coded× (coded× manifest_code version_code) (coded× provider_code log_code)) (coded× changes_code (coded× coded_ℕ bytes_code)))
    (λ f. (((f.manifest, f.version), (f.provider, f.log)), (f.commands, (f.accepted, f.unmade))))
    (λ p. record {
      manifest = p.0.0.0;
      version = p.0.0.1;
      provider = p.0.1.0;
      log = p.0.1.1;
      commands = p.1.0;
      accepted = p.1.1.0;
      unmade = p.1.1.1;
    })
    (λ _. refl)
