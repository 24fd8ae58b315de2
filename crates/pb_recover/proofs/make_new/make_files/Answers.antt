use Rattle.std.proofs.Common.{◌≡◌, ℕ, List, ap, sym, ◌∙◌, subst, inl, refl, arith}
use Rattle.pb_manifest.specs.Manifest.{EachManifest, catalogue_name, manifest_name}
use Rattle.pb_manifest.specs.Numbers.{IsFolded}
use Rattle.pb_memtable.specs.View.{Commands}
use Rattle.pb_names.specs.Spelling.{current_name, file_name}
use Rattle.pb_names.specs.declared.file_kind.FileKind.TheVariants.{Catalogue, Log, Manifest}
use Rattle.pb_provider.specs.Provider.{stages_of}
use Rattle.pb_catalog.specs.Catalog.{CatalogView}
use Rattle.pb_rows.specs.Changing.{Changing}
use Rattle.pb_version.specs.Version.{VersionView}
use Rattle.pb_recover.specs.Calls.{files_of}
use Rattle.pb_recover.specs.Files.{IsReady, KeepsFiles}
use Rattle.pb_recover.proofs.Making.{is_making, logs_own, made_keeps, made_ready, manifest_apart, numbered, own_files, pointer_apart, still_new}
use Rattle.pb_recover.proofs.make_new.make_files.Goals as goal

pub make_logs-requires-clause-catalogue : goal.make_logs-requires-clause-catalogue
make_logs-requires-clause-catalogue g c = λ told.
    c.requires.gone told (catalogue_name 2) (numbered Catalogue 2 (omega arith))

pub make_logs-requires-clause-log : goal.make_logs-requires-clause-log
make_logs-requires-clause-log g c = λ told. c.requires.gone told (file_name Log 3) (numbered Log 3 (omega arith))

pub make_manifest-requires-clause-absent : goal.make_manifest-requires-clause-absent
make_manifest-requires-clause-absent g c = λ told.
    (c.in_ok-catalog.ensures.others told (manifest_name 1) (manifest_apart 1 2 3)).reads
    ∙ c.requires.gone told (manifest_name 1) (numbered Manifest 1 (omega arith))

pub make_manifest-requires-clause-settled : goal.make_manifest-requires-clause-settled
make_manifest-requires-clause-settled g c = λ told.
    (c.in_ok-catalog.ensures.others told current_name (pointer_apart 2 3)).settled (c.requires.calm told current_name)

pub returns-in_err-catalog-clause-others : goal.returns-in_err-catalog-clause-others
returns-in_err-catalog-clause-others g c = λ told.
    logs_own (g.D.Disk.contents c.args.disk.now) (g.D.Disk.contents c.make_logs.new.disk) (c.in_err-catalog.ensures.others told)

pub returns-in_err-catalog-clause-making : goal.returns-in_err-catalog-clause-making
returns-in_err-catalog-clause-making g c = λ told folder image.
    inl (still_new (g.D.Disk.contents c.args.disk.now) (g.D.Disk.contents c.make_logs.new.disk) (c.requires.calm told) (c.requires.new told)
    (c.in_err-catalog.ensures.others told current_name (pointer_apart 2 3)) folder image)

pub returns-in_err-manifest-clause-others : goal.returns-in_err-manifest-clause-others
returns-in_err-manifest-clause-others g c = λ told.
    own_files (g.D.Disk.contents c.args.disk.now) (g.D.Disk.contents c.make_logs.new.disk) (g.D.Disk.contents c.make_manifest.new.disk)
    (c.in_ok-catalog.ensures.others told) (c.in_err-manifest.ensures.others told)

pub returns-in_err-manifest-clause-making : goal.returns-in_err-manifest-clause-making
returns-in_err-manifest-clause-making g c = λ told.
    let made = c.in_ok-catalog.ensures in
    is_making (g.D.Disk.contents c.args.disk.now) (g.D.Disk.contents c.make_logs.new.disk) (g.D.Disk.contents c.make_manifest.new.disk)
    (made.others told) (c.in_err-manifest.ensures.others told) c.args.id c.in_ok-catalog.catalog c.in_ok-catalog.log made.own made.bare
    (made.catalogue told) (made.log told) (c.requires.new told) (c.in_err-manifest.ensures.crash told)

pub returns-in_err-provider-clause-others : goal.returns-in_err-provider-clause-others
returns-in_err-provider-clause-others g c = λ told.
    own_files (g.D.Disk.contents c.args.disk.now) (g.D.Disk.contents c.make_logs.new.disk) (g.D.Disk.contents c.make_manifest.new.disk)
    (c.in_ok-catalog.ensures.others told) (c.in_ok-manifest.ensures.others told)

pub returns-in_err-provider-clause-making : goal.returns-in_err-provider-clause-making
returns-in_err-provider-clause-making g c = λ told.
    let made = c.in_ok-catalog.ensures in
    is_making (g.D.Disk.contents c.args.disk.now) (g.D.Disk.contents c.make_logs.new.disk) (g.D.Disk.contents c.make_manifest.new.disk)
    (made.others told) (c.in_ok-manifest.ensures.others told) c.args.id c.in_ok-catalog.catalog c.in_ok-catalog.log made.own made.bare
    (made.catalogue told) (made.log told) (c.requires.new told) (c.in_ok-manifest.ensures.crash told)

pub new-requires : goal.new-requires
new-requires g c = c.in_ok-catalog.ensures.own.id_is

pub returns-clause-keeps : goal.returns-clause-keeps
returns-clause-keeps g c = λ told.
    let new = g.D.Disk.contents c.make_manifest.new.disk in
    let made = c.in_ok-catalog.ensures in
    let named = c.in_ok-manifest.ensures in
    let manifest = c.in_ok-manifest.manifest in
    let provider = c.in_ok-provider.provider in
    let log = c.in_ok-catalog.log in
    let changes : List Changing = c.new-2.result.changes in
    subst (λ (version : VersionView). KeepsFiles (files_of manifest version provider log changes 0) new) (sym named.version)
    (made_keeps (g.D.Disk.contents c.args.disk.now) (g.D.Disk.contents c.make_logs.new.disk) new (made.others told) (named.others told)
    c.args.id c.in_ok-catalog.catalog log made.own made.bare (made.catalogue told) (made.log told) (c.requires.calm told)
    (c.requires.gone told) manifest named.numbers provider c.in_ok-provider.ensures.catalogue changes
    (ap (λ (memtable : Commands). memtable.changes) c.new-2.ensures)
    (subst (λ (version : VersionView). EachManifest manifest version new) named.version (named.kept told)))

pub returns-clause-opened : goal.returns-clause-opened
returns-clause-opened g c =
    let manifest = c.in_ok-manifest.manifest in
    let provider = c.in_ok-provider.provider in
    let log = c.in_ok-catalog.log in
    let changes : List Changing = c.new-2.result.changes in
    let named = c.in_ok-manifest.ensures in
    record {
      ready =
          subst (λ (version : VersionView). IsReady (files_of manifest version provider log changes 0)) (sym named.version)
          (made_ready manifest provider log changes (subst IsFolded named.version named.folded) named.numbers
          (ap (λ (catalog : CatalogView). catalog.entries) c.in_ok-provider.ensures.catalogue ∙ c.in_ok-catalog.ensures.bare));
      stages =
          c.in_ok-provider.ensures.stages
          ∙ ap (λ (catalog : CatalogView). stages_of c.in_ok-manifest.version catalog.entries) (sym c.in_ok-provider.ensures.catalogue);
      begun = c.in_ok-provider.ensures.begun;
      own = c.in_ok-provider.ensures.own;
    }

pub returns-clause-starts : goal.returns-clause-starts
returns-clause-starts g c = c.in_ok-manifest.ensures.numbers.next_is

pub returns-clause-others : goal.returns-clause-others
returns-clause-others g c = λ told.
    own_files (g.D.Disk.contents c.args.disk.now) (g.D.Disk.contents c.make_logs.new.disk) (g.D.Disk.contents c.make_manifest.new.disk)
    (c.in_ok-catalog.ensures.others told) (c.in_ok-manifest.ensures.others told)

pub returns-clause-making : goal.returns-clause-making
returns-clause-making g c = λ told.
    let made = c.in_ok-catalog.ensures in
    is_making (g.D.Disk.contents c.args.disk.now) (g.D.Disk.contents c.make_logs.new.disk) (g.D.Disk.contents c.make_manifest.new.disk)
    (made.others told) (c.in_ok-manifest.ensures.others told) c.args.id c.in_ok-catalog.catalog c.in_ok-catalog.log made.own made.bare
    (made.catalogue told) (made.log told) (c.requires.new told) (c.in_ok-manifest.ensures.crash told)
