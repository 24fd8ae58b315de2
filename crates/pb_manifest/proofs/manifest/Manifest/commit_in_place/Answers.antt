use Rattle.std.proofs.Common.{ℕ, List, sym, ap, ◌∙◌, subst, inl}
use Rattle.pb_devices.specs.Contents.{KeepsOthers}
use Rattle.pb_gate_log.specs.EachLog.{EachLog}
use Rattle.pb_manifest.specs.Manifest.{ManifestView, EachManifest, EachSays}
use Rattle.pb_version.specs.Version.{VersionView}
use Rattle.pb_version.specs.Edited.{edited}
use Rattle.pb_version.proofs.Spelling.{spellable_edit}
use Rattle.pb_manifest.specs.Numbers.{IsFolded}
use Rattle.pb_manifest.proofs.Kept.{folded_further}
use Rattle.pb_manifest.proofs.Folders.{each_says, perhaps_appended, appended}
use Rattle.pb_manifest.proofs.manifest.Manifest.commit_in_place.Goals as goal

pub prepare-requires : goal.prepare-requires
prepare-requires g c = spellable_edit c.args.edit.now c.requires.edit

pub returns-in_err-prepared-clause-crash : goal.returns-in_err-prepared-clause-crash
returns-in_err-prepared-clause-crash g c = λ told folder image.
    inl (each_says c.args.self.now c.args.version.now (g.D.Disk.contents c.args.disk.now) (c.requires.kept told) folder image)

pub returns-in_err-payload-clause-crash : goal.returns-in_err-payload-clause-crash
returns-in_err-payload-clause-crash g c = λ told folder image.
    inl (each_says c.args.self.now c.args.version.now (g.D.Disk.contents c.args.disk.now) (c.requires.kept told) folder image)

pub append-requires : goal.append-requires
append-requires g c = λ told.
    let each = c.requires.kept told in
    (each.edits, subst (λ (m : ManifestView). EachLog m.log each.edits (g.D.Disk.contents c.args.disk.now)) (sym c.self.view_is) each.log)

pub returns-in_err-append-clause-crash : goal.returns-in_err-append-clause-crash
returns-in_err-append-clause-crash g c = λ told.
    let inside : ManifestView = record { number = c.self.inside.number; catalogue = c.self.inside.catalogue; next = c.self.inside.next; first = c.self.inside.first; log = c.self.inside.log; current = c.self.inside.current } in
    let old = g.D.Disk.contents c.args.disk.now in
    let new = g.D.Disk.contents c.append.new.disk in
    let version = c.args.version.now in
    let edit = c.args.edit.now in
    let each : EachManifest inside version old =
    subst (λ (m : ManifestView). EachManifest m version old) (sym c.self.view_is) (c.requires.kept told) in
    subst (λ (m : ManifestView). EachSays m.number m.catalogue version (edited version edit) new) c.self.view_is
    (perhaps_appended inside version edit c.as_slice.result.now old new each c.requires.edit c.in_ok-prepared.ensures.ok.unbroken
    (c.as_slice.ensures.value ∙ c.in_ok-payload.ensures) (c.in_err-append.ensures.appends told).others
    (λ image left. (c.in_err-append.ensures.appends told).crash each.edits image each.log left))

pub returns-in_err-append-clause-others : goal.returns-in_err-append-clause-others
returns-in_err-append-clause-others g c = λ told.
    let each = c.requires.kept told in
    subst (λ (name : List ℕ). KeepsOthers (g.D.Disk.contents c.args.disk.now) (g.D.Disk.contents c.append.new.disk) name)
    (ap (λ (m : ManifestView). m.log.file) c.self.view_is ∙ each.log_file) (c.in_err-append.ensures.appends told).others

pub install-requires : goal.install-requires
install-requires g c = (c.args.edit.now, c.in_ok-prepared.ensures.ok)

pub returns-clause-folded : goal.returns-clause-folded
returns-clause-folded g c = λ folded.
    subst IsFolded (sym (c.install.ensures c.args.edit.now c.in_ok-prepared.ensures.ok))
    (folded_further c.args.version.now c.args.edit.now folded c.in_ok-prepared.ensures.ok.unbroken)

pub returns-clause-kept : goal.returns-clause-kept
returns-clause-kept g c = λ told.
    let inside : ManifestView = record { number = c.self.inside.number; catalogue = c.self.inside.catalogue; next = c.self.inside.next; first = c.self.inside.first; log = c.self.inside.log; current = c.self.inside.current } in
    let old = g.D.Disk.contents c.args.disk.now in
    let new = g.D.Disk.contents c.append.new.disk in
    let version = c.args.version.now in
    let edit = c.args.edit.now in
    let each : EachManifest inside version old =
    subst (λ (m : ManifestView). EachManifest m version old) (sym c.self.view_is) (c.requires.kept told) in
    subst (λ (v : VersionView). EachManifest (record inside { log = c.append.new.log }) v new)
    (sym (c.install.ensures edit c.in_ok-prepared.ensures.ok))
    (appended inside version edit c.as_slice.result.now old new each c.requires.edit c.in_ok-prepared.ensures.ok.unbroken
    (c.as_slice.ensures.value ∙ c.in_ok-payload.ensures) (c.in_ok-append.ensures.appends told).others
    c.append.new.log (c.in_ok-append.ensures.appends told).file ((c.in_ok-append.ensures.appends told).ok each.edits each.log))

pub returns-clause-crash : goal.returns-clause-crash
returns-clause-crash g c = λ told.
    let inside : ManifestView = record { number = c.self.inside.number; catalogue = c.self.inside.catalogue; next = c.self.inside.next; first = c.self.inside.first; log = c.self.inside.log; current = c.self.inside.current } in
    let old = g.D.Disk.contents c.args.disk.now in
    let new = g.D.Disk.contents c.append.new.disk in
    let version = c.args.version.now in
    let edit = c.args.edit.now in
    let each : EachManifest inside version old =
    subst (λ (m : ManifestView). EachManifest m version old) (sym c.self.view_is) (c.requires.kept told) in
    subst (λ (m : ManifestView). EachSays m.number m.catalogue version (edited version edit) new) c.self.view_is
    (perhaps_appended inside version edit c.as_slice.result.now old new each c.requires.edit c.in_ok-prepared.ensures.ok.unbroken
    (c.as_slice.ensures.value ∙ c.in_ok-payload.ensures) (c.in_ok-append.ensures.appends told).others
    (λ image left. (c.in_ok-append.ensures.appends told).crash each.edits image each.log left))

pub returns-clause-others : goal.returns-clause-others
returns-clause-others g c = λ told.
    let each = c.requires.kept told in
    subst (λ (name : List ℕ). KeepsOthers (g.D.Disk.contents c.args.disk.now) (g.D.Disk.contents c.append.new.disk) name)
    (ap (λ (m : ManifestView). m.log.file) c.self.view_is ∙ each.log_file) (c.in_ok-append.ensures.appends told).others
