use Rattle.std.proofs.Common.{ℕ, List, [], ◌∷◌, ◌≤◌, length, Err, sym, ap, ◌∙◌, subst, inl, inr, rules}
use Rattle.pb_devices.specs.Contents.{KeepsOthers}
use Rattle.pb_version.specs.Edited.{edited}
use Rattle.pb_version.specs.Version.{VersionView}
use Rattle.pb_version.proofs.Short.{edit_short}
use Rattle.pb_version.specs.Snapshot.{snapshot_of}
use Rattle.pb_edit.specs.Grammar.{edit_spelling}
use Rattle.pb_manifest.specs.Manifest.{EachManifest, EachSays, ManifestView}
use Rattle.pb_manifest.specs.Rotation.{turned_to}
use Rattle.pb_manifest.proofs.Folders.{appended, perhaps_appended}
use Rattle.pb_manifest.proofs.Rotating.{begins_with, has_room, kept_manifests_then, other_alone, says_by_old, says_either, says_one}
use Rattle.pb_manifest.proofs.manifest.Manifest.commit_to.Goals as goal

pub returns-in_err-prepared-clause-crash : goal.returns-in_err-prepared-clause-crash
returns-in_err-prepared-clause-crash g c = λ told.
    says_either c.args.self.now.number c.args.number c.args.self.now.catalogue c.args.version.now
    (edited c.args.version.now c.args.edit.now) (g.D.Disk.contents c.args.disk.now)
    (says_by_old c.args.self.now c.args.version.now (g.D.Disk.contents c.args.disk.now) c.args.number (c.requires.kept told))

pub returns-in_err-payload-clause-crash : goal.returns-in_err-payload-clause-crash
returns-in_err-payload-clause-crash g c = λ told.
    says_either c.args.self.now.number c.args.number c.args.self.now.catalogue c.args.version.now
    (edited c.args.version.now c.args.edit.now) (g.D.Disk.contents c.args.disk.now)
    (says_by_old c.args.self.now c.args.version.now (g.D.Disk.contents c.args.disk.now) c.args.number (c.requires.kept told))

pub returns-in_err-log-clause-crash : goal.returns-in_err-log-clause-crash
returns-in_err-log-clause-crash g c = λ told.
    says_either c.args.self.now.number c.args.number c.args.self.now.catalogue c.args.version.now
    (edited c.args.version.now c.args.edit.now) (g.D.Disk.contents c.rotate.new.disk) (c.in_err-log.ensures.crash told)

pub append-requires : goal.append-requires
append-requires g c = λ told. let each = c.in_ok-log.ensures.kept told in (each.edits, each.log)

pub install-requires : goal.install-requires
install-requires g c = (c.args.edit.now, c.in_ok-prepared.ensures)

pub returns-in_err-log-clause-kept : goal.returns-in_err-log-clause-kept
returns-in_err-log-clause-kept g c = λ told not.
    elim c.in_err-log.ensures.known [
      | inl disk ↦ absurd (not (search rules))
      | inr none ↦ c.in_err-log.ensures.wanting told (ap Err none)
    ]

pub returns-in_err-append-clause-kept : goal.returns-in_err-append-clause-kept
returns-in_err-append-clause-kept g c = λ told not.
    let spelled = c.as_slice.ensures.value ∙ c.in_ok-payload.ensures in
    let short : length c.as_slice.result.now ≤ 18874368 =
    subst (λ (p : List ℕ). length p ≤ 18874368) (sym spelled)
    (edit_short c.args.version.now c.args.edit.now c.in_ok-log.ensures.form c.requires.edit c.requires.unbroken) in
    elim c.in_err-append.ensures.known [
      | inl disk ↦ absurd (not (search rules))
      | inr none ↦ absurd
          (has_room c.in_ok-log.log.gate (length c.as_slice.result.now) c.in_ok-log.ensures.gate short (c.in_err-append.ensures.full (ap Err none.0)))
    ]

pub returns-in_err-append-clause-crash : goal.returns-in_err-append-clause-crash
returns-in_err-append-clause-crash g c = λ told.
    let old = g.D.Disk.contents c.args.disk.now in
    let mid = g.D.Disk.contents c.rotate.new.disk in
    let new = g.D.Disk.contents c.append.new.disk in
    let version = c.args.version.now in
    let edit = c.args.edit.now in
    let number = c.args.number in
    let behind : ManifestView = turned_to number (c.in_ok-log.log, c.in_ok-log.first) c.rotate.new.self in
    let each : EachManifest behind version mid = c.in_ok-log.ensures.kept told in
    let spelled = c.as_slice.ensures.value ∙ c.in_ok-payload.ensures in
    let says : EachSays number c.args.self.now.catalogue version (edited version edit) new =
    subst (λ (n : ℕ). EachSays number n version (edited version edit) new) c.rotate.ensures.numbers.catalogue
    (perhaps_appended behind version edit c.as_slice.result.now mid new each c.requires.edit c.requires.unbroken spelled
    (c.in_err-append.ensures.appends told).others (λ image left. (c.in_err-append.ensures.appends told).crash each.edits image each.log left)) in
    says_one number c.args.self.now.catalogue c.args.self.now.number version (edited version edit) new says

pub returns-in_err-append-clause-others : goal.returns-in_err-append-clause-others
returns-in_err-append-clause-others g c = λ told.
    let old = g.D.Disk.contents c.args.disk.now in
    let mid = g.D.Disk.contents c.rotate.new.disk in
    let new = g.D.Disk.contents c.append.new.disk in
    let version = c.args.version.now in
    let edit = c.args.edit.now in
    let number = c.args.number in
    let behind : ManifestView = turned_to number (c.in_ok-log.log, c.in_ok-log.first) c.rotate.new.self in
    let each : EachManifest behind version mid = c.in_ok-log.ensures.kept told in
    let spelled = c.as_slice.ensures.value ∙ c.in_ok-payload.ensures in
    kept_manifests_then old mid new c.args.self.now.number number (c.in_ok-log.ensures.others told)
    (other_alone mid new c.args.self.now.number number
    (subst (λ (name : List ℕ). KeepsOthers mid new name) each.log_file (c.in_err-append.ensures.appends told).others))

pub returns-clause-kept : goal.returns-clause-kept
returns-clause-kept g c = λ told not.
    let mid = g.D.Disk.contents c.rotate.new.disk in
    let new = g.D.Disk.contents c.append.new.disk in
    let version = c.args.version.now in
    let edit = c.args.edit.now in
    let number = c.args.number in
    let behind : ManifestView = turned_to number (c.in_ok-log.log, c.in_ok-log.first) c.rotate.new.self in
    let each : EachManifest behind version mid = c.in_ok-log.ensures.kept told in
    let spelled = c.as_slice.ensures.value ∙ c.in_ok-payload.ensures in
    let inside : ManifestView = record { number = c.self.inside.number; catalogue = c.self.inside.catalogue; next = c.self.inside.next; first = c.self.inside.first; log = c.self.inside.log; current = c.self.inside.current } in
    let after : ManifestView → ManifestView = λ m. record m { number = number; first = c.in_ok-log.first; log = c.append.new.log } in
    subst (λ (v : VersionView). EachManifest (after inside) v new) (sym (c.install.ensures edit c.in_ok-prepared.ensures))
    (subst (λ (m : ManifestView). EachManifest (after m) (edited version edit) new) (sym c.self.view_is)
    (appended behind version edit c.as_slice.result.now mid new each c.requires.edit c.requires.unbroken spelled
    (c.in_ok-append.ensures.appends told).others c.append.new.log (c.in_ok-append.ensures.appends told).file
    ((c.in_ok-append.ensures.appends told).ok each.edits each.log)))

pub returns-clause-first : goal.returns-clause-first
returns-clause-first g c = λ told.
    let old = g.D.Disk.contents c.args.disk.now in
    let mid = g.D.Disk.contents c.rotate.new.disk in
    let new = g.D.Disk.contents c.append.new.disk in
    let version = c.args.version.now in
    let edit = c.args.edit.now in
    let number = c.args.number in
    let behind : ManifestView = turned_to number (c.in_ok-log.log, c.in_ok-log.first) c.rotate.new.self in
    let each : EachManifest behind version mid = c.in_ok-log.ensures.kept told in
    let spelled = c.as_slice.ensures.value ∙ c.in_ok-payload.ensures in
    let snapshot = edit_spelling (snapshot_of version) in
    begins_with number (snapshot_of version) c.append.new.log (c.as_slice.result.now ∷ []) new
    ((c.in_ok-append.ensures.appends told).file ∙ each.log_file)
    ((c.in_ok-append.ensures.appends told).ok (snapshot ∷ []) (c.in_ok-log.ensures.first told))

pub returns-clause-crash : goal.returns-clause-crash
returns-clause-crash g c = λ told.
    let old = g.D.Disk.contents c.args.disk.now in
    let mid = g.D.Disk.contents c.rotate.new.disk in
    let new = g.D.Disk.contents c.append.new.disk in
    let version = c.args.version.now in
    let edit = c.args.edit.now in
    let number = c.args.number in
    let behind : ManifestView = turned_to number (c.in_ok-log.log, c.in_ok-log.first) c.rotate.new.self in
    let each : EachManifest behind version mid = c.in_ok-log.ensures.kept told in
    let spelled = c.as_slice.ensures.value ∙ c.in_ok-payload.ensures in
    let says : EachSays number c.args.self.now.catalogue version (edited version edit) new =
    subst (λ (n : ℕ). EachSays number n version (edited version edit) new) c.rotate.ensures.numbers.catalogue
    (perhaps_appended behind version edit c.as_slice.result.now mid new each c.requires.edit c.requires.unbroken spelled
    (c.in_ok-append.ensures.appends told).others (λ image left. (c.in_ok-append.ensures.appends told).crash each.edits image each.log left)) in
    says_one number c.args.self.now.catalogue c.args.self.now.number version (edited version edit) new says

pub returns-clause-others : goal.returns-clause-others
returns-clause-others g c = λ told.
    let old = g.D.Disk.contents c.args.disk.now in
    let mid = g.D.Disk.contents c.rotate.new.disk in
    let new = g.D.Disk.contents c.append.new.disk in
    let version = c.args.version.now in
    let edit = c.args.edit.now in
    let number = c.args.number in
    let behind : ManifestView = turned_to number (c.in_ok-log.log, c.in_ok-log.first) c.rotate.new.self in
    let each : EachManifest behind version mid = c.in_ok-log.ensures.kept told in
    let spelled = c.as_slice.ensures.value ∙ c.in_ok-payload.ensures in
    kept_manifests_then old mid new c.args.self.now.number number (c.in_ok-log.ensures.others told)
    (other_alone mid new c.args.self.now.number number
    (subst (λ (name : List ℕ). KeepsOthers mid new name) each.log_file (c.in_ok-append.ensures.appends told).others))
