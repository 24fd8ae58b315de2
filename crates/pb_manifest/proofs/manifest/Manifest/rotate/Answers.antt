use Rattle.std.proofs.Common.{◌≡◌, ℕ, List, [], ◌∷◌, ◌++◌, length, true, refl, sym, ap, ◌∙◌, subst, arith, rules}
use Rattle.pb_devices.specs.Contents.{Contents, KeepsOthers}
use Rattle.pb_gate_log.specs.EachLog.{EachLog, LogPlace}
use Rattle.pb_payloads.specs.Current.{pointer_spelling, pointer_to}
use Rattle.pb_manifest.specs.Manifest.{EachManifest, ManifestView, manifest_name}
use Rattle.pb_manifest.specs.Rotation.{EachSaysBy, KeepsAllButManifests}
use Rattle.pb_version.proofs.SaysVersion.{says_a_version}
use Rattle.pb_manifest.proofs.Results.{of_wanting}
use Rattle.pb_manifest.proofs.Rotating.{IsBeside, IsTurned, alone, current_alone, kept_manifests_then, made_alone, made_beside, one_alone, other_alone, perhaps_turned, says_by_new, says_by_old, snapped, turned}
use Rattle.pb_manifest.proofs.manifest.Manifest.rotate.Given.{Over}
use Rattle.pb_manifest.proofs.manifest.Manifest.rotate.Goals.{After-make_log, After-append}
use Rattle.pb_manifest.proofs.manifest.Manifest.rotate.Goals as goal

-- ---- before the new manifest is made

pub returns-in_err-snapshot-clause-crash : goal.returns-in_err-snapshot-clause-crash
returns-in_err-snapshot-clause-crash g c = λ told.
    says_by_old c.args.self.now c.args.version.now (g.D.Disk.contents c.args.disk.now) c.args.number (c.requires.kept told)

pub returns-in_err-pointer-clause-crash : goal.returns-in_err-pointer-clause-crash
returns-in_err-pointer-clause-crash g c = λ told.
    says_by_old c.args.self.now c.args.version.now (g.D.Disk.contents c.args.disk.now) c.args.number (c.requires.kept told)

-- ---- it is made, and has the snapshot or not

module _ (g : Over) (c : After-make_log g) (told : g.D.Disk.told ≡ true) where
  abbrev old : Contents
  old = g.D.Disk.contents c.args.disk.now

  abbrev mid : Contents
  mid = g.D.Disk.contents c.make_log.new.disk

  still : EachManifest c.args.self.now c.args.version.now mid
  still =
      made_beside c.args.self.now c.args.version.now c.args.number c.requires.low old mid _ (c.requires.kept told) (c.requires.unmade told)
      c.file.ensures (c.make_log.ensures.others told)

  new_alone : KeepsAllButManifests old mid c.args.self.now.number c.args.number
  new_alone =
      other_alone old mid c.args.self.now.number c.args.number
      (made_alone c.args.self.now c.args.version.now c.args.number c.requires.low old mid _ (c.requires.kept told) (c.requires.unmade told)
      c.file.ensures (c.make_log.ensures.others told))

pub returns-in_err-log-clause-crash : goal.returns-in_err-log-clause-crash
returns-in_err-log-clause-crash g c = λ told.
    says_by_old c.args.self.now c.args.version.now (g.D.Disk.contents c.make_log.new.disk) c.args.number
    (still g (goal.at.returns-in_err-log-clause-crash g c).After-make_log told)

pub returns-in_err-log-clause-wanting : goal.returns-in_err-log-clause-wanting
returns-in_err-log-clause-wanting g c = λ told _. still g (goal.at.returns-in_err-log-clause-wanting g c).After-make_log told

pub returns-in_err-log-clause-others : goal.returns-in_err-log-clause-others
returns-in_err-log-clause-others g c = λ told. new_alone g (goal.at.returns-in_err-log-clause-others g c).After-make_log told

pub append-requires : goal.append-requires
append-requires g c = λ told.
    let each = still g (goal.at.append-requires g c).After-make_log told in
    (each.pointers, subst (λ (m : ManifestView). EachLog m.current each.pointers (g.D.Disk.contents c.make_log.new.disk)) (sym c.self.view_is) each.current)

-- ---- the current pointer is turned to it or not

module _ (g : Over) (c : After-append g) (told : g.D.Disk.told ≡ true) where
  abbrev inside : ManifestView
  inside = record {
    number = c.self.inside.number;
    catalogue = c.self.inside.catalogue;
    next = c.self.inside.next;
    first = c.self.inside.first;
    log = c.self.inside.log;
    current = c.self.inside.current;
  }

  abbrev first : Contents
  first = g.D.Disk.contents c.args.disk.now

  abbrev made : Contents
  made = g.D.Disk.contents c.make_log.new.disk

  abbrev new : Contents
  new = g.D.Disk.contents c.append.new.disk

  beside : IsBeside inside c.args.version.now c.args.number c.as_slice.result.now c.in_ok-log.log made
  beside =
      subst (λ (m : ManifestView). IsBeside m c.args.version.now c.args.number c.as_slice.result.now c.in_ok-log.log made) (sym c.self.view_is)
      (snapped c.args.self.now c.args.version.now c.args.number c.requires.low first made _ (c.requires.kept told) (c.requires.unmade told)
      c.file.ensures (c.in_ok-log.ensures.others told) c.as_slice.result.now c.in_ok-snapshot.snapshot.items c.in_ok-log.log c.requires.own
      c.as_slice.ensures.value c.in_ok-snapshot.ensures.says (c.in_ok-log.ensures.ok told))

  pointer_is : c.as_slice-2.result.now ≡ pointer_spelling (pointer_to c.args.number inside.catalogue)
  pointer_is = c.as_slice-2.ensures.value ∙ c.in_ok-pointer.ensures

  perhaps : EachSaysBy c.args.self.now.number c.args.number c.args.self.now.catalogue c.args.version.now new
  perhaps =
      subst (λ (m : ManifestView). EachSaysBy m.number c.args.number m.catalogue c.args.version.now new) c.self.view_is
      (perhaps_turned inside c.args.version.now c.args.number c.as_slice.result.now c.as_slice-2.result.now c.in_ok-log.log made new beside
      pointer_is (c.append.ensures.appends told).others
      (λ image left. (c.append.ensures.appends told).crash beside.each.pointers image beside.each.current left))

  current_and_new_alone : KeepsAllButManifests first new c.args.self.now.number c.args.number
  current_and_new_alone =
      kept_manifests_then first made new c.args.self.now.number c.args.number
      (other_alone first made c.args.self.now.number c.args.number
      (made_alone c.args.self.now c.args.version.now c.args.number c.requires.low first made _ (c.requires.kept told) (c.requires.unmade told)
      c.file.ensures (c.in_ok-log.ensures.others told)))
      (current_alone made new c.args.self.now.number c.args.number
      (subst (λ (name : List ℕ). KeepsOthers made new name) beside.each.current_file (c.append.ensures.appends told).others))

  -- the old manifest is removed
  all_alone : (last : Contents) → KeepsOthers new last (manifest_name inside.number)
      → KeepsAllButManifests first last c.args.self.now.number c.args.number
  all_alone last kept =
      kept_manifests_then first new last c.args.self.now.number c.args.number current_and_new_alone
      (one_alone new last c.args.self.now.number c.args.number
      (subst (λ (m : ManifestView). KeepsOthers new last (manifest_name m.number)) c.self.view_is kept))

  abbrev behind : ℕ → ManifestView
  behind len = record inside { number = c.args.number; first = len; log = c.in_ok-log.log; current = c.append.new.log }

  module _ (appended : EachLog c.append.new.log (beside.each.pointers ++ c.as_slice-2.result.now ∷ []) new) (last : Contents)
      (kept : KeepsOthers new last (manifest_name inside.number)) where
    turned_alone : (len : ℕ) → len ≡ length c.as_slice.result.now → IsTurned (behind len) c.args.version.now c.as_slice.result.now last
    turned_alone len sized =
        alone (behind len) c.args.version.now c.as_slice.result.now new last inside.number beside.each.names.in_form.manifest beside.other kept
        (turned inside c.args.version.now c.args.number c.as_slice.result.now c.as_slice-2.result.now c.in_ok-log.log made new beside pointer_is
        (c.append.ensures.appends told).others c.append.new.log len sized (c.append.ensures.appends told).file appended)

    by_new : EachSaysBy c.args.self.now.number c.args.number c.args.self.now.catalogue c.args.version.now last
    by_new =
        subst (λ (m : ManifestView). EachSaysBy m.number c.args.number m.catalogue c.args.version.now last) c.self.view_is
        (says_by_new (behind (length c.as_slice.result.now)) c.args.version.now last inside.number
        (turned_alone (length c.as_slice.result.now) refl).each)

pub returns-in_err-append-clause-crash : goal.returns-in_err-append-clause-crash
returns-in_err-append-clause-crash g c = λ told. perhaps g (goal.at.returns-in_err-append-clause-crash g c).After-append told

pub returns-in_err-append-clause-wanting : goal.returns-in_err-append-clause-wanting
returns-in_err-append-clause-wanting g c = λ told is.
    let at = (goal.at.returns-in_err-append-clause-wanting g c).After-append in
    let version = c.args.version.now in
    let same = of_wanting c.append.result (c.append.new.disk ≡ c.make_log.new.disk) c.append.ensures.known (search rules) in
    subst (λ (log : LogPlace). EachManifest (record (inside g at told) { current = log }) version (g.D.Disk.contents c.append.new.disk))
    (sym c.in_err-append.ensures.same)
    (subst (λ (disk : Contents). EachManifest (inside g at told) version disk) (sym (ap g.D.Disk.contents same)) (beside g at told).each)

pub returns-in_err-append-clause-others : goal.returns-in_err-append-clause-others
returns-in_err-append-clause-others g c = λ told. current_and_new_alone g (goal.at.returns-in_err-append-clause-others g c).After-append told

pub returns-in_err-remove_manifest-clause-crash : goal.returns-in_err-remove_manifest-clause-crash
returns-in_err-remove_manifest-clause-crash g c = λ told.
    let at = (goal.at.returns-in_err-remove_manifest-clause-crash g c).After-append in
    let each = (beside g at told).each in
    by_new g at told ((c.in_ok-append.ensures.appends told).ok each.pointers each.current) (g.D.Disk.contents c.remove_manifest.new.disk)
    (c.in_err-remove_manifest.ensures.others told)

pub returns-in_err-remove_manifest-clause-others : goal.returns-in_err-remove_manifest-clause-others
returns-in_err-remove_manifest-clause-others g c = λ told.
    all_alone g (goal.at.returns-in_err-remove_manifest-clause-others g c).After-append told (g.D.Disk.contents c.remove_manifest.new.disk)
    (c.in_err-remove_manifest.ensures.others told)

pub returns-clause-form : goal.returns-clause-form
returns-clause-form g c = says_a_version (c.in_ok-snapshot.snapshot.items ∷ []) c.args.version.now c.in_ok-snapshot.ensures.says

pub returns-clause-gate : goal.returns-clause-gate
returns-clause-gate g c =
    omega (arith, c.in_ok-log.ensures.gate, ap length c.as_slice.ensures.value, c.in_ok-snapshot.ensures.short)

pub returns-clause-kept : goal.returns-clause-kept
returns-clause-kept g c = λ told.
    let at = (goal.at.returns-clause-kept g c).After-append in
    let each = (beside g at told).each in
    let sized = c.len.ensures ∙ c.in_ok-snapshot.snapshot.ok.0 ∙ sym (ap length c.as_slice.ensures.value) in
    (turned_alone g at told ((c.in_ok-append.ensures.appends told).ok each.pointers each.current) (g.D.Disk.contents c.remove_manifest.new.disk)
    (c.in_ok-remove_manifest.ensures.others told) c.len.result sized).each

pub returns-clause-first : goal.returns-clause-first
returns-clause-first g c = λ told.
    let at = (goal.at.returns-clause-first g c).After-append in
    let each = (beside g at told).each in
    let last = g.D.Disk.contents c.remove_manifest.new.disk in
    subst (λ (p : List ℕ). EachLog c.in_ok-log.log (p ∷ []) last) (c.as_slice.ensures.value ∙ c.in_ok-snapshot.ensures.spelled)
    (turned_alone g at told ((c.in_ok-append.ensures.appends told).ok each.pointers each.current) last
    (c.in_ok-remove_manifest.ensures.others told) (length c.as_slice.result.now) refl).first

pub returns-clause-crash : goal.returns-clause-crash
returns-clause-crash g c = λ told.
    let at = (goal.at.returns-clause-crash g c).After-append in
    let each = (beside g at told).each in
    by_new g at told ((c.in_ok-append.ensures.appends told).ok each.pointers each.current) (g.D.Disk.contents c.remove_manifest.new.disk)
    (c.in_ok-remove_manifest.ensures.others told)

pub returns-clause-others : goal.returns-clause-others
returns-clause-others g c = λ told.
    all_alone g (goal.at.returns-clause-others g c).After-append told (g.D.Disk.contents c.remove_manifest.new.disk)
    (c.in_ok-remove_manifest.ensures.others told)
