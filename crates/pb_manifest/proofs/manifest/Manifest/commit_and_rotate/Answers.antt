use Rattle.std.proofs.Common.{◌≡◌, ℕ, Err, refl, sym, ap, ◌∙◌, subst, arith, rules}
use Rattle.pb_version.specs.Edited.{edited}
use Rattle.pb_version.specs.Rules.{first_broken}
use Rattle.pb_version.specs.Snapshot.{snapshot_of}
use Rattle.pb_version.specs.Version.{VersionView}
use Rattle.pb_version.proofs.Spelling.{spellable_edit}
use Rattle.pb_manifest.specs.declared.error.CommitError.TheVariants.{Disk}
use Rattle.pb_manifest.specs.Judged.{Judges}
use Rattle.pb_manifest.specs.Numbers.{IsFolded, OnlyReserves}
use Rattle.pb_manifest.specs.Rotation.{FirstIs, KeepsAllButManifests, SaysOne}
use Rattle.pb_manifest.proofs.Due.{around_draw, around_each, around_turned, drawn_begun, drawn_is, drawn_low, drawn_own, drawn_unbroken, due_begun, due_unspent, judged_draw, still_unmade}
use Rattle.pb_manifest.proofs.Errors.{same_error}
use Rattle.pb_manifest.proofs.Kept.{folded_further, next_stays}
use Rattle.pb_manifest.proofs.Results.{judged_same, on_err}
use Rattle.pb_manifest.proofs.Rotating.{kept_manifests_then, one_alone}
use Rattle.pb_manifest.proofs.manifest.Manifest.commit_and_rotate.Goals as goal

pub prepare-requires : goal.prepare-requires
prepare-requires g c = spellable_edit c.args.edit.now c.requires.edit

pub returns-in_err-prepare-clause-crash : goal.returns-in_err-prepare-clause-crash
returns-in_err-prepare-clause-crash g c = λ told.
    around_each c.args.self.now c.args.version.now c.args.edit.now (g.D.Disk.contents c.args.disk.now) (c.requires.kept told)

pub returns-in-Err-clause-judged : goal.returns-in-Err-clause-judged
returns-in-Err-clause-judged g c =
    judged_draw (Unit {0}) (first_broken c.args.version.now c.args.edit.now) c.in-Err.error c.in_ok-prepare.ensures.ok.unbroken
    (λ rule is. c.in-Err.ensures.unbroken (due_begun c.args.self.now c.args.version.now c.args.edit.now c.requires.due) rule (ap Err is))
    (λ is. due_unspent c.args.self.now c.args.version.now c.args.edit.now c.requires.due (c.in-Err.ensures.spent (ap Err is)))

pub returns-in-Err-clause-kept : goal.returns-in-Err-clause-kept
returns-in-Err-clause-kept g c = λ told not. c.in-Err.ensures.kept told (λ is. not (ap Err (same_error c.in-Err.error Disk is)))

pub returns-in-Err-clause-crash : goal.returns-in-Err-clause-crash
returns-in-Err-clause-crash g c = λ told.
    let now = c.args.self.now in
    let version = c.args.version.now in
    let drawn = c.draw.new.version in
    let edit = c.args.edit.now in
    around_draw now version drawn edit (g.D.Disk.contents c.draw.new.disk) (c.requires.kept told).own c.draw.ensures.only
    (c.draw.ensures.crash told)

pub returns-in-Err-clause-others : goal.returns-in-Err-clause-others
returns-in-Err-clause-others g c = λ told.
    one_alone (g.D.Disk.contents c.args.disk.now) (g.D.Disk.contents c.draw.new.disk) c.args.self.now.number c.args.self.now.next
    (c.draw.ensures.others told)

pub commit_to-requires-clause-unbroken : goal.commit_to-requires-clause-unbroken
commit_to-requires-clause-unbroken g c =
    let now = c.args.self.now in
    let version = c.args.version.now in
    let drawn = c.draw.new.version in
    let edit = c.args.edit.now in
    drawn_unbroken now version drawn c.draw.ensures.only c.in-Ok.ensures.ends edit c.requires.due c.in_ok-prepare.ensures.ok.unbroken

pub commit_to-requires-clause-begun : goal.commit_to-requires-clause-begun
commit_to-requires-clause-begun g c =
    let now = c.args.self.now in
    let version = c.args.version.now in
    let drawn = c.draw.new.version in
    let edit = c.args.edit.now in
    drawn_begun now version drawn c.draw.ensures.only c.in-Ok.ensures.ends (due_begun now version edit c.requires.due)

pub commit_to-requires-clause-low : goal.commit_to-requires-clause-low
commit_to-requires-clause-low g c =
    let now = c.args.self.now in
    let version = c.args.version.now in
    let drawn = c.draw.new.version in
    let edit = c.args.edit.now in
    drawn_low now version drawn c.draw.ensures.only c.in-Ok.ensures.ends edit c.requires.due c.in-Ok.number c.in-Ok.ensures.first

pub commit_to-requires-clause-own : goal.commit_to-requires-clause-own
commit_to-requires-clause-own g c =
    let now = c.args.self.now in
    let version = c.args.version.now in
    let drawn = c.draw.new.version in
    let edit = c.args.edit.now in
    drawn_own now version drawn c.draw.ensures.only c.in-Ok.ensures.ends c.in-Ok.number c.in-Ok.ensures.first

pub commit_to-requires-clause-unmade : goal.commit_to-requires-clause-unmade
commit_to-requires-clause-unmade g c = λ told.
    still_unmade c.args.self.now c.args.version.now (g.D.Disk.contents c.args.disk.now) (g.D.Disk.contents c.draw.new.disk) c.in-Ok.number
    c.in-Ok.ensures.first (c.requires.kept told) (c.requires.unmade told) (c.draw.ensures.others told)

pub returns-in_err-commit_to-clause-judged : goal.returns-in_err-commit_to-clause-judged
returns-in_err-commit_to-clause-judged g c =
    let now = c.args.self.now in
    let version = c.args.version.now in
    let drawn = c.draw.new.version in
    let edit = c.args.edit.now in
    let unbroken = drawn_unbroken now version drawn c.draw.ensures.only c.in-Ok.ensures.ends edit c.requires.due c.in_ok-prepare.ensures.ok.unbroken in
    let same : c.commit_to.result ≡ c.from_residual-in_err-commit_to.result = search rules in
    judged_same (first_broken drawn edit) (first_broken version edit) c.from_residual-in_err-commit_to.result unbroken
    c.in_ok-prepare.ensures.ok.unbroken (subst (Judges (first_broken drawn edit)) same c.commit_to.ensures.judged)

pub returns-in_err-commit_to-clause-crash : goal.returns-in_err-commit_to-clause-crash
returns-in_err-commit_to-clause-crash g c = λ told folder image.
    let now = c.args.self.now in
    let version = c.args.version.now in
    let drawn = c.draw.new.version in
    let edit = c.args.edit.now in
    let unbroken = drawn_unbroken now version drawn c.draw.ensures.only c.in-Ok.ensures.ends edit c.requires.due c.in_ok-prepare.ensures.ok.unbroken in
    around_turned now version drawn edit folder (c.requires.kept told).own
    (drawn_own now version drawn c.draw.ensures.only c.in-Ok.ensures.ends now.next refl) c.draw.ensures.only unbroken
    (subst (λ (n : ℕ). SaysOne now.number n now.catalogue drawn (edited drawn edit) folder) c.in-Ok.ensures.first
    (subst (λ (n : ℕ). SaysOne now.number c.in-Ok.number n drawn (edited drawn edit) folder) c.draw.ensures.numbers.1
    (subst (λ (n : ℕ). SaysOne n c.in-Ok.number c.draw.new.self.catalogue drawn (edited drawn edit) folder) c.draw.ensures.numbers.0
    (c.commit_to.ensures.crash told folder image))))

pub returns-in_err-commit_to-clause-others : goal.returns-in_err-commit_to-clause-others
returns-in_err-commit_to-clause-others g c = λ told.
    let now = c.args.self.now in
    let old = g.D.Disk.contents c.args.disk.now in
    let mid = g.D.Disk.contents c.draw.new.disk in
    let new = g.D.Disk.contents c.commit_to.new.disk in
    kept_manifests_then old mid new now.number now.next (one_alone old mid now.number now.next (c.draw.ensures.others told))
    (subst (λ (n : ℕ). KeepsAllButManifests mid new now.number n) c.in-Ok.ensures.first
    (subst (λ (n : ℕ). KeepsAllButManifests mid new n c.in-Ok.number) c.draw.ensures.numbers.0 (c.commit_to.ensures.others told)))

pub returns-in_err-commit_to-clause-same : goal.returns-in_err-commit_to-clause-same
returns-in_err-commit_to-clause-same g c =
    let drawn = c.in-Ok.ensures.drawn in
    let next = c.commit_to.ensures.numbers.1 in
    on_err c.from_residual-in_err-commit_to.result _ (
      c.in_err-commit_to.ensures.same.0 ∙ c.draw.ensures.numbers.0,
      omega (arith, drawn, next),
      subst (λ (v : VersionView). OnlyReserves c.args.version.now v) (sym c.in_err-commit_to.ensures.same.1) c.draw.ensures.only,
    )

pub returns-in_err-commit_to-clause-folded : goal.returns-in_err-commit_to-clause-folded
returns-in_err-commit_to-clause-folded g c = λ folded.
    subst IsFolded (sym c.in_err-commit_to.ensures.same.1) (c.draw.ensures.folded folded)

pub returns-in_err-commit_to-clause-reserved : goal.returns-in_err-commit_to-clause-reserved
returns-in_err-commit_to-clause-reserved g c = λ reserved.
    let drawn = c.in-Ok.ensures.reserved in
    let next = c.commit_to.ensures.numbers.1 in
    let same = ap (λ (v : VersionView). v.five.next) c.in_err-commit_to.ensures.same.1 in
    omega (arith, drawn, next, same)

pub returns-in_err-commit_to-clause-kept : goal.returns-in_err-commit_to-clause-kept
returns-in_err-commit_to-clause-kept g c = λ told not. c.in_err-commit_to.ensures.kept told (λ is. not (search rules))

pub returns-clause-ok : goal.returns-clause-ok
returns-clause-ok g c =
    let now = c.args.self.now in
    let version = c.args.version.now in
    let drawn = c.draw.new.version in
    let edit = c.args.edit.now in
    c.in_ok-commit_to.ensures.ok
    ∙ ap (λ (v : VersionView). edited v edit) (drawn_is now version drawn c.draw.ensures.only c.in-Ok.ensures.ends)

pub returns-clause-folded : goal.returns-clause-folded
returns-clause-folded g c = λ folded.
    let now = c.args.self.now in
    let version = c.args.version.now in
    let drawn = c.draw.new.version in
    let edit = c.args.edit.now in
    let unbroken = drawn_unbroken now version drawn c.draw.ensures.only c.in-Ok.ensures.ends edit c.requires.due c.in_ok-prepare.ensures.ok.unbroken in
    subst IsFolded (sym c.in_ok-commit_to.ensures.ok) (folded_further drawn edit (c.draw.ensures.folded folded) unbroken)

pub returns-clause-reserved : goal.returns-clause-reserved
returns-clause-reserved g c = λ reserved.
    let now = c.args.self.now in
    let version = c.args.version.now in
    let drawn = c.draw.new.version in
    let edit = c.args.edit.now in
    let unbroken = drawn_unbroken now version drawn c.draw.ensures.only c.in-Ok.ensures.ends edit c.requires.due c.in_ok-prepare.ensures.ok.unbroken in
    let below = c.in-Ok.ensures.reserved in
    let next = c.commit_to.ensures.numbers.1 in
    let stays = next_stays drawn edit unbroken in
    let same = ap (λ (v : VersionView). v.five.next) c.in_ok-commit_to.ensures.ok in
    omega (arith, below, next, stays, same)

pub returns-clause-first : goal.returns-clause-first
returns-clause-first g c = λ told.
    let now = c.args.self.now in
    let version = c.args.version.now in
    let drawn = c.draw.new.version in
    let edit = c.args.edit.now in
    let new = g.D.Disk.contents c.commit_to.new.disk in
    subst (λ (v : VersionView). FirstIs new.seen now.next (snapshot_of v)) (drawn_is now version drawn c.draw.ensures.only c.in-Ok.ensures.ends)
    (subst (λ (n : ℕ). FirstIs new.seen n (snapshot_of drawn)) c.in-Ok.ensures.first (c.in_ok-commit_to.ensures.first told))

pub returns-clause-crash : goal.returns-clause-crash
returns-clause-crash g c = λ told folder image.
    let now = c.args.self.now in
    let version = c.args.version.now in
    let drawn = c.draw.new.version in
    let edit = c.args.edit.now in
    let unbroken = drawn_unbroken now version drawn c.draw.ensures.only c.in-Ok.ensures.ends edit c.requires.due c.in_ok-prepare.ensures.ok.unbroken in
    around_turned now version drawn edit folder (c.requires.kept told).own
    (drawn_own now version drawn c.draw.ensures.only c.in-Ok.ensures.ends now.next refl) c.draw.ensures.only unbroken
    (subst (λ (n : ℕ). SaysOne now.number n now.catalogue drawn (edited drawn edit) folder) c.in-Ok.ensures.first
    (subst (λ (n : ℕ). SaysOne now.number c.in-Ok.number n drawn (edited drawn edit) folder) c.draw.ensures.numbers.1
    (subst (λ (n : ℕ). SaysOne n c.in-Ok.number c.draw.new.self.catalogue drawn (edited drawn edit) folder) c.draw.ensures.numbers.0
    (c.commit_to.ensures.crash told folder image))))

pub returns-clause-others : goal.returns-clause-others
returns-clause-others g c = λ told.
    let now = c.args.self.now in
    let old = g.D.Disk.contents c.args.disk.now in
    let mid = g.D.Disk.contents c.draw.new.disk in
    let new = g.D.Disk.contents c.commit_to.new.disk in
    kept_manifests_then old mid new now.number now.next (one_alone old mid now.number now.next (c.draw.ensures.others told))
    (subst (λ (n : ℕ). KeepsAllButManifests mid new now.number n) c.in-Ok.ensures.first
    (subst (λ (n : ℕ). KeepsAllButManifests mid new n c.in-Ok.number) c.draw.ensures.numbers.0 (c.commit_to.ensures.others told)))
