use Rattle.std.proofs.Common.{ℕ, sym, ap, ◌∙◌, subst, inl, inr, arith}
use Rattle.std.proofs.lemmas.Bool.{false≢true}
use Rattle.pb_version.specs.Edited.{edited}
use Rattle.pb_version.specs.Rules.{first_broken}
use Rattle.pb_version.specs.Snapshot.{snapshot_of}
use Rattle.pb_version.specs.Version.{VersionView}
use Rattle.pb_manifest.specs.Rotation.{FirstIs, version_before}
use Rattle.pb_manifest.proofs.Due.{around_in_place, around_refused, drawn_number_after, one_more_after, raised_before, same_before, same_next_after, same_number_after}
use Rattle.pb_manifest.proofs.Kept.{next_stays}
use Rattle.pb_manifest.proofs.Results.{judged_disk, on_err}
use Rattle.pb_manifest.proofs.Rotating.{one_alone}
use Rattle.pb_manifest.proofs.manifest.Manifest.commit.Goals as goal

pub commit_and_rotate-requires-clause-unmade : goal.commit_and_rotate-requires-clause-unmade
commit_and_rotate-requires-clause-unmade g c = λ told. c.requires.unmade told (sym c.is_due.ensures ∙ c.if-is_due.true)

pub returns-in_err-commit_and_rotate-clause-plain : goal.returns-in_err-commit_and_rotate-clause-plain
returns-in_err-commit_and_rotate-clause-plain g c = λ told never. absurd (never (sym c.is_due.ensures ∙ c.if-is_due.true))

pub returns-in_err-commit_and_rotate-clause-in_place : goal.returns-in_err-commit_and_rotate-clause-in_place
returns-in_err-commit_and_rotate-clause-in_place g c = λ told never. absurd (never (sym c.is_due.ensures ∙ c.if-is_due.true))

pub returns-then-is_due-clause-ok : goal.returns-then-is_due-clause-ok
returns-then-is_due-clause-ok g c =
    c.in_ok-commit_and_rotate.ensures.ok ∙ sym (ap (λ (v : VersionView). edited v c.args.edit.now) (raised_before c.args.self.now c.args.version.now c.args.edit.now (sym c.is_due.ensures ∙ c.if-is_due.true)))

pub returns-then-is_due-clause-turned : goal.returns-then-is_due-clause-turned
returns-then-is_due-clause-turned g c =
    c.in_ok-commit_and_rotate.ensures.turned ∙ sym (drawn_number_after c.args.self.now c.args.version.now c.args.edit.now (sym c.is_due.ensures ∙ c.if-is_due.true))

pub returns-then-is_due-clause-drawn : goal.returns-then-is_due-clause-drawn
returns-then-is_due-clause-drawn g c =
    c.in_ok-commit_and_rotate.ensures.drawn ∙ sym (one_more_after c.args.self.now c.args.version.now c.args.edit.now (sym c.is_due.ensures ∙ c.if-is_due.true))

pub returns-then-is_due-clause-first : goal.returns-then-is_due-clause-first
returns-then-is_due-clause-first g c = λ told is.
    let new = g.D.Disk.contents c.commit_and_rotate.new.disk in
    subst (λ (n : ℕ). FirstIs new.seen n (snapshot_of (version_before c.args.self.now c.args.version.now c.args.edit.now))) (sym c.in_ok-commit_and_rotate.ensures.turned)
    (subst (λ (v : VersionView). FirstIs new.seen c.args.self.now.next (snapshot_of v)) (sym (raised_before c.args.self.now c.args.version.now c.args.edit.now (sym c.is_due.ensures ∙ c.if-is_due.true)))
    (c.in_ok-commit_and_rotate.ensures.first told))

pub returns-then-is_due-clause-plain : goal.returns-then-is_due-clause-plain
returns-then-is_due-clause-plain g c = λ told never. absurd (never (sym c.is_due.ensures ∙ c.if-is_due.true))

pub returns-then-is_due-clause-in_place : goal.returns-then-is_due-clause-in_place
returns-then-is_due-clause-in_place g c = λ told never. absurd (never (sym c.is_due.ensures ∙ c.if-is_due.true))

pub returns-in_err-commit_in_place-clause-crash : goal.returns-in_err-commit_in_place-clause-crash
returns-in_err-commit_in_place-clause-crash g c = λ told folder image.
    let now = c.args.self.now in
    let version = c.args.version.now in
    let edit = c.args.edit.now in
    let old = g.D.Disk.contents c.args.disk.now in
    let new = g.D.Disk.contents c.commit_in_place.new.disk in
    elim c.in_err-commit_in_place.ensures.untouched [
      | inl disk ↦ around_in_place now version edit old new (c.requires.kept told)
          (judged_disk (first_broken version edit) _ disk c.in_err-commit_in_place.ensures.judged) (c.commit_in_place.ensures.crash told) folder image
      | inr same ↦ around_refused now version edit old new (c.requires.kept told) folder (ap g.D.Disk.contents same) image
    ]

pub returns-in_err-commit_in_place-clause-untouched : goal.returns-in_err-commit_in_place-clause-untouched
returns-in_err-commit_in_place-clause-untouched g c =
    let first = first_broken c.args.version.now c.args.edit.now in
    let same = c.in_err-commit_in_place.ensures.same in
    on_err c.from_residual-in_err-commit_in_place.result _ (λ broken. elim c.in_err-commit_in_place.ensures.untouched [
      | inl disk ↦ absurd (broken (judged_disk first _ disk c.in_err-commit_in_place.ensures.judged))
      | inr untouched ↦ (untouched, same.0, same.1)
    ])

pub returns-in_err-commit_in_place-clause-others : goal.returns-in_err-commit_in_place-clause-others
returns-in_err-commit_in_place-clause-others g c = λ told.
    one_alone (g.D.Disk.contents c.args.disk.now) (g.D.Disk.contents c.commit_in_place.new.disk) c.args.self.now.number c.args.self.now.next
    (c.commit_in_place.ensures.others told)

pub returns-clause-ok : goal.returns-clause-ok
returns-clause-ok g c =
    c.in_ok-commit_in_place.ensures.ok ∙ sym (ap (λ (v : VersionView). edited v c.args.edit.now) (same_before c.args.self.now c.args.version.now c.args.edit.now (λ is. false≢true (sym c.if-is_due.false ∙ c.is_due.ensures ∙ is))))

pub returns-clause-turned : goal.returns-clause-turned
returns-clause-turned g c =
    c.commit_in_place.ensures.numbers.number ∙ sym (same_number_after c.args.self.now c.args.version.now c.args.edit.now (λ is. false≢true (sym c.if-is_due.false ∙ c.is_due.ensures ∙ is)))

pub returns-clause-drawn : goal.returns-clause-drawn
returns-clause-drawn g c =
    c.commit_in_place.ensures.numbers.next ∙ sym (same_next_after c.args.self.now c.args.version.now c.args.edit.now (λ is. false≢true (sym c.if-is_due.false ∙ c.is_due.ensures ∙ is)))

pub returns-clause-first : goal.returns-clause-first
returns-clause-first g c = λ told is. absurd (false≢true (sym c.if-is_due.false ∙ c.is_due.ensures ∙ is))

pub returns-clause-crash : goal.returns-clause-crash
returns-clause-crash g c = λ told.
    around_in_place c.args.self.now c.args.version.now c.args.edit.now (g.D.Disk.contents c.args.disk.now) (g.D.Disk.contents c.commit_in_place.new.disk) (c.requires.kept told)
    c.in_ok-commit_in_place.ensures.judged (c.commit_in_place.ensures.crash told)

pub returns-clause-reserved : goal.returns-clause-reserved
returns-clause-reserved g c = λ reserved.
    let next = c.commit_in_place.ensures.numbers.next in
    let stays = next_stays c.args.version.now c.args.edit.now c.in_ok-commit_in_place.ensures.judged in
    let same = ap (λ (v : VersionView). v.five.next) c.in_ok-commit_in_place.ensures.ok in
    omega (arith, reserved, next, stays, same)

pub returns-clause-others : goal.returns-clause-others
returns-clause-others g c = λ told.
    one_alone (g.D.Disk.contents c.args.disk.now) (g.D.Disk.contents c.commit_in_place.new.disk) c.args.self.now.number c.args.self.now.next
    (c.commit_in_place.ensures.others told)
