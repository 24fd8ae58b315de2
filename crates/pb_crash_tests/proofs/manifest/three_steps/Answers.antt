use Rattle.std.proofs.Common.{◌∙◌, ap, inl}
use Rattle.pb_devices.proofs.Images.{stays_image}
use Rattle.pb_version.specs.Edited.{edited}
use Rattle.pb_version.specs.Version.{VersionView}
use Rattle.pb_crash_tests.proofs.Committing.{commit_left, draw_left}
use Rattle.pb_manifest.proofs.Due.{not_due, same_before, same_number_after}
use Rattle.pb_manifest.specs.Manifest.{manifest_name}
use Rattle.pb_names.specs.Spelling.{current_name}
use Rattle.pb_crash_tests.proofs.manifest.three_steps.Goals as goal

pub create-requires-clause-absent : goal.create-requires-clause-absent
create-requires-clause-absent g c = λ told. (c.in-Ok.ensures.ok told).seen (manifest_name 1) ∙ (c.requires.new told).absent

pub create-requires-clause-settled : goal.create-requires-clause-settled
create-requires-clause-settled g c = λ told. (c.in-Ok.ensures.ok told).settled current_name

pub commit-requires-clause-kept : goal.commit-requires-clause-kept
commit-requires-clause-kept g c = λ told. c.in-Ok-create.ensures.kept told

pub commit-requires-clause-unmade : goal.commit-requires-clause-unmade
commit-requires-clause-unmade g c = λ told due.
    absurd (not_due c.in-Ok-create.manifest c.in-Ok-create.version c.args.second.now c.in-Ok-create.ensures.new due)

pub draw-requires : goal.draw-requires
draw-requires g c = λ told. c.commit.ensures.kept told (λ is. cc)

pub returns-in_default-clause-left : goal.returns-in_default-clause-left
returns-in_default-clause-left g c told folder image =
    inl ((c.requires.new told).new folder (λ name.
    stays_image (g.D.Disk.contents c.args.disk.now) (g.D.Disk.contents c.barrier.new.self) name (folder name) (c.in_default.ensures.err told name) (image name)))

pub returns-in_default-commit-clause-left : goal.returns-in_default-commit-clause-left
returns-in_default-commit-clause-left g c told =
    let made = c.in-Ok-create.ensures in
    commit_left c.args.first.now c.args.second.now c.in-Ok-create.manifest.number c.in-Ok-create.manifest.catalogue c.in-Ok-create.version
    (g.D.Disk.contents c.commit.new.disk) made.numbers.number_is made.numbers.catalogue_is made.version
    (c.commit.ensures.in_place told (not_due c.in-Ok-create.manifest c.in-Ok-create.version c.args.second.now made.new))

pub returns-in_default-draw-clause-left : goal.returns-in_default-draw-clause-left
returns-in_default-draw-clause-left g c told =
    let made = c.in-Ok-create.ensures in
    let committed = c.in-Ok-commit.ensures in
    let never = not_due c.in-Ok-create.manifest c.in-Ok-create.version c.args.second.now made.new in
    let same = same_number_after c.in-Ok-create.manifest c.in-Ok-create.version c.args.second.now never in
    let before = same_before c.in-Ok-create.manifest c.in-Ok-create.version c.args.second.now never in
    draw_left c.args.first.now c.args.second.now c.commit.new.self.number c.commit.new.self.catalogue c.commit.new.version c.draw.new.version
    (g.D.Disk.contents c.draw.new.disk) (committed.turned ∙ same ∙ made.numbers.number_is) (c.commit.ensures.catalogue ∙ made.numbers.catalogue_is)
    (committed.ok ∙ ap (λ (v : VersionView). edited v c.args.second.now) (before ∙ made.version)) c.draw.ensures.only (c.draw.ensures.crash told)

pub returns-clause-left : goal.returns-clause-left
returns-clause-left g c told =
    let made = c.in-Ok-create.ensures in
    let committed = c.in-Ok-commit.ensures in
    let never = not_due c.in-Ok-create.manifest c.in-Ok-create.version c.args.second.now made.new in
    let same = same_number_after c.in-Ok-create.manifest c.in-Ok-create.version c.args.second.now never in
    let before = same_before c.in-Ok-create.manifest c.in-Ok-create.version c.args.second.now never in
    draw_left c.args.first.now c.args.second.now c.commit.new.self.number c.commit.new.self.catalogue c.commit.new.version c.draw.new.version
    (g.D.Disk.contents c.draw.new.disk) (committed.turned ∙ same ∙ made.numbers.number_is) (c.commit.ensures.catalogue ∙ made.numbers.catalogue_is)
    (committed.ok ∙ ap (λ (v : VersionView). edited v c.args.second.now) (before ∙ made.version)) c.draw.ensures.only (c.draw.ensures.crash told)
