use Rattle.std.proofs.Common.{ℕ, ◌∙◌, ap, subst}
use Rattle.pb_manifest.specs.Manifest.{SaysFolder}
use Rattle.pb_manifest.proofs.Due.{not_due, same_before, same_number_after}
use Rattle.pb_version.specs.Edited.{edited}
use Rattle.pb_version.specs.Version.{VersionView}
use Rattle.pb_crash_tests.proofs.Committing.{never_err}
use Rattle.pb_crash_tests.proofs.manifest.committed.Goals as goal

pub commit-requires-clause-unmade : goal.commit-requires-clause-unmade
commit-requires-clause-unmade g c told due =
    absurd (not_due c.in_ok-manifest.manifest c.in_ok-manifest.version c.args.second.now c.in_ok-manifest.ensures.new due)

pub returns-clause-version : goal.returns-clause-version
returns-clause-version g c =
    let never = not_due c.in_ok-manifest.manifest c.in_ok-manifest.version c.args.second.now c.in_ok-manifest.ensures.new in
    c.in_ok-commit.ensures.ok
    ∙ ap (λ (v : VersionView). edited v c.args.second.now)
    (same_before c.in_ok-manifest.manifest c.in_ok-manifest.version c.args.second.now never ∙ c.in_ok-manifest.ensures.version)

pub returns-clause-says : goal.returns-clause-says
returns-clause-says g c told folder image =
    let made = c.in_ok-manifest.ensures.numbers in
    let never = not_due c.in_ok-manifest.manifest c.in_ok-manifest.version c.args.second.now c.in_ok-manifest.ensures.new in
    let version = c.commit.new.version in
    let number =
    c.in_ok-commit.ensures.turned ∙ same_number_after c.in_ok-manifest.manifest c.in_ok-manifest.version c.args.second.now never ∙ made.number_is in
    let says = c.each_says.ensures c.commit.new.self version (c.in_ok-commit.ensures.kept told (never_err _ _)) folder image in
    subst (λ (n : ℕ). SaysFolder 1 n version folder) (c.commit.ensures.catalogue ∙ made.catalogue_is)
    (subst (λ (n : ℕ). SaysFolder n c.commit.new.self.catalogue version folder) number says)
