use Rattle.std.proofs.Common.{ℕ, List, sym, ◌∙◌, subst, inr}
use Rattle.pb_gate_log.specs.Payloads.{HasPayloads}
use Rattle.pb_version.specs.SaysVersion.{SaysVersion}
use Rattle.pb_version.specs.Version.{VersionView}
use Rattle.pb_manifest.proofs.Errors.{same_file}
use Rattle.pb_manifest.proofs.Folders.{such_has}
use Rattle.pb_keys.proofs.Options.{none_has}
use Rattle.pb_manifest.proofs.open.read_version.Goals as goal

pub returns-in_default-clause-damaged : goal.returns-in_default-clause-damaged
returns-in_default-clause-damaged g c = λ told file is.
    let old = g.D.Disk.contents c.args.disk.now in
    let name = c.file-name.result in
    let nothing =
    none_has c.in_ok-version.field-0 ((version : VersionView) → SaysVersion c.deref.result.now version → ⊥)
    c.in_default.is c.in_ok-version.ensures.none in
    inr (
      sym (same_file name file is) ∙ c.file-name.ensures,
      λ version says. nothing version
          (subst (λ (l : List (List ℕ)). SaysVersion l version) (sym c.deref.ensures.value)
          (such_has c.in_ok-log.payloads.items (old.seen name) (λ l. SaysVersion l version) (c.in_ok-log.ensures.ok told).had
          (subst (λ (n : List ℕ). HasPayloads old.seen n (λ l. SaysVersion l version)) (sym c.file-name.ensures) says))),
    )
