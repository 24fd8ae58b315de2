use Rattle.std.proofs.Common.{◌≡◌, ◌≤◌, ℕ, sym, ap, ◌∙◌, subst, arith, Err}
use Rattle.std.specs.Prelude.{IfSome}
use Rattle.pb_edit.specs.Edit.{VersionEdit}
use Rattle.pb_edit.specs.Grammar.{IsEdit}
use Rattle.pb_gate_log.specs.Payloads.{payloads_in}
use Rattle.pb_names.specs.Spelling.{current_name}
use Rattle.pb_manifest.proofs.Results.{judged_broken}
use Rattle.pb_version.specs.Edited.{edited}
use Rattle.pb_version.specs.Rules.{first_broken}
use Rattle.pb_version.specs.Version.{empty_version}
use Rattle.pb_recover.proofs.FirstEdit.{first_is_edit, first_made, first_or_same, never_broken}
use Rattle.pb_recover.proofs.make_new.make_manifest.Goals as goal

pub create-requires-clause-edit : goal.create-requires-clause-edit
create-requires-clause-edit g c = subst IsEdit (sym c.first_edit-first.ensures) first_is_edit

pub create-requires-clause-next : goal.create-requires-clause-next
create-requires-clause-next g c =
    subst (λ (e : VersionEdit). IfSome e.next (λ end. 4 ≤ end)) (sym c.first_edit-first.ensures) (omega arith)

pub returns-in-Ok-clause-version : goal.returns-in-Ok-clause-version
returns-in-Ok-clause-version g c =
    c.in-Ok.ensures.version ∙ ap (edited empty_version) c.first_edit-first.ensures ∙ first_made

pub returns-in-Ok-clause-crash : goal.returns-in-Ok-clause-crash
returns-in-Ok-clause-crash g c = λ told folder image.
    first_or_same folder (payloads_in (folder current_name) ≡ payloads_in ((g.D.Disk.contents c.args.disk.now).seen current_name))
    c.first_edit-first.result c.first_edit-first.ensures (c.in-Ok.ensures.crash told folder image)

pub returns-in-Err-Disk-clause-crash : goal.returns-in-Err-Disk-clause-crash
returns-in-Err-Disk-clause-crash g c = λ told folder image.
    first_or_same folder (payloads_in (folder current_name) ≡ payloads_in ((g.D.Disk.contents c.args.disk.now).seen current_name))
    c.first_edit-first.result c.first_edit-first.ensures (c.in-Err-Disk.ensures.crash told folder image)

pub returns-in-Err-NoMemory-clause-crash : goal.returns-in-Err-NoMemory-clause-crash
returns-in-Err-NoMemory-clause-crash g c = λ told folder image.
    first_or_same folder (payloads_in (folder current_name) ≡ payloads_in ((g.D.Disk.contents c.args.disk.now).seen current_name))
    c.first_edit-first.result c.first_edit-first.ensures (c.in-Err-NoMemory.ensures.crash told folder image)

pub unreachable-requires : goal.unreachable-requires
unreachable-requires g c =
    let first = c.first_edit-first.result in
    let rule = c.in-Err-Broken.field-0-0 in
    never_broken first rule c.first_edit-first.ensures
    (judged_broken (first_broken empty_version first) c.create.result rule c.create.ensures.judged
    (c.in-Err-Broken.is ∙ ap Err c.in-Err-Broken.field-0-is))
