use Rattle.std.proofs.Common.{[], ◌∷◌, ◌++◌, List, ℕ, Option, subst, inl}
use Rattle.pb_devices.specs.Contents.{KeepsOthers}
use Rattle.pb_gate_log.specs.Payloads.{payloads_in}
use Rattle.pb_names.specs.Spelling.{current_name}
use Rattle.pb_manifest.specs.Manifest.{manifest_name}
use Rattle.pb_manifest.specs.Steps.{IsLogOf}
use Rattle.pb_manifest.proofs.Creating.{both_kept, image_before, pointed, seen_before, still_log, still_settled}
use Rattle.pb_manifest.proofs.create.write_manifest.Goals as goal

pub returns-in_err-log-clause-crash : goal.returns-in_err-log-clause-crash
returns-in_err-log-clause-crash g c = λ told folder image.
    let old = g.D.Disk.contents c.args.disk.now in
    let mid = g.D.Disk.contents c.make_log.new.disk in
    let made = subst (λ (name : List ℕ). KeepsOthers old mid name) c.file.ensures (c.in_err-log.ensures.others told) in
    inl (image_before c.args.number c.requires.low old mid made (c.requires.settled told) (folder current_name) (image current_name))

pub append_pointer-requires : goal.append_pointer-requires
append_pointer-requires g c = λ told.
    let old = g.D.Disk.contents c.args.disk.now in
    let mid = g.D.Disk.contents c.make_log.new.disk in
    let made = subst (λ (name : List ℕ). KeepsOthers old mid name) c.file.ensures (c.in_ok-log.ensures.others told) in
    still_settled c.args.number c.requires.low old mid made (c.requires.settled told)

pub returns-in_err-current-clause-crash : goal.returns-in_err-current-clause-crash
returns-in_err-current-clause-crash g c = λ told folder image.
    let old = g.D.Disk.contents c.args.disk.now in
    let mid = g.D.Disk.contents c.make_log.new.disk in
    let new = g.D.Disk.contents c.append_pointer.new.disk in
    let made = subst (λ (name : List ℕ). KeepsOthers old mid name) c.file.ensures (c.in_ok-log.ensures.others told) in
    let log =
    subst (λ (name : List ℕ). IsLogOf name (c.args.edit.now ∷ []) c.in_ok-log.log mid) c.file.ensures (c.in_ok-log.ensures.ok told) in
    pointed c.args.number c.requires.low c.in_ok-log.log c.args.edit.now c.args.pointer.now old mid new log
    (seen_before c.args.number c.requires.low old mid made (c.requires.settled told)) (c.in_err-current.ensures.others told)
    folder image (c.in_err-current.ensures.crash told (folder current_name) (image current_name))

pub returns-in_err-current-clause-others : goal.returns-in_err-current-clause-others
returns-in_err-current-clause-others g c = λ told.
    let old = g.D.Disk.contents c.args.disk.now in
    let mid = g.D.Disk.contents c.make_log.new.disk in
    both_kept old mid (g.D.Disk.contents c.append_pointer.new.disk) (manifest_name c.args.number) current_name
    (subst (λ (name : List ℕ). KeepsOthers old mid name) c.file.ensures (c.in_ok-log.ensures.others told))
    (c.in_err-current.ensures.others told)

pub returns-clause-log : goal.returns-clause-log
returns-clause-log g c = λ told.
    let mid = g.D.Disk.contents c.make_log.new.disk in
    still_log c.args.number c.requires.low c.in_ok-log.log (c.args.edit.now ∷ []) mid (g.D.Disk.contents c.append_pointer.new.disk)
    (c.in_ok-current.ensures.others told)
    (subst (λ (name : List ℕ). IsLogOf name (c.args.edit.now ∷ []) c.in_ok-log.log mid) c.file.ensures (c.in_ok-log.ensures.ok told))

pub returns-clause-current : goal.returns-clause-current
returns-clause-current g c = λ told.
    let old = g.D.Disk.contents c.args.disk.now in
    let mid = g.D.Disk.contents c.make_log.new.disk in
    let new = g.D.Disk.contents c.append_pointer.new.disk in
    let made = subst (λ (name : List ℕ). KeepsOthers old mid name) c.file.ensures (c.in_ok-log.ensures.others told) in
    subst (λ (file : Option (List ℕ)). IsLogOf current_name (payloads_in file ++ c.args.pointer.now ∷ []) c.in_ok-current.current new)
    (seen_before c.args.number c.requires.low old mid made (c.requires.settled told)) (c.in_ok-current.ensures.ok told)

pub returns-clause-others : goal.returns-clause-others
returns-clause-others g c = λ told.
    let old = g.D.Disk.contents c.args.disk.now in
    let mid = g.D.Disk.contents c.make_log.new.disk in
    both_kept old mid (g.D.Disk.contents c.append_pointer.new.disk) (manifest_name c.args.number) current_name
    (subst (λ (name : List ℕ). KeepsOthers old mid name) c.file.ensures (c.in_ok-log.ensures.others told))
    (c.in_ok-current.ensures.others told)

pub returns-clause-crash : goal.returns-clause-crash
returns-clause-crash g c = λ told folder image.
    let old = g.D.Disk.contents c.args.disk.now in
    let mid = g.D.Disk.contents c.make_log.new.disk in
    let new = g.D.Disk.contents c.append_pointer.new.disk in
    let made = subst (λ (name : List ℕ). KeepsOthers old mid name) c.file.ensures (c.in_ok-log.ensures.others told) in
    let log =
    subst (λ (name : List ℕ). IsLogOf name (c.args.edit.now ∷ []) c.in_ok-log.log mid) c.file.ensures (c.in_ok-log.ensures.ok told) in
    pointed c.args.number c.requires.low c.in_ok-log.log c.args.edit.now c.args.pointer.now old mid new log
    (seen_before c.args.number c.requires.low old mid made (c.requires.settled told)) (c.in_ok-current.ensures.others told)
    folder image (c.in_ok-current.ensures.crash told (folder current_name) (image current_name))
