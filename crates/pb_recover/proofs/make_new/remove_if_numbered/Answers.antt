use Rattle.std.proofs.Common.{inl, rules}
use Rattle.pb_names.specs.NumberedFile.{IsNumberedFile}
use Rattle.pb_recover.proofs.Removing.{removes_one}
use Rattle.pb_recover.proofs.make_new.remove_if_numbered.Goals as goal

pub returns-in_err-remove-clause-removes : goal.returns-in_err-remove-clause-removes
returns-in_err-remove-clause-removes g c = λ told.
    removes_one IsNumberedFile (g.D.Disk.contents c.args.disk.now) (g.D.Disk.contents c.remove.new.self) c.args.name.now
    (c.file_of.ensures.numbered.0 (search rules)) (c.in_err-remove.ensures.err told)

pub returns-clause-removes : goal.returns-clause-removes
returns-clause-removes g c = λ told.
    removes_one IsNumberedFile (g.D.Disk.contents c.args.disk.now) (g.D.Disk.contents c.remove.new.self) c.args.name.now
    (c.file_of.ensures.numbered.0 (search rules)) (inl (c.in_ok-remove.ensures.ok told))
