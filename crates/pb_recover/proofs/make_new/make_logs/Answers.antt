use Rattle.std.proofs.Common.{◌≡◌, ℕ, List, None, sym, ap, ◌∙◌, subst}
use Rattle.pb_devices.specs.Contents.{KeepsOthers}
use Rattle.pb_gate_log.specs.EachLog.{LogPlace}
use Rattle.pb_names.specs.Spelling.{file_name}
use Rattle.pb_recover.proofs.Making.{catalogue_alone, catalogue_beside, log_absent, logs_alone}
use Rattle.pb_recover.proofs.make_new.make_logs.Goals as goal

pub create-requires : goal.create-requires
create-requires g c = λ told.
    let mid = g.D.Disk.contents c.make_catalogue.new.disk in
    subst (λ (name : List ℕ). mid.seen name ≡ None) (sym c.file.ensures)
    (log_absent (g.D.Disk.contents c.args.disk.now) mid mid (c.in_ok-catalog.ensures.others told) (c.requires.log told))

pub returns-in_err-catalog-clause-others : goal.returns-in_err-catalog-clause-others
returns-in_err-catalog-clause-others g c = λ told.
    let mid = g.D.Disk.contents c.make_catalogue.new.disk in
    catalogue_alone (g.D.Disk.contents c.args.disk.now) mid mid (c.in_err-catalog.ensures.others told)

pub returns-in_err-log-clause-others : goal.returns-in_err-log-clause-others
returns-in_err-log-clause-others g c = λ told.
    let mid = g.D.Disk.contents c.make_catalogue.new.disk in
    let new = g.D.Disk.contents c.create.new.disk in
    logs_alone (g.D.Disk.contents c.args.disk.now) mid new (c.in_ok-catalog.ensures.others told)
    (subst (λ (name : List ℕ). KeepsOthers mid new name) c.file.ensures (c.in_err-log.ensures.makes told).others)

pub returns-clause-others : goal.returns-clause-others
returns-clause-others g c = λ told.
    let mid = g.D.Disk.contents c.make_catalogue.new.disk in
    let new = g.D.Disk.contents c.create.new.disk in
    logs_alone (g.D.Disk.contents c.args.disk.now) mid new (c.in_ok-catalog.ensures.others told)
    (subst (λ (name : List ℕ). KeepsOthers mid new name) c.file.ensures (c.in_ok-log.ensures.makes told).others)

pub returns-clause-catalogue : goal.returns-clause-catalogue
returns-clause-catalogue g c = λ told.
    let mid = g.D.Disk.contents c.make_catalogue.new.disk in
    let new = g.D.Disk.contents c.create.new.disk in
    catalogue_beside (g.D.Disk.contents c.args.disk.now) mid new (c.in_ok-catalog.ensures.others told)
    (subst (λ (name : List ℕ). KeepsOthers mid new name) c.file.ensures (c.in_ok-log.ensures.makes told).others)
    c.args.id c.in_ok-catalog.catalog c.in_ok-catalog.ensures.own (c.in_ok-catalog.ensures.kept told)

pub returns-clause-log : goal.returns-clause-log
returns-clause-log g c = λ told. record {
  name = ap (λ (log : LogPlace). log.file) c.in_ok-log.ensures.place ∙ c.file.ensures;
  each = c.in_ok-log.ensures.ok told;
}
