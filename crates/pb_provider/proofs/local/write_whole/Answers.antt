use Rattle.std.proofs.Common.{List, ℕ, subst}
use Rattle.pb_provider.specs.Files.{IsWhole}
use Rattle.pb_provider.proofs.Files.{whole}
use Rattle.pb_provider.proofs.local.write_whole.Goals as goal

pub returns-clause-ok : goal.returns-clause-ok
returns-clause-ok g c told =
    let old = g.D.Disk.contents c.args.disk.now in
    let new = g.D.Disk.contents c.sync.new.self in
    subst (λ (n : List ℕ). IsWhole n c.args.bytes.now old new) c.as_str-file.ensures.value
    (whole c.as_str-file.result.now c.args.bytes.now old (g.D.Disk.contents c.create.new.self) (g.D.Disk.contents c.write_at.new.self) new
    (c.in_ok-create.ensures.ok told) (c.in_ok-write_at.ensures.written told) (c.in_ok-write_at.ensures.ok told) (c.in_ok-sync.ensures.ok told))
