use Rattle.std.proofs.Common.{◌≡◌, ◌+◌, sym, ap, ◌∙◌, subst, inl, arith}
use Rattle.pb_edit.specs.Grammar.{IsEdit}
use Rattle.pb_manifest.specs.Numbers.{reservation}
use Rattle.pb_manifest.proofs.Blocks.{block_after, block_says}
use Rattle.pb_manifest.proofs.Folders.{each_says, each_says_of}
use Rattle.pb_manifest.proofs.Results.{judged_broken}
use Rattle.pb_manifest.proofs.Reserved.{reservation_is, reservation_unbroken}
use Rattle.pb_version.specs.Version.{FiveNumbers}
use Rattle.pb_version.specs.Rules.{first_broken}
use Rattle.pb_manifest.proofs.manifest.Manifest.reserve_block.Goals as goal

pub returns-then-next-clause-crash : goal.returns-then-next-clause-crash
returns-then-next-clause-crash g c = λ told folder image.
    inl (each_says c.args.self.now c.args.version.now (g.D.Disk.contents c.args.disk.now) (c.requires told) folder image)

pub commit_in_place-requires-clause-edit : goal.commit_in_place-requires-clause-edit
commit_in_place-requires-clause-edit g c =
    subst IsEdit (sym c.reserve_below-edit.ensures) (reservation_is (c.next.inside.next + 64) (omega (arith, c.if-next.false)))

pub returns-clause-unbroken : goal.returns-clause-unbroken
returns-clause-unbroken g c = λ begun rule is.
    let same : c.next.inside.next ≡ c.args.version.now.five.next =
    ap (λ (f : FiveNumbers). f.next) (c.next.view_is ∙ c.five.ensures.value) in
    let broken = judged_broken (first_broken c.args.version.now c.reserve_below-edit.result) _ rule c.in-Err.ensures.judged is in
    let unbroken = ap (first_broken c.args.version.now) c.reserve_below-edit.ensures
    ∙ reservation_unbroken c.args.version.now (c.next.inside.next + 64) c.five.ensures.in_form begun (omega (arith, same)) in
    cc

pub returns-clause-crash : goal.returns-clause-crash
returns-clause-crash g c = λ told.
    let same : c.next.inside.next ≡ c.args.version.now.five.next =
    ap (λ (f : FiveNumbers). f.next) (c.next.view_is ∙ c.five.ensures.value) in
    block_says c.args.self.now.number c.args.self.now.catalogue (g.D.Disk.contents c.commit_in_place.new.disk)
    c.args.version.now c.commit_in_place.new.version c.reserve_below-edit.result
    (c.reserve_below-edit.ensures ∙ ap (λ n. reservation (n + 64)) same) c.in-Err.ensures.same.1 (c.in-Err.ensures.crash told)

pub returns-in-Ok-clause-ok : goal.returns-in-Ok-clause-ok
returns-in-Ok-clause-ok g c =
    let same : c.next.inside.next ≡ c.args.version.now.five.next =
    ap (λ (f : FiveNumbers). f.next) (c.next.view_is ∙ c.five.ensures.value) in
    block_after c.args.version.now c.commit_in_place.new.version c.reserve_below-edit.result (c.args.version.now.five.next + 64)
    (c.reserve_below-edit.ensures ∙ ap (λ n. reservation (n + 64)) same) c.in-Ok.ensures.ok

pub returns-in-Ok-clause-crash : goal.returns-in-Ok-clause-crash
returns-in-Ok-clause-crash g c = λ told folder image.
    inl (each_says_of c.commit_in_place.new.self c.commit_in_place.new.version (g.D.Disk.contents c.commit_in_place.new.disk)
    c.args.self.now.number c.args.self.now.catalogue
    c.in-Ok.ensures.numbers.number c.in-Ok.ensures.numbers.catalogue (c.in-Ok.ensures.kept told) folder image)
