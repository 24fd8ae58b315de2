use Rattle.std.proofs.Common.{◌≡◌, ◌+◌, sym, ap, ◌∙◌, subst, inl, arith, rules}
use Rattle.pb_manifest.specs.Numbers.{IsFolded, with_next}
use Rattle.pb_manifest.proofs.Blocks.{none_behind, says_before}
use Rattle.pb_manifest.proofs.Folders.{each_says_of}
use Rattle.pb_version.specs.Version.{FiveNumbers, VersionView}
use Rattle.pb_manifest.proofs.manifest.Manifest.reserve.Goals as goal

pub returns-in_err-reserve_block-clause-crash : goal.returns-in_err-reserve_block-clause-crash
returns-in_err-reserve_block-clause-crash g c = λ told.
    let version = c.reserve_block.new.version in
    says_before c.args.self.now c.loop-alloc.self version (with_next (version.five.next + 64) version)
    (g.D.Disk.contents c.reserve_block.new.disk)
    c.loop-alloc.invariant.numbers (c.in_err-reserve_block.ensures.crash told)

pub returns-clause-crash : goal.returns-clause-crash
returns-clause-crash g c = λ told folder image.
    let same = c.loop-alloc.invariant.numbers in
    inl (each_says_of c.loop-alloc.self c.loop-alloc.version (g.D.Disk.contents c.loop-alloc.disk)
    c.args.self.now.number c.args.self.now.catalogue
    same.number same.catalogue (c.loop-alloc.invariant.kept told) folder image)

pub returns-in_err-reserve_block-clause-full : goal.returns-in_err-reserve_block-clause-full
returns-in_err-reserve_block-clause-full g c = λ is.
    ap (λ (v : VersionView). v.five.next) c.in_err-reserve_block.ensures.same
    ∙ sym (none_behind c.loop-alloc.version.five.next (c.reserve_block.ensures.spent (search rules)))
    ∙ c.loop-alloc.invariant.last

pub returns-in_err-reserve_block-clause-folded : goal.returns-in_err-reserve_block-clause-folded
returns-in_err-reserve_block-clause-folded g c = λ folded.
    subst IsFolded (sym c.in_err-reserve_block.ensures.same) (c.loop-alloc.invariant.folded folded)

pub returns-in_err-reserve_block-clause-unbroken : goal.returns-in_err-reserve_block-clause-unbroken
returns-in_err-reserve_block-clause-unbroken g c = λ begun rule is.
    c.reserve_block.ensures.unbroken (λ none. begun (sym (ap (λ (v : VersionView). v.five.format) c.loop-alloc.invariant.only.only)
    ∙ none)) rule (search rules)

pub returns-clause-reached : goal.returns-clause-reached
returns-clause-reached g c =
    let same : c.five-in-loop-alloc.inside.next ≡ c.loop-alloc.version.five.next =
    ap (λ (f : FiveNumbers). f.next) (c.five-in-loop-alloc.view_is ∙ c.five.ensures.value) in
    (omega (arith, same, c.loop-alloc-test.false), c.five.ensures.in_form.numbers.next)
