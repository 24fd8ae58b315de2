use Rattle.std.proofs.Common.{◌≡◌, ℕ, length, ap, sym}
use Rattle.std.specs.Prelude.{nat_eq}
use Rattle.std.proofs.lemmas.Bool.{eqb-true}
use Rattle.pb_block.proofs.Keys.{shared_with_none}
use Rattle.pb_block.proofs.follows.share_nothing.Goals as goal

pub returns-then-is_empty-2 : goal.returns-then-is_empty-2
returns-then-is_empty-2 c =
    let none : length c.args.b.now ≡ 0 = eqb-true (length c.args.b.now) 0 (sym c.if-is_empty-2.ensures) in
    sym (ap (λ (n : ℕ). nat_eq n 0) (shared_with_none c.args.a.now c.args.b.now none))
