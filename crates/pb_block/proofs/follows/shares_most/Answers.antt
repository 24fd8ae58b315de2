use Rattle.std.proofs.Common.{ℕ, List, drop, ap, sym, ◌∙◌}
use Rattle.std.specs.Prelude.{nat_eq}
use Rattle.std.specs.List.{common_prefix_len}
use Rattle.pb_block.proofs.Keys.{shares_no_more}
use Rattle.pb_block.proofs.follows.shares_most.Goals as goal

pub returns : goal.returns
returns c =
    let rest = c.split_at.ensures.back ∙ ap (drop c.args.shared) c.as_slice-key.ensures.value in
    c.share_nothing.ensures ∙ ap (λ (r : List ℕ). nat_eq (common_prefix_len nat_eq r c.args.unshared.now) 0) rest
    ∙ sym (shares_no_more c.args.before.now c.args.unshared.now c.args.shared c.requires)
