use Rattle.std.proofs.Common.{ℕ, List, drop, ap, sym, ◌∙◌, arith}
use Rattle.std.specs.Ordering.{is_lt}
use Rattle.pb_keys.specs.Key.{key_cmp}
use Rattle.pb_keys.specs.Order.{is_below}
use Rattle.pb_block.proofs.Keys.{above_within, above_past}
use Rattle.pb_block.proofs.follows.rises.Goals as goal

pub returns-then-split-shared : goal.returns-then-split-shared
returns-then-split-shared c =
    let rest = c.split_at.ensures.back ∙ ap (drop c.args.shared) c.as_slice-key.ensures.value in
    c.is_less.ensures ∙ ap (λ (r : List ℕ). is_below r c.args.unshared.now) rest
    ∙ sym (above_within c.args.before.now c.args.unshared.now c.args.shared c.requires (omega (arith, c.split-split.ensures)))

pub returns : goal.returns
returns c =
    let rest = c.split_at.ensures.back ∙ ap (drop c.args.shared) c.as_slice-key.ensures.value in
    c.is_above.ensures ∙ ap (λ (r : List ℕ). is_lt (key_cmp r c.args.unshared.now)) rest
    ∙ sym (above_past c.args.before.now c.args.unshared.now c.args.shared c.requires (omega (arith, c.split-split.ensures)))
