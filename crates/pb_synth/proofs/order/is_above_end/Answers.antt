use Rattle.std.proofs.Common.{Some, None, sym, ap, ◌++◌, ◌∙◌}
use Rattle.std.proofs.lemmas.Bool.Decides.{Decides-eqb}
use Rattle.std.proofs.lemmas.Slice.Eq.{strip_prefix_is}
use Rattle.pb_keys.specs.Order.{is_below}
use Rattle.pb_keys.proofs.OrderFacts.{lt-is_below}
use Rattle.pb_rows.proofs.MappedLaws.{below-behind}
use Rattle.pb_synth.proofs.JoinedOrder.{below_joined}
use Rattle.pb_synth.proofs.order.is_above_end.Goals as goal

pub returns-in-Some : goal.returns-in-Some
returns-in-Some c =
    let front = c.args.front.now in let back = c.args.back.now in let end = c.args.end.now in
    let whole = strip_prefix_is Decides-eqb end front (Some c.in-Some.rest) c.in-Some.ensures.cases in
    c.lt.ensures ∙ lt-is_below c.in-Some.rest.now back ∙ sym (below-behind front c.in-Some.rest.now back) ∙ ap (λ e. is_below e (front ++ back)) (sym whole)

pub returns-in-None : goal.returns-in-None
returns-in-None c =
    let front = c.args.front.now in let back = c.args.back.now in let end = c.args.end.now in
    let other = strip_prefix_is Decides-eqb end front None c.in-None.ensures.cases in
    c.lt-in-None.ensures ∙ lt-is_below end front ∙ sym (below_joined front back end other)
