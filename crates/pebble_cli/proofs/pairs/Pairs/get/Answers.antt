use Rattle.std.proofs.Common.{ap, sym, ◌∙◌, cond, Some}
use Rattle.std.specs.FinMap.{get, from_entries}
use Rattle.pb_keys.specs.Key.{key_cmp}
use Rattle.pebble_cli.specs.Store.{with_last}
use Rattle.pebble_cli.proofs.Maps.{get_entries, get_set}
use Rattle.pebble_cli.proofs.pairs.Pairs.get.Goals as goal

pub returns-in_default : goal.returns-in_default
returns-in_default c =
    c.get.ensures.value ∙ sym (get_entries c.self.inside.by_key.entries c.args.key.now)
    ∙ ap (λ l. get (with_last l (from_entries {R = key_cmp} c.self.inside.by_key.entries)) c.args.key.now) (sym c.in_default.is)
    ∙ ap (λ m. get m c.args.key.now) c.self.view_is

pub returns-then-eq : goal.returns-then-eq
returns-then-eq c =
    let others = from_entries {R = key_cmp} c.self.inside.by_key.entries in
    ap (λ b. cond b (Some c.in-Some.value) (get others c.args.key.now)) (sym c.if-eq.true ∙ c.eq.ensures)
    ∙ sym (get_set others c.in-Some.last c.in-Some.value c.args.key.now)
    ∙ ap (λ l. get (with_last l others) c.args.key.now) (sym c.in-Some.is)
    ∙ ap (λ m. get m c.args.key.now) c.self.view_is

pub returns : goal.returns
returns c =
    let others = from_entries {R = key_cmp} c.self.inside.by_key.entries in
    c.get-2.ensures.value ∙ sym (get_entries c.self.inside.by_key.entries c.args.key.now)
    ∙ ap (λ b. cond b (Some c.in-Some.value) (get others c.args.key.now)) (sym c.if-eq.false ∙ c.eq.ensures)
    ∙ sym (get_set others c.in-Some.last c.in-Some.value c.args.key.now)
    ∙ ap (λ l. get (with_last l others) c.args.key.now) (sym c.in-Some.is)
    ∙ ap (λ m. get m c.args.key.now) c.self.view_is
