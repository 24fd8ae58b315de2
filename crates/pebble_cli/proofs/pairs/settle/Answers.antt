use Rattle.std.proofs.Common.{sym, ap, ◌∙◌}
use Rattle.pb_keys.specs.Key.{key_cmp}
use Rattle.std.specs.FinMap.{from_entries}
use Rattle.pebble_cli.specs.Store.{with_last}
use Rattle.pebble_cli.proofs.Maps.{insert_entries}
use Rattle.pebble_cli.proofs.pairs.settle.Goals as goal

pub returns-in-Ok-clause-same : goal.returns-in-Ok-clause-same
returns-in-Ok-clause-same c =
    ap (λ l. with_last l (from_entries {R = key_cmp} c.insert.new.self.entries)) c.take.ensures.after
    ∙ insert_entries c.args.by_key.now.entries c.insert.new.self.entries c.in-Some.key c.in-Some.value c.in-Ok.ensures.updates.0
    ∙ ap (λ l. with_last l (from_entries {R = key_cmp} c.args.by_key.now.entries)) (sym c.in-Some.is ∙ c.take.ensures.value)
