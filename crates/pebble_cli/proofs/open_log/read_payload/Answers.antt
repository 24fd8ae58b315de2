use Rattle.std.proofs.Common.{◌≡◌, sym, ◌∙◌, subst, arith}
use Rattle.std.proofs.lemmas.Bool.{false≢true}
use Rattle.pb_names.specs.Grammar.{IsName}
use Rattle.pebble_cli.specs.Settings.{Set}
use Rattle.pebble_cli.proofs.SetFacts.{same_set}
use Rattle.pebble_cli.proofs.open_log.read_payload.Goals as goal

pub returns-then-setting-least-clause-damaged : goal.returns-then-setting-least-clause-damaged
returns-then-setting-least-clause-damaged c = λ e set is spelled above.
    let found : Set = record { count = c.in-Some.setting.count; key = c.in-Some.setting.key.now; value = c.in-Some.setting.value.now } in
    let same = same_set found set c.in-Some.ensures.below is.count c.in-Some.ensures.short.0 c.in-Some.ensures.short.1 is (sym c.in-Some.ensures.found ∙ spelled) in
    let counts : c.in-Some.setting.count ≡ set.count = same.count in
    omega (arith, counts, above, c.if-setting-least.true)

pub returns-then-not-are_names-clause-damaged : goal.returns-then-not-are_names-clause-damaged
returns-then-not-are_names-clause-damaged c = λ e set is spelled above.
    let found : Set = record { count = c.in-Some.setting.count; key = c.in-Some.setting.key.now; value = c.in-Some.setting.value.now } in
    let same = same_set found set c.in-Some.ensures.below is.count c.in-Some.ensures.short.0 c.in-Some.ensures.short.1 is (sym c.in-Some.ensures.found ∙ spelled) in
    let key = subst IsName (sym same.key) is.key in
    let value = subst IsName (sym same.value) is.value in
    false≢true (sym c.if-not-are_names.true ∙ c.are_names.ensures.1 (key, value))
