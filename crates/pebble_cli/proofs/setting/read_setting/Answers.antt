-- A payload that is no command, at each of its parts.
use Rattle.std.proofs.Common.{[], length, List, ℕ, ◌==◌, sym, ap, ◌∙◌}
use Rattle.std.proofs.lemmas.Bool.{false≢true}
use Rattle.pb_bytes.specs.Varint.{field}
use Rattle.pebble_cli.proofs.SettingFacts.{if_none, name_short, behind_count, behind_field, field_alone}
use Rattle.pebble_cli.proofs.setting.read_setting.Goals as goal

pub returns-in_err-key-clause-none : goal.returns-in_err-key-clause-none
returns-in_err-key-clause-none c =
    if_none _ _ c.from_residual-in_err-key.ensures (λ set is e.
    c.in_err-key.ensures.none set.key (field set.value)
    (behind_count _ _ _ set c.in_ok-count.ensures.below is c.in_ok-count.ensures.found e))

pub returns-in_err-value-clause-none : goal.returns-in_err-value-clause-none
returns-in_err-value-clause-none c =
    if_none _ _ c.from_residual-in_err-value.ensures (λ set is e.
    c.in_err-value.ensures.none set.value []
    (field_alone _ set.value (behind_field _ _ _ set.key (field set.value) c.in_ok-key.ensures.short (name_short set.key is.key) c.in_ok-key.ensures.found
    (behind_count _ _ _ set c.in_ok-count.ensures.below is c.in_ok-count.ensures.found e))))

pub returns-then-not-is_empty-clause-none : goal.returns-then-not-is_empty-clause-none
returns-then-not-is_empty-clause-none c = λ set is e.
    let empty =
    behind_field _ _ _ set.value [] c.in_ok-value.ensures.short (name_short set.value is.value) c.in_ok-value.ensures.found
    (field_alone _ set.value (behind_field _ _ _ set.key (field set.value) c.in_ok-key.ensures.short (name_short set.key is.key) c.in_ok-key.ensures.found
    (behind_count _ _ _ set c.in_ok-count.ensures.below is c.in_ok-count.ensures.found e))) in
    false≢true (sym c.if-not-is_empty.true ∙ c.is_empty.ensures ∙ ap (λ (rest : List ℕ). length rest == 0) empty)
