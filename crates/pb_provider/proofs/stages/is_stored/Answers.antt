use Rattle.std.proofs.Common.{Bool, is_some, sym, ap, ◌∙◌}
use Rattle.std.specs.Prelude.{◌||◌}
use Rattle.pb_version.specs.Version.{size_of}
use Rattle.pb_provider.proofs.StageLemmas.{stored_both}
use Rattle.pb_provider.proofs.stages.is_stored.Goals as goal

pub returns-then-is_shown : goal.returns-then-is_shown
returns-then-is_shown c =
    let version = c.args.version.now in
    sym (stored_both version c.args.number ∙ ap (λ (b : Bool). b || is_some (size_of version.backings c.args.number)) (sym c.is_shown.ensures ∙ c.if-is_shown.true))

pub returns : goal.returns
returns c =
    let version = c.args.version.now in
    c.is_some.ensures ∙ ap is_some c.backing.ensures
    ∙ sym (stored_both version c.args.number ∙ ap (λ (b : Bool). b || is_some (size_of version.backings c.args.number)) (sym c.is_shown.ensures ∙ c.if-is_shown.false))
