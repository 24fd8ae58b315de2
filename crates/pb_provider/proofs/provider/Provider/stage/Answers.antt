use Rattle.std.proofs.Common.{◌≡◌, ◌↔◌, ℕ, List, None, Option, false, ap, ◌∙◌, subst}
use Rattle.std.specs.Prelude.{◌==◌, option_map}
use Rattle.std.specs.List.{find, list_any}
use Rattle.pb_marker_world.specs.declared.stages.Stage.{Stage}
use Rattle.pb_provider.specs.Provider.{ProviderView, shared_numbers}
use Rattle.pb_provider.proofs.StageLemmas.{no_stage}
use Rattle.pb_provider.proofs.provider.Provider.stage.Goals as goal

pub returns-clause-none : goal.returns-clause-none
returns-clause-none c =
    subst (λ (v : ProviderView). (c.find_stage.result ≡ None) ↔ (list_any (λ shared. shared == c.args.number) (shared_numbers v.catalogue.entries) ≡ false)) c.self.view_is
    (no_stage c.args.number c.self.inside.catalog.entries c.self.inside.stages.items c.find_stage.result
    (c.find_stage.ensures ∙ ap (λ (stages : List (ℕ × Stage)). option_map (λ staged. staged.1) (find (λ staged. staged.0 == c.args.number) stages)) c.as_slice.ensures.value) c.self.invariant)
