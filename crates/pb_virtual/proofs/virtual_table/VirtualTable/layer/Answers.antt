use Rattle.std.proofs.Common.{Some, sym, ap, ◌∙◌}
use Rattle.std.proofs.lemmas.Option.{same_Some}
use Rattle.pb_keys.specs.View.{KeyView}
use Rattle.pb_rows.specs.Viewed.{bounded, viewed}
use Rattle.pb_virtual.specs.declared.virtual_table.VirtualTable.TheInside.{Inside}
use Rattle.pb_virtual.proofs.ShownLaws.{bounded_is_viewed, is_shown}
use Rattle.pb_virtual.proofs.virtual_table.VirtualTable.layer.Goals as goal

pub returns-clause-some : goal.returns-clause-some
returns-clause-some c =
    let behind = c.in-Some.layer in
    let same = c.in_ok-shown.ensures.ok ∙ ap (λ (a : Inside). bounded a.view.bounds behind) c.self-inside.view_is
    ∙ ap (λ (v : KeyView). bounded v.bounds behind) c.self.view_is in
    is_shown c.args.self.now c.args.bytes.now behind c.in_ok-shown.shown c.requires.plain (rw c.in-Some.is at c.in_ok-layer.ensures.found) same

pub returns-clause-exact : goal.returns-clause-exact
returns-clause-exact c behind viewable =
    let layer = c.in-Some.layer in
    let same = c.in_ok-shown.ensures.ok ∙ ap (λ (a : Inside). bounded a.view.bounds layer) c.self-inside.view_is
    ∙ ap (λ (v : KeyView). bounded v.bounds layer) c.self.view_is in
    let one = same_Some layer behind (sym c.in-Some.is ∙ c.in_ok-layer.ensures.exact behind viewable.spelled) in
    ap Some (same ∙ bounded_is_viewed c.args.self.now layer c.requires.plain ∙ ap (viewed c.args.self.now) one)
