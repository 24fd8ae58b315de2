use Rattle.std.proofs.Common.{◌≡◌, Some, ap, ◌∙◌, subst}
use Rattle.std.specs.Prelude.{IfSome}
use Rattle.pb_keys.specs.View.{KeyView}
use Rattle.pb_rows.specs.Viewed.{viewed}
use Rattle.pb_version.specs.Version.{TableView}
use Rattle.pb_virtual.specs.Shown.{IsShown, IsViewable}
use Rattle.pb_virtual.proofs.ShownLaws.{is_viewable}
use Rattle.pb_read.proofs.table.layer_of.Goals as goal

pub returns-clause-exact : goal.returns-clause-exact
returns-clause-exact c layer table =
    let same : c.new.result ≡ c.args.table.now.view =
    c.new.ensures ∙ c.in_ok-view.ensures.ok ∙ ap (λ (t : TableView). t.view) c.table.view_is in
    subst (λ (v : KeyView). IsViewable v c.args.bytes.now layer → c.in_ok-found.found ≡ Some (viewed v layer)) same
    (c.in_ok-found.ensures.exact layer) (is_viewable c.args.table.now.view c.args.bytes.now layer c.requires.1 table.spelled)

pub returns-clause-shown : goal.returns-clause-shown
returns-clause-shown c =
    let same : c.new.result ≡ c.args.table.now.view =
    c.new.ensures ∙ c.in_ok-view.ensures.ok ∙ ap (λ (t : TableView). t.view) c.table.view_is in
    subst (λ (v : KeyView). IfSome c.in_ok-found.found (IsShown v c.args.bytes.now)) same c.in_ok-found.ensures.some
