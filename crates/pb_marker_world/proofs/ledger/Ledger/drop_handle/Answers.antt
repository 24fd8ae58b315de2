use Rattle.std.proofs.Common.{true, refl, ap, subst}
use Rattle.pb_marker_world.specs.declared.events.Event.TheVariants.{DropHandle}
use Rattle.pb_marker_world.specs.Book.{Book}
use Rattle.pb_marker_world.specs.Found.{IsClosed}
use Rattle.pb_marker_world.proofs.StoreEvents.{drop_handle_done}
use Rattle.pb_marker_world.proofs.Answers.{done_as}
use Rattle.pb_marker_world.proofs.ledger.Ledger.drop_handle.Goals as goal

pub returns : goal.returns
returns c =
    done_as c.args.self.now _ _ (DropHandle c.args.handle) _ _
    (drop_handle_done c.args.self.now c.args.handle c.close.new.given.items
    (subst (λ g. IsClosed g c.args.handle true c.close.new.given.items) (ap (λ (x : Book). x.given) c.self.view_is)
    (subst (λ r. IsClosed c.self.inside.given.items c.args.handle r c.close.new.given.items) c.if-not-close.false c.close.ensures)))
    refl
    (ap (λ (x : Book). x.places) c.self.view_is) (ap (λ (x : Book). x.spent) c.self.view_is) (ap (λ (x : Book). x.openings) c.self.view_is) (ap (λ (x : Book). x.objects) c.self.view_is) (ap (λ (x : Book). x.markers) c.self.view_is) refl
