use Rattle.std.proofs.Common.{◌≡◌, Some, None, map, refl, ap, ◌∙◌, subst}
use Rattle.std.specs.Prelude.{not}
use Rattle.std.specs.List.{filter}
use Rattle.pb_names.specs.Identity.{Identity}
use Rattle.pb_marker_world.specs.declared.events.Event.TheVariants.{DeleteObject}
use Rattle.pb_marker_world.specs.Machine.{Entry, same_identity}
use Rattle.pb_marker_world.specs.Book.{Book, written}
use Rattle.pb_marker_world.specs.Events.{placed_in}
use Rattle.pb_marker_world.specs.Found.{IsFoundAt}
use Rattle.pb_marker_world.proofs.Refused.{delete_object_none, delete_object_stage}
use Rattle.pb_marker_world.proofs.Done.{delete_object_done}
use Rattle.pb_marker_world.proofs.Answers.{done_as}
use Rattle.pb_marker_world.proofs.ledger.Ledger.delete_object.Goals as goal

pub returns-in-None : goal.returns-in-None
returns-in-None c =
    record {
      same = refl;
      never = delete_object_none c.args.self.now c.args.at
          (subst (λ ps. placed_in ps c.args.at ≡ None) (c.as_slice.ensures.value ∙ ap (λ (x : Book). x.places) c.self.view_is) c.in-None.ensures);
    }

pub returns-then-not-is_at : goal.returns-then-not-is_at
returns-then-not-is_at c =
    record {
      same = refl;
      never = delete_object_stage c.args.self.now c.args.at c.in-Some.found (subst (λ ps. IsFoundAt ps c.args.at c.in-Some.found) (c.as_slice.ensures.value ∙ ap (λ (x : Book). x.places) c.self.view_is) c.in-Some.ensures)
          (c.is_at.ensures.no c.if-not-is_at.true);
    }

pub returns : goal.returns
returns c =
    done_as c.args.self.now _ _ (DeleteObject c.args.at) _ _
    (delete_object_done c.args.self.now c.args.at c.in-Some.found (subst (λ ps. IsFoundAt ps c.args.at c.in-Some.found) (c.as_slice.ensures.value ∙ ap (λ (x : Book). x.places) c.self.view_is) c.in-Some.ensures) (c.is_at.ensures.yes c.if-not-is_at.false))
    refl
    (c.write.ensures
    ∙ (λ i. map (written c.in-Some.found.store c.in-Some.found.number ((ap (λ (e : Entry). Some e) c.at_stage.ensures) i)) (ap (λ (x : Book). x.places) c.self.view_is i)))
    (ap (λ (x : Book). x.spent) c.self.view_is)
    (ap (λ (x : Book). x.openings) c.self.view_is)
    (c.forget_object.ensures
    ∙ (λ i. filter (λ (x : Identity). not (same_identity x (c.object_of.ensures i))) (ap (λ (x : Book). x.objects) c.self.view_is i)))
    (ap (λ (x : Book). x.markers) c.self.view_is)
    (ap (λ (x : Book). x.given) c.self.view_is)
