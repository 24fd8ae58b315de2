use Rattle.std.proofs.Common.{◌≡◌, Some, None, map, refl, sym, ap, ◌∙◌, subst}
use Rattle.std.specs.Prelude.{not}
use Rattle.std.specs.List.{list_any, filter}
use Rattle.pb_marker_world.specs.declared.events.Event.TheVariants.{DeleteMarker}
use Rattle.pb_marker_world.specs.Machine.{Marker, Entry, same_marker}
use Rattle.pb_marker_world.specs.Steps.{protects}
use Rattle.pb_marker_world.specs.Book.{Book, opening_in, written}
use Rattle.pb_marker_world.specs.Events.{placed_in}
use Rattle.pb_marker_world.specs.Found.{IsFoundAt}
use Rattle.pb_marker_world.proofs.Refused.{delete_marker_none, delete_marker_stage, delete_marker_lent, settled_stage}
use Rattle.pb_marker_world.proofs.Done.{delete_marker_done}
use Rattle.pb_marker_world.proofs.Answers.{done_as}
use Rattle.pb_marker_world.proofs.ledger.Ledger.delete_marker.Goals as goal

pub returns-in-None : goal.returns-in-None
returns-in-None c =
    record {
      same = refl;
      never = delete_marker_none c.args.self.now c.args.at
          (subst (λ ps. placed_in ps c.args.at ≡ None) (c.as_slice.ensures.value ∙ ap (λ (x : Book). x.places) c.self.view_is) c.in-None.ensures);
    }

pub returns-then-not-is_settled : goal.returns-then-not-is_settled
returns-then-not-is_settled c =
    record {
      same = refl;
      never = delete_marker_stage c.args.self.now c.args.at c.in-Some.found (subst (λ ps. IsFoundAt ps c.args.at c.in-Some.found) (c.as_slice.ensures.value ∙ ap (λ (x : Book). x.places) c.self.view_is) c.in-Some.ensures)
          (sym c.is_settled.ensures ∙ c.if-not-is_settled.true);
    }

pub returns-then-is_protected : goal.returns-then-is_protected
returns-then-is_protected c =
    record {
      same = refl;
      never = delete_marker_lent c.args.self.now c.args.at c.in-Some.found (subst (λ ps. IsFoundAt ps c.args.at c.in-Some.found) (c.as_slice.ensures.value ∙ ap (λ (x : Book). x.places) c.self.view_is) c.in-Some.ensures)
          (sym (c.is_protected.ensures
          ∙ (λ i. list_any (protects c.in-Some.found.store
          ((c.opening_of-opening.ensures
          ∙ ap (λ os. opening_in os c.in-Some.found.store)
          (c.as_slice-2.ensures.value ∙ ap (λ (x : Book). x.openings) c.self.view_is)) i)
          (c.own_marker-own.ensures i))
          ((c.as_slice-3.ensures.value ∙ ap (λ (x : Book). x.given) c.self.view_is) i))) ∙ c.if-is_protected.true);
    }

pub returns : goal.returns
returns c =
    done_as c.args.self.now _ _ (DeleteMarker c.args.at) _ _
    (delete_marker_done c.args.self.now c.args.at c.in-Some.found (subst (λ ps. IsFoundAt ps c.args.at c.in-Some.found) (c.as_slice.ensures.value ∙ ap (λ (x : Book). x.places) c.self.view_is) c.in-Some.ensures) (settled_stage c.in-Some.found.entry.stage (sym c.is_settled.ensures ∙ c.if-not-is_settled.false))
    (sym (c.is_protected.ensures
    ∙ (λ i. list_any (protects c.in-Some.found.store
    ((c.opening_of-opening.ensures
    ∙ ap (λ os. opening_in os c.in-Some.found.store)
    (c.as_slice-2.ensures.value ∙ ap (λ (x : Book). x.openings) c.self.view_is)) i)
    (c.own_marker-own.ensures i))
    ((c.as_slice-3.ensures.value ∙ ap (λ (x : Book). x.given) c.self.view_is) i))) ∙ c.if-is_protected.false))
    refl
    (c.write.ensures
    ∙ (λ i. map (written c.in-Some.found.store c.in-Some.found.number ((ap (λ (e : Entry). Some e) c.at_stage.ensures) i)) (ap (λ (x : Book). x.places) c.self.view_is i)))
    (ap (λ (x : Book). x.spent) c.self.view_is)
    (ap (λ (x : Book). x.openings) c.self.view_is)
    (ap (λ (x : Book). x.objects) c.self.view_is)
    (c.forget_marker.ensures
    ∙ (λ i. filter (λ (x : Marker). not (same_marker x (c.own_marker-own.ensures i))) (ap (λ (x : Book). x.markers) c.self.view_is i)))
    (ap (λ (x : Book). x.given) c.self.view_is)
