use Rattle.std.proofs.Common.{◌≡◌, Some, None, map, refl, ap, ◌∙◌, subst}
use Rattle.std.specs.Prelude.{if◌then◌else◌}
use Rattle.pb_marker_world.specs.declared.stages.Stage.TheVariants.{Held, Loose}
use Rattle.pb_marker_world.specs.declared.events.Event.TheVariants.{Check}
use Rattle.pb_marker_world.specs.declared.events.Outcome.TheVariants.{Present}
use Rattle.pb_marker_world.specs.Machine.{Entry}
use Rattle.pb_marker_world.specs.Steps.{settled}
use Rattle.pb_marker_world.specs.Book.{Book, written}
use Rattle.pb_marker_world.specs.Events.{placed_in, lender_in}
use Rattle.pb_marker_world.specs.Found.{IsFoundAt}
use Rattle.pb_marker_world.proofs.Refused.{check_none, check_stage}
use Rattle.pb_marker_world.proofs.Done.{check_done}
use Rattle.pb_marker_world.proofs.Answers.{done_as}
use Rattle.pb_marker_world.proofs.ledger.Ledger.check.Goals as goal

pub returns-in-None : goal.returns-in-None
returns-in-None c =
    record {
      same = refl;
      never = check_none c.args.self.now c.args.at
          (subst (λ ps. placed_in ps c.args.at ≡ None) (c.as_slice.ensures.value ∙ ap (λ (x : Book). x.places) c.self.view_is) c.in-None.ensures);
    }

pub returns-then-not-is_at : goal.returns-then-not-is_at
returns-then-not-is_at c =
    record {
      same = refl;
      never = check_stage c.args.self.now c.args.at c.in-Some.found (subst (λ ps. IsFoundAt ps c.args.at c.in-Some.found) (c.as_slice.ensures.value ∙ ap (λ (x : Book). x.places) c.self.view_is) c.in-Some.ensures)
          (c.is_at.ensures.no c.if-not-is_at.true);
    }

pub returns : goal.returns
returns c =
    let present = c.has_lender_marker-present.ensures
    ∙ (λ i. lender_in ((c.as_slice-2.ensures.value ∙ ap (λ (x : Book). x.markers) c.self.view_is) i) (c.lender_of.ensures i)) in
    let next = c.settled.ensures
    ∙ ap (λ st. settled c.in-Some.found.entry st) (c.checked_stage.ensures ∙ ap (λ x. if x then Held else Loose) present) in
    done_as c.args.self.now _ _ (Check c.args.at) _ _
    (check_done c.args.self.now c.args.at c.in-Some.found (subst (λ ps. IsFoundAt ps c.args.at c.in-Some.found) (c.as_slice.ensures.value ∙ ap (λ (x : Book). x.places) c.self.view_is) c.in-Some.ensures) (c.is_at.ensures.yes c.if-not-is_at.false))
    (ap Present present)
    (c.write.ensures
    ∙ (λ i. map (written c.in-Some.found.store c.in-Some.found.number ((ap (λ (e : Entry). Some e) next) i)) (ap (λ (x : Book). x.places) c.self.view_is i)))
    (ap (λ (x : Book). x.spent) c.self.view_is)
    (ap (λ (x : Book). x.openings) c.self.view_is)
    (ap (λ (x : Book). x.objects) c.self.view_is)
    (ap (λ (x : Book). x.markers) c.self.view_is)
    (ap (λ (x : Book). x.given) c.self.view_is)
