use Rattle.std.proofs.Common.{◌≡◌, Some, None, map, refl, ap, ◌∙◌, subst}
use Rattle.std.specs.Prelude.{if◌then◌else◌}
use Rattle.std.specs.List.{list_any}
use Rattle.pb_marker_world.specs.declared.stages.Stage.TheVariants.{Counted, Ended}
use Rattle.pb_marker_world.specs.declared.events.Event.TheVariants.{Count}
use Rattle.pb_marker_world.specs.declared.events.Outcome.TheVariants.{Any}
use Rattle.pb_marker_world.specs.Machine.{Marker, Entry, same_identity}
use Rattle.pb_marker_world.specs.Steps.{at_stage}
use Rattle.pb_marker_world.specs.Book.{Book, written}
use Rattle.pb_marker_world.specs.Events.{placed_in}
use Rattle.pb_marker_world.specs.Found.{IsFoundAt}
use Rattle.pb_marker_world.proofs.Refused.{count_none, count_stage}
use Rattle.pb_marker_world.proofs.Done.{count_done}
use Rattle.pb_marker_world.proofs.Answers.{done_as}
use Rattle.pb_marker_world.proofs.ledger.Ledger.count.Goals as goal

pub returns-in-None : goal.returns-in-None
returns-in-None c =
    record {
      same = refl;
      never = count_none c.args.self.now c.args.at
          (subst (λ ps. placed_in ps c.args.at ≡ None) (c.as_slice.ensures.value ∙ ap (λ (x : Book). x.places) c.self.view_is) c.in-None.ensures);
    }

pub returns-then-not-is_at : goal.returns-then-not-is_at
returns-then-not-is_at c =
    record {
      same = refl;
      never = count_stage c.args.self.now c.args.at c.in-Some.found (subst (λ ps. IsFoundAt ps c.args.at c.in-Some.found) (c.as_slice.ensures.value ∙ ap (λ (x : Book). x.places) c.self.view_is) c.in-Some.ensures)
          (c.is_at.ensures.no c.if-not-is_at.true);
    }

pub returns : goal.returns
returns c =
    let any = c.is_marked-any.ensures
    ∙ (λ i. list_any (λ (m : Marker). same_identity m.object (c.object_of.ensures i))
    ((c.as_slice-2.ensures.value ∙ ap (λ (x : Book). x.markers) c.self.view_is) i)) in
    let next = c.at_stage.ensures
    ∙ ap (λ st. at_stage c.in-Some.found.entry st) (c.counted_stage.ensures ∙ ap (λ x. if x then Ended else Counted) any) in
    done_as c.args.self.now _ _ (Count c.args.at) _ _
    (count_done c.args.self.now c.args.at c.in-Some.found (subst (λ ps. IsFoundAt ps c.args.at c.in-Some.found) (c.as_slice.ensures.value ∙ ap (λ (x : Book). x.places) c.self.view_is) c.in-Some.ensures) (c.is_at.ensures.yes c.if-not-is_at.false))
    (ap Any any)
    (c.write.ensures
    ∙ (λ i. map (written c.in-Some.found.store c.in-Some.found.number ((ap (λ (e : Entry). Some e) next) i)) (ap (λ (x : Book). x.places) c.self.view_is i)))
    (ap (λ (x : Book). x.spent) c.self.view_is)
    (ap (λ (x : Book). x.openings) c.self.view_is)
    (ap (λ (x : Book). x.objects) c.self.view_is)
    (ap (λ (x : Book). x.markers) c.self.view_is)
    (ap (λ (x : Book). x.given) c.self.view_is)
