use Rattle.std.proofs.Common.{◌≡◌, Some, None, [], ◌∷◌, ◌++◌, map, refl, sym, ap, ◌∙◌, subst}
use Rattle.std.proofs.lemmas.Result.{err_from_is_err_and}
use Rattle.pb_marker_world.specs.declared.events.Event.TheVariants.{PutMarker}
use Rattle.pb_marker_world.specs.Machine.{Entry}
use Rattle.pb_marker_world.specs.Book.{Book, written}
use Rattle.pb_marker_world.specs.Events.{placed_in}
use Rattle.pb_marker_world.specs.Found.{IsFoundAt}
use Rattle.pb_marker_world.proofs.Refused.{put_marker_none, put_marker_stage}
use Rattle.pb_marker_world.proofs.Done.{put_marker_done}
use Rattle.pb_marker_world.proofs.Answers.{done_as}
use Rattle.pb_marker_world.proofs.ledger.Ledger.put_marker.Goals as goal

pub returns-in-None : goal.returns-in-None
returns-in-None c =
    record {
      same = refl;
      never = put_marker_none c.args.self.now c.args.at
          (subst (λ ps. placed_in ps c.args.at ≡ None) (c.as_slice.ensures.value ∙ ap (λ (x : Book). x.places) c.self.view_is) c.in-None.ensures);
    }

pub returns-in-None-marked_stage : goal.returns-in-None-marked_stage
returns-in-None-marked_stage c =
    record { same = refl; never = put_marker_stage c.args.self.now c.args.at c.in-Some.found (subst (λ ps. IsFoundAt ps c.args.at c.in-Some.found) (c.as_slice.ensures.value ∙ ap (λ (x : Book). x.places) c.self.view_is) c.in-Some.ensures) (sym c.in-None-marked_stage.ensures) }

pub returns-in_err-push : goal.returns-in_err-push
returns-in_err-push c =
    let p = err_from_is_err_and c.from_residual.result c.from_residual.ensures.1 in
    rw (p.1, p.2) (record { same = rw c.in_err-push.ensures.items c.self.view_is; takes = refl })

pub returns : goal.returns
returns c =
    done_as c.args.self.now _ _ (PutMarker c.args.at) _ _
    (put_marker_done c.args.self.now c.args.at c.in-Some.found (subst (λ ps. IsFoundAt ps c.args.at c.in-Some.found) (c.as_slice.ensures.value ∙ ap (λ (x : Book). x.places) c.self.view_is) c.in-Some.ensures) c.in-Some-marked_stage.stage (sym c.in-Some-marked_stage.ensures))
    refl
    (c.write.ensures
    ∙ (λ i. map (written c.in-Some.found.store c.in-Some.found.number ((ap (λ (e : Entry). Some e) c.at_stage.ensures) i)) (ap (λ (x : Book). x.places) c.self.view_is i)))
    (ap (λ (x : Book). x.spent) c.self.view_is)
    (ap (λ (x : Book). x.openings) c.self.view_is)
    (ap (λ (x : Book). x.objects) c.self.view_is)
    (c.in_ok-push.ensures.items
    ∙ (λ i. ap (λ (x : Book). x.markers) c.self.view_is i ++ c.own_marker.ensures i ∷ []))
    (ap (λ (x : Book). x.given) c.self.view_is)
