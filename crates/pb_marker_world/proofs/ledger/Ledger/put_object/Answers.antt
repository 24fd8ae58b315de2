use Rattle.std.proofs.Common.{◌≡◌, Option, Some, None, [], ◌∷◌, ◌++◌, map, refl, sym, ap, ◌∙◌, subst}
use Rattle.std.specs.Prelude.{is_some}
use Rattle.std.proofs.lemmas.Bool.{both_ways}
use Rattle.std.proofs.lemmas.Result.{err_from_is_err_and}
use Rattle.pb_marker_world.specs.declared.events.Event.TheVariants.{PutObject}
use Rattle.pb_marker_world.specs.Machine.{Marker, Entry}
use Rattle.pb_marker_world.specs.Book.{Book, written}
use Rattle.pb_marker_world.specs.Events.{placed_in}
use Rattle.pb_marker_world.specs.Found.{IsFoundAt}
use Rattle.pb_marker_world.proofs.Refused.{put_object_none, put_object_stage, put_object_lender, no_lender_of}
use Rattle.pb_marker_world.proofs.Done.{put_object_done}
use Rattle.pb_marker_world.proofs.Answers.{done_as}
use Rattle.pb_marker_world.proofs.ledger.Ledger.put_object.Goals as goal

pub returns-in-None : goal.returns-in-None
returns-in-None c =
    record {
      same = refl;
      never = put_object_none c.args.self.now c.args.at
          (subst (λ ps. placed_in ps c.args.at ≡ None) (c.as_slice.ensures.value ∙ ap (λ (x : Book). x.places) c.self.view_is) c.in-None.ensures);
    }

pub returns-then-not-is_at : goal.returns-then-not-is_at
returns-then-not-is_at c =
    record {
      same = refl;
      never = put_object_stage c.args.self.now c.args.at c.in-Some.found (subst (λ ps. IsFoundAt ps c.args.at c.in-Some.found) (c.as_slice.ensures.value ∙ ap (λ (x : Book). x.places) c.self.view_is) c.in-Some.ensures)
          (c.is_at.ensures.no c.if-not-is_at.true);
    }

pub returns-then-has_lender : goal.returns-then-has_lender
returns-then-has_lender c =
    record {
      same = refl;
      never = put_object_lender c.args.self.now c.args.at c.in-Some.found (subst (λ ps. IsFoundAt ps c.args.at c.in-Some.found) (c.as_slice.ensures.value ∙ ap (λ (x : Book). x.places) c.self.view_is) c.in-Some.ensures)
          (λ y. both_ways (is_some c.in-Some.found.entry.lender) (ap (λ (o : Option Marker). is_some o) y)
          (sym c.has_lender.ensures ∙ c.if-has_lender.true));
    }

pub returns-in_err-push : goal.returns-in_err-push
returns-in_err-push c =
    let p = err_from_is_err_and c.from_residual.result c.from_residual.ensures.1 in
    rw (p.1, p.2) (record { same = rw c.in_err-push.ensures.items c.self.view_is; takes = refl })

pub returns : goal.returns
returns c =
    done_as c.args.self.now _ _ (PutObject c.args.at) _ _
    (put_object_done c.args.self.now c.args.at c.in-Some.found (subst (λ ps. IsFoundAt ps c.args.at c.in-Some.found) (c.as_slice.ensures.value ∙ ap (λ (x : Book). x.places) c.self.view_is) c.in-Some.ensures) (c.is_at.ensures.yes c.if-not-is_at.false) (no_lender_of c.in-Some.found _ c.has_lender.ensures c.if-has_lender.false))
    refl
    (c.write.ensures
    ∙ (λ i. map (written c.in-Some.found.store c.in-Some.found.number ((ap (λ (e : Entry). Some e) c.at_stage.ensures) i)) (ap (λ (x : Book). x.places) c.self.view_is i)))
    (ap (λ (x : Book). x.spent) c.self.view_is)
    (ap (λ (x : Book). x.openings) c.self.view_is)
    (c.in_ok-push.ensures.items
    ∙ (λ i. ap (λ (x : Book). x.objects) c.self.view_is i ++ c.object_of.ensures i ∷ []))
    (ap (λ (x : Book). x.markers) c.self.view_is)
    (ap (λ (x : Book). x.given) c.self.view_is)
