use Rattle.std.proofs.Common.{Some, [], ◌∷◌, ◌++◌, length, refl, sym, ap, ◌∙◌}
use Rattle.std.proofs.lemmas.Bool.{both_ways}
use Rattle.std.proofs.lemmas.Result.{err_from_is_err_and}
use Rattle.pb_marker_world.specs.declared.events.Event.TheVariants.{Intend}
use Rattle.pb_marker_world.specs.declared.events.Outcome.TheVariants.{Entry as NewEntry}
use Rattle.pb_marker_world.specs.Machine.{same_identity}
use Rattle.pb_marker_world.specs.Book.{Book, is_used_in}
use Rattle.pb_marker_world.specs.Events.{lent_in}
use Rattle.pb_marker_world.proofs.Tests.{identity_is, identity_self}
use Rattle.pb_marker_world.proofs.StoreEvents.{intend_lent_used, intend_lent_none, intend_lent_refused, intend_lent_done}
use Rattle.pb_marker_world.proofs.Answers.{done_as}
use Rattle.pb_marker_world.proofs.ledger.Ledger.intend_lent.Goals as goal

pub returns-then-is_used : goal.returns-then-is_used
returns-then-is_used c =
    record {
      same = refl;
      never = intend_lent_used c.args.self.now c.args.store c.args.number c.args.object.now c.args.lender.now
          (sym (c.is_used.ensures
          ∙ (λ i. is_used_in ((c.as_slice.ensures.value ∙ ap (λ (x : Book). x.places) c.self.view_is) i)
          ((c.as_slice-2.ensures.value ∙ ap (λ (x : Book). x.spent) c.self.view_is) i) c.args.store c.args.number)) ∙ c.if-is_used.true);
    }

pub returns-in-None : goal.returns-in-None
returns-in-None c =
    record {
      same = refl;
      never = intend_lent_none c.args.self.now c.args.store c.args.number c.args.object.now c.args.lender.now
          (sym (c.in-None.ensures ∙ ap (λ xs. lent_in xs c.args.lender.now) (c.as_slice-3.ensures.value ∙ ap (λ (x : Book). x.given) c.self.view_is)));
    }

pub returns-then-not-is_marker_of : goal.returns-then-not-is_marker_of
returns-then-not-is_marker_of c =
    record {
      same = refl;
      never = intend_lent_refused c.args.self.now c.args.store c.args.number c.args.object.now c.args.lender.now c.in-Some.marker
          (sym (c.in-Some.ensures ∙ ap (λ xs. lent_in xs c.args.lender.now) (c.as_slice-3.ensures.value ∙ ap (λ (x : Book). x.given) c.self.view_is)))
          (λ y. both_ways (same_identity c.in-Some.marker.object c.args.object.now)
          (sym c.is_marker_of.ensures ∙ c.if-not-is_marker_of.true)
          (identity_self c.in-Some.marker.object c.args.object.now y));
    }

pub returns-in_err-push : goal.returns-in_err-push
returns-in_err-push c =
    let p = err_from_is_err_and c.from_residual.result c.from_residual.ensures.1 in
    rw (p.1, p.2) (record { same = rw c.in_err-push.ensures.items c.self.view_is; takes = refl })

pub returns : goal.returns
returns c =
    done_as c.args.self.now _ _ (Intend c.args.store c.args.number c.args.object.now (Some c.args.lender.now)) _ _
    (intend_lent_done c.args.self.now c.args.store c.args.number c.args.object.now c.args.lender.now c.in-Some.marker
    (sym (c.is_used.ensures
    ∙ (λ i. is_used_in ((c.as_slice.ensures.value ∙ ap (λ (x : Book). x.places) c.self.view_is) i)
    ((c.as_slice-2.ensures.value ∙ ap (λ (x : Book). x.spent) c.self.view_is) i) c.args.store c.args.number)) ∙ c.if-is_used.false)
    (sym (c.in-Some.ensures ∙ ap (λ xs. lent_in xs c.args.lender.now) (c.as_slice-3.ensures.value ∙ ap (λ (x : Book). x.given) c.self.view_is)))
    (identity_is c.in-Some.marker.object c.args.object.now (sym c.is_marker_of.ensures ∙ c.if-not-is_marker_of.false)))
    (ap NewEntry (c.len-place.ensures ∙ (c.self.inside.places.ok.0 ∙ ap (λ (x : Book). length x.places) c.self.view_is)))
    (c.in_ok-push.ensures.items
    ∙ (λ i. ap (λ (x : Book). x.places) c.self.view_is i ++ record { store = c.args.store; number = c.args.number; entry = Some (c.intended.ensures i) } ∷ []))
    (ap (λ (x : Book). x.spent) c.self.view_is) (ap (λ (x : Book). x.openings) c.self.view_is) (ap (λ (x : Book). x.objects) c.self.view_is) (ap (λ (x : Book). x.markers) c.self.view_is) (ap (λ (x : Book). x.given) c.self.view_is)
