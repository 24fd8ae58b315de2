use Rattle.std.proofs.Common.{Some, None, [], ◌∷◌, ◌++◌, length, refl, sym, ap, ◌∙◌}
use Rattle.std.proofs.lemmas.Bool.{both_ways}
use Rattle.std.proofs.lemmas.Result.{err_from_is_err_and}
use Rattle.pb_marker_world.specs.declared.events.Event.TheVariants.{Intend}
use Rattle.pb_marker_world.specs.declared.events.Outcome.TheVariants.{Entry as NewEntry}
use Rattle.pb_marker_world.specs.Machine.{identity, same_identity}
use Rattle.pb_marker_world.specs.Book.{Book, is_used_in}
use Rattle.pb_marker_world.proofs.Tests.{identity_is, identity_self}
use Rattle.pb_marker_world.proofs.StoreEvents.{intend_own_used, intend_own_refused, intend_own_done}
use Rattle.pb_marker_world.proofs.Answers.{done_as}
use Rattle.pb_marker_world.proofs.ledger.Ledger.intend_own.Goals as goal

pub returns-then-is_used : goal.returns-then-is_used
returns-then-is_used c =
    record {
      same = refl;
      never = intend_own_used c.args.self.now c.args.store c.args.number c.args.object.now
          (sym (c.is_used.ensures
          ∙ (λ i. is_used_in ((c.as_slice.ensures.value ∙ ap (λ (x : Book). x.places) c.self.view_is) i)
          ((c.as_slice-2.ensures.value ∙ ap (λ (x : Book). x.spent) c.self.view_is) i) c.args.store c.args.number)) ∙ c.if-is_used.true);
    }

pub returns-then-not-is_made_by : goal.returns-then-not-is_made_by
returns-then-not-is_made_by c =
    record {
      same = refl;
      never = intend_own_refused c.args.self.now c.args.store c.args.number c.args.object.now
          (λ y. both_ways (same_identity c.args.object.now (identity c.args.store c.args.number))
          (sym c.is_made_by.ensures ∙ c.if-not-is_made_by.true)
          (identity_self c.args.object.now (identity c.args.store c.args.number) y));
    }

pub returns-in_err-push : goal.returns-in_err-push
returns-in_err-push c =
    let p = err_from_is_err_and c.from_residual.result c.from_residual.ensures.1 in
    rw (p.1, p.2) (record { same = rw c.in_err-push.ensures.items c.self.view_is; takes = refl })

pub returns : goal.returns
returns c =
    done_as c.args.self.now _ _ (Intend c.args.store c.args.number c.args.object.now None) _ _
    (intend_own_done c.args.self.now c.args.store c.args.number c.args.object.now
    (sym (c.is_used.ensures
    ∙ (λ i. is_used_in ((c.as_slice.ensures.value ∙ ap (λ (x : Book). x.places) c.self.view_is) i)
    ((c.as_slice-2.ensures.value ∙ ap (λ (x : Book). x.spent) c.self.view_is) i) c.args.store c.args.number)) ∙ c.if-is_used.false)
    (identity_is c.args.object.now (identity c.args.store c.args.number) (sym c.is_made_by.ensures ∙ c.if-not-is_made_by.false)))
    (ap NewEntry (c.len-place.ensures ∙ (c.self.inside.places.ok.0 ∙ ap (λ (x : Book). length x.places) c.self.view_is)))
    (c.in_ok-push.ensures.items
    ∙ (λ i. ap (λ (x : Book). x.places) c.self.view_is i ++ record { store = c.args.store; number = c.args.number; entry = Some (c.intended.ensures i) } ∷ []))
    (ap (λ (x : Book). x.spent) c.self.view_is) (ap (λ (x : Book). x.openings) c.self.view_is) (ap (λ (x : Book). x.objects) c.self.view_is) (ap (λ (x : Book). x.markers) c.self.view_is) (ap (λ (x : Book). x.given) c.self.view_is)
