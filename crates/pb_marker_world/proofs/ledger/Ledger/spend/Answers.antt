use Rattle.std.proofs.Common.{[], ◌∷◌, ◌++◌, refl, sym, ap, ◌∙◌}
use Rattle.std.proofs.lemmas.Result.{err_from_is_err_and}
use Rattle.pb_marker_world.specs.declared.events.Event.TheVariants.{Spend}
use Rattle.pb_marker_world.specs.Book.{Book, is_used_in}
use Rattle.pb_marker_world.proofs.StoreEvents.{spend_refused, spend_done}
use Rattle.pb_marker_world.proofs.Answers.{done_as}
use Rattle.pb_marker_world.proofs.ledger.Ledger.spend.Goals as goal

pub returns-then-is_used : goal.returns-then-is_used
returns-then-is_used c =
    record {
      same = refl;
      never = spend_refused c.args.self.now c.args.store c.args.number
          (sym (c.is_used.ensures
          ∙ (λ i. is_used_in ((c.as_slice.ensures.value ∙ ap (λ (x : Book). x.places) c.self.view_is) i)
          ((c.as_slice-2.ensures.value ∙ ap (λ (x : Book). x.spent) c.self.view_is) i) c.args.store c.args.number)) ∙ c.if-is_used.true);
    }

pub returns-in_err-push : goal.returns-in_err-push
returns-in_err-push c =
    let p = err_from_is_err_and c.from_residual.result c.from_residual.ensures.1 in
    rw (p.1, p.2) (record { same = rw c.in_err-push.ensures.items c.self.view_is; takes = refl })

pub returns : goal.returns
returns c =
    done_as c.args.self.now _ _ (Spend c.args.store c.args.number) _ _
    (spend_done c.args.self.now c.args.store c.args.number
    (sym (c.is_used.ensures
    ∙ (λ i. is_used_in ((c.as_slice.ensures.value ∙ ap (λ (x : Book). x.places) c.self.view_is) i)
    ((c.as_slice-2.ensures.value ∙ ap (λ (x : Book). x.spent) c.self.view_is) i) c.args.store c.args.number)) ∙ c.if-is_used.false))
    refl
    (ap (λ (x : Book). x.places) c.self.view_is)
    (c.in_ok-push.ensures.items ∙ ap (λ xs. xs ++ record { store = c.args.store; number = c.args.number } ∷ []) (ap (λ (x : Book). x.spent) c.self.view_is))
    (ap (λ (x : Book). x.openings) c.self.view_is) (ap (λ (x : Book). x.objects) c.self.view_is) (ap (λ (x : Book). x.markers) c.self.view_is) (ap (λ (x : Book). x.given) c.self.view_is)
