use Rattle.std.proofs.Common.{true, [], ◌∷◌, ◌++◌, length, sym, ap, ◌∙◌}
use Rattle.std.specs.Option.{option_map}
use Rattle.std.specs.List.{list_all, filter_map}
use Rattle.pb_marker_world.specs.declared.events.Event.TheVariants.{Lend}
use Rattle.pb_marker_world.specs.declared.events.Outcome.TheVariants.{Handle}
use Rattle.pb_marker_world.specs.Machine.{own_marker}
use Rattle.pb_marker_world.specs.Steps.{is_held_entry}
use Rattle.pb_marker_world.specs.Book.{Book, entry_in, opening_in}
use Rattle.pb_marker_world.specs.Events.{is_of, number_at}
use Rattle.pb_marker_world.proofs.StoreEvents.{lend_done}
use Rattle.pb_marker_world.proofs.Answers.{done_as}
use Rattle.pb_marker_world.proofs.ledger.Ledger.lend.Goals as goal

pub returns : goal.returns
returns c =
    let numbers = c.in_ok-numbers.ensures ∙ ap (λ ps. filter_map (number_at ps) c.args.at.now) (c.as_slice-2.ensures.value ∙ ap (λ (x : Book). x.places) c.self.view_is) in
    let own = sym (c.are_own.ensures ∙ ap (λ ps. list_all (is_of ps c.args.store) c.args.at.now) (c.as_slice.ensures.value ∙ ap (λ (x : Book). x.places) c.self.view_is)) ∙ c.if-not-are_own.false in
    let held =
    sym (c.are_held.ensures
    ∙ (λ i. list_all (λ n. is_held_entry (entry_in ((c.as_slice-3.ensures.value ∙ ap (λ (x : Book). x.places) c.self.view_is) i) c.args.store n)) ((c.as_slice-4.ensures.value ∙ numbers) i)))
    ∙ c.if-not-are_held.false in
    let markers = c.in_ok-markers.ensures
    ∙ (λ i. filter_map (λ n. option_map (own_marker c.args.store n) (entry_in ((c.as_slice-5.ensures.value ∙ ap (λ (x : Book). x.places) c.self.view_is) i) c.args.store n))
    ((c.as_slice-6.ensures.value ∙ numbers) i)) in
    let opening = c.opening_of-opening.ensures ∙ ap (λ os. opening_in os c.args.store) (c.as_slice-7.ensures.value ∙ ap (λ (x : Book). x.openings) c.self.view_is) in
    done_as c.args.self.now _ _ (Lend c.args.store c.args.at.now) _ _
    (lend_done c.args.self.now c.args.store c.args.at.now c.in_ok-markers.markers.items own held markers)
    (ap Handle (c.len-handle.ensures ∙ (c.self.inside.given.ok.0 ∙ ap (λ (x : Book). length x.given) c.self.view_is)))
    (ap (λ (x : Book). x.places) c.self.view_is) (ap (λ (x : Book). x.spent) c.self.view_is) (ap (λ (x : Book). x.openings) c.self.view_is) (ap (λ (x : Book). x.objects) c.self.view_is) (ap (λ (x : Book). x.markers) c.self.view_is)
    (c.in_ok-push.ensures.items
    ∙ (λ i. (ap (λ (x : Book). x.given) c.self.view_is) i ++ record { store = c.args.store; opening = opening i; markers = c.in_ok-markers.markers.items; is_open = true } ∷ []))
