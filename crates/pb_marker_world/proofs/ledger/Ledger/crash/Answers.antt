use Rattle.std.proofs.Common.{map, refl, sym, ap, ◌∙◌, subst, arith}
use Rattle.std.specs.Prelude.{◌+◌, ◌<◌, ◌-◌, ◌^◌, ◌==◌, if◌then◌else◌}
use Rattle.std.specs.List.{list_all, filter_map}
use Rattle.pb_marker_world.specs.declared.events.Event.TheVariants.{Crash}
use Rattle.pb_marker_world.specs.Steps.{is_held_entry}
use Rattle.pb_marker_world.specs.Book.{Book, entry_in, opening_in, loosened}
use Rattle.pb_marker_world.specs.Events.{HasRoom, is_of, number_at}
use Rattle.pb_marker_world.proofs.StoreEvents.{crash_done}
use Rattle.pb_marker_world.proofs.Answers.{done_as}
use Rattle.pb_marker_world.proofs.ledger.Ledger.crash.Goals as goal

pub returns : goal.returns
returns c =
    let numbers = c.in_ok-kept.ensures ∙ ap (λ ps. filter_map (number_at ps) c.args.at.now) (c.as_slice-3.ensures.value ∙ ap (λ (x : Book). x.places) c.self.view_is) in
    let own = sym (c.are_own.ensures ∙ ap (λ ps. list_all (is_of ps c.args.store) c.args.at.now) (c.as_slice.ensures.value ∙ ap (λ (x : Book). x.places) c.self.view_is)) ∙ c.if-not-are_own.false in
    let held =
    sym (c.are_held.ensures
    ∙ (λ i. list_all (λ n. is_held_entry (entry_in ((c.as_slice-4.ensures.value ∙ ap (λ (x : Book). x.places) c.self.view_is) i) c.args.store n)) ((c.as_slice-5.ensures.value ∙ numbers) i)))
    ∙ c.if-not-are_held.false in
    let opening = c.opening_of-opening.ensures ∙ ap (λ os. opening_in os c.args.store) (c.as_slice-2.ensures.value ∙ ap (λ (x : Book). x.openings) c.self.view_is) in
    let below : c.opening_of-opening.result < 2 ^ 64 - 1 = omega arith in
    let room : HasRoom c.args.self.now (Crash c.args.store c.args.at.now) = subst (λ x. x < 2 ^ 64 - 1) opening below in
    done_as c.args.self.now _ _ (Crash c.args.store c.args.at.now) _ _
    (crash_done c.args.self.now c.args.store c.args.at.now c.reopen.new.openings.items own held room
    (λ t. c.in_ok-reopen.ensures.ok t
    ∙ (λ i. if t == c.args.store then opening i + 1 else opening_in ((ap (λ (x : Book). x.openings) c.self.view_is) i) t)))
    refl
    (c.loosen.ensures
    ∙ (λ i. map (loosened c.args.store ((c.as_slice-6.ensures.value ∙ numbers) i)) ((ap (λ (x : Book). x.places) c.self.view_is) i)))
    (ap (λ (x : Book). x.spent) c.self.view_is) refl (ap (λ (x : Book). x.objects) c.self.view_is) (ap (λ (x : Book). x.markers) c.self.view_is) (ap (λ (x : Book). x.given) c.self.view_is)
