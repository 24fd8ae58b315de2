use Rattle.std.proofs.Common.{◌≡◌, ◌∙◌, ap, sym, subst, List, true, inr}
use Rattle.std.specs.Prelude.{not, None, Some, map}
use Rattle.std.specs.List.{filter, list_all}
use Rattle.pb_edit.specs.Edit.{CreatedItem, VersionEdit}
use Rattle.pb_version.specs.Version.{TableView, FiveNumbers, version_of}
use Rattle.pb_version.specs.Edited.{is_removed}
use Rattle.pb_version.specs.Rules.{is_plain_view, new_numbers, new_ranks}
use Rattle.pb_version.specs.State.{IsVerdict}
use Rattle.pb_version.specs.Judged.{IsRefused, made_for, seven, stay_counts, broken_against_old}
use Rattle.pb_version.proofs.Judging.{early_verdict, view_verdict, late_verdict, made_ready_is, few_tables}
use Rattle.pb_version.proofs.prepared.judge_and_prepare.Goals as goal

abbrev all_plain : List (List TableView) → Type 0
all_plain made = list_all (λ ts. list_all (λ (t : TableView). is_plain_view t.view) ts) made ≡ true

pub returns-in-Err-clause-broken : goal.returns-in-Err-clause-broken
returns-in-Err-clause-broken c =
    let levels = map (λ l. l.items) c.args.levels.now in
    early_verdict (version_of levels c.args.backings.now c.args.old.now) c.args.edit.now c.requires.spellable c.requires.version c.in-Err.broken
    (subst (λ (f : FiveNumbers). IsVerdict (broken_against_old levels c.args.backings.now f.next c.args.edit.now (new_numbers c.args.edit.now) (new_ranks c.args.edit.now)) c.in-Err.broken) c.five_after-five.ensures c.in-Err.ensures.broken)

pub returns-in-Err-new_tables-clause-broken : goal.returns-in-Err-new_tables-clause-broken
returns-in-Err-new_tables-clause-broken c =
    let levels = map (λ l. l.items) c.args.levels.now in
    let none = subst (λ (f : FiveNumbers). broken_against_old levels c.args.backings.now f.next c.args.edit.now (new_numbers c.args.edit.now) (new_ranks c.args.edit.now) ≡ None) c.five_after-five.ensures c.in-Ok.ensures.ok in
    let shown = c.as_slice.ensures.value ∙ c.in_ok-shown.ensures.ok in
    view_verdict (version_of levels c.args.backings.now c.args.old.now) c.args.edit.now c.requires.spellable c.requires.version c.in-Err-new_tables.broken none
    (subst (λ s. IsRefused (list_all (λ ts. list_all (λ (t : TableView). is_plain_view t.view) ts) (seven (made_for s c.args.edit.now))) c.in-Err-new_tables.broken) shown c.in-Err-new_tables.ensures.refused)

pub put_together-requires : goal.put_together-requires
put_together-requires c =
    few_tables (map (λ l. l.items) c.args.levels.now) c.args.backings.now c.args.old.now c.args.edit.now (map (λ l. l.items) c.in-Ok-new_tables.new) c.as_slice-3.result.now c.five_after-five.result c.stay_counts-stays.result
    (sym c.in-None.ensures)

pub returns-in-Some-clause-broken : goal.returns-in-Some-clause-broken
returns-in-Some-clause-broken c =
    let levels = map (λ l. l.items) c.args.levels.now in
    let none = subst (λ (f : FiveNumbers). broken_against_old levels c.args.backings.now f.next c.args.edit.now (new_numbers c.args.edit.now) (new_ranks c.args.edit.now) ≡ None) c.five_after-five.ensures c.in-Ok.ensures.ok in
    let shown = c.as_slice.ensures.value ∙ c.in_ok-shown.ensures.ok in
    let kept = subst (λ s. all_plain (seven (made_for s c.args.edit.now))) shown c.in-Ok-new_tables.ensures.in_form in
    let new = c.in-Ok-new_tables.ensures.ok ∙ ap (λ s. seven (made_for s c.args.edit.now)) shown in
    let stays = c.stay_counts-stays.ensures ∙ ap (λ ds. stay_counts ds levels) (c.as_slice-2.ensures ∙ ap (λ (e : VersionEdit). e.deleted) c.edit.view_is) in
    let after = c.backings_of-after.ensures ∙ ap (λ bs. filter (λ (b : CreatedItem). not (is_removed c.args.edit.now b.number)) bs) c.in_ok-shown.ensures.ok in
    inr (late_verdict (version_of levels c.args.backings.now c.args.old.now) c.args.edit.now c.requires.spellable c.requires.version (Some c.in-Some.rule)
    (map (λ l. l.items) c.in-Ok-new_tables.new) c.as_slice-3.result.now c.five_after-five.result c.stay_counts-stays.result none kept new (c.as_slice-3.ensures.value ∙ after) c.five_after-five.ensures stays c.in-Some.ensures)

pub returns-in_ok-ready-in-None-clause-ok : goal.returns-in_ok-ready-in-None-clause-ok
returns-in_ok-ready-in-None-clause-ok c =
    let levels = map (λ l. l.items) c.args.levels.now in
    let none = subst (λ (f : FiveNumbers). broken_against_old levels c.args.backings.now f.next c.args.edit.now (new_numbers c.args.edit.now) (new_ranks c.args.edit.now) ≡ None) c.five_after-five.ensures c.in-Ok.ensures.ok in
    let shown = c.as_slice.ensures.value ∙ c.in_ok-shown.ensures.ok in
    let kept = subst (λ s. all_plain (seven (made_for s c.args.edit.now))) shown c.in-Ok-new_tables.ensures.in_form in
    let new = c.in-Ok-new_tables.ensures.ok ∙ ap (λ s. seven (made_for s c.args.edit.now)) shown in
    let stays = c.stay_counts-stays.ensures ∙ ap (λ ds. stay_counts ds levels) (c.as_slice-2.ensures ∙ ap (λ (e : VersionEdit). e.deleted) c.edit.view_is) in
    let after = c.backings_of-after.ensures ∙ ap (λ bs. filter (λ (b : CreatedItem). not (is_removed c.args.edit.now b.number)) bs) c.in_ok-shown.ensures.ok in
    let unbroken = late_verdict (version_of levels c.args.backings.now c.args.old.now) c.args.edit.now c.requires.spellable c.requires.version None
    (map (λ l. l.items) c.in-Ok-new_tables.new) c.as_slice-3.result.now c.five_after-five.result c.stay_counts-stays.result none kept new (c.as_slice-3.ensures.value ∙ after) c.five_after-five.ensures stays c.in-None.ensures in
    made_ready_is (version_of levels c.args.backings.now c.args.old.now) c.args.edit.now c.requires.spellable c.requires.version c.in_ok-ready-in-None.ready
    (map (λ l. l.items) c.in-Ok-new_tables.new) c.backings_of-after.result.items c.five_after-five.result c.stay_counts-stays.result new after c.five_after-five.ensures stays unbroken c.in_ok-ready-in-None.ensures.ok
