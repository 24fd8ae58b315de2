use Rattle.std.proofs.Common.{◌≡◌, ◌∙◌, List, ap, sym, subst}
use Rattle.std.specs.Prelude.{map, vec_capacity}
use Rattle.pb_edit.specs.Edit.{DeletedItem, VersionEdit}
use Rattle.pb_version.specs.Version.{TableView, VersionView}
use Rattle.pb_version.specs.Edited.{edited}
use Rattle.pb_version.specs.State.{IsVersion, PreparedEdit, Prepares}
use Rattle.pb_version.specs.Judged.{HaveRoomFor, each_two, tables_after}
use Rattle.pb_version.proofs.Installing.{fits, installed_is, edited_is_version}
use Rattle.pb_version.proofs.version.Version.install.Goals as goal

along : {old old' : VersionView} {p p' : PreparedEdit} → old ≡ old' → p ≡ p' → (edit : VersionEdit) → Prepares old' edit p' → Prepares old edit p
along {old = old} {old' = old'} {p = p} {p' = p'} e f edit is = subst (λ v. Prepares v edit p) (sym e) (subst (λ q. Prepares old' edit q) (sym f) is)

pub levels_after-requires-clause-fits : goal.levels_after-requires-clause-fits
levels_after-requires-clause-fits c =
    let ready = along c.self.view_is c.prepared.view_is c.requires.0 c.requires.1 in
    subst (λ (q : List DeletedItem × List (List TableView)). HaveRoomFor q.0 0 (map (λ l. l.items) c.prepared.inside.tables) q.1 (map (λ l. vec_capacity l) c.prepared.inside.next_tables))
    (λ i. (sym c.as_slice.ensures.value i, map (λ l. l.items) (sym c.replace-standing.ensures.value i)))
    (fits _ c.requires.0 _ ready)

pub invariant_of-self : goal.invariant_of-self
invariant_of-self c =
    let ready = along c.self.view_is c.prepared.view_is c.requires.0 c.requires.1 in
    let made = c.levels_after.ensures ∙ (λ i. each_two (tables_after (c.as_slice.ensures.value i)) 0 (map (λ l. l.items) c.prepared.inside.tables) (map (λ l. l.items) (c.replace-standing.ensures.value i))) in
    subst IsVersion (sym (installed_is _ c.requires.0 _ ready (map (λ l. l.items) c.levels_after.result) made))
    (edited_is_version _ c.requires.0 ready.spellable c.self.invariant ready.unbroken)

pub returns : goal.returns
returns c = λ edit is.
    let ready = along c.self.view_is c.prepared.view_is edit is in
    let made = c.levels_after.ensures ∙ (λ i. each_two (tables_after (c.as_slice.ensures.value i)) 0 (map (λ l. l.items) c.prepared.inside.tables) (map (λ l. l.items) (c.replace-standing.ensures.value i))) in
    installed_is _ edit _ ready (map (λ l. l.items) c.levels_after.result) made
    ∙ ap (λ v. edited v edit) c.self.view_is
