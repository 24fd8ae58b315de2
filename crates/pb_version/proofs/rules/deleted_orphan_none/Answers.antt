use Rattle.std.proofs.Common.{◌∙◌, ap, sym}
use Rattle.std.specs.Prelude.{map}
use Rattle.pb_edit.specs.Edit.{VersionEdit}
use Rattle.pb_version.proofs.Untouched.{is_none, none_orphaned}
use Rattle.pb_version.proofs.rules.deleted_orphan_none.Goals as goal

pub returns-then-is_empty : goal.returns-then-is_empty
returns-then-is_empty c =
    let levels = map (λ l. l.items) c.args.levels.now in
    sym (none_orphaned levels c.args.edit.now.deleted c.args.edit.now.removed (map (λ l. l.items) c.args.new.now)
    (sym (c.as_slice.ensures ∙ ap (λ (e : VersionEdit). e.deleted) c.edit.view_is) ∙ is_none c.as_slice.result.now (sym c.is_empty.ensures ∙ c.if-is_empty.true)) 0 levels)
