-- Edits that are read can be applied.
use Rattle.std.proofs.Common.{◌≡◌, ℕ, List, Option, Some, None, IfSome}
use Rattle.pb_edit.specs.Edit.{VersionEdit}
use Rattle.pb_edit.specs.Grammar.{IsEdit, edit_spelling}
use Rattle.pb_version.specs.State.{IsSpellable}
use Rattle.pb_version.proofs.Spelling.{spellable_edit}

pub spellable_read : (bytes : List ℕ) (read : Option VersionEdit) →
    IfSome read (λ edit. IsEdit edit × (bytes ≡ edit_spelling edit)) → IfSome read (λ edit. IsSpellable edit)
spellable_read bytes None found = tt
spellable_read bytes (Some edit) found = spellable_edit edit found.0
