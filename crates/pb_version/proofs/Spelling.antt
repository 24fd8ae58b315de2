-- What the grammar of edits says of each item, a version needs of it.
use Rattle.std.proofs.Common.{List, [], ◌∷◌, zero, suc, arith}
use Rattle.std.specs.Prelude.{All}
use Rattle.std.specs.List.{AllByRecursion}
use Rattle.pb_edit.specs.Edit.{VersionEdit}
use Rattle.pb_edit.specs.Grammar.{IsEdit, IsPhysical, IsVirtual, IsCreated}
use Rattle.pb_version.specs.State.{IsSpellable}

pub at_each : {X : Type 0} (P : X → Type 0) (xs : List X) → AllByRecursion P xs → All P xs
at_each P [] each k d h = absurd (omega arith)
at_each P (x ∷ xs) each zero d h = each.0
at_each P (x ∷ xs) each (suc k) d h = at_each P xs each.1 k d (omega arith)

pub spellable_edit : (edit : VersionEdit) → IsEdit edit → IsSpellable edit
spellable_edit edit is = record {
  accepted = is.accepted;
  next = is.next;
  log = is.log;
  flushed = is.flushed;
  format = is.format;
  physical = at_each IsPhysical edit.physical is.physical.each;
  virtuals = at_each IsVirtual edit.virtuals is.virtuals.each;
  created = at_each IsCreated edit.created is.created.each;
  created_ascend = is.created.ascend;
}
