-- The first edit of a new store, and edits with tables.
use Rattle.std.proofs.Common.{◌≡◌, [], ◌∷◌, Some, None, refl}
use Rattle.pb_bytes.specs.Varint.{groups, varint, field}
use Rattle.pb_edit.specs.Edit.{VersionEdit, PhysicalItem}
use Rattle.pb_edit.specs.Grammar.{edit_spelling}

first : VersionEdit
first = record { accepted = Some 0; next = Some 64; log = Some 3; flushed = Some 0; format = Some 1; deleted = []; physical = []; virtuals = []; created = []; removed = [] }

first_edit : edit_spelling first ≡ 1 ∷ 0 ∷ 2 ∷ 64 ∷ 3 ∷ 3 ∷ 4 ∷ 0 ∷ 5 ∷ 1 ∷ []
unfolding edit_spelling varint groups first
first_edit = refl

table : PhysicalItem
table = record { level = 0; number = 300; rank = 5; size = 9; lo = 97 ∷ []; hi = 98 ∷ 99 ∷ [] }

-- a table goes and another comes
exchange : VersionEdit
exchange = record { accepted = None; next = None; log = None; flushed = None; format = None; deleted = record { level = 0; number = 4 } ∷ []; physical = table ∷ []; virtuals = []; created = []; removed = [] }

exchange_edit : edit_spelling exchange ≡ 6 ∷ 0 ∷ 4 ∷ 7 ∷ 0 ∷ 172 ∷ 2 ∷ 5 ∷ 9 ∷ 1 ∷ 97 ∷ 2 ∷ 98 ∷ 99 ∷ []
unfolding edit_spelling varint groups field exchange table
exchange_edit = refl
