-- What is printed for a reply.
use Rattle.std.specs.Prelude.{ℕ, Bool, if◌then◌else◌, List, ◌++◌, length, codes}
use Rattle.std.specs.Fmt.{decimal}
use Rattle.std.specs.List.{flat_map}
use Rattle.pb_keys.specs.Printed.{word}
use Rattle.pb_reply.specs.LevelRow.{LevelRow}
use Rattle.pb_reply.specs.Pair.{Pair}
use Rattle.pb_reply.specs.Refusals.{carried, name_of, refusal_number}
use Rattle.pb_reply.specs.declared.refusal.Refusal.{Refusal}
use Rattle.pb_reply.specs.declared.reply.Reply.{Reply}
use Rattle.pb_reply.specs.declared.reply.Reply.TheVariants.{Opened, Closed, Stopped, Accepted, Value, Absent, Rows, Done, Table, Exported, Lent, Dropped, Pinned, Unpinned, Started, Working, Released, Levels, Objects, Calls, Refused}

abbrev pub line : List ℕ → List ℕ
line text = text ++ codes "\n"

abbrev pub pair_line : Pair → List ℕ
pair_line pair = line (word pair.key ++ codes " " ++ word pair.value)

abbrev pub kind_word : Bool → List ℕ
kind_word is_virtual = if is_virtual then codes "virtual" else codes "physical"

abbrev pub table_line : LevelRow → List ℕ
table_line table = line (codes "L" ++ decimal table.level ++ codes " " ++ decimal table.number ++ codes " " ++ word table.lo ++ codes " " ++ word table.hi
    ++ codes " " ++ kind_word table.is_virtual ++ codes " " ++ decimal table.backing)

abbrev pub name_line : List ℕ → List ℕ
name_line name = line (word name)

abbrev pub refusal_line : Refusal → List ℕ
refusal_line refusal = line (codes "refused " ++ decimal (refusal_number refusal) ++ codes " " ++ name_of refusal ++ carried refusal)

abbrev pub printed : Reply → List ℕ
printed (Opened count) = line (codes "opened " ++ decimal count)
printed Closed = line (codes "closed")
printed Stopped = line (codes "stopped")
printed (Accepted count) = line (codes "ok " ++ decimal count)
printed (Value value) = line (codes "value " ++ word value)
printed Absent = line (codes "none")
printed (Rows pairs) = flat_map pair_line pairs ++ line (codes "rows " ++ decimal (length pairs))
printed Done = line (codes "done")
printed (Table name) = line (codes "table " ++ word name)
printed Exported = line (codes "exported")
printed (Lent name) = line (codes "lent " ++ word name)
printed Dropped = line (codes "dropped")
printed (Pinned name) = line (codes "pinned " ++ word name)
printed Unpinned = line (codes "unpinned")
printed Started = line (codes "started")
printed Working = line (codes "working")
printed Released = line (codes "released")
printed (Levels tables) = flat_map table_line tables ++ line (codes "tables " ++ decimal (length tables))
printed (Objects names) = flat_map name_line names ++ line (codes "objects " ++ decimal (length names))
printed (Calls calls) = line (codes "calls " ++ decimal calls)
printed (Refused refusal) = refusal_line refusal
