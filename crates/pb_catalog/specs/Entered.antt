-- What the pairs of the code's map stand for.
use Rattle.std.specs.Prelude.{ℕ, List, map}
use Rattle.pb_payloads.specs.Catalogue.{Entries}
use Rattle.pb_payloads.specs.Catalogued.{Standing}
use Rattle.pb_payloads.specs.Payloads.{standing_of}
use Rattle.pb_payloads.specs.declared.entry.Entry.{Entry}

abbrev pub entered : ℕ × Entry → ℕ × Standing
entered pair = (pair.0, standing_of pair.1)

abbrev pub entries_of : List (ℕ × Entry) → Entries
entries_of pairs = map entered pairs
