-- What a caller of the decoder knows of its answer.
use Rattle.std.proofs.Common.{◌≡◌, ℕ, List, sym, ap, ◌∙◌, Option, Some, None}
use Rattle.std.specs.Prelude.{IfNone, IfSome}
use Rattle.std.specs.Option.{option_map}
use Rattle.pb_payloads.specs.Log.{LogEntry, IsEntry, entry_spelling}
use Rattle.pb_payloads.specs.Logged.{IsCommand}
use Rattle.pb_payloads.proofs.LoggedLaws.{one_entry}
use Rattle.pb_wal.specs.Changes.{entry_of, logged_of, HasShortValue}
use Rattle.pb_wal.specs.declared.entry.Change.{Change}
use Rattle.pb_wal.specs.declared.entry.Change.TheVariants.{Set, Del, DelRange}
use Rattle.pb_wal.specs.declared.entry.Entry.{Entry}

-- bytes that spell an entry are decoded to it
pub decoded : (from : List ℕ) (found : Option Entry) (entry : LogEntry)
    → IfSome found (λ e. from ≡ entry_spelling (entry_of e)) → IfSome found (λ e. IsEntry (entry_of e))
    → IfNone found ((e : LogEntry) → IsEntry e → from ≡ entry_spelling e → ⊥)
    → IsEntry entry → from ≡ entry_spelling entry → option_map entry_of found ≡ Some entry
decoded from None entry spelled in_form none entry_is is_entry = absurd (none entry entry_is is_entry)
decoded from (Some e) entry spelled in_form none entry_is is_entry =
    ap Some (one_entry (entry_of e) entry in_form entry_is (sym spelled ∙ is_entry))

-- what is decoded can be encoded
pub short_of : (change : Change) → IsCommand (logged_of change) → HasShortValue change
short_of (Set key value) command = command.content.1
short_of (Del key) command = tt
short_of (DelRange span) command = tt
