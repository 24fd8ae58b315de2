-- What the payloads of a log that are left say, behind those that were read.
use Rattle.std.specs.Prelude.{◌≡◌, ℕ, ◌<◌, List}
use Rattle.pb_payloads.specs.Log.{LogEntry, IsEntry, entry_spelling}

-- the payload is this entry, whose count is above the last one
pub record IsNext (last : ℕ) (payload : List ℕ) (entry : LogEntry) : Type 0 where
  pub in_form : IsEntry entry
  pub spelled : payload ≡ entry_spelling entry
  pub rise : last < entry.count
