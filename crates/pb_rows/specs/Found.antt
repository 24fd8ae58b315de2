-- What an answer says.
use Rattle.std.specs.Prelude.{Some, None}
use Rattle.pb_rows.specs.declared.look.Found.{Found}
use Rattle.pb_rows.specs.declared.look.Found.TheVariants.{Value, Deleted, Absent}
use Rattle.pb_rows.specs.Verdict.{Verdict}

abbrev pub as_verdict : Found → Verdict
as_verdict (Value bytes) = Some (Some bytes.now)
as_verdict Deleted = Some None
as_verdict Absent = None
