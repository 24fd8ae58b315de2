use Rattle.std.proofs.lemmas.Str.Pattern.{starts_text}
use Rattle.pb_mem.proofs.names.begins_with.Goals as goal

pub returns : goal.returns
returns c = rw (← c.as_str.ensures.value) (starts_text _ _ _ c.starts_with.ensures.cases)
