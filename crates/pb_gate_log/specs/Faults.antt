-- Which errors are the disk's.
use Rattle.pb_gate_log.specs.declared.gate_log.AppendError.{AppendError}
use Rattle.pb_gate_log.specs.declared.gate_log.AppendError.TheVariants.{Failed, TooLarge}

-- the disk failed
abbrev pub IsAppendFault : AppendError → Type 0
IsAppendFault Failed = Unit {0}
IsAppendFault TooLarge = ⊥
