-- The status of a run, judged from its replies.
use Rattle.std.specs.Prelude.{ℕ, if◌then◌else◌, nat_le}
use Rattle.pb_reply.specs.declared.refusal.Refusal.{Refusal}
use Rattle.pb_reply.specs.declared.refusal.Refusal.TheVariants.{NoMemory, DiskFault, BucketFault, Damaged as DamagedFile}
use Rattle.pb_reply.specs.declared.reply.Reply.{Reply}
use Rattle.pb_reply.specs.declared.reply.Reply.TheVariants.{Refused as RefusedReply}
use Rattle.pb_reply.specs.declared.status.Status.{Status}
use Rattle.pb_reply.specs.declared.status.Status.TheVariants.{Success, Refused, Usage, Script, Read, Write, Device, Memory, Damaged, TooLong}

-- the status of a run whose one reply this refusal is
abbrev pub status_of_refusal : Refusal → Status
status_of_refusal NoMemory = Memory
status_of_refusal DiskFault = Device
status_of_refusal BucketFault = Device
status_of_refusal (DamagedFile file) = Damaged
status_of_refusal refusal = Refused

-- the status of a run that has this one reply
abbrev pub status_alone : Reply → Status
status_alone (RefusedReply refusal) = status_of_refusal refusal
status_alone reply = Success

-- the five that replies decide
abbrev pub IsRunStatus : Status → Type 0
IsRunStatus Success = Unit {0}
IsRunStatus Refused = Unit {0}
IsRunStatus Usage = ⊥
IsRunStatus Script = ⊥
IsRunStatus Read = ⊥
IsRunStatus Write = ⊥
IsRunStatus Device = Unit {0}
IsRunStatus Memory = Unit {0}
IsRunStatus Damaged = Unit {0}
IsRunStatus TooLong = ⊥

-- the order in which they are judged: want of memory, a device, damage, another refusal, success
abbrev pub place : Status → ℕ
place Memory = 0
place Device = 1
place Damaged = 2
place Refused = 3
place status = 4

abbrev pub first_status : Status → Status → Status
first_status one other = if nat_le (place one) (place other) then one else other

abbrev pub status_code : Status → ℕ
status_code Success = 0
status_code Refused = 1
status_code Usage = 2
status_code Script = 3
status_code Read = 4
status_code Write = 5
status_code Device = 6
status_code Memory = 7
status_code Damaged = 8
status_code TooLong = 9
