-- The refusals: their numbers, their names and the values that they carry.
use Rattle.std.specs.Prelude.{ℕ, List, [], ◌++◌, codes}
use Rattle.std.specs.Fmt.{decimal}
use Rattle.pb_reply.specs.declared.refusal.Refusal.{Refusal}
use Rattle.pb_reply.specs.declared.refusal.Refusal.TheVariants.{Busy, NotOpen, AlreadyOpen, BadKey, BadSpan, TooLarge, NoTable, Overlap, Outside, TooMany, NumbersSpent, NoObject, NotATable, SuffixClash, NoHandle, Gone, NoPin, NameTaken, WrongStore, Damaged, Missing, DiskFault, BucketFault, NoMemory, Idle, Dropped, BadTable}

abbrev pub refusal_number : Refusal → ℕ
refusal_number Busy = 1
refusal_number NotOpen = 2
refusal_number AlreadyOpen = 3
refusal_number BadKey = 4
refusal_number BadSpan = 5
refusal_number TooLarge = 6
refusal_number NoTable = 7
refusal_number (Overlap i j) = 8
refusal_number (Outside i) = 9
refusal_number (TooMany limit) = 10
refusal_number NumbersSpent = 11
refusal_number NoObject = 12
refusal_number NotATable = 13
refusal_number (SuffixClash row) = 14
refusal_number NoHandle = 15
refusal_number (Gone marker) = 16
refusal_number NoPin = 17
refusal_number NameTaken = 18
refusal_number (WrongStore id) = 19
refusal_number (Damaged file) = 20
refusal_number (Missing object) = 21
refusal_number DiskFault = 22
refusal_number BucketFault = 23
refusal_number NoMemory = 24
refusal_number Idle = 25
refusal_number (Dropped table) = 26
refusal_number (BadTable i) = 27

abbrev pub name_of : Refusal → List ℕ
name_of Busy = codes "Busy"
name_of NotOpen = codes "NotOpen"
name_of AlreadyOpen = codes "AlreadyOpen"
name_of BadKey = codes "BadKey"
name_of BadSpan = codes "BadSpan"
name_of TooLarge = codes "TooLarge"
name_of NoTable = codes "NoTable"
name_of (Overlap i j) = codes "Overlap"
name_of (Outside i) = codes "Outside"
name_of (TooMany limit) = codes "TooMany"
name_of NumbersSpent = codes "NumbersSpent"
name_of NoObject = codes "NoObject"
name_of NotATable = codes "NotATable"
name_of (SuffixClash row) = codes "SuffixClash"
name_of NoHandle = codes "NoHandle"
name_of (Gone marker) = codes "Gone"
name_of NoPin = codes "NoPin"
name_of NameTaken = codes "NameTaken"
name_of (WrongStore id) = codes "WrongStore"
name_of (Damaged file) = codes "Damaged"
name_of (Missing object) = codes "Missing"
name_of DiskFault = codes "DiskFault"
name_of BucketFault = codes "BucketFault"
name_of NoMemory = codes "NoMemory"
name_of Idle = codes "Idle"
name_of (Dropped table) = codes "Dropped"
name_of (BadTable i) = codes "BadTable"

-- each value after a space
abbrev pub carried : Refusal → List ℕ
carried (Overlap i j) = codes " " ++ decimal i ++ codes " " ++ decimal j
carried (Outside i) = codes " " ++ decimal i
carried (TooMany limit) = codes " " ++ decimal limit
carried (SuffixClash row) = codes " " ++ decimal row
carried (Gone marker) = codes " " ++ marker
carried (WrongStore id) = codes " " ++ decimal id
carried (Damaged file) = codes " " ++ file
carried (Missing object) = codes " " ++ object
carried (Dropped table) = codes " " ++ decimal table
carried (BadTable i) = codes " " ++ decimal i
carried refusal = []
