-- Which device a fault is of.
use Rattle.pb_provider.specs.declared.read_whole_error.ReadWholeError.{ReadWholeError}
use Rattle.pb_provider.specs.declared.read_whole_error.ReadWholeError.TheVariants as whole_error
use Rattle.pb_read.specs.declared.fault.ReadFault.{ReadFault}
use Rattle.pb_read.specs.declared.fault.ReadFault.TheVariants as read_fault

-- the disk failed
abbrev pub IsDisk : ReadFault → Type 0
IsDisk read_fault.Disk = Unit {0}
IsDisk read_fault.Bucket = ⊥
IsDisk (read_fault.Missing name) = ⊥
IsDisk (read_fault.Damaged name) = ⊥
IsDisk read_fault.NoMemory = ⊥

-- the bucket failed
abbrev pub IsBucket : ReadFault → Type 0
IsBucket read_fault.Disk = ⊥
IsBucket read_fault.Bucket = Unit {0}
IsBucket (read_fault.Missing name) = ⊥
IsBucket (read_fault.Damaged name) = ⊥
IsBucket read_fault.NoMemory = ⊥

-- the fault of a reading that failed
abbrev pub of_whole_error : ReadWholeError → ReadFault
of_whole_error whole_error.Disk = read_fault.Disk
of_whole_error whole_error.Bucket = read_fault.Bucket
of_whole_error (whole_error.Missing name) = read_fault.Missing name
of_whole_error whole_error.NoMemory = read_fault.NoMemory
