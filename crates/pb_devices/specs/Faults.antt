-- Which device an error is of.
use Rattle.pb_devices.specs.declared.fault.ListError.{ListError}
use Rattle.pb_devices.specs.declared.fault.ListError.TheVariants as list_error
use Rattle.pb_devices.specs.declared.fault.Fault.{Fault}
use Rattle.pb_devices.specs.declared.fault.Fault.TheVariants.{Disk, Bucket, NoMemory}

-- the device failed, and there was memory for the names
abbrev pub IsListFault : ListError → Type 0
IsListFault list_error.Failed = Unit {0}
IsListFault list_error.NoMemory = ⊥

-- the disk failed
abbrev pub IsDiskFault : Fault → Type 0
IsDiskFault Disk = Unit {0}
IsDiskFault Bucket = ⊥
IsDiskFault NoMemory = ⊥

-- the bucket failed
abbrev pub IsBucketFault : Fault → Type 0
IsBucketFault Disk = ⊥
IsBucketFault Bucket = Unit {0}
IsBucketFault NoMemory = ⊥
