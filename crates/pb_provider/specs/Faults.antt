-- Which device an error is of.
use Rattle.pb_provider.specs.declared.error.ReadError.{ReadError}
use Rattle.pb_provider.specs.declared.error.ReadError.TheVariants as read_error
use Rattle.pb_provider.specs.declared.read_whole_error.ReadWholeError.{ReadWholeError}
use Rattle.pb_provider.specs.declared.read_whole_error.ReadWholeError.TheVariants as whole_error

-- the disk failed in a read
abbrev pub IsReadDisk : ReadError → Type 0
IsReadDisk read_error.Disk = Unit {0}
IsReadDisk read_error.Bucket = ⊥
IsReadDisk (read_error.Missing name) = ⊥

-- the bucket failed in a read
abbrev pub IsReadBucket : ReadError → Type 0
IsReadBucket read_error.Disk = ⊥
IsReadBucket read_error.Bucket = Unit {0}
IsReadBucket (read_error.Missing name) = ⊥

-- the disk failed in one of the reads
abbrev pub IsWholeDisk : ReadWholeError → Type 0
IsWholeDisk whole_error.Disk = Unit {0}
IsWholeDisk whole_error.Bucket = ⊥
IsWholeDisk (whole_error.Missing name) = ⊥
IsWholeDisk whole_error.NoMemory = ⊥

-- the bucket failed in one of the reads
abbrev pub IsWholeBucket : ReadWholeError → Type 0
IsWholeBucket whole_error.Disk = ⊥
IsWholeBucket whole_error.Bucket = Unit {0}
IsWholeBucket (whole_error.Missing name) = ⊥
IsWholeBucket whole_error.NoMemory = ⊥

-- the error of a read as one of many reads
abbrev pub of_read_error : ReadError → ReadWholeError
of_read_error read_error.Disk = whole_error.Disk
of_read_error read_error.Bucket = whole_error.Bucket
of_read_error (read_error.Missing name) = whole_error.Missing name
