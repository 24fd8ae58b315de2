-- Which errors of a store are the disk's.
use Rattle.pebble_cli.specs.declared.store_error.StoreError.{StoreError}
use Rattle.pebble_cli.specs.declared.store_error.StoreError.TheVariants.{NumbersSpent, Damaged, DiskFault, NoMemory}

-- a call of the disk failed
abbrev pub IsStoreFault : StoreError → Type 0
IsStoreFault NumbersSpent = ⊥
IsStoreFault Damaged = ⊥
IsStoreFault DiskFault = Unit {0}
IsStoreFault NoMemory = ⊥
