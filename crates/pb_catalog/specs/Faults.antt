-- Which errors are the disk's.
use Rattle.pb_catalog.specs.declared.error.CatalogError.{CatalogError}
use Rattle.pb_catalog.specs.declared.error.CatalogError.TheVariants.{Disk, WrongStore, Damaged, NoMemory}

-- the disk failed in an opening
abbrev pub IsCatalogFault : CatalogError → Type 0
IsCatalogFault Disk = Unit {0}
IsCatalogFault (WrongStore other) = ⊥
IsCatalogFault Damaged = ⊥
IsCatalogFault NoMemory = ⊥
