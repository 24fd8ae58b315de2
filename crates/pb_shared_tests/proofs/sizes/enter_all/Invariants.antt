use Rattle.pb_catalog.specs.Catalog.{EachCatalogue}
use Rattle.pb_mem.specs.Disk.{held}
use Rattle.pb_shared_tests.proofs.sizes.enter_all.Given as goal

abbrev pub invariant-loop-number : goal.invariant-loop-number
invariant-loop-number g l = EachCatalogue l.catalog (held l.disk)
