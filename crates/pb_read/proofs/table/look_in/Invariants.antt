use Rattle.std.proofs.Common.{◌≡◌, ℕ, true, drop, map}
use Rattle.pb_rows.specs.Layer.{KeyLayer}
use Rattle.pb_rows.specs.Verdict.{verdicts}
use Rattle.pb_version.specs.Meaning.{layer_of_table}
use Rattle.pb_read.specs.Tables.{AreStored}
use Rattle.pb_read.proofs.Devices.{Going}
use Rattle.pb_read.proofs.table.look_in.Given as goal

abbrev pub invariant-loop-table : goal.invariant-loop-table
invariant-loop-table g l = record {
  going : Going g.D.Disk.told g.B.Bucket.told (g.D.Disk.contents l.fn.disk) (g.D.Disk.contents l.disk)
      (g.B.Bucket.objects l.fn.bucket) (g.B.Bucket.objects l.bucket) (g.D.Disk.fault_count l.fn.disk) (g.D.Disk.fault_count l.disk)
      (g.B.Bucket.fault_count l.fn.bucket) (g.B.Bucket.fault_count l.bucket);
  silent : g.D.Disk.told ≡ true → g.B.Bucket.told ≡ true → (layers : ℕ → KeyLayer)
      → AreStored (g.D.Disk.contents l.fn.disk).seen (g.B.Bucket.objects l.fn.bucket) l.provider.catalogue.entries layers l.tables
      → verdicts (map (layer_of_table layers) (drop l.table-index l.tables)) l.key ≡ verdicts (map (layer_of_table layers) l.tables) l.key;
}
