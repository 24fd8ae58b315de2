use Rattle.std.proofs.Common.{◌≡◌, ℕ, true, drop, map}
use Rattle.std.specs.Prelude.{Contains}
use Rattle.pb_rows.specs.Layer.{KeyLayer}
use Rattle.pb_rows.specs.Verdict.{verdicts}
use Rattle.pb_version.specs.Meaning.{layer_of_table}
use Rattle.pb_version.specs.Version.{TableView, flattened}
use Rattle.pb_read.specs.Tables.{AreStored}
use Rattle.pb_read.proofs.Devices.{Going}
use Rattle.pb_read.proofs.look_up.look_up.Given as goal

abbrev pub invariant-loop-level : goal.invariant-loop-level
invariant-loop-level g l = record {
  going : Going g.D.Disk.told g.B.Bucket.told (g.D.Disk.contents l.fn.disk) (g.D.Disk.contents l.disk)
      (g.B.Bucket.objects l.fn.bucket) (g.B.Bucket.objects l.bucket) (g.D.Disk.fault_count l.fn.disk) (g.D.Disk.fault_count l.disk)
      (g.B.Bucket.fault_count l.fn.bucket) (g.B.Bucket.fault_count l.bucket);
  within : (t : TableView) → Contains (flattened (drop l.level l.version.levels)) t → Contains (flattened l.version.levels) t;
  silent : g.D.Disk.told ≡ true → g.B.Bucket.told ≡ true → (layers : ℕ → KeyLayer)
      → AreStored (g.D.Disk.contents l.fn.disk).seen (g.B.Bucket.objects l.fn.bucket) l.provider.catalogue.entries layers
      (flattened l.version.levels)
      → verdicts (map (layer_of_table layers) (flattened (drop l.level l.version.levels))) l.key
      ≡ verdicts (map (layer_of_table layers) (flattened l.version.levels)) l.key;
}
