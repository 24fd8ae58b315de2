use Rattle.std.proofs.Common.{◌≡◌, true, false, map, take, string_bytes}
use Rattle.pb_devices.specs.DiskCalls.{Stays}
use Rattle.pb_recover.specs.Calls.{IsUnnamed, Removes}
use Rattle.pb_recover.proofs.Removing.{AreGoneOf}
use Rattle.pb_recover.proofs.sweep.remove_unnamed.Given as goal

abbrev pub invariant-loop-name : goal.invariant-loop-name
invariant-loop-name g l = record {
  gone : g.D.Disk.told ≡ true
      → AreGoneOf (IsUnnamed l.manifest l.catalogue l.version) (map string_bytes (take l.name-index l.names)) (g.D.Disk.contents l.disk);
  none : g.D.Disk.told ≡ true → l.removed ≡ false → Stays (g.D.Disk.contents l.fn.disk) (g.D.Disk.contents l.disk);
  removes : g.D.Disk.told ≡ true
      → Removes (IsUnnamed l.manifest l.catalogue l.version) (g.D.Disk.contents l.fn.disk) (g.D.Disk.contents l.disk);
  calm : g.D.Disk.fault_count l.disk ≡ g.D.Disk.fault_count l.fn.disk;
}
