use Rattle.std.proofs.Common.{◌≡◌, true, map, take, string_bytes}
use Rattle.pb_names.specs.NumberedFile.{IsNumberedFile}
use Rattle.pb_recover.specs.Calls.{Removes}
use Rattle.pb_recover.proofs.Removing.{AreGoneOf}
use Rattle.pb_recover.proofs.make_new.remove_numbered.Given as goal

abbrev pub invariant-loop-name : goal.invariant-loop-name
invariant-loop-name g l = record {
  gone : g.D.Disk.told ≡ true → AreGoneOf IsNumberedFile (map string_bytes (take l.name-index l.names)) (g.D.Disk.contents l.disk);
  removes : g.D.Disk.told ≡ true → Removes IsNumberedFile (g.D.Disk.contents l.fn.disk) (g.D.Disk.contents l.disk);
  calm : g.D.Disk.fault_count l.disk ≡ g.D.Disk.fault_count l.fn.disk;
}
