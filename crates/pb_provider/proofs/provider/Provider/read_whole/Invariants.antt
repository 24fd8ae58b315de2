use Rattle.std.proofs.Common.{◌≡◌, ◌≤◌, ◌<◌, ◌-◌, true, vec_len}
use Rattle.std.specs.Prelude.{IfNone, IfSome}
use Rattle.pb_devices.specs.DiskCalls.{Stays}
use Rattle.pb_payloads.specs.Places.{object_of}
use Rattle.pb_provider.specs.Places.{IsThere}
use Rattle.pb_provider.proofs.WholeLemmas.{IsFront}
use Rattle.pb_provider.proofs.provider.Provider.read_whole.Given as goal

abbrev pub invariant-loop-piece : goal.invariant-loop-piece
invariant-loop-piece g l = record {
  within : vec_len l.bytes ≤ l.size;
  front : IsFront g.D.Disk.told g.B.Bucket.told (g.D.Disk.contents l.fn.disk) (g.B.Bucket.objects l.fn.bucket) l.self.catalogue.entries l.backing l.bytes.items;
  local : IfNone (object_of l.self.catalogue.entries l.backing) (l.bucket ≡ l.fn.bucket);
  remote : IfSome (object_of l.self.catalogue.entries l.backing) (λ _. l.disk ≡ l.fn.disk);
  there : g.B.Bucket.told ≡ true → 0 < vec_len l.bytes → IsThere (object_of l.self.catalogue.entries l.backing) (g.B.Bucket.objects l.fn.bucket);
  stays : g.D.Disk.told ≡ true → Stays (g.D.Disk.contents l.fn.disk) (g.D.Disk.contents l.disk);
  kept : g.B.Bucket.told ≡ true → g.B.Bucket.objects l.bucket ≡ g.B.Bucket.objects l.fn.bucket;
  disk_calm : g.D.Disk.fault_count l.disk ≡ g.D.Disk.fault_count l.fn.disk;
  bucket_calm : g.B.Bucket.fault_count l.bucket ≡ g.B.Bucket.fault_count l.fn.bucket;
}

abbrev pub decreases-loop-piece : goal.decreases-loop-piece
decreases-loop-piece g l = l.size - vec_len l.bytes
