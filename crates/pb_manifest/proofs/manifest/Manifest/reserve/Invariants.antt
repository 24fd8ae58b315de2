use Rattle.std.proofs.Common.{◌≡◌, ◌-◌, ◌^◌, true}
use Rattle.pb_devices.specs.Contents.{KeepsOthers}
use Rattle.pb_manifest.specs.Manifest.{EachManifest, manifest_name}
use Rattle.pb_manifest.specs.Numbers.{IsFolded, OnlyReserves, SameNumbers, block_end, last_block_end}
use Rattle.pb_manifest.proofs.manifest.Manifest.reserve.Given as goal

abbrev pub invariant-loop-alloc : goal.invariant-loop-alloc
invariant-loop-alloc g l = record {
  numbers : SameNumbers l.initial.self l.self;
  only : OnlyReserves l.initial.version l.version;
  ends : block_end l.version.five.next l.end ≡ block_end l.initial.version.five.next l.end;
  last : last_block_end l.version.five.next ≡ last_block_end l.initial.version.five.next;
  folded : IsFolded l.initial.version → IsFolded l.version;
  kept : g.D.Disk.told ≡ true → EachManifest l.self l.version (g.D.Disk.contents l.disk);
  others : g.D.Disk.told ≡ true
      → KeepsOthers (g.D.Disk.contents l.initial.disk) (g.D.Disk.contents l.disk) (manifest_name l.initial.self.number);
  calm : g.D.Disk.fault_count l.disk ≡ g.D.Disk.fault_count l.initial.disk;
}

abbrev pub decreases-loop-alloc : goal.decreases-loop-alloc
decreases-loop-alloc g l = 2 ^ 62 - l.version.five.next
