use Rattle.std.proofs.Common.{◌≡◌, ◌++◌, ◌≤◌, ℕ, List, Option, true, length, drop}
use Rattle.pb_devices.specs.Contents.{MayLeave}
use Rattle.pb_devices.specs.Counts.{Rose}
use Rattle.pebble_cli.specs.Headline.{IsGood, HasBadImage}
use Rattle.pebble_cli.specs.Folder.{log_name}
use Rattle.pebble_cli.specs.Runs.{has_damage, status_of}
use Rattle.pebble_cli.specs.StoreStates.{Keeps}
use Rattle.pb_reply.specs.declared.status.Status.TheVariants.{Device}
use Rattle.pebble_cli.proofs.Crash.{Safe}
use Rattle.pebble_cli.proofs.Damage.{FromOrMade}
use Rattle.pebble_cli.proofs.Progress.{Going, past_of, texts}
use Rattle.pebble_cli.proofs.run.run_lines.Given as goal

abbrev pub invariant-loop-line : goal.invariant-loop-line
invariant-loop-line g l =
    (going : Going l.lines (drop l.line-index l.lines) l.trace.marks l.store) × record {
      room : length (drop l.line-index l.lines) ≤ l.trace.spare;
      taken : g.O.Sink.told ≡ true → g.O.Sink.taken l.out ≡ g.O.Sink.taken l.initial.out ++ texts l.lines going.ran;
      status : l.status ≡ status_of l.trace.marks;
      later : g.O.Sink.fault_count l.initial.out ≤ g.O.Sink.fault_count l.out;
      kept : g.D.Disk.told ≡ true → Keeps l.store (g.D.Disk.contents l.disk);
      safe : g.D.Disk.told ≡ true → IsGood (g.D.Disk.contents l.initial.disk)
          → Safe (g.D.Disk.contents l.initial.disk) (g.D.Disk.contents l.disk) l.lines (drop l.line-index l.lines) going.ran l.store (past_of going);
      from : g.D.Disk.told ≡ true → (image : Option (List ℕ)) → MayLeave (g.D.Disk.contents l.disk) log_name image → FromOrMade (g.D.Disk.contents l.initial.disk) image;
      spoilt : g.D.Disk.told ≡ true → has_damage l.trace.marks ≡ true → HasBadImage (g.D.Disk.contents l.initial.disk);
      disk_later : g.D.Disk.fault_count l.initial.disk ≤ g.D.Disk.fault_count l.disk;
      device : l.status ≡ Device → Rose (g.D.Disk.fault_count l.initial.disk) (g.D.Disk.fault_count l.disk);
    }
