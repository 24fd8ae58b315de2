use Rattle.std.proofs.Common.{◌≡◌, ◌∷◌, ◌∙◌, [], List, codes, map, string_bytes, refl, sym, ap, subst}
use Rattle.std.specs.List.{each_same}
use Rattle.pb_keys.proofs.Lists.{head_of}
use Rattle.pb_devices.specs.Contents.{Folder, IsImage}
use Rattle.pb_mem.specs.Disk.{DiskView, held}
use Rattle.pb_mem.specs.Streams.{Unread}
use Rattle.pebble_cli.specs.Runs.{task_of}
use Rattle.pebble_cli.proofs.OneSet.{one_set_runs, one_set_task, first_of}
use Rattle.pebble_cli.proofs.run.headline_tests.one_set.Goals as goal

pub returns : goal.returns
returns c done b others new folder is =
    let first = first_of c.args.disks.now c.requires.eight in
    let kept = c.run-status.ensures.others first.0 first.1 first.2 in
    let same : b ≡ kept.0 = head_of b kept.0 others first.1 (sym new ∙ kept.1) in
    let word = string_bytes c.in_ok-from_str.field-0 in
    let left = c.new-source.result.left in
    one_set_runs (task_of (word ∷ []) left) c.run-status.result c.run-status.new.trace.marks first.0 kept.0 _ _ _
    (one_set_task word left c.in_ok-from_str.ensures.ok (ap (λ (u : Unread). u.left) c.new-source.ensures ∙ each_same (codes "open A\nA set a 1\n") c.in_ok-script.script.items c.in_ok-script.ensures.ok))
    (c.requires.fresh first.0 first.1 first.2)
    (c.run-status.ensures.comes refl first.0 kept.0 first.1 first.2 kept.1)
    c.run-status.ensures.causes done folder (subst (λ (d : DiskView). IsImage (held d) folder) same is)
