use Rattle.std.proofs.Common.{◌≡◌, ℕ, List, None, string_bytes, refl, sym, subst, ◌∙◌}
use Rattle.pb_devices.proofs.Kept.{stays_same, stays_then}
use Rattle.pb_recover.specs.Calls.{IsUnnamed}
use Rattle.pb_recover.proofs.Removing.{all_passed, gone_more, none_passed, removes_nothing, removes_then}
use Rattle.pb_recover.proofs.sweep.remove_unnamed.Goals as goal
use Rattle.pb_recover.proofs.sweep.remove_unnamed.Goals.{then-removed, else-removed}

pub loop-name-init : goal.loop-name-init
loop-name-init g c =
    let disk = g.D.Disk.contents c.args.disk.now in
    let IsGone = IsUnnamed c.args.manifest c.args.catalogue c.args.version.now in
    record {
      gone = λ told. none_passed IsGone disk;
      none = λ told _. stays_same disk;
      removes = λ told. removes_nothing IsGone disk disk (stays_same disk);
      calm = refl;
    }

pub loop-name-preserved : goal.loop-name-preserved
loop-name-preserved g c =
    let first = g.D.Disk.contents c.args.disk.now in
    let mid = g.D.Disk.contents c.loop-name.disk in
    let new = g.D.Disk.contents c.remove_if_unnamed.new.disk in
    let IsGone = IsUnnamed c.args.manifest c.args.catalogue c.args.version.now in
    let before = c.loop-name.invariant in
    let now = c.in_ok-gone.ensures in
    record {
      gone = λ told.
          gone_more IsGone string_bytes c.args.names.now c.loop-name.name-index c.name-item.result mid new c.loop-name-test.true c.name-item.is
          (before.gone told) (now.removes told)
          (subst (λ (n : List ℕ). IsGone n → new.seen n ≡ None) c.as_str.ensures.value (now.gone told));
      none = λ told none.
          elim c.if-removed.branch [
            | then-removed w ↦ let is = w.removed-is in absurd (cc)
            | else-removed w ↦ stays_then first mid new (before.none told w.if-removed.false) (now.none told (sym w.removed-is ∙ none))
          ];
      removes = λ told. removes_then IsGone first mid new (before.removes told) (now.removes told);
      calm = now.cause.calm tt ∙ before.calm;
    }

pub returns-in_err-gone-clause-removes : goal.returns-in_err-gone-clause-removes
returns-in_err-gone-clause-removes g c = λ told.
    removes_then (IsUnnamed c.args.manifest c.args.catalogue c.args.version.now) (g.D.Disk.contents c.args.disk.now)
    (g.D.Disk.contents c.loop-name.disk) (g.D.Disk.contents c.remove_if_unnamed.new.disk) (c.loop-name.invariant.removes told)
    (c.in_err-gone.ensures.removes told)

pub returns-clause-gone : goal.returns-clause-gone
returns-clause-gone g c = λ told.
    let IsGone = IsUnnamed c.args.manifest c.args.catalogue c.args.version.now in
    all_passed IsGone string_bytes c.args.names.now c.loop-name.name-index (g.D.Disk.contents c.loop-name.disk) c.loop-name-test.false
    (c.loop-name.invariant.gone told)
