use Rattle.std.proofs.Common.{◌≡◌, ℕ, List, None, string_bytes, inl, inr, refl, sym, ap, ◌∙◌, subst}
use Rattle.pb_names.specs.NumberedFile.{IsNumberedFile}
use Rattle.pb_devices.proofs.Kept.{stays_same}
use Rattle.pb_recover.proofs.Removing.{all_passed, gone_more, none_passed, removes_nothing, removes_then}
use Rattle.pb_recover.proofs.make_new.remove_numbered.Goals as goal

pub loop-name-init : goal.loop-name-init
loop-name-init g c = record {
  gone = λ told. none_passed IsNumberedFile (g.D.Disk.contents c.args.disk.now);
  removes = λ told. removes_nothing IsNumberedFile (g.D.Disk.contents c.args.disk.now) (g.D.Disk.contents c.args.disk.now) (stays_same (g.D.Disk.contents c.args.disk.now));
  calm = refl;
}

pub loop-name-preserved : goal.loop-name-preserved
loop-name-preserved g c =
    let mid = g.D.Disk.contents c.loop-name.disk in
    let new = g.D.Disk.contents c.remove_if_numbered.new.disk in
    let removed = c.in_ok-remove_if_numbered.ensures in
    record {
      gone = λ told.
          gone_more IsNumberedFile string_bytes c.args.names.now c.loop-name.name-index c.name-item.result mid new c.loop-name-test.true
          c.name-item.is (c.loop-name.invariant.gone told) (removed.removes told)
          (subst (λ (n : List ℕ). IsNumberedFile n → new.seen n ≡ None) c.as_str.ensures.value (removed.gone told));
      removes = λ told.
          removes_then IsNumberedFile (g.D.Disk.contents c.args.disk.now) mid new (c.loop-name.invariant.removes told) (removed.removes told);
      calm = removed.cause.calm tt ∙ c.loop-name.invariant.calm;
    }

pub returns-in_err-remove_if_numbered-clause-removes : goal.returns-in_err-remove_if_numbered-clause-removes
returns-in_err-remove_if_numbered-clause-removes g c = λ told.
    removes_then IsNumberedFile (g.D.Disk.contents c.args.disk.now) (g.D.Disk.contents c.loop-name.disk)
    (g.D.Disk.contents c.remove_if_numbered.new.disk) (c.loop-name.invariant.removes told) (c.in_err-remove_if_numbered.ensures.removes told)

pub returns-clause-gone : goal.returns-clause-gone
returns-clause-gone g c = λ told.
    all_passed IsNumberedFile string_bytes c.args.names.now c.loop-name.name-index (g.D.Disk.contents c.loop-name.disk) c.loop-name-test.false
    (c.loop-name.invariant.gone told)
