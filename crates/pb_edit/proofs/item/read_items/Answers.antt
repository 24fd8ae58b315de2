use Rattle.std.proofs.Common.{◌<◌, length, length-append, ap, arith}
use Rattle.std.proofs.lemmas.Result.{err_from_is_err_and}
use Rattle.pb_edit.proofs.Loops.{goes_on, ends, all_read}
use Rattle.pb_edit.proofs.item.read_items.Goals as goal

pub returns-in_err-item : goal.returns-in_err-item
returns-in_err-item g c =
    let front = c.loop-content.items.items in
    let kept = c.loop-content.invariant in
    let left : length front < length c.args.from.now = omega (arith, kept.room, c.in-Some.ensures.shorter) in
    let error = err_from_is_err_and c.from_residual.result c.from_residual.ensures.1 in
    rw (error.1, error.2) (ends c.in_err-item.field-0.0 g.T.Item.form front c.as_slice.result.now c.loop-content.rest.now c.in-Some.content.now c.args.from.now
    c.as_slice.ensures.value c.in-Some.ensures.exact c.in_err-item.ensures.exact left kept.so_far)

pub loop-content-preserved : goal.loop-content-preserved
loop-content-preserved g c =
    let front = c.loop-content.items.items in
    let rest = c.loop-content.rest.now in
    let kept = c.loop-content.invariant in
    let left : length front < length c.args.from.now = omega (arith, kept.room, c.in-Some.ensures.shorter) in
    record {
      so_far = goes_on g.T.Item.form front c.as_slice.result.now c.push.new.self.items rest c.in-Some.content.now c.args.from.now c.in_ok-item.behind.now c.in_ok-item.item
          c.as_slice.ensures.value c.in_ok-push.ensures.items c.in-Some.ensures.exact c.in_ok-item.ensures.exact left kept.so_far;
      room = omega (arith, kept.room, c.in-Some.ensures.shorter, c.in_ok-item.ensures.shorter, simp length-append at (ap length c.in_ok-push.ensures.items));
    }

pub returns : goal.returns
returns g c = all_read g.T.Item.form c.loop-content.items.items c.loop-content.rest.now c.args.from.now c.in_default.ensures.exact c.loop-content.invariant.so_far
