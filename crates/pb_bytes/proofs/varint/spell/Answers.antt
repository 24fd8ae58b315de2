use Rattle.std.proofs.Common.{arith}
use Rattle.std.proofs.lemmas.List.{length-set}
use Rattle.pb_bytes.proofs.Places.{room, placed_more, placed_last}
use Rattle.pb_bytes.proofs.varint.spell.Goals as goal

pub loop-rest-preserved : goal.loop-rest-preserved
loop-rest-preserved c =
    let kept = c.loop-rest.invariant in
    let has_room = room c.loop-rest.len c.loop-rest.rest kept.placed c.loop-rest-test.true kept.left in
    record {
      whole = rw length-set kept.whole;
      placed = omega (arith, has_room.0);
      left = has_room.1;
      completed = placed_more c.loop-rest.len c.loop-rest.rest c.args.value c.loop-rest.bytes has_room.0 c.loop-rest-test.true kept.whole kept.completed;
    }

pub returns-clause-spelled : goal.returns-clause-spelled
returns-clause-spelled c =
    let kept = c.loop-rest.invariant in
    placed_last c.loop-rest.len c.loop-rest.rest c.args.value c.loop-rest.bytes kept.placed c.loop-rest-test.false kept.whole kept.completed
