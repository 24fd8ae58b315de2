use Rattle.std.proofs.Common.{◌≡◌, ◌+◌, ◌∷◌, drop, arith}
use Rattle.pb_excise.specs.Drafted.{begun}
use Rattle.pb_excise.proofs.Walk.{parts_left, room_in_levels}
use Rattle.pb_excise.proofs.planned.draft_of.Goals as goal
use Rattle.pb_version.proofs.Levels.{level_first}

pub add_tables-requires : goal.add_tables-requires
add_tables-requires c =
    let levels = c.args.version.now.levels in
    let cut = c.args.span.now in
    let level = c.loop-level.level in
    let tables = c.tables.result.now in
    let first : drop level levels ≡ tables ∷ drop (level + 1) levels = level_first levels level tables
    (omega (arith, c.loop-level-test.true, c.tables.ensures.in_form.levels)) c.tables.ensures.value in
    omega (
      arith,
      room_in_levels cut level (drop level levels) levels c.loop-level.draft (begun c.args.first) c.loop-level.invariant c.requires,
      parts_left cut levels level tables first,
    )
