use Rattle.std.proofs.Common.{◌≡◌, ◌+◌, ◌∷◌, drop, arith}
use Rattle.pb_excise.proofs.Walk.{parts_of_version, parts_left}
use Rattle.pb_excise.proofs.planned.parts.Goals as goal
use Rattle.pb_version.proofs.Levels.{level_first}

pub parts_on-count-requires : goal.parts_on-count-requires
parts_on-count-requires c =
    let v = c.args.version.now in
    let cut = c.args.span.now in
    let level = c.loop-level.level in
    let tables = c.tables.result.now in
    let is = c.tables.ensures.in_form in
    let first : drop level v.levels ≡ tables ∷ drop (level + 1) v.levels = level_first v.levels level tables
    (omega (arith, c.loop-level-test.true, is.levels)) c.tables.ensures.value in
    omega (arith, parts_of_version v is cut, c.loop-level.invariant, parts_left cut v.levels level tables first)

pub overflow_add-count : goal.overflow_add-count
overflow_add-count c =
    let v = c.args.version.now in
    let cut = c.args.span.now in
    let level = c.loop-level.level in
    let tables = c.tables.result.now in
    let is = c.tables.ensures.in_form in
    let first : drop level v.levels ≡ tables ∷ drop (level + 1) v.levels = level_first v.levels level tables
    (omega (arith, c.loop-level-test.true, is.levels)) c.tables.ensures.value in
    omega (arith, parts_of_version v is cut, c.loop-level.invariant, parts_left cut v.levels level tables first, c.parts_on-count.ensures)

pub loop-level-preserved : goal.loop-level-preserved
loop-level-preserved c =
    let v = c.args.version.now in
    let cut = c.args.span.now in
    let level = c.loop-level.level in
    let tables = c.tables.result.now in
    let is = c.tables.ensures.in_form in
    let first : drop level v.levels ≡ tables ∷ drop (level + 1) v.levels = level_first v.levels level tables
    (omega (arith, c.loop-level-test.true, is.levels)) c.tables.ensures.value in
    omega (arith, c.loop-level.invariant, parts_left cut v.levels level tables first, c.parts_on-count.ensures)
