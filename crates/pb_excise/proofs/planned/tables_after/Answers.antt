use Rattle.std.proofs.Common.{◌≡◌, ◌+◌, ◌∷◌, drop, arith}
use Rattle.pb_excise.proofs.Counted.{left_of_version, left_on_levels, none_left, length_excised}
use Rattle.pb_excise.proofs.planned.tables_after.Goals as goal
use Rattle.pb_version.proofs.Levels.{level_first}

pub left_on-count-requires : goal.left_on-count-requires
left_on-count-requires c =
    let v = c.args.version.now in
    let cut = c.args.span.now in
    let level = c.loop-level.level in
    let tables = c.tables.result.now in
    let is = c.tables.ensures.in_form in
    let first : drop level v.levels ≡ tables ∷ drop (level + 1) v.levels = level_first v.levels level tables
    (omega (arith, c.loop-level-test.true, is.levels)) c.tables.ensures.value in
    omega (arith, left_of_version cut v is, c.loop-level.invariant, left_on_levels cut v.levels level tables first)

pub overflow_add-count : goal.overflow_add-count
overflow_add-count c =
    let v = c.args.version.now in
    let cut = c.args.span.now in
    let level = c.loop-level.level in
    let tables = c.tables.result.now in
    let is = c.tables.ensures.in_form in
    let first : drop level v.levels ≡ tables ∷ drop (level + 1) v.levels = level_first v.levels level tables
    (omega (arith, c.loop-level-test.true, is.levels)) c.tables.ensures.value in
    omega (arith, left_of_version cut v is, c.loop-level.invariant, left_on_levels cut v.levels level tables first, c.left_on-count.ensures)

pub loop-level-preserved : goal.loop-level-preserved
loop-level-preserved c =
    let v = c.args.version.now in
    let cut = c.args.span.now in
    let level = c.loop-level.level in
    let tables = c.tables.result.now in
    let is = c.tables.ensures.in_form in
    let first : drop level v.levels ≡ tables ∷ drop (level + 1) v.levels = level_first v.levels level tables
    (omega (arith, c.loop-level-test.true, is.levels)) c.tables.ensures.value in
    omega (arith, c.loop-level.invariant, left_on_levels cut v.levels level tables first, c.left_on-count.ensures)

pub returns : goal.returns
returns c = λ first.
    let v = c.args.version.now in
    let cut = c.args.span.now in
    let none = none_left cut v.levels c.loop-level.level (omega (arith, c.loop-level-test.false, c.five-five.ensures.in_form.levels)) in
    omega (arith, c.loop-level.invariant, none, length_excised cut v first)
