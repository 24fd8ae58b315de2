use Rattle.std.proofs.Common.{◌+◌, ◌-◌, ◌/◌, ◌<◌, length, true, false, sym, ◌∙◌, arith}
use Rattle.pb_memtable.specs.Search.{rows_at}
use Rattle.pb_memtable.proofs.SearchLaws.{upper_half, lower_half, read_test, length-rows_at}
use Rattle.pb_memtable.proofs.search.place_of.Goals as goal

pub loop-lo-preserved-then-is_below : goal.loop-lo-preserved-then-is_below
loop-lo-preserved-then-is_below c =
    let changes = c.args.changes.now in let places = c.args.places.now in
    let middle = c.loop-lo.lo + (c.loop-lo.hi - c.loop-lo.lo) / 2 in
    let hi_within = c.loop-lo.invariant.within in
    let within : middle < length places = omega arith in
    let rows_within : middle < length (rows_at changes places) = omega (arith, length-rows_at changes places) in
    record {
      rises = omega arith;
      within = hi_within;
      between = λ key p s. upper_half key (rows_at changes places) c.loop-lo.lo c.loop-lo.hi middle c.requires.rise (c.loop-lo.invariant.between key p s) rows_within
          (read_test changes places middle key c.args.prefix.now c.args.suffix.now c.key_at.result.now true within c.key_at.ensures (sym c.is_below.ensures ∙ c.if-is_below.true) p s);
    }

pub loop-lo-preserved : goal.loop-lo-preserved
loop-lo-preserved c =
    let changes = c.args.changes.now in let places = c.args.places.now in
    let middle = c.loop-lo.lo + (c.loop-lo.hi - c.loop-lo.lo) / 2 in
    let hi_within = c.loop-lo.invariant.within in
    let within : middle < length places = omega arith in
    record {
      rises = omega arith;
      within = omega arith;
      between = λ key p s. lower_half key (rows_at changes places) c.loop-lo.lo c.loop-lo.hi middle c.requires.rise (c.loop-lo.invariant.between key p s)
          (read_test changes places middle key c.args.prefix.now c.args.suffix.now c.key_at.result.now false within c.key_at.ensures (sym c.is_below.ensures ∙ c.if-is_below.false) p s);
    }
