use Rattle.std.proofs.Common.{◌≡◌, ◌<◌, ℕ, List, length, get_or, map, slice_get, Some, sym, ap, ◌∙◌, subst, arith}
use Rattle.pb_script.specs.declared.line.Line.{Line}
use Rattle.pebble_cli.specs.Lines.{is_built}
use Rattle.pebble_cli.proofs.FaultLines.{next_built, unbuilt_at, length_same}
use Rattle.pebble_cli.proofs.lines.first_unbuilt.Goals as goal

pub returns-then-not-is_built : goal.returns-then-not-is_built
returns-then-not-is_built c =
    let lines = c.args.read.now.lines in
    let place = c.loop-line.line-index in
    let item = c.line-item.is ∙ ap (λ (ls : List Line). get_or ls place c.line-item.result) c.lines-line-items.ensures in
    let within = length_same lines place (subst (λ (ls : List Line). place < length ls) c.lines-line-items.ensures c.loop-line-test.true) in
    sym (c.loop-line.invariant.built
    ∙ unbuilt_at lines place c.number.result c.line-item.result within (ap is_built (sym item) ∙ sym c.is_built.ensures ∙ c.if-not-is_built.true)
    (subst (λ (n : ℕ). slice_get (map (λ (line : ℕ × Line). line.0) lines) n ≡ Some c.number.result) c.loop-line.invariant.counted c.number.ensures))

pub loop-line-preserved : goal.loop-line-preserved
loop-line-preserved c =
    let lines = c.args.read.now.lines in
    let place = c.loop-line.line-index in
    let item = c.line-item.is ∙ ap (λ (ls : List Line). get_or ls place c.line-item.result) c.lines-line-items.ensures in
    let within = length_same lines place (subst (λ (ls : List Line). place < length ls) c.lines-line-items.ensures c.loop-line-test.true) in
    record {
      counted = omega (arith, c.loop-line.invariant.counted);
      built = c.loop-line.invariant.built
          ∙ next_built lines place c.line-item.result within (ap is_built (sym item) ∙ sym c.is_built.ensures ∙ c.if-not-is_built.false);
    }
