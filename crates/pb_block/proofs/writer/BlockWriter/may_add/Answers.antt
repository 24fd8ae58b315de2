use Rattle.std.proofs.Common.{◌∙◌}
use Rattle.std.proofs.lemmas.Bool.{false≢true}
use Rattle.std.specs.Ordering.{is_lt}
use Rattle.pb_keys.specs.Key.{key_cmp}
use Rattle.pb_block.proofs.WriteLaws.{may_rise}
use Rattle.pb_block.proofs.writer.BlockWriter.may_add.Goals as goal

pub returns-then-not-is_above : goal.returns-then-not-is_above
returns-then-not-is_above g c = (
  λ e. absurd (false≢true e),
  λ may.
      let last = c.as_slice.ensures.value in
      let key = c.as_bytes.ensures.value in
      let rises = may_rise g.row.R c.self.inside.entries.items c.self.inside.restarts.items c.self.inside.last_key.items c.args.key.now
      c.self.inside.count c.args.self.now _ c.self.invariant c.self.view_is c.as_bytes.ensures.in_form may in
      absurd (false≢true (c.if-not-is_above.ensures ∙ (λ i. is_lt (key_cmp (last i) (key i))) ∙ rises)),
)
