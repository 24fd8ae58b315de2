use Rattle.std.proofs.Common.{◌∷◌, [], ◌∙◌}
use Rattle.pb_version.proofs.Levels.{seven_map}
use Rattle.pb_version.proofs.copies.copy_of_levels.Goals as goal

pub returns : goal.returns
returns c = record {
  ok = (λ i.
      (c.in_ok-c0.ensures.ok ∙ c.as_slice.ensures.value) i
      ∷ (c.in_ok-c1.ensures.ok ∙ c.as_slice-2.ensures.value) i
      ∷ (c.in_ok-c2.ensures.ok ∙ c.as_slice-3.ensures.value) i
      ∷ (c.in_ok-c3.ensures.ok ∙ c.as_slice-4.ensures.value) i
      ∷ (c.in_ok-c4.ensures.ok ∙ c.as_slice-5.ensures.value) i
      ∷ (c.in_ok-c5.ensures.ok ∙ c.as_slice-6.ensures.value) i
      ∷ (c.in_ok-c6.ensures.ok ∙ c.as_slice-7.ensures.value) i
      ∷ [])
      ∙ seven_map (λ l. l.items) c.args.levels.now c.index-levels-0.result c.index-levels-1.result c.index-levels-2.result c.index-levels-3.result c.index-levels-4.result c.index-levels-5.result c.index-levels-6.result c.type_inv.levels;
}
