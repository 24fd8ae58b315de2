use Rattle.std.proofs.Common.{◌≡◌, Some, [], is_some, subst, rules}
use Rattle.pb_mem.specs.Slots.{SlotView, survivor, IsPickedOf}
use Rattle.pb_mem.proofs.FolderLemmas.{retained, are_picked}
use Rattle.pb_mem.proofs.folder.cut_all.Goals as goal

pub returns : goal.returns
returns c =
    let pick = c.args.pick in
    are_picked c.args.slots.now c.retain.new.self pick
    (λ q. retained _ (λ v w. IsPickedOf pick (survivor pick (Some v)) w.file × (w.earlier ≡ [])) _
    (λ k v b w f' t.
    let there : b ≡ is_some w.file = search rules in
    let left : IsPickedOf pick (survivor pick (Some t.value.now)) t.left.now.file × (t.left.now.earlier ≡ []) = search rules in (
      there,
      subst (λ (now : SlotView). IsPickedOf pick (survivor pick (Some v)) now.file × (now.earlier ≡ [])) t.leaves
          (subst (λ (old : SlotView). IsPickedOf pick (survivor pick (Some old)) t.left.now.file × (t.left.now.earlier ≡ [])) t.shows.1 left),
      search rules,
    ))
    _ _ c.retain.ensures.filtered c.retain.ensures.was_ordered q)
