use Rattle.std.proofs.Common.{◌≡◌, rules}
use Rattle.pb_mem.specs.Slots.{settled}
use Rattle.pb_mem.proofs.FolderLemmas.{retained, are_settled}
use Rattle.pb_mem.proofs.folder.settle_all.Goals as goal

pub returns : goal.returns
returns c = are_settled c.args.slots.now c.retain.new.self (λ q. retained _ (λ v w. w ≡ settled v) _ (λ k v b w f' t. search rules) _ _ c.retain.ensures.filtered c.retain.ensures.was_ordered q)
