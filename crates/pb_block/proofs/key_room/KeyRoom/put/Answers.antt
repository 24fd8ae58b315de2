use Rattle.pb_block.proofs.Keys.{split_put}
use Rattle.pb_block.proofs.key_room.KeyRoom.put.Goals as goal

pub invariant_of-self : goal.invariant_of-self
invariant_of-self c = (
  c.requires.within,
  split_put c.self.inside.bytes c.args.unshared.now c.copy_from_slice.new.self c.args.self.now c.self.inside.len c.args.shared _
      c.self.inside.split c.split_behind-self-inside.result c.self.view_is c.requires.shared c.copy_from_slice.ensures.after
      c.self.invariant.1 c.split_behind-self-inside.ensures,
)
