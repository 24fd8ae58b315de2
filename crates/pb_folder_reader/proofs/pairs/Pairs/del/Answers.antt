use Rattle.std.proofs.Common.{ap, ◌∙◌}
use Rattle.std.specs.FinMap.{remove}
use Rattle.pb_folder_reader.proofs.Maps.{removed}
use Rattle.pb_folder_reader.proofs.pairs.Pairs.del.Goals as goal

pub returns : goal.returns
returns c =
    removed c.self.inside.by_key c.remove.new.self c.args.key.now c.remove.ensures.updates
    ∙ ap (λ m. remove m c.args.key.now) c.self.view_is
