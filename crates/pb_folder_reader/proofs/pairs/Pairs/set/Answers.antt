use Rattle.std.proofs.Common.{ap, ◌∙◌}
use Rattle.std.specs.FinMap.{insert}
use Rattle.pb_folder_reader.proofs.Maps.{inserted}
use Rattle.pb_folder_reader.proofs.pairs.Pairs.set.Goals as goal

pub returns-in-Ok : goal.returns-in-Ok
returns-in-Ok c =
    inserted c.self.inside.by_key c.insert.new.self c.args.key c.args.value c.in-Ok.ensures.updates
    ∙ ap (λ m. insert m c.args.key c.args.value) c.self.view_is
