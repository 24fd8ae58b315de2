use Rattle.std.proofs.Common.{ap, sym, ◌∙◌}
use Rattle.std.specs.FinMap.{get}
use Rattle.pb_folder_reader.proofs.Maps.{get_entries}
use Rattle.pb_folder_reader.proofs.pairs.Pairs.get.Goals as goal

pub returns : goal.returns
returns c =
    c.get.ensures.value ∙ sym (get_entries c.self.inside.by_key.entries c.args.key.now)
    ∙ ap (λ m. get m c.args.key.now) c.self.view_is
