use Rattle.std.proofs.Common.{◌≡◌, length, sym, ap, ◌∙◌}
use Rattle.std.specs.FinMap.{entries}
use Rattle.pb_keys.specs.Map.{Map}
use Rattle.pb_folder_reader.proofs.Maps.{entries-of_sorted}
use Rattle.pb_folder_reader.proofs.pairs.Pairs.len.Goals as goal

pub returns : goal.returns
returns c =
    let map = c.self.inside.by_key in
    c.len.ensures.len ∙ sym (ap length (entries-of_sorted map.entries c.len.ensures.ordered)) ∙ ap (λ (m : Map). length (entries m)) c.self.view_is
