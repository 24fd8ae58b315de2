use Rattle.std.proofs.Common.{sym, ap, ◌∙◌}
use Rattle.pb_script.specs.Script.{NumberedRead, without_numbers}
use Rattle.pb_script.proofs.KeptNumbers.{lines_again}
use Rattle.pb_script.proofs.numbered.Numbered.lines.Goals as goal

pub returns : goal.returns
returns c =
    c.as_slice.ensures.value ∙ sym (lines_again c.self.inside.runs.items c.self.inside.lines.items) ∙ ap (λ (read : NumberedRead). without_numbers read.lines) c.self.view_is
