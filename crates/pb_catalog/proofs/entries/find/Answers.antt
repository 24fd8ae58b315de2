use Rattle.std.proofs.Common.{sym, ap, ◌∙◌}
use Rattle.std.specs.Prelude.{option_map}
use Rattle.pb_payloads.specs.Payloads.{standing_of}
use Rattle.pb_catalog.proofs.Pairs.{found_among}
use Rattle.pb_catalog.proofs.entries.find.Goals as goal

pub returns : goal.returns
returns c = ap (option_map standing_of) (c.copied.ensures ∙ c.get.ensures.value) ∙ sym (found_among c.args.number c.args.entries.now.entries)
