use Rattle.std.proofs.Common.{◌∙◌, ap, sym}
use Rattle.pb_reply.specs.Statuses.{first_status, status_alone}
use Rattle.pebble_cli.proofs.StatusFacts.{status_more, device_from}
use Rattle.pebble_cli.proofs.mark.status_with.Goals as goal

pub returns-clause-status : goal.returns-clause-status
returns-clause-status c = λ marks is_down is.
    c.status_of.ensures ∙ ap (λ s. first_status s (status_alone c.args.reply.now)) is ∙ status_more marks c.args.reply.now is_down

pub returns-clause-device : goal.returns-clause-device
returns-clause-device c = λ is. device_from c.args.status c.args.reply.now (sym c.status_of.ensures ∙ is)
