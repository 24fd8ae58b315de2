use Rattle.pb_excise_tests.proofs.Spellable.{spellable_read}
use Rattle.pb_excise_tests.proofs.stores.decoded.Goals as goal

pub returns : goal.returns
returns c = record { ok = spellable_read c.args.bytes.now c.in_ok-read.read c.in_ok-read.ensures.found }
